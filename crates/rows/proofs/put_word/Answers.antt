-- `rows::put_word` meets its contract.
use mathlib.Core.Path.{sym}
use lib.Seq.{set_out}
use borrow.Author.Rules.{rules}
use Rattle.rows.specs.Rows.{with_word}
use Rattle.rows.proofs.put_word.Goals as goal

pub returns-then-at-t : goal.returns-then-at-t
unfolding with_word
returns-then-at-t c = search rules

pub returns-else-at-t : goal.returns-else-at-t
unfolding with_word
returns-else-at-t c = sym (set_out c.args.t.now _ _ c.if-at-t.false)
