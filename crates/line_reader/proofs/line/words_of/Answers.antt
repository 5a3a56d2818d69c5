use mathlib.Core.Path.{sym, ap}
use borrow.Author.Rules.{rules}
use Rattle.std.specs.Prelude.{Some}
use Rattle.line_reader.specs.Rows.{words_held}
use Rattle.line_reader.proofs.Words.{taken_bad, taken_words, taken_same}
use Rattle.line_reader.proofs.line.words_of.Goals as goal

pub returns-then-v-ge-DASH : goal.returns-then-v-ge-DASH
unfolding words_held
returns-then-v-ge-DASH c = rw (sym (taken_bad c.loop-i.invariant (search rules) (search rules) (search rules)))

pub returns : goal.returns
unfolding words_held
returns c = rw (sym (taken_words c.loop-i.invariant (search rules) (search rules))) (ap Some (taken_same c.loop-i.invariant (search rules) (search rules)))
