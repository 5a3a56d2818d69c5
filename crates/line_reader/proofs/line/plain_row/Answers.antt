use mathlib.Core.Path.{◌≡◌}
use borrow.Author.Rules.{rules}
use native.Mathlib.Omega.{arith}
use lib.ListN.{length}
use Rattle.std.proofs.lemmas.Bool.Decides.{nat_tests}
use Rattle.line_reader.specs.Rows.{plain_held, words_held}
use Rattle.line_reader.proofs.Rows.{padded_all}
use Rattle.line_reader.proofs.line.plain_row.Goals as goal

pub returns-then-items-width : goal.returns-then-items-width
unfolding plain_held
returns-then-items-width c = grind (arith, nat_tests)

pub returns-in_err-words : goal.returns-in_err-words
unfolding plain_held words_held
returns-in_err-words c = grind (arith, nat_tests)

pub returns : goal.returns
unfolding plain_held words_held
returns c =
    let wide : length c.args.items.values ≡ 10 = search rules in
    grind (arith, nat_tests, padded_all c.args.items.values wide)
