use mathlib.Core.Path.{◌≡◌}
use borrow.Author.Rules.{rules}
use native.Mathlib.Omega.{arith}
use lib.ListN.{length}
use Rattle.std.proofs.lemmas.Bool.Decides.{nat_tests}
use Rattle.line_reader.specs.Rows.{object_held, words_held}
use Rattle.line_reader.proofs.Rows.{padded_all}
use Rattle.line_reader.proofs.line.object_row.Goals as goal

pub returns-in_err-words : goal.returns-in_err-words
unfolding object_held words_held
returns-in_err-words c = grind (arith, nat_tests)

pub returns-then-items-lt2 : goal.returns-then-items-lt2
unfolding object_held words_held
returns-then-items-lt2 c = grind (arith, nat_tests)

pub returns-then-size-gt8 : goal.returns-then-size-gt8
unfolding object_held words_held
returns-then-size-gt8 c = grind (arith, nat_tests)

pub returns : goal.returns
unfolding object_held words_held
returns c =
    let wide : length c.args.items.values ≡ 10 = search rules in
    grind (arith, nat_tests, padded_all c.args.items.values wide)
