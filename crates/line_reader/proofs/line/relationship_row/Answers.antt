use native.Mathlib.Omega.{arith}
use Rattle.std.proofs.lemmas.Bool.Decides.{nat_tests}
use Rattle.line_reader.specs.Rows.{relationship_held, words_held}
use Rattle.line_reader.proofs.line.relationship_row.Goals as goal

pub returns-then-items-ne3 : goal.returns-then-items-ne3
unfolding relationship_held
returns-then-items-ne3 c = grind (arith, nat_tests)

pub returns-in_err-v : goal.returns-in_err-v
unfolding relationship_held words_held
returns-in_err-v c = grind (arith, nat_tests)

pub returns : goal.returns
unfolding relationship_held words_held
returns c = grind (arith, nat_tests)
