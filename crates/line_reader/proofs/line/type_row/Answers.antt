use native.Mathlib.Omega.{arith}
use Rattle.std.proofs.lemmas.Bool.Decides.{nat_tests}
use Rattle.line_reader.specs.Rows.{type_held}
use Rattle.line_reader.proofs.line.type_row.Goals as goal

pub returns-then-items-ne3 : goal.returns-then-items-ne3
unfolding type_held
returns-then-items-ne3 c = grind (arith, nat_tests)

pub returns-then-v-ne-DASH : goal.returns-then-v-ne-DASH
unfolding type_held
returns-then-v-ne-DASH c = grind (arith, nat_tests)

pub returns : goal.returns
unfolding type_held
returns c = grind (arith, nat_tests, c.parent_word-p.ensures)
