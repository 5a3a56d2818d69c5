use native.Mathlib.Omega.{arith}
use Rattle.std.proofs.lemmas.Bool.Decides.{nat_tests}
use Rattle.text.specs.Entries.{event_fields}
use Rattle.line_reader.specs.Rows.{event_held, words_held}
use Rattle.line_reader.proofs.line.event_row.Goals as goal

pub returns-then-kind-ge7 : goal.returns-then-kind-ge7
unfolding event_held event_fields
returns-then-kind-ge7 c = grind (arith, nat_tests)

pub returns-in_err-v : goal.returns-in_err-v
unfolding event_held words_held event_fields
returns-in_err-v c = grind (arith, nat_tests)

pub returns : goal.returns
unfolding event_held words_held event_fields
returns c = grind (arith, nat_tests)
