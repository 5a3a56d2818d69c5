-- `direction_table::table` meets its contract: antt computes the entries of the rules, one form after the other, and finds them in the table.
use mathlib.Core.Path.{refl}
use Rattle.meaning.specs.Reach.{left_of, right_of, first_truth, second_truth, source_of, second_term, sum_source}
use Rattle.tables.specs.Codes.{operators}
use Rattle.direction_table.specs.Entries.{first_passing, second_passing}
use Rattle.direction_table.proofs.table.Goals as goal

pub returns : goal.returns
unfolding operators first_passing second_passing left_of right_of first_truth second_truth source_of second_term sum_source
returns c = refl
