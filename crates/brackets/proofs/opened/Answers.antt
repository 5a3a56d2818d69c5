-- `brackets::opened` meets its contract: antt computes that the table is that of what the operators need.
use mathlib.Core.Path.{sym}
use native.Mathlib.Omega.{arith}
use Rattle.tables.specs.Codes.{operators, shape_of}
use Rattle.brackets.proofs.Machine.{lack_words, open_not, open_below, open_above, open_word}
use Rattle.brackets.proofs.opened.Goals.{then-lacks-lt4-via-then-lacks-lt4, then-lacks-lt4-via-else-lacks-lt4+then-name-lt-FIRST_OPERATOR, then-lacks-lt4-via-else-lacks-lt4+else-name-lt-FIRST_OPERATOR+then-name-ge-NAME_COUNT}
use Rattle.brackets.proofs.opened.Goals as goal

pub returns-then-lacks-lt4 : goal.returns-then-lacks-lt4
returns-then-lacks-lt4 c =
    elim c.then-lacks-lt4.branch [
      | then-lacks-lt4-via-then-lacks-lt4 w ↦ sym (open_not _ _ (omega arith))
      | then-lacks-lt4-via-else-lacks-lt4+then-name-lt-FIRST_OPERATOR w ↦ sym (open_below _ _ (omega arith))
      | then-lacks-lt4-via-else-lacks-lt4+else-name-lt-FIRST_OPERATOR+then-name-ge-NAME_COUNT w ↦ sym (open_above _ _ (omega arith))
    ]

pub returns : goal.returns
unfolding lack_words operators shape_of
returns c = open_word _ _ (omega arith) (omega arith) (omega arith)
