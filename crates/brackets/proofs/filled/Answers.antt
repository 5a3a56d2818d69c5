-- `brackets::filled` meets its contract, test by test.
use mathlib.Core.Path.{◌≡◌, sym, ap, ◌∙◌}
use native.Mathlib.Omega.{arith}
use Rattle.brackets.specs.Steps.{filled_by}
use Rattle.brackets.proofs.Machine.{fill_not, fill_none, fill_large, fill_word}
use Rattle.brackets.proofs.filled.Goals.{then-lacks-lt1-via-then-lacks-lt1, then-lacks-lt1-via-else-lacks-lt1+then-lacks-gt3, then-lacks-lt1-via-else-lacks-lt1+else-lacks-gt3+then-value-ge-DASH}
use Rattle.brackets.proofs.filled.Goals as goal

pub returns-then-lacks-lt1 : goal.returns-then-lacks-lt1
returns-then-lacks-lt1 c =
    elim c.then-lacks-lt1.branch [
      | then-lacks-lt1-via-then-lacks-lt1 w ↦ let nothing : c.args.lacks ≡ 0 = omega arith in sym (ap (λ w. filled_by w c.args.value) nothing ∙ fill_none c.args.value)
      | then-lacks-lt1-via-else-lacks-lt1+then-lacks-gt3 w ↦ sym (fill_not _ _ (omega arith))
      | then-lacks-lt1-via-else-lacks-lt1+else-lacks-gt3+then-value-ge-DASH w ↦ sym (fill_large _ _ (omega arith))
    ]

pub returns : goal.returns
returns c = fill_word _ _ (omega arith) (omega arith) (omega arith)
