-- `pair_marks::next_rule` meets its contract: every word of the rules from the first up to the word is 0.
use Prim.Native.Nat.{◌<◌}
use mathlib.Core.Path.{◌≡◌, ap, ◌∙◌}
use mathlib.Core.Logic.{⊎_elim}
use native.Mathlib.Nat.{eq-or-lt_of_le}
use native.Mathlib.Omega.{arith}
use lib.ListN.{get_or}
use Rattle.bits.specs.Bits.{bit_at}
use Rattle.pair_marks.proofs.Bits.{lowest_next}
use Rattle.pair_marks.proofs.Words.{rule_passed, rule_found}
use Rattle.pair_marks.proofs.next_rule.Goals as goal

pub loop-word-init : goal.loop-word-init
loop-word-init c = (omega arith, omega arith, λ k low less. absurd (omega arith))

pub returns-then-lowest-lt32 : goal.returns-then-lowest-lt32
returns-then-lowest-lt32 c =
    let marks = c.args.marks.now in
    record {
      on = omega (arith, c.loop-word.invariant.0);
      few = omega (arith, c.loop-word.invariant.1);
      passed = rule_passed marks _ c.loop-word.word c.loop-word.invariant.2;
      found = λ less. rule_found marks c.loop-word.word c.lowest.result c.if-lowest-lt32.true ((lowest_next _ c.lowest.ensures).found c.if-lowest-lt32.true);
    }

pub loop-word-preserved : goal.loop-word-preserved
loop-word-preserved c = (
  omega arith,
  omega arith,
  λ k low less j h.
      ⊎_elim
      (λ (e : k ≡ c.loop-word.word). ap (λ x. bit_at (get_or c.args.marks.now x 0) j) e ∙ (lowest_next _ c.lowest.ensures).passed j (omega arith) (omega (arith, c.if-lowest-lt32.false)))
      (λ (on : k < c.loop-word.word). c.loop-word.invariant.2 k low on j h)
      (eq-or-lt_of_le (omega arith)),
)

pub returns : goal.returns
returns c =
    let inv = c.loop-word.invariant in
    record {
      on = omega arith;
      few = omega arith;
      passed = λ x low less. rule_passed c.args.marks.now _ c.loop-word.word inv.2 x low (omega arith);
      found = λ less. absurd (omega arith);
    }
