-- `pair_marks::next_row` meets its contract: no row from the first up to the row is marked.
use Prim.Native.Nat.{ℕ, ◌+◌, ◌*◌, ◌/◌, ◌≤◌, ◌<◌}
use mathlib.Core.Path.{◌≡◌}
use mathlib.Core.Bool.{false}
use mathlib.Core.Logic.{⊎_elim}
use native.Mathlib.Omega.{arith}
use lib.Dec.{ltb}
use Rattle.pair_marks.specs.Marks.{marked}
use mir.Facts.{ltb_yes, ltb_no}
use Rattle.meaning.proofs.Lists.{decide}
use Rattle.pair_marks.proofs.Bits.{lowest_next}
use Rattle.pair_marks.proofs.Words.{none_before, same_word, here}
use Rattle.pair_marks.proofs.next_row.Goals as goal
use Rattle.pair_marks.proofs.next_row.Lts as lts
use Rattle.pair_marks.proofs.next_row.Reads as reads
use Rattle.pair_marks.proofs.next_row.Tie as tie

-- the function's entry, and the word's bits from the row's on
abbrev start : lts.In-loop tie.the-claims reads.Pre reads.Post goal.the-invariant-loop-row goal.the-decreases-loop-row → lts.Start tie.the-claims reads.Pre reads.Post goal.the-invariant-loop-row goal.the-decreases-loop-row
start c = c.before.before

abbrev shifted : lts.After-lowest tie.the-claims reads.Pre reads.Post goal.the-invariant-loop-row goal.the-decreases-loop-row → lts.After-from_bit tie.the-claims reads.Pre reads.Post goal.the-invariant-loop-row goal.the-decreases-loop-row
shifted c = c.before

abbrev test : lts.After-lowest tie.the-claims reads.Pre reads.Post goal.the-invariant-loop-row goal.the-decreases-loop-row → lts.In-loop tie.the-claims reads.Pre reads.Post goal.the-invariant-loop-row goal.the-decreases-loop-row
test c = c.before.before.before.before

pub loop-row-init : goal.loop-row-init
loop-row-init c = (omega arith, omega arith, λ x low less. absurd (omega arith))

-- no row of the word before the lowest of those bits is marked
none : (c : lts.After-lowest tie.the-claims reads.Pre reads.Post goal.the-invariant-loop-row goal.the-decreases-loop-row) → let a = (start (test c)).args in let row = (test c).loop-row.row in
    (x : ℕ) → a.from ≤ x → x < row + c.lowest-low.result → x < (row / 32 + 1) * 32 → marked a.marks.now a.rule x ≡ false
none c x low less here =
    let head = (test c).before in
    let a = head.args in
    let bits = (shifted c).from_bit in
    ⊎_elim (λ t. head.loop-row.invariant.2 x low (ltb_yes t))
    (λ t. none_before a.marks.now a.rule head.loop-row.row bits.result bits.ensures.0 (lowest_next bits.result c.lowest-low.ensures) x (ltb_no t) less here)
    (decide (ltb x head.loop-row.row))

pub returns-then-low-lt32 : goal.returns-then-low-lt32
returns-then-low-lt32 c =
    let a = c.args in
    let bits = c.from_bit in
    let first = lowest_next bits.result c.lowest-low.ensures in
    let some = c.if-low-lt32.true in
    let fits = same_word a.marks.now a.rule c.loop-row.row bits.result bits.ensures.0 first bits.ensures.1 some in
    record {
      on = omega (arith, c.loop-row.invariant.0);
      few = omega (arith, fits, c.loop-row-test.true);
      passed = λ x low less. none c.before.before x low less (omega (arith, fits));
      found = λ less. here a.marks.now a.rule c.loop-row.row bits.result bits.ensures.0 first bits.ensures.1 some;
    }

pub loop-row-preserved : goal.loop-row-preserved
loop-row-preserved c = (omega arith, omega arith, λ x low less. none c.before.before x low (omega (arith, c.if-low-lt32.false)) less)

pub returns : goal.returns
returns c =
    let inv = c.loop-row.invariant in
    record { on = omega arith; few = omega arith; passed = λ x low less. inv.2 x low (omega arith); found = λ less. absurd (omega arith) }
