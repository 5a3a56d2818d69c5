-- `rows::close_gap` meets its contract: the rows after `at` move down by a row, and the last used row becomes zeros.
use Prim.Native.Nat.{◌+◌, ◌*◌, ◌-◌, ◌≤◌}
use mathlib.Core.Path.{◌≡◌, sym, ap, ap₂, ◌∙◌}
use mathlib.Core.List.{◌++◌}
use native.Mathlib.Omega.{arith}
use lib.ListN.{length, take, drop, replicate}
use lib.Seq.{paste}
use borrow.Rule.Slice.PartMut.{mid_of, put_mid}
use borrow.Author.Tests.{lt-ltb, le-ltb, le-leb, lt-leb}
use Rattle.rows.specs.Rows.{without_row}
use Rattle.rows.proofs.Offsets.{row_before}
use Rattle.rows.proofs.Parts.{put_down}
use Rattle.rows.proofs.close_gap.Goals as goal

pub returns-then-used-at : goal.returns-then-used-at
unfolding without_row
returns-then-used-at c = simp (le-ltb _ _ c.if-used-at.true)

pub returns-then-t-end : goal.returns-then-t-end
unfolding without_row
returns-then-t-end c = simp (lt-ltb _ _ c.if-used-at.false, lt-leb _ _ c.if-t-end.true)

pub returns : goal.returns
unfolding without_row
returns c =
    let t = c.args.t.now in
    let n = c.args.width in
    let a = c.args.at * n in
    let e = c.args.used * n in
    let m = e - (a + n) in
    let within : a + n ≤ e = row_before _ _ _ c.if-used-at.false in
    let last : e - n ≡ a + m = omega arith in
    let end : e ≡ a + m + n = omega arith in
    let moved : c.copy_within.new.self ≡ paste t a (drop (a + n) t) m = c.copy_within.ensures.after in
    simp (lt-ltb _ _ c.if-used-at.false, le-leb _ _ c.if-t-end.false)
    (ap (put_mid (e - n) (e - (e - n)) c.copy_within.new.self) (c.fill.ensures.after (λ y same. same))
    ∙ ap₂ (λ i j. put_mid i (j - i) c.copy_within.new.self (replicate (length (mid_of i (j - i) c.copy_within.new.self)) 0)) last end
    ∙ ap (λ l. put_mid (a + m) (a + m + n - (a + m)) l (replicate (length (mid_of (a + m) (a + m + n - (a + m)) l)) 0)) moved
    ∙ put_down t a n m (omega arith)
    ∙ ap (λ k. take a t ++ take m (drop (a + n) t) ++ replicate n 0 ++ drop k t) (sym end))
