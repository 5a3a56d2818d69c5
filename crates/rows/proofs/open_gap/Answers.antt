-- `rows::open_gap` meets its contract: the rows from `at` to the used ones move up by a row, and row `at` becomes zeros.
use Prim.Native.Nat.{◌+◌, ◌*◌, ◌-◌, ◌≤◌}
use mathlib.Core.Path.{◌≡◌, ap, ◌∙◌}
use mathlib.Core.List.{◌++◌}
use native.Mathlib.Omega.{arith}
use lib.ListN.{length, take, drop, replicate}
use lib.Seq.{paste}
use borrow.Rule.Slice.PartMut.{mid_of, put_mid}
use borrow.Author.Tests.{lt-leb, le-leb}
use Rattle.rows.specs.Rows.{with_gap}
use Rattle.rows.proofs.Offsets.{next_place_lem, row_before}
use Rattle.rows.proofs.Parts.{put_up}
use Rattle.rows.proofs.open_gap.Goals as goal

pub returns-then-used-at : goal.returns-then-used-at
unfolding with_gap
returns-then-used-at c = simp (lt-leb _ _ c.if-used-at.true)

pub returns-then-t-end : goal.returns-then-t-end
unfolding with_gap
returns-then-t-end c = simp (le-leb _ _ c.if-used-at.false, lt-leb _ _ c.if-t-end.true)

pub returns : goal.returns
unfolding with_gap
returns c =
    let t = c.args.t.now in
    let n = c.args.width in
    let a = c.args.at * n in
    let u = c.args.used * n in
    let e = (c.args.used + 1) * n in
    let next : e ≡ u + n = next_place_lem c.args.used n in
    let within : a + n ≤ e = row_before _ _ _ (omega arith) in
    let end : a + n + (u - a) ≡ e = omega arith in
    let moved : c.copy_within.new.self ≡ paste t (a + n) (drop a t) (u - a) =
    c.copy_within.ensures.after ∙ ap (paste t (a + n) (drop a t)) (omega arith) in
    simp (le-leb _ _ c.if-used-at.false, le-leb _ _ c.if-t-end.false)
    (ap (put_mid a (a + n - a) c.copy_within.new.self) (c.fill.ensures.after (λ y same. same))
    ∙ ap (λ l. put_mid a (a + n - a) l (replicate (length (mid_of a (a + n - a) l)) 0)) moved
    ∙ put_up t a n (u - a) (rw end c.if-t-end.false)
    ∙ ap (λ k. take a t ++ replicate n 0 ++ take (u - a) (drop a t) ++ drop k t) end)
