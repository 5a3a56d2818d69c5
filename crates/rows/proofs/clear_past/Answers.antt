-- `rows::clear_past` meets its contract: the part past the used rows becomes zeros.
use Prim.Native.Nat.{◌*◌, ◌-◌, ◌≤◌}
use native.Mathlib.Nat.{sub-eq-zero_of_le}
use mathlib.Core.Path.{ap, ◌∙◌}
use mathlib.Core.List.{append-nil}
use lib.ListN.{length}
use lib.Seq.{take_all}
use borrow.Rule.Slice.PartMut.{put_mid}
use native.Mathlib.Omega.{arith}
use Rattle.rows.specs.Rows.{cleared_past}
use Rattle.rows.proofs.Parts.{put_zeros_last}
use Rattle.rows.proofs.clear_past.Goals as goal

pub returns-then-t-start : goal.returns-then-t-start
unfolding cleared_past
returns-then-t-start c =
    let t = c.args.t.now in
    let a = c.args.used * c.args.width in
    let h : length t ≤ a = omega arith in
    simp (take_all a t h, sub-eq-zero_of_le h, append-nil)

pub returns : goal.returns
unfolding cleared_past
returns c =
    let t = c.args.t.now in
    let a = c.args.used * c.args.width in
    let h : a ≤ length t = omega arith in
    ap (put_mid a (length t - a) t) (c.fill.ensures.after (λ y same. same))
    ∙ put_zeros_last t a h
