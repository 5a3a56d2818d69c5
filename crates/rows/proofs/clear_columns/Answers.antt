-- `rows::clear_columns` meets its contract: the part from the column to the end of the row becomes zeros.
use Prim.Native.Nat.{◌+◌, ◌*◌, ◌-◌}
use mathlib.Core.Path.{◌≡◌, ap, ◌∙◌}
use native.Mathlib.Omega.{arith}
use borrow.Rule.Slice.PartMut.{put_mid}
use borrow.Author.Tests.{lt-leb, le-leb}
use Rattle.rows.specs.Rows.{without_columns}
use Rattle.rows.proofs.Parts.{put_zeros}
use Rattle.rows.proofs.clear_columns.Goals as goal

pub returns-then-width-column : goal.returns-then-width-column
unfolding without_columns
returns-then-width-column c = simp (lt-leb _ _ c.if-width-column.true)

pub returns-then-t-end : goal.returns-then-t-end
unfolding without_columns
returns-then-t-end c = simp (le-leb _ _ c.if-width-column.false, lt-leb _ _ c.if-t-end.true)

pub returns : goal.returns
unfolding without_columns
returns c =
    let t = c.args.t.now in
    let n = c.args.width - c.args.column in
    let e = c.args.row * c.args.width + c.args.width in
    let a = c.args.row * c.args.width + c.args.column in
    let start : e - n ≡ a = omega arith in
    let long : e - a ≡ n = omega arith in
    simp (le-leb _ _ c.if-width-column.false, le-leb _ _ c.if-t-end.false)
    (ap (put_mid (e - n) (e - (e - n)) t) (c.fill.ensures.after (λ y same. same))
    ∙ put_zeros t (e - n) e (omega arith) c.if-t-end.false
    ∙ rw (start, long))
