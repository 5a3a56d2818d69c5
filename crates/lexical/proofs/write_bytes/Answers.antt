-- `lexical::write_bytes` meets its contract: the bytes stand between the text before the place and the text after them.
use Prim.Native.Nat.{◌+◌, ◌-◌, ◌<◌}
use mathlib.Core.Path.{◌≡◌, sym, ◌∙◌}
use mathlib.Core.List.{append_assoc}
use lib.Seq.{drop-drop}
use native.Mathlib.Omega.{arith}
use lib.ListN.{length, take}
use Rattle.lexical.proofs.Writing.{fits_place, text_is, over_place, over_text}
use Rattle.lexical.proofs.write_bytes.Goals.{then-out-at-via-then-out-at, then-out-at-via-else-out-at+then-out-at-2}
use Rattle.lexical.proofs.write_bytes.Goals as goal

pub returns-then-out-at : goal.returns-then-out-at
returns-then-out-at c =
    let over : length c.args.out.now < c.args.at + length c.args.bytes.now =
    elim c.then-out-at.branch [ then-out-at-via-then-out-at w ↦ omega arith | then-out-at-via-else-out-at+then-out-at-2 w ↦ omega arith ] in
    (sym (over_place _ _ _ over), sym (over_text _ _ _ over))

pub returns : goal.returns
returns c =
    let at = c.args.at in
    let n = length c.args.bytes.now in
    let size : at + n - at ≡ n = omega arith in
    let parts = append_assoc (take at c.args.out.now) c.args.bytes.now _ in (
      sym (fits_place _ _ _ (omega arith)),
      rw (size, c.copy_from_slice.ensures.after, drop-drop n at c.args.out.now) (sym (text_is _ _ _ (omega arith) ∙ parts)),
    )
