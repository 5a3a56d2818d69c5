-- `event_effects::deletes::clear_rows` meets its contract: every word of the part becomes 0.
use Prim.Native.Nat.{◌*◌, ◌-◌}
use mathlib.Core.Path.{ap, ◌∙◌}
use native.Mathlib.Omega.{arith}
use borrow.Rule.Slice.PartMut.{put_mid}
use Rattle.rows.proofs.Parts.{put_zeros}
use Rattle.event_effects.proofs.Passes.{cleared_all}
use Rattle.event_effects.proofs.deletes.clear_rows.Goals as goal

pub returns : goal.returns
returns c =
    let t = c.args.links.now in
    let a = c.args.kept * 3 in
    let e = c.args.used * 3 in
    ap (put_mid a (e - a) t) (c.clear_past.ensures ∙ cleared_all _) ∙ put_zeros t a e (omega arith) c.requires.1
