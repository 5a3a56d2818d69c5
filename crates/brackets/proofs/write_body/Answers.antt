-- `brackets::write_body` meets its contract: the rows are put into the part that starts at the rule's place.
use Prim.Native.Nat.{◌-◌, ◌*◌}
use mathlib.Core.Path.{ap, ◌∙◌}
use native.Mathlib.Omega.{arith}
use lib.ListN.{length}
use borrow.Rule.Slice.PartMut.{put_mid}
use Rattle.text.specs.Bodies.{rows_of}
use Rattle.tables.specs.Layouts.{body_words}
use Rattle.brackets.proofs.Whole.{rows_placed}
use Rattle.brackets.proofs.write_body.Goals as goal

pub returns : goal.returns
returns c =
    let bodies = c.args.bodies.now in
    let a = c.args.rule * body_words in
    λ t w whole. ap (put_mid a (length bodies - a) bodies) (c.put_rows.ensures t w whole) ∙ rows_placed bodies a (rows_of w) (omega (arith, c.requires.1))
