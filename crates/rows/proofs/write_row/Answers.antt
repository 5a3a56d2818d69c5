-- `rows::write_row` meets its contract: the words are copied into the part that starts at the row's place.
use Prim.Native.Nat.{◌*◌, ◌-◌}
use mathlib.Core.Path.{ap, ◌∙◌}
use lib.ListN.{length}
use borrow.Rule.Slice.PartMut.{put_mid}
use borrow.Author.Tests.{eq-eqb, ne_eqb, lt-leb, le-leb}
use Rattle.rows.specs.Rows.{with_row}
use Rattle.rows.proofs.Parts.{put_words}
use Rattle.rows.proofs.write_row.Goals as goal

pub returns-then-words-n : goal.returns-then-words-n
unfolding with_row
returns-then-words-n c = simp (ne_eqb _ _ c.if-words-n.true)

pub returns-then-t-at : goal.returns-then-t-at
unfolding with_row
returns-then-t-at c = simp (eq-eqb _ _ c.if-words-n.false, lt-leb _ _ c.if-t-at.true)

pub returns : goal.returns
unfolding with_row
returns c =
    let t = c.args.t.now in
    let a = c.args.row * c.args.width in
    simp (eq-eqb _ _ c.if-words-n.false, le-leb _ _ c.if-t-at.false)
    (ap (put_mid a (length t - a) t) c.copy_words.ensures
    ∙ put_words t _ a _ c.if-words-n.false c.if-t-at.false)
