-- `type_marks::put_context` meets its contract.
use mathlib.Core.Path.{◌≡◌, ap, ◌∙◌}
use mathlib.Core.Bool.{not, ◌&&◌}
use Rattle.meaning.specs.Schema.{Schema, has_parent}
use Rattle.tables.specs.Columns.{types_of}
use Rattle.type_marks.specs.Marks.{Added}
use Rattle.type_marks.proofs.Marks.{added_as, added_then, words_marked, entry_marked}
use Rattle.type_marks.proofs.put_context.Goals as goal

pub returns : goal.returns
returns c = λ fs rs.
    let a = c.args in
    let S : Schema = record { types = types_of a.type_count a.types.now; floors = fs; relationships = rs } in
    let inserts : Added _ _ (λ place. not a.still.insert && words_marked 0 a.t 0 place) = c.put.ensures in
    let specials : Added _ _ (λ place. (not a.still.special && c.has_parent-parent.result) && words_marked 5 a.t 0 place) = c.put-2.ensures in
    -- whether a special is listed
    let changes : (not a.still.special && c.has_parent-parent.result) ≡ (not a.still.special && has_parent (types_of a.type_count a.types.now) a.t) =
    ap (λ p. not a.still.special && p) c.has_parent-parent.ensures in
    added_as (added_then inserts specials) (λ place h. entry_marked S a.still a.t changes place)
