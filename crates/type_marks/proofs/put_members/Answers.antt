-- `type_marks::put_members` meets its contract.
use Rattle.meaning.specs.Schema.{Schema}
use Rattle.tables.specs.Columns.{types_of}
use Rattle.type_marks.specs.Lists.{type_lists}
use Rattle.type_marks.proofs.Marks.{added_set, type_up, type_down}
use Rattle.type_marks.proofs.put_members.Goals as goal

pub returns : goal.returns
returns c =
    let a = c.args in
    let parent = c.has_parent-parent in
    λ fs rs.
    let S : Schema = record { types = types_of a.type_count a.types.now; floors = fs; relationships = rs } in
    added_set _ _ a.set (type_lists S a.whole a.t) c.put_type.ensures c.put_type-2.ensures
    c.contains.ensures c.contains-2.ensures
    (type_up S a.whole parent.result a.t parent.ensures) (type_down S a.whole parent.result a.t parent.ensures)
