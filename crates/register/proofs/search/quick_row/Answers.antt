-- `register::search::quick_row` meets its contract. A row that has the id is the object's, however it was come by.
use Rattle.register.proofs.Rows.{tested_place}
use Rattle.register.proofs.search.quick_row.Goals as goal

pub returns-then-has_id : goal.returns-then-has_id
returns-then-has_id c =
    rw (tested_place c.args.object_count c.args.objects.now c.requires c.wide-first.result c.args.id c.has_id.ensures c.if-has_id.true)

pub returns-then-has_id-2 : goal.returns-then-has_id-2
returns-then-has_id-2 c =
    rw (tested_place c.args.object_count c.args.objects.now c.requires c.wide-second.result c.args.id c.has_id-2.ensures c.if-has_id-2.true)
