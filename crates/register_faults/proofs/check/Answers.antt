-- `register_faults::check` meets its contract. Objects of which none is faulty ascend, so the links can be checked by search.
use mathlib.Core.Path.{sym, ◌∙◌}
use mathlib.Core.List.{List}
use Rattle.meaning.specs.Schema.{ObjectType, Floor, Schema}
use Rattle.meaning.specs.Register.{Register}
use Rattle.tables.specs.Columns.{types_of, floors_of, schema_of, register_of}
use Rattle.schema.proofs.Founds.{found_none}
use Rattle.register.proofs.Searches.{objects_ascend}
use Rattle.register_faults.proofs.check.Goals as goal
use Rattle.register_faults.proofs.check.Lts as lts
use Rattle.register_faults.proofs.check.Reads as reads
use Rattle.register_faults.proofs.check.Tie as tie

abbrev types : lts.Start tie.the-claims reads.Pre reads.Post → List ObjectType
types c = types_of c.args.type_count c.args.types.now

abbrev floors : lts.Start tie.the-claims reads.Pre reads.Post → List Floor
floors c = floors_of c.args.floor_count c.args.floors.now

abbrev schema : lts.Start tie.the-claims reads.Pre reads.Post → Schema
schema c = schema_of c.args.type_count c.args.types.now (floors c) c.args.relationship_count c.args.relationships.now

abbrev register : lts.Start tie.the-claims reads.Pre reads.Post → Register
register c = register_of c.args.object_count c.args.objects.now c.args.link_count c.args.links.now

-- where the check of the objects left
abbrev at-start : lts.After-object_fault tie.the-claims reads.Pre reads.Post → lts.Start tie.the-claims reads.Pre reads.Post
at-start c = c.before.before.before.before.before.before

pub link_fault-requires : goal.link_fault-requires
link_fault-requires c =
    let start = at-start c.before.before.before.before.before in
    objects_ascend (types start) (floors start) start.args.object_count start.args.objects.now (register start).links
    (found_none _ (sym c.in-None.is ∙ c.object_fault.ensures (register start).links))
