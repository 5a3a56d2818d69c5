-- `event_refusals::of_event` meets its contract: each kind has its own refusals.
use Prim.Native.Nat.{ℕ}
use mathlib.Core.List.{List}
use Rattle.meaning.specs.Schema.{Schema, Relationship}
use Rattle.meaning.specs.Register.{Link, Register}
use Rattle.meaning.specs.Events.{Lent}
use Rattle.rows.specs.Rows.{read_rows}
use Rattle.tables.specs.Columns.{link_row, floors_of, relationships_of, schema_of, register_of}
use Rattle.event_refusals.proofs.Fields.{as_event, kind_set}
use Rattle.event_refusals.proofs.of_event.Goals as goal
use Rattle.event_refusals.proofs.of_event.Lts as lts
use Rattle.event_refusals.proofs.of_event.Reads as reads
use Rattle.event_refusals.proofs.of_event.Tie as tie

-- what the function is given, as the definitions have it
module _ (c : lts.Start tie.the-claims reads.Pre reads.Post) where
  abbrev S : Schema
  S = schema_of c.args.type_count c.args.types.now (floors_of c.args.floor_count c.args.floors.now) c.args.relationship_count c.args.relationships.now

  abbrev g : Register
  g = register_of c.args.object_count c.args.objects.now c.args.link_count c.args.links.now

  abbrev rs : List Relationship
  rs = relationships_of c.args.relationship_count c.args.relationships.now

  abbrev ls : List Link
  ls = read_rows (link_row c.args.links.now) c.args.link_count

  abbrev lent : ℕ → Lent
  lent w = record { objects = c.args.objects_lent; links = c.args.links_lent; words = w }

pub returns-in-2 : goal.returns-in-2
returns-in-2 c =
    let a = c.args in
    λ w.
    as_event (S c.before.before.before.before.before.before.before.before) (lent c.before.before.before.before.before.before.before.before w) (g c.before.before.before.before.before.before.before.before) (kind_set a.x a.y a.z c.in-2.is)
    (c.of_set.ensures (rs c.before.before.before.before.before.before.before.before) (lent c.before.before.before.before.before.before.before.before w) (ls c.before.before.before.before.before.before.before.before))
