-- `event_refusals::of_short_event` meets its contract: each kind has its own refusals, and what is no event meets 7.
use Prim.Native.Nat.{ℕ}
use mathlib.Core.List.{List}
use Rattle.meaning.specs.Schema.{Schema, Relationship}
use Rattle.meaning.specs.Register.{Link, Register}
use Rattle.meaning.specs.Events.{Lent}
use Rattle.rows.specs.Rows.{read_rows}
use Rattle.tables.specs.Columns.{link_row, floors_of, relationships_of, schema_of, register_of}
use Rattle.event_refusals.proofs.Fields.{as_event, refused, third_unused, kind_unknown, second_unused, kind_insert, kind_delete, kind_special, kind_general}
use Rattle.event_refusals.proofs.of_short_event.Goals as goal
use Rattle.event_refusals.proofs.of_short_event.Lts as lts
use Rattle.event_refusals.proofs.of_short_event.Reads as reads
use Rattle.event_refusals.proofs.of_short_event.Tie as tie

-- what the function is given, as the definitions have it
module _ (c : lts.Start tie.the-claims reads.Pre reads.Post) where
  abbrev S : Schema
  S = schema_of c.args.type_count c.args.types.now (floors_of c.args.floor_count c.args.floors.now) c.args.relationship_count c.args.relationships.now

  abbrev g : Register
  g = register_of c.args.object_count c.args.objects.now c.args.link_count c.args.links.now

  abbrev rs : List Relationship
  rs = relationships_of c.args.relationship_count c.args.relationships.now

  abbrev ls : List Link
  ls = read_rows (link_row c.args.links.now) c.args.link_count

  abbrev lent : ℕ → ℕ → Lent
  lent m w = record { objects = c.args.lent; links = m; words = w }

pub returns-then-z-ne0 : goal.returns-then-z-ne0
returns-then-z-ne0 c =
    let a = c.args in
    λ m w. refused (S c.before.before.before.before.before.before.before) (lent c.before.before.before.before.before.before.before m w) (g c.before.before.before.before.before.before.before) (third_unused a.x a.y a.z a.kind c.requires.1 c.requires.2 c.requires.3 c.if-z-ne0.true)

pub returns-then-kind-eq0 : goal.returns-then-kind-eq0
returns-then-kind-eq0 c =
    let a = c.args in
    λ m w. as_event (S c.before.before.before.before.before.before.before.before.before) (lent c.before.before.before.before.before.before.before.before.before m w) (g c.before.before.before.before.before.before.before.before.before) (kind_insert a.x a.y a.z c.if-kind-eq0.true c.if-z-ne0.false) (c.of_insert.ensures a.types.now (S c.before.before.before.before.before.before.before.before.before).floors (rs c.before.before.before.before.before.before.before.before.before) (ls c.before.before.before.before.before.before.before.before.before) m w)

pub returns-then-kind-eq5 : goal.returns-then-kind-eq5
returns-then-kind-eq5 c =
    let a = c.args in
    λ m w. as_event (S c.before.before.before.before.before.before.before.before.before.before) (lent c.before.before.before.before.before.before.before.before.before.before m w) (g c.before.before.before.before.before.before.before.before.before.before) (kind_special a.x a.y a.z c.if-kind-eq5.true c.if-z-ne0.false) (c.of_special.ensures (rs c.before.before.before.before.before.before.before.before.before.before) (lent c.before.before.before.before.before.before.before.before.before.before m w) (ls c.before.before.before.before.before.before.before.before.before.before))

pub returns-then-kind-eq6 : goal.returns-then-kind-eq6
returns-then-kind-eq6 c =
    let a = c.args in
    λ m w. as_event (S c.before.before.before.before.before.before.before.before.before.before.before) (lent c.before.before.before.before.before.before.before.before.before.before.before m w) (g c.before.before.before.before.before.before.before.before.before.before.before) (kind_general a.x a.y a.z c.if-kind-eq6.true c.if-z-ne0.false) (c.of_general.ensures (S c.before.before.before.before.before.before.before.before.before.before.before).floors (lent c.before.before.before.before.before.before.before.before.before.before.before m w))

pub returns-then-kind-ne1 : goal.returns-then-kind-ne1
returns-then-kind-ne1 c =
    let a = c.args in
    λ m w.
    refused (S c.before.before.before.before.before.before.before.before.before.before.before) (lent c.before.before.before.before.before.before.before.before.before.before.before m w) (g c.before.before.before.before.before.before.before.before.before.before.before)
    (kind_unknown a.x a.y a.z a.kind c.if-kind-eq0.false c.if-kind-ne1.true c.requires.1 c.requires.2 c.requires.3 c.if-kind-eq5.false c.if-kind-eq6.false)

pub returns-then-y-ne0 : goal.returns-then-y-ne0
returns-then-y-ne0 c =
    let a = c.args in
    λ m w. refused (S c.before.before.before.before.before.before.before.before.before.before.before.before) (lent c.before.before.before.before.before.before.before.before.before.before.before.before m w) (g c.before.before.before.before.before.before.before.before.before.before.before.before) (second_unused a.x a.y a.z c.if-kind-ne1.false c.if-y-ne0.true)

pub returns : goal.returns
returns c =
    let a = c.args in
    λ m w. as_event (S c.before.before.before.before.before.before.before.before.before.before.before.before.before) (lent c.before.before.before.before.before.before.before.before.before.before.before.before.before m w) (g c.before.before.before.before.before.before.before.before.before.before.before.before.before) (kind_delete a.x a.y a.z c.if-kind-ne1.false c.if-y-ne0.false c.if-z-ne0.false) (c.of_delete.ensures (S c.before.before.before.before.before.before.before.before.before.before.before.before.before) (lent c.before.before.before.before.before.before.before.before.before.before.before.before.before m w) (ls c.before.before.before.before.before.before.before.before.before.before.before.before.before))
