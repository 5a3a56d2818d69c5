-- `event_refusals::of_link_event` meets its contract.
use Prim.Native.Nat.{ℕ}
use mathlib.Core.List.{List}
use native.Mathlib.Omega.{arith}
use Rattle.meaning.specs.Schema.{Floor, Schema}
use Rattle.meaning.specs.Register.{Register}
use Rattle.meaning.specs.Events.{Lent}
use Rattle.tables.specs.Columns.{types_of, schema_of, register_of}
use Rattle.event_refusals.proofs.Fields.{as_event, kind_join, kind_part}
use Rattle.event_refusals.proofs.of_link_event.Goals as goal
use Rattle.event_refusals.proofs.of_link_event.Lts as lts
use Rattle.event_refusals.proofs.of_link_event.Reads as reads
use Rattle.event_refusals.proofs.of_link_event.Tie as tie

-- what the function is given, as the definitions have it
module _ (c : lts.Start tie.the-claims reads.Pre reads.Post) where
  abbrev S : List Floor → Schema
  S fs = schema_of c.args.type_count c.args.types.now fs c.args.relationship_count c.args.relationships.now

  abbrev g : Register
  g = register_of c.args.object_count c.args.objects.now c.args.link_count c.args.links.now

  abbrev lent : ℕ → ℕ → Lent
  lent m w = record { objects = m; links = c.args.lent; words = w }

pub returns-then-kind-eq3 : goal.returns-then-kind-eq3
returns-then-kind-eq3 c =
    let a = c.args in
    λ fs m w. as_event (S c.before.before.before.before.before.before.before fs) (lent c.before.before.before.before.before.before.before m w) (g c.before.before.before.before.before.before.before) (kind_join a.x a.y a.z c.if-kind-eq3.true) (c.of_join.ensures fs m w)

pub returns : goal.returns
returns c =
    let a = c.args in
    λ fs m w.
    as_event (S c.before.before.before.before.before.before.before fs) (lent c.before.before.before.before.before.before.before m w) (g c.before.before.before.before.before.before.before) (kind_part a.x a.y a.z (omega (arith, c.requires.2, c.requires.3, c.if-kind-eq3.false)))
    (c.of_part.ensures (types_of a.type_count a.types.now) fs a.relationships.now (lent c.before.before.before.before.before.before.before m w))
