-- `events::runs::run_on` meets its contract. The invariant: what is left of the batch before this event (`Reached`), whatever words are lent for a list, and
-- its losses (`Lost`).
--
use Prim.Native.Nat.{ℕ, ◌-◌}
use mathlib.Core.Path.{◌≡◌}
use lib.ListN.{length}
use Rattle.meaning.specs.Events.{Lent}
use Rattle.tables.specs.Columns.{floors_of, schema_of, register_of, event_row}
use Rattle.events.proofs.Lost.{Lost}
use Rattle.events.proofs.Reached.{Reached}
use Rattle.events.proofs.runs.run_on.Given as goal

abbrev pub lent_of : ℕ → ℕ → ℕ → Lent
lent_of objects links w = record { objects = objects; links = links; words = w }

abbrev pub invariant-loop-row : goal.invariant-loop-row
invariant-loop-row l =
    ((w : ℕ) →
    Reached (schema_of l.type_count l.types (floors_of l.floor_count l.floors) l.relationship_count l.relationships) (lent_of l.objects_lent l.links_lent w) (register_of l.from.objects l.initial.objects l.from.links l.initial.links)
    (event_row l.events) l.event_count l.row l.used.objects l.objects l.used.links l.links l.met)
    × (length l.objects ≡ length l.initial.objects) × (length l.links ≡ length l.initial.links)
    × Lost (schema_of l.type_count l.types (floors_of l.floor_count l.floors) l.relationship_count l.relationships) (register_of l.from.objects l.initial.objects l.from.links l.initial.links) (event_row l.events) l.event_count l.row
    l.used.objects l.objects l.used.links l.links l.used.losses l.losses
