-- `events::step` meets its contract: an event that no refusal meets can have its effect.
use Prim.Native.Nat.{ℕ}
use mathlib.Core.Path.{◌≡◌, refl, sym, ap, ◌∙◌}
use mathlib.Core.Option.{none}
use Rattle.meaning.specs.Schema.{Schema}
use Rattle.meaning.specs.Register.{Register}
use Rattle.meaning.specs.Events.{Event, Lent, event_refusal}
use Rattle.tables.specs.Columns.{floors_of, schema_of, register_of, event_row}
use Rattle.tables.specs.Refusals.{found_of}
use Rattle.schema.proofs.Founds.{found_none}
use Rattle.events.proofs.Allowed.{can, some_event}
use Rattle.events.proofs.step.Goals as goal
use Rattle.events.proofs.step.Lts as lts
use Rattle.events.proofs.step.Reads as reads
use Rattle.events.proofs.step.Tie as tie

-- ---- where no refusal is met
module _ (c : lts.Past-After-enum_told tie.the-claims reads.Pre reads.Post) where
  abbrev asked : lts.After-refusal tie.the-claims reads.Pre reads.Post
  asked = c.before

  abbrev start : lts.Start tie.the-claims reads.Pre reads.Post
  start = c.before.before.before.before.before.before.before.before

  abbrev S : Schema
  S = schema_of start.args.type_count start.args.types.now (floors_of start.args.floor_count start.args.floors.now) start.args.relationship_count start.args.relationships.now

  abbrev lent : ℕ → Lent
  lent w = record { objects = start.args.objects_lent; links = start.args.links_lent; words = w }

  abbrev g : Register
  g = register_of start.args.held.objects start.args.objects.now start.args.held.links start.args.links.now

  abbrev event : Event
  event = event_row start.args.events.now start.args.row

  unrefused : (w : ℕ) → event_refusal S (lent w) g event ≡ none
  unrefused w = found_none _ (sym c.in-None.is ∙ asked.refusal.ensures w)

pub row_effect-after-requires : goal.row_effect-after-requires
row_effect-after-requires c = (
  can (S c.before.before.before.before) (lent c.before.before.before.before 0) _ _ _ _ c.requires.0 (event c.before.before.before.before) (unrefused c.before.before.before.before 0),
  some_event (S c.before.before.before.before) (lent c.before.before.before.before 0) _ _ _ _ c.requires.0 (event c.before.before.before.before) (unrefused c.before.before.before.before 0),
  c.requires.1,
)

pub returns-in-None : goal.returns-in-None
returns-in-None c =
    λ w.
    record {
      refused_is = sym (ap found_of (unrefused c.before.before.before.before.before.before.before.before.before w));
      taken = λ e. c.row_effect-after.ensures.0 (S c.before.before.before.before.before.before.before.before.before).floors (S c.before.before.before.before.before.before.before.before.before).relationships;
      lost = λ e. c.row_effect-after.ensures.1;
      kept = λ d. absurd (d refl);
      losses_kept = λ d. absurd (d refl);
    }
