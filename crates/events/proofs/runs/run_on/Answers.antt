-- `events::runs::run_on` meets its contract. The invariant: what is left of the batch before this event (`Reached`), whatever words are lent for a list, and
-- its losses (`Lost`).
-- The measure is what is left of the events.
use Prim.Native.Nat.{ℕ}
use Rattle.tables.specs.declared.Refusal as Code
use mathlib.Core.Path.{◌≡◌, refl, sym, ap, ◌∙◌}
use mathlib.Core.Option.{none}
use native.Mathlib.Omega.{arith}
use Rattle.meaning.specs.Schema.{Schema}
use Rattle.meaning.specs.Register.{Register}
use Rattle.meaning.specs.Events.{Event, Lent, event_refusal}
use Rattle.rows.specs.Rows.{read_rows}
use Rattle.tables.specs.Columns.{object_row, link_row, floors_of, schema_of, register_of, event_row}
use Rattle.std.specs.Prelude.{None}
use Rattle.std.specs.Prelude.{Ok, Err}
use Rattle.schema.proofs.Founds.{found_none, found_some}
use Rattle.tables.specs.Met.{met_type}
use Rattle.schema.proofs.Rows.{length_rows}
use Rattle.events.specs.declared.Ran.{Ran}
use Rattle.events.proofs.Allowed.{some_event}
use Rattle.events.proofs.Answers.{refused_clear, verdict_over, ran_refused}
use Rattle.events.proofs.Lost.{lost_none, lost_room, lost_more}
use Rattle.events.proofs.Reached.{reached_none, reached_refused, reached_more, reached_left, reached_ran, fit_words}
use Rattle.events.proofs.runs.run_on.Invariants.{lent_of}
use Rattle.events.proofs.runs.run_on.Goals as goal
use Rattle.events.proofs.runs.run_on.Lts as lts
use Rattle.events.proofs.runs.run_on.Reads as reads
use Rattle.events.proofs.runs.run_on.Tie as tie

-- ---- a turn, once its event is looked at
abbrev Looked : Type 0
Looked = lts.After-step tie.the-claims reads.Pre reads.Post goal.the-invariant-loop-row goal.the-decreases-loop-row

abbrev turn : Looked → lts.In-loop tie.the-claims reads.Pre reads.Post goal.the-invariant-loop-row goal.the-decreases-loop-row
turn c = c.before.before.before.before.before

abbrev at-loop : Looked → lts.At-loop tie.the-claims reads.Pre reads.Post goal.the-invariant-loop-row goal.the-decreases-loop-row
at-loop c = (turn c).before

abbrev start : Looked → lts.Start tie.the-claims reads.Pre reads.Post goal.the-invariant-loop-row goal.the-decreases-loop-row
start c = let schema = (at-loop c).before.before.before.before in schema.before.before.before

-- what the event meets
module _ (c : Looked) where
  abbrev S : Schema
  S = schema_of (start c).args.type_count (start c).args.types.now (floors_of (start c).args.floor_count (start c).args.floors.now) (start c).args.relationship_count (start c).args.relationships.now

  abbrev lent : ℕ → Lent
  lent w = lent_of (start c).args.objects_lent (start c).args.links_lent w

  abbrev g : Register
  g = register_of (at-loop c).loop-row.used.objects (at-loop c).loop-row.objects (at-loop c).loop-row.used.links (at-loop c).loop-row.links

  abbrev event : Event
  event = event_row (start c).args.events.now (at-loop c).loop-row.row

  unrefused : c.step-stepped.result.refused ≡ None → (w : ℕ) → event_refusal S (lent w) g event ≡ none
  unrefused e w = found_none _ (sym e ∙ (c.step-stepped.ensures w).refused_is)

  -- an event that is not refused meets the type that was asked before it
  seen : event_refusal S (lent 0) g event ≡ none → c.met_type-seen.result ≡ met_type g event
  seen ok =
      c.met_type-seen.ensures (some_event S (lent 0) _ _ _ _ ((at-loop c).loop-row.invariant.0 0).fit.ready event ok)
      (read_rows (link_row (at-loop c).loop-row.links) (at-loop c).loop-row.used.links)

-- ---- needs
pub loop-row-init : goal.loop-row-init
loop-row-init c =
    (λ w. reached_none _ _ _ _ c.requires.1 (fit_words c.requires.0 w), refl, refl, lost_none _ _ _ c.requires.0.links_few c.requires.2)

pub met_type-seen-requires : goal.met_type-seen-requires
met_type-seen-requires c = (c.loop-row.invariant.0 0).fit.ready.fits.objects_ascend

pub step-stepped-requires : goal.step-stepped-requires
step-stepped-requires c =
    let inv = c.loop-row.invariant in
    ((inv.0 0).fit.ready, lost_room _ _ _ _ inv.3 c.loop-row-test.true (inv.0 0).few)

pub returns-in-Some : goal.returns-in-Some
returns-in-Some c =
    let first = c.args in
    λ w.
    let met = found_some _ (sym c.in-Some.is ∙ (c.step-stepped.ensures w).refused_is) in
    let refusal = reached_refused _ _ _ _ _ (c.loop-row.invariant.0 w) c.loop-row-test.true met in
    record {
      ran_is = c.refused.ensures ∙ ran_refused refusal _ _ _ (length_rows (object_row first.objects.now) first.from.objects) (length_rows (link_row first.links.now) first.from.links);
      left = λ e. absurd (refused_clear (sym (ap (λ (r : Ran). r.verdict) c.refused.ensures ∙ verdict_over _ _ _ _) ∙ e));
    }

pub loop-row-preserved : goal.loop-row-preserved
loop-row-preserved c =
    let inv = c.loop-row.invariant in
    let clear = unrefused c.before.before.before.before.before.before.before c.in_default.is in
    let applied = (c.step-stepped.ensures 0).taken c.in_default.is in (
      λ w. reached_more _ _ _ _ _ (inv.0 w) c.loop-row-test.true (clear w) applied (seen c.before.before.before.before.before.before.before (clear 0)),
      applied.objects_length ∙ inv.1,
      applied.links_length ∙ inv.2,
      lost_more _ _ _ _ inv.3 c.loop-row-test.true applied ((c.step-stepped.ensures 0).lost c.in_default.is),
    )

pub returns : goal.returns
returns c =
    let left = c.loop-row-test.false in
    let inv = c.loop-row.invariant in
    λ w. record { ran_is = reached_ran _ _ _ _ _ (inv.0 w) left inv.3; left = λ e. reached_left _ _ _ _ _ (inv.0 w) left inv.3 }
