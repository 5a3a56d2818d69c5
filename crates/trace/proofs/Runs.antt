-- A batch that was run, as the trace sees it: the register at the end, and the type that each event met.
use Prim.Native.Nat.{ℕ, zero, suc, ◌≤◌, ◌<◌}
use mathlib.Core.Path.{◌≡◌, refl, sym, ap, subst, ◌∙◌}
use mathlib.Core.List.{List, [], ◌∷◌, map}
use mathlib.Core.Option.{Option, none, some, none-ne-some, some-injective}
use native.Mathlib.Nat.{le_refl}
use native.Mathlib.Omega.{arith}
use lib.ListN.{length, get_or, get_elem?}
use Rattle.meaning.specs.Limits.{max_types, max_events}
use Rattle.meaning.specs.Schema.{Schema}
use Rattle.meaning.specs.Register.{Register}
use Rattle.meaning.specs.Events.{Event, Lent, Refusal, apply, batch_refusal}
use Rattle.meaning.specs.Reach
use Rattle.meaning.specs.Reach.{Step, steps_of, change_by, some_step}
use Rattle.meaning.proofs.Lists.{element_in}
use Rattle.meaning.proofs.Registers.{RegisterFits}
use Rattle.meaning.proofs.Steps.{unrefused}
use Rattle.tables.specs.Columns.{types_of, event_row, events_of}
use Rattle.tables.specs.Refusals.{verdict_of}
use Rattle.tables.specs.declared.Counts.{Counts}
use Rattle.std.specs.Prelude.{Ok, Err}
use Rattle.schema.proofs.Rows.{length_rows}
use Rattle.tables.specs.Met.{object_of, met_by}
use Rattle.tables.specs.Losses.{lost_in, LossesLow}
use Rattle.events.specs.declared.Ran.{Ran}
use Rattle.events.specs.Runs.{ran_by, RunLeft}
use Rattle.events.proofs.Answers.{met_at, lost, losses_few, losses_low}
use Rattle.events.proofs.MetTypes.{met_named, met_unnamed, type_low, step_fits, step_under}
use Rattle.trace_places.specs.Questions.{met_under}
use Rattle.trace_places.specs.Traces.{Seen}
use Rattle.trace_places.specs.Making.{CanTrace}
use Rattle.trace_places.proofs.Steps.{some_within, step_at_lem}

-- a verdict that refuses nothing
pub nothing_refused : (r : Option Refusal) → verdict_of r ≡ Ok tt → r ≡ none
nothing_refused none e = refl
nothing_refused (some r) e = cc

get_d_there : {A : Type 0} (l : List A) (i : ℕ) {x : A} → get_elem? l i ≡ some x → get_or l i x ≡ x
get_d_there [] i {x} e = absurd (none-ne-some x e)
get_d_there (y ∷ l) zero {x} e = some-injective y x e
get_d_there (y ∷ l) (suc i) e = get_d_there l i e

events_of_lem : (S : Schema) (g : Register) (es : List Event) → map (λ (s : Step). s.event) (steps_of S g es) ≡ es
unfolding steps_of
events_of_lem S g [] = refl
events_of_lem S g (e ∷ es) = ap (λ l. e ∷ l) (events_of_lem S (apply S e g) es)

module _ {S : Schema} {lent : Lent} {g : Register} {es : List Event} (n : Counts) (types objects links events : List ℕ) {ran : Ran} (is : ran ≡ ran_by none S g es)
    (left : RunLeft S lent g es n.objects objects n.links links) (fits : RegisterFits S g) (taken : batch_refusal S lent g es ≡ none)
    (few_types : length S.types ≤ max_types) (types_are : S.types ≡ types_of n.types types) (events_are : es ≡ events_of n.events events) (few : n.events ≤ max_events) where
  rows_are : map (λ (s : Step). s.event) (steps_of S g es) ≡ events_of n.events events
  rows_are = events_of_lem S g es ∙ events_are

  long : length es ≡ n.events
  long = ap length events_are ∙ length_rows (event_row events) n.events

  -- the type that stands at a step's place is the one that it met
  met_is : (i : ℕ) (s : Step) → get_elem? (steps_of S g es) i ≡ some s → get_or ran.met i 0 ≡ met_by s
  met_is i s e =
      let h : i < n.events = some_within (λ (t : Step). t.event) (event_row events) (steps_of S g es) 0 n.events rows_are i s e in
      met_at S g es is i (omega (arith, long)) s ∙ ap met_by (get_d_there (steps_of S g es) i e)

  pub seen : Seen (change_by S g es) n types objects links events (λ i. get_or ran.met i 0)
  seen =
      record {
        few = few;
        types_are = types_are;
        end_is = sym left.end;
        events_are = rows_are;
        met_is = λ i s e id t q.
            step_under S left.fit.ready.types_fit lent few_types g es fits taken s (element_in (steps_of S g es) i e) id q t
            ∙ ap (λ m. met_under S.types m t) (sym (met_is i s e));
      }

  -- a type, or none
  low : (s : Step) → RegisterFits S s.met → (o : Option ℕ) → object_of s.event ≡ o → met_by s ≤ max_types
  low s f none q = subst (λ t. t ≤ max_types) (sym (met_unnamed s.met s.event q)) (le_refl max_types)
  low s f (some id) q = subst (λ t. t ≤ max_types) (sym (met_named s.met s.event id q)) (type_low S few_types s.met f id)

  pub met_low : (i : ℕ) → i < n.events → get_or ran.met i 0 ≤ max_types
  met_low i h =
      let r = step_at_lem seen i h in
      let s = r.0 in
      let f = step_fits S left.fit.ready.types_fit lent g es fits (unrefused S lent g es taken) s (element_in (steps_of S g es) i r.1) in
      subst (λ t. t ≤ max_types) (sym (met_is i s r.1)) (low s f (object_of s.event) refl)

  pub low_losses : LossesLow ran.losses ran.held.losses
  low_losses = losses_low S g es is left.losses_few left.fit.ready.types_fit left.fit.ready.relationships_few lent fits taken

  -- so a trace can be made in a table of zeros
  pub can_trace : {trace : List ℕ} → ((k : ℕ) → get_or trace k 0 ≡ 0) → CanTrace n objects links ran.met ran.held.losses ran.losses trace
  can_trace empty =
      record {
        objects_ascend = left.fit.ready.fits.objects_ascend;
        links_ascend = left.fit.ready.fits.links_ascend;
        objects_few = left.fit.objects_few;
        events_few = few;
        met_low = met_low;
        losses_few = losses_few S g es is left.losses_few;
        losses_low = low_losses;
        empty = empty;
      }

  -- and its losses are those of the batch's steps
  pub lost_by : (r u : ℕ) → lost_in ran.losses ran.held.losses r u ≡ some_step (change_by S g es) (Reach.taken r u)
  unfolding some_step
  lost_by = lost S g es is left.losses_few
