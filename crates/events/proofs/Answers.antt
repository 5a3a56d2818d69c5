-- What a run answers: its verdict, and of a batch that is not refused the type at each event's place, and what its losses say.
use Prim.Native.Nat.{ℕ, ◌+◌, ◌*◌, ◌-◌, ◌≤◌, ◌<◌}
use Rattle.tables.specs.declared.Refusal as Code
use mathlib.Core.Path.{◌≡◌, refl, sym, ap, ap₂, subst, ◌∙◌}
use mathlib.Core.Bool.{◌||◌}
use mathlib.Core.List.Memᴰ
use mathlib.Core.List.{List, [], ◌∷◌, map, flat_map}
use mathlib.Core.Option.{Option, none, some}
use native.Mathlib.Nat.{zero-add}
use native.Mathlib.Omega.{arith}
use lib.Dec.{T}
use lib.ListN.{length, get_or, replicate, length-map, length-replicate, get_or-append, get_or-map}
use lib.Seq.{sets}
use mir.Facts.{ltb_yes}
use Rattle.meaning.specs.Lists.{any, every, ◌∈◌}
use Rattle.meaning.specs.Limits.{max_events, max_relationships}
use Rattle.meaning.specs.Schema.{Schema, known_relationship}
use Rattle.meaning.specs.Register.{Link, Register}
use Rattle.meaning.specs.Events.{Event, Lent, Refusal, batch_refusal}
use Rattle.meaning.specs.Reach.{Step, steps_of, taken}
use Rattle.meaning.proofs.Lists.{every_append}
use Rattle.meaning.proofs.Schemas.{TypesFit}
use Rattle.meaning.proofs.Registers.{RegisterFits, link_parts}
use Rattle.meaning.proofs.Steps.{unrefused}
use Rattle.tables.specs.Losses.{lost_in, LossesLow}
use Rattle.tables.specs.Met.{no_type, met_by}
use Rattle.tables.specs.Refusals.{verdict_of}
use Rattle.tables.specs.Refusals.{OrRefused}
use Rattle.std.specs.Prelude.{Ok, Err}
use Rattle.event_effects.specs.Losses.{Loss, loss_words, lost_at, losses_by}
use Rattle.event_effects.specs.Effects.{loss_rows}
use Rattle.event_effects.proofs.Losses.{is_loss, low_loss, any_append, lost_taken, low_taken, words_long, table_lost, table_low}
use Rattle.events.specs.declared.Ran.{Ran}
use Rattle.events.specs.Runs.{met_table, loss_table, ran_over, ran_by}
use Rattle.events.proofs.Lost.{no_losses, words_first}
use Rattle.events.proofs.MetTypes.{get_d_default, length_steps, step_fits}

-- a refusal is not the answer that none was met
pub refused_clear : {r : Code.Refusal} → ◌≡◌ {A = OrRefused (Unit {0})} (Err r) (Ok tt) → ⊥
refused_clear e = let z : ◌≡◌ {A = ℕ} 0 1 = cc in omega arith

pub verdict_over : (v : OrRefused (Unit {0})) (n m : ℕ) (steps : List Step) → (ran_over v n m steps).verdict ≡ v
unfolding ran_over
verdict_over v n m steps = refl

pub verdict_by : (o : Option Refusal) (S : Schema) (g : Register) (es : List Event) → (ran_by o S g es).verdict ≡ verdict_of o
unfolding ran_by ran_over
verdict_by none S g es = refl
verdict_by (some r) S g es = refl

-- where one is met, it is the answer of no step from the rows that were lent
pub ran_refused : {o : Option Refusal} {r : Code.Refusal} → o ≡ some (record { number = r.number; place = r.place }) → (S : Schema) (g : Register) (es : List Event)
    → {n m : ℕ} → length g.objects ≡ n → length g.links ≡ m → ran_over (Err r) n m [] ≡ ran_by o S g es
unfolding ran_by
ran_refused {r = r} e S g es p q =
    ap₂ (λ a b. ran_over (Err r) a b []) (sym p) (sym q) ∙ ap (λ o. ran_by o S g es) (sym e)

-- ---- a batch that is not refused

-- the losses of steps are what they took along
lost_steps : (steps : List Step) (r u : ℕ) → any (is_loss r u) (losses_by steps) ≡ any (taken r u) steps
unfolding losses_by flat_map
lost_steps [] r u = refl
lost_steps (s ∷ steps) r u =
    any_append (is_loss r u) (lost_at s.met s.event) (losses_by steps) ∙ ap₂ ◌||◌ (lost_taken s.met s.event r u) (lost_steps steps r u)

low_steps : (steps : List Step) → ((s : Step) → s ∈ steps → (l : Link) → l ∈ s.met.links → l.relationship < max_relationships) → T (every low_loss (losses_by steps))
unfolding losses_by flat_map
low_steps [] low = tt
low_steps (s ∷ steps) low =
    every_append low_loss (lost_at s.met s.event) (losses_by steps) (low_taken s.met s.event (low s (Memᴰ.head refl))) (low_steps steps (λ t m. low t (Memᴰ.tail m)))

module _ (S : Schema) (g : Register) (es : List Event) {ran : Ran} (is : ran ≡ ran_by none S g es) where
  abbrev steps : List Step
  steps = steps_of S g es

  met_is : ran.met ≡ met_table steps
  unfolding ran_by ran_over
  met_is = ap (λ (x : Ran). x.met) is

  count_is : ran.held.losses ≡ length (losses_by steps)
  unfolding ran_by ran_over
  count_is = ap (λ (x : Ran). x.held.losses) is

  losses_are : ran.losses ≡ loss_table steps
  unfolding ran_by ran_over
  losses_are = ap (λ (x : Ran). x.losses) is

  -- the type that stands at an event's number is the one that its step met
  pub met_at : (i : ℕ) → i < length es → (d : Step) → get_or ran.met i 0 ≡ met_by (get_or steps i d)
  met_at i h d =
      let there : i < length (map met_by steps) = omega (arith, length-map steps met_by, length_steps S g es) in
      ap (λ l. get_or l i 0) met_is ∙ get_or-append (map met_by steps) (replicate (max_events - length steps) no_type) 0 i there
      ∙ get_d_default (map met_by steps) i there 0 (met_by d) ∙ get_or-map met_by steps i d

  -- the losses fit their table
  module _ (few : length (losses_by steps) ≤ loss_rows) where
    abbrev all : List Loss
    all = losses_by steps

    room : (0 + length all) * 2 ≤ length no_losses
    room = omega (arith, length-replicate {A = ℕ} (loss_rows * 2) 0)

    -- as if they were written one after the other
    written : (P : List ℕ → ℕ → Type 0) → P (sets no_losses (0 * 2) (flat_map loss_words all)) (0 + length all) → P ran.losses ran.held.losses
    written P w =
        subst (λ i. i) (ap₂ P (words_first (flat_map loss_words all) (loss_rows * 2) (omega (arith, words_long all)) ∙ sym losses_are) (zero-add (length all) ∙ sym count_is)) w

    pub losses_few : ran.held.losses ≤ loss_rows
    losses_few = omega (arith, count_is)

    -- those of the batch's steps
    pub lost : (r u : ℕ) → lost_in ran.losses ran.held.losses r u ≡ any (taken r u) steps
    lost r u = written (λ t k. lost_in t k r u ≡ any (taken r u) steps) (table_lost no_losses 0 all room r u ∙ lost_steps steps r u)

    -- of roles of the schema's relationships
    pub losses_low : TypesFit S.types → length S.relationships ≤ max_relationships → (lent : Lent) → RegisterFits S g → batch_refusal S lent g es ≡ none → LossesLow ran.losses ran.held.losses
    unfolding known_relationship
    losses_low types_fit known lent fits clear =
        written LossesLow
        (table_low no_losses 0 all room
        (low_steps steps
        (λ s at l there.
        let met = step_fits S types_fit lent g es fits (unrefused S lent g es clear) s at in
        let low : l.relationship < length S.relationships = ltb_yes (link_parts S s.met l (met.links_fit l there)).0 in
        omega arith))
        (λ j h. absurd (omega arith)))
