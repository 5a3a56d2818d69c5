-- A batch that is not refused, event by event: what holds of every register on its way, and of every step.
use Prim.Native.Nat.{ℕ, suc, ◌≤◌}
use mathlib.Core.Path.{◌≡◌, refl, sym, subst, ◌∙◌}
use mathlib.Core.Logic.{⊎_elim}
use mathlib.Core.Bool.{Bool, ◌&&◌, not}
use mathlib.Core.List.Memᴰ
use mathlib.Core.List.{List, [], ◌∷◌}
use mathlib.Core.Option.{none, map, map-eq-none_iff}
use lib.Dec.{T, eqb}
use lib.ListN.{length}
use mir.Facts.{and_yes, yes_and, or_no, eqb_yes}
use Rattle.meaning.specs.Lists.{any, ◌∈◌}
use Rattle.meaning.specs.Limits.{max_objects}
use Rattle.meaning.specs.Schema.{Schema}
use Rattle.meaning.specs.Register.{Register}
use Rattle.meaning.specs.Events.{Event, insert, delete, set, join, part, special, general, Lent, apply, after, event_refusal, refusal_from, batch_refusal}
use Rattle.meaning.specs.Reach.{Step, step_at, Change, steps_of, change_by, some_step, Kind, inserts, deletes, sets, joins, parts, specials, generals, same_kind, among}
use Rattle.meaning.proofs.Lists.{and_map, not_sub, no_or, any_map, first_of_none}
use Rattle.meaning.proofs.Schemas.{TypesFit}
use Rattle.meaning.proofs.Registers.{RegisterFits}
use Rattle.meaning.proofs.Effects.{EventFits, event_fits, apply_fits, objects_limit}

-- ---- what some step did

-- an event of a kind of which one test holds, where another follows from it
pub among_map : (which : Kind) (test wider : ℕ → ℕ → ℕ → Bool) → ((x y z : ℕ) → T (test x y z) → T (wider x y z)) → (e : Event) → T (among which test e) → T (among which wider e)
among_map which test wider f (insert id t) = and_map (same_kind which inserts) _ _ (f id t 0)
among_map which test wider f (delete id) = and_map (same_kind which deletes) _ _ (f id 0 0)
among_map which test wider f (set id k v) = and_map (same_kind which sets) _ _ (f id k 0)
among_map which test wider f (join r a b) = and_map (same_kind which joins) _ _ (f r a b)
among_map which test wider f (part r a b) = and_map (same_kind which parts) _ _ (f r a b)
among_map which test wider f (special id t) = and_map (same_kind which specials) _ _ (f id t 0)
among_map which test wider f (general id t) = and_map (same_kind which generals) _ _ (f id t 0)

-- what an event did to an object of which one test holds, where another follows from it
pub among_whom : (which : Kind) (did : ℕ → ℕ → ℕ → Bool) (whom wider : ℕ → Bool) → ((x : ℕ) → T (whom x) → T (wider x)) → (e : Event) → T (among which (λ x y z. whom x && did x y z) e) → T (among which (λ x y z. wider x && did x y z) e)
among_whom which did whom wider f =
    among_map which _ _ (λ x y z t. let r = and_yes (whom x) (did x y z) t in yes_and (wider x) (did x y z) (f x r.0) r.1)

-- a test that holds of u holds of every number that is u
pub holds_at : (whom : ℕ → Bool) (u : ℕ) → T (whom u) → (x : ℕ) → T (eqb u x) → T (whom x)
holds_at whom u h x e = subst (λ y. T (whom y)) (eqb_yes e) h

pub some_map : (c : Change) (did wider : Step → Bool) → ((s : Step) → T (did s) → T (wider s)) → T (some_step c did) → T (some_step c wider)
unfolding some_step
some_map c did wider f = any_map did wider c.steps (λ s m. f s)

pub none_map : (c : Change) (did wider : Step → Bool) → ((s : Step) → T (did s) → T (wider s)) → T (not (some_step c wider)) → T (not (some_step c did))
none_map c did wider f n = not_sub (some_step c did) (some_step c wider) (some_map c did wider f) n

-- ---- every register on the way

-- P holds of the register that each event meets, and of the one at the end.
abbrev pub Throughout : (Register → Type 0) → Schema → Register → List Event → Type 0
Throughout P S g [] = P g
Throughout P S g (e ∷ es) = P g × Throughout P S (apply S e g) es

-- Q holds of each event and the register that it meets.
abbrev pub EachStep : (Register → Event → Type 0) → Schema → Register → List Event → Type 0
EachStep Q S g [] = Unit {0}
EachStep Q S g (e ∷ es) = Q g e × EachStep Q S (apply S e g) es

abbrev pub StepFits : Schema → Step → Type 0
StepFits S s = EventFits S s.met s.event × RegisterFits S s.met

abbrev pub StepsFit : Change → Type 0
StepsFit c = (s : Step) → s ∈ c.steps → StepFits c.schema s

-- no event of the batch is refused
abbrev pub Unrefused : Schema → Lent → Register → List Event → Type 0
Unrefused S lent g es = EachStep (λ g' e. event_refusal S lent g' e ≡ none) S g es

refusal_none : (S : Schema) (lent : Lent) (n : ℕ) (g : Register) (es : List Event) → refusal_from S lent n g es ≡ none → Unrefused S lent g es
unfolding refusal_from
refusal_none S lent n g [] r = tt
refusal_none S lent n g (e ∷ es) r =
    let h = first_of_none (map (λ number. record { number = number; place = n }) (event_refusal S lent g e)) (refusal_from S lent (suc n) (apply S e g) es) r in
    ((map-eq-none_iff _ (event_refusal S lent g e)).0 h.0, refusal_none S lent (suc n) (apply S e g) es h.1)

pub unrefused : (S : Schema) (lent : Lent) (g : Register) (es : List Event) → batch_refusal S lent g es ≡ none → Unrefused S lent g es
unfolding batch_refusal
unrefused S lent g es r = refusal_none S lent 0 g es r

module _ (S : Schema) where
  pub at-start : (P : Register → Type 0) (g : Register) (es : List Event) → Throughout P S g es → P g
  at-start P g [] h = h
  at-start P g (e ∷ es) h = h.0

  pub at_end : (P : Register → Type 0) (g : Register) (es : List Event) → Throughout P S g es → P (after S g es)
  unfolding after
  at_end P g [] h = h
  at_end P g (e ∷ es) h = at_end P (apply S e g) es h.1

  pub throughout_map : (P Q : Register → Type 0) → ((g : Register) → P g → Q g) → (g : Register) (es : List Event) → Throughout P S g es → Throughout Q S g es
  throughout_map P Q f g [] h = f g h
  throughout_map P Q f g (e ∷ es) h = (f g h.0, throughout_map P Q f (apply S e g) es h.1)

  pub throughout_both : (P Q : Register → Type 0) (g : Register) (es : List Event) → Throughout P S g es → Throughout Q S g es → Throughout (λ g'. P g' × Q g') S g es
  throughout_both P Q g [] h k = (h, k)
  throughout_both P Q g (e ∷ es) h k = ((h.0, k.0), throughout_both P Q (apply S e g) es h.1 k.1)

  -- before and after each step
  pub each_side : (P : Register → Type 0) (g : Register) (es : List Event) → Throughout P S g es → EachStep (λ g' e. P g' × P (apply S e g')) S g es
  each_side P g [] h = tt
  each_side P g (e ∷ es) h = ((h.0, at-start P (apply S e g) es h.1), each_side P (apply S e g) es h.1)

  pub each_both : (P Q : Register → Event → Type 0) (g : Register) (es : List Event) → EachStep P S g es → EachStep Q S g es → EachStep (λ g' e. P g' e × Q g' e) S g es
  each_both P Q g [] h k = tt
  each_both P Q g (e ∷ es) h k = ((h.0, k.0), each_both P Q (apply S e g) es h.1 k.1)

  -- what holds at the start and is kept by each step holds throughout
  pub forwards : (P : Register → Type 0) (g : Register) (es : List Event) → EachStep (λ g' e. P g' → P (apply S e g')) S g es → P g → Throughout P S g es
  forwards P g [] h p = p
  forwards P g (e ∷ es) h p = (p, forwards P (apply S e g) es h.1 (h.0 p))

  -- what holds at the end and is brought about by no step holds throughout
  pub backwards : (P : Register → Type 0) (g : Register) (es : List Event) → EachStep (λ g' e. P (apply S e g') → P g') S g es → P (after S g es) → Throughout P S g es
  unfolding after
  backwards P g [] h p = p
  backwards P g (e ∷ es) h p =
      let below = backwards P (apply S e g) es h.1 p in
      (h.0 (at-start P (apply S e g) es below), below)

  pub each_map : (P Q : Register → Event → Type 0) → ((g : Register) (e : Event) → P g e → Q g e) → (g : Register) (es : List Event) → EachStep P S g es → EachStep Q S g es
  each_map P Q f g [] h = tt
  each_map P Q f g (e ∷ es) h = (f g e h.0, each_map P Q f (apply S e g) es h.1)

  -- what no step changes is the same at the end
  pub unchanged : {A : Type 0} (f : Register → A) (g : Register) (es : List Event) → EachStep (λ g' e. f (apply S e g') ≡ f g') S g es → f g ≡ f (after S g es)
  unfolding after
  unchanged f g [] h = refl
  unchanged f g (e ∷ es) h = sym h.0 ∙ unchanged f (apply S e g) es h.1

  none_of : (did : Step → Bool) (g : Register) (es : List Event) → T (not (any did (steps_of S g es))) → EachStep (λ g' e. T (not (did (step_at g' e)))) S g es
  unfolding steps_of
  none_of did g [] n = tt
  none_of did g (e ∷ es) n =
      let h = or_no (did (step_at g e)) (any did (steps_of S (apply S e g) es)) n in
      (h.0, none_of did (apply S e g) es h.1)

  -- what no step did
  pub no_step : (did : Step → Bool) (g : Register) (es : List Event) → T (not (some_step (change_by S g es) did)) → EachStep (λ g' e. T (not (did (step_at g' e)))) S g es
  unfolding some_step
  no_step did g es n = none_of did g es n

  none_in : (did : Step → Bool) (g : Register) (es : List Event) → EachStep (λ g' e. T (not (did (step_at g' e)))) S g es → T (not (any did (steps_of S g es)))
  unfolding steps_of
  none_in did g [] h = tt
  none_in did g (e ∷ es) h = no_or (did (step_at g e)) _ h.0 (none_in did (apply S e g) es h.1)

  pub step_none : (did : Step → Bool) (g : Register) (es : List Event) → EachStep (λ g' e. T (not (did (step_at g' e)))) S g es → T (not (some_step (change_by S g es) did))
  unfolding some_step
  step_none did g es h = none_in did g es h

  module _ (types_fit : TypesFit S.types) (lent : Lent) where
    -- Theorem 4: every register on the way of a batch that is not refused is one that refusal 5 does not meet.
    pub fits_throughout : (g : Register) (es : List Event) → RegisterFits S g → Unrefused S lent g es → Throughout (RegisterFits S) S g es
    fits_throughout g [] f u = f
    fits_throughout g (e ∷ es) f u = (f, fits_throughout (apply S e g) es (apply_fits S types_fit lent g f e u.0) u.1)

    pub end_fits : (g : Register) (es : List Event) → RegisterFits S g → Unrefused S lent g es → RegisterFits S (after S g es)
    end_fits g es f u = at_end (RegisterFits S) g es (fits_throughout g es f u)

    -- each step, with what a law of one event asks: a register that fits, and an event that is not refused
    pub each_fit : (g : Register) (es : List Event) → RegisterFits S g → Unrefused S lent g es → EachStep (λ g' e. RegisterFits S g' × (event_refusal S lent g' e ≡ none)) S g es
    each_fit g [] f u = tt
    each_fit g (e ∷ es) f u = ((f, u.0), each_fit (apply S e g) es (apply_fits S types_fit lent g f e u.0) u.1)

    -- the limit on objects is kept
    pub limit_kept : (g : Register) (es : List Event) → RegisterFits S g → Unrefused S lent g es → length g.objects ≤ max_objects → length (after S g es).objects ≤ max_objects
    unfolding after
    limit_kept g [] f u h = h
    limit_kept g (e ∷ es) f u h =
        limit_kept (apply S e g) es (apply_fits S types_fit lent g f e u.0) u.1 (objects_limit S types_fit lent g f e u.0 h)

    -- what no refusal leaves of each step: what refusal 11 does of its event, and what refusal 5 does of the register that it met
    pub steps_fit : (g : Register) (es : List Event) → RegisterFits S g → Unrefused S lent g es → StepsFit (change_by S g es)
    unfolding steps_of
    steps_fit g [] f u s m = absurd (Memᴰ.not-nil m)
    steps_fit g (e ∷ es) f u s m =
        ⊎_elim (λ (q : s ≡ step_at g e). subst (StepFits S) (sym q) (event_fits S lent g e u.0, f))
        (λ n. steps_fit (apply S e g) es (apply_fits S types_fit lent g f e u.0) u.1 s n) (Memᴰ.cases_cons m)
