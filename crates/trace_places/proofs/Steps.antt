-- The steps of a batch by the rows of its events, and what some step of it does.
use Prim.Native.Nat.{ℕ, zero, suc, ◌+◌, ◌<◌}
use mathlib.Core.Path.{◌≡◌, refl, sym, ap, ap₂, ◌∙◌}
use mathlib.Core.Bool.{Bool, true, false, ◌&&◌, ◌||◌, not, or-true, or-false, or_assoc}
use mathlib.Core.List.{List, [], ◌∷◌, map}
use mathlib.Core.Option.{some, none-ne-some, some-injective}
use native.Mathlib.Omega.{arith}
use lib.ListN.{length, get_elem?, length-map}
use Rattle.meaning.specs.Lists.{any}
use Rattle.meaning.specs.Schema.{ObjectType, under}
use Rattle.meaning.specs.Register.{is_under}
use Rattle.meaning.specs.Reach.{Step, Change, some_step, deletes, specials, generals, inserts_into, brings_in, takes_out, anyone, Direction, up, down, all_moves}
use Rattle.rows.specs.Rows.{rows_from}
use Rattle.tables.specs.Columns.{event_row}
use Rattle.tables.specs.declared.Counts.{Counts}
use Rattle.schema.proofs.Rows.{length_rows}
use Rattle.trace_places.specs.Questions.{met_under}
use Rattle.trace_places.specs.Traces.{Seen}
use Rattle.trace_places.specs.Making.{comes_into, goes_from, event_moves, some_below}
use Rattle.trace_places.proofs.Questions.{objects_same}

-- ---- lists by their places

pub any_none_at : {A : Type 0} (p : A → Bool) (l : List A) → ((i : ℕ) (x : A) → get_elem? l i ≡ some x → p x ≡ false) → any p l ≡ false
any_none_at p [] h = refl
any_none_at p (x ∷ l) h = ap₂ ◌||◌ (h 0 x refl) (any_none_at p l (λ i. h (suc i)))

pub any_some_at : {A : Type 0} (p : A → Bool) (l : List A) (i : ℕ) (x : A) → get_elem? l i ≡ some x → p x ≡ true → any p l ≡ true
any_some_at p [] i x e t = absurd (none-ne-some x e)
any_some_at p (y ∷ l) zero x e t = ap (λ b. b || any p l) (ap p (some-injective y x e) ∙ t)
any_some_at p (y ∷ l) (suc i) x e t = ap (λ b. p y || b) (any_some_at p l i x e t) ∙ or-true (p y)

-- of a list whose images are rows, the element at a place
mapped_at : {A B : Type 0} (f : A → B) (read : ℕ → B) (l : List A) (k n : ℕ) → map f l ≡ rows_from read k n → (i : ℕ) → i < n → (x : A) × (get_elem? l i ≡ some x) × (f x ≡ read (k + i))
mapped_at f read l k zero e i h = absurd (omega arith)
mapped_at f read [] k (suc n) e i h = let z : ◌≡◌ {A = ℕ} 0 (suc (length (rows_from read (suc k) n))) = ap length e in absurd (omega arith)
mapped_at f read (y ∷ l) k (suc n) e zero h = let at : k + 0 ≡ k = omega arith in let q : f y ≡ read k = cc in (y, refl, q ∙ ap read (sym at))
mapped_at f read (y ∷ l) k (suc n) e (suc i) h =
    let tail : map f l ≡ rows_from read (suc k) n = cc in
    let r = mapped_at f read l (suc k) n tail i (omega arith) in
    let at : suc k + i ≡ k + suc i = omega arith in
    (r.0, r.1, r.2 ∙ ap read at)

-- a place that has an element is one of the rows
pub some_within : {A B : Type 0} (f : A → B) (read : ℕ → B) (l : List A) (k n : ℕ) → map f l ≡ rows_from read k n → (i : ℕ) (x : A) → get_elem? l i ≡ some x → i < n
some_within f read [] k n e i x q = absurd (none-ne-some x q)
some_within f read (y ∷ l) k zero e i x q = let z : ◌≡◌ {A = ℕ} (suc (length (map f l))) 0 = ap length e in absurd (omega arith)
some_within f read (y ∷ l) k (suc n) e zero x q = omega arith
some_within f read (y ∷ l) k (suc n) e (suc i) x q =
    let tail : map f l ≡ rows_from read (suc k) n = cc in
    let r = some_within f read l (suc k) n tail i x q in omega arith

-- one of the first n is the first, or one of those after it
below_first : (so : ℕ → Bool) (n : ℕ) → some_below so (suc n) ≡ (so 0 || some_below (λ i. so (suc i)) n)
below_first so zero = sym (or-false (so 0))
below_first so (suc n) = ap (λ b. b || so (suc n)) (below_first so n) ∙ or_assoc (so 0) (some_below (λ i. so (suc i)) n) (so (suc n))

any_below : {A : Type 0} (p : A → Bool) (so : ℕ → Bool) (l : List A) → ((i : ℕ) (x : A) → get_elem? l i ≡ some x → p x ≡ so i) → any p l ≡ some_below so (length l)
any_below p so [] h = refl
any_below p so (x ∷ l) h = ap₂ ◌||◌ (h 0 x refl) (any_below p (λ i. so (suc i)) l (λ i. h (suc i))) ∙ sym (below_first so (length l))

-- ---- the steps of a batch

module _ {c : Change} {n : Counts} {types objects links events : List ℕ} {met : ℕ → ℕ} (seen : Seen c n types objects links events met) where
  -- the step of an event
  pub step_at_lem : (i : ℕ) → i < n.events → (s : Step) × (get_elem? c.steps i ≡ some s) × (s.event ≡ event_row events i)
  step_at_lem i h =
      let r = mapped_at (λ (s : Step). s.event) (event_row events) c.steps 0 n.events seen.events_are i h in
      let at : 0 + i ≡ i = omega arith in
      (r.0, r.1, r.2 ∙ ap (event_row events) at)

  pub step_within : (i : ℕ) (s : Step) → get_elem? c.steps i ≡ some s → i < n.events
  step_within = some_within (λ (s : Step). s.event) (event_row events) c.steps 0 n.events seen.events_are

  pub step_event : (i : ℕ) (s : Step) → get_elem? c.steps i ≡ some s → s.event ≡ event_row events i
  step_event i s e =
      let r = step_at_lem i (step_within i s e) in
      ap (λ (t : Step). t.event) (some-injective s r.0 (sym e ∙ r.1)) ∙ r.2

  -- what some step does, by what is kept of each event
  pub some_step_lem : (did : Step → Bool) (so : ℕ → Bool) → ((i : ℕ) (s : Step) → get_elem? c.steps i ≡ some s → did s ≡ so i) → some_step c did ≡ some_below so n.events
  unfolding some_step
  some_step_lem did so same =
      let long : length c.steps ≡ n.events = sym (length-map c.steps (λ (s : Step). s.event)) ∙ ap length seen.events_are ∙ length_rows (event_row events) n.events in
      any_below did so c.steps same ∙ ap (some_below so) long

  -- ---- the types that an event's object comes into or goes out of

  abbrev ts : List ObjectType
  ts = c.schema.types

  module _ (i : ℕ) (s : Step) (at : get_elem? c.steps i ≡ some s) (t : ℕ) where
    pub step_comes : (whom : ℕ → Bool) → brings_in ts t whom s ≡ comes_into ts s.event (met i) t whom
    unfolding comes_into
    step_comes whom =
        ap (λ b. inserts_into ts t whom s || b)
        (objects_same specials (λ id u z. whom id && (under ts u t && not (is_under ts s.met id t))) (λ id u z. whom id && (under ts u t && not (met_under ts (met i) t))) refl refl s.event
        (λ id u z q. ap (λ b. whom id && (under ts u t && not b)) (seen.met_is i s at id t q)))

    pub step_goes : takes_out ts t anyone s ≡ goes_from ts s.event (met i) t
    unfolding goes_from
    step_goes =
        ap₂ ◌||◌
        (objects_same deletes (λ id u z. is_under ts s.met id t) (λ id u z. met_under ts (met i) t) refl refl s.event (λ id u z q. seen.met_is i s at id t q))
        (objects_same generals (λ id u z. is_under ts s.met id t && not (under ts u t)) (λ id u z. met_under ts (met i) t && not (under ts u t)) refl refl s.event
        (λ id u z q. ap (λ b. b && not (under ts u t)) (seen.met_is i s at id t q)))

  -- "`all t`: gain if an insert or special brought in an object that is under t at the end; loss if a delete or general took one out."
  pub all_below : (t : ℕ) (d : Direction) → all_moves c t d ≡ some_below (λ i. event_moves ts c.end (event_row events i) (met i) t d) n.events
  unfolding all_moves
  all_below t up =
      let whom : ℕ → Bool = λ x. is_under ts c.end x t in
      some_step_lem (brings_in ts t whom) (λ i. comes_into ts (event_row events i) (met i) t whom)
      (λ i s e. step_comes i s e t whom ∙ ap (λ v. comes_into ts v (met i) t whom) (step_event i s e))
  all_below t down =
      some_step_lem (takes_out ts t anyone) (λ i. goes_from ts (event_row events i) (met i) t)
      (λ i s e. step_goes i s e t ∙ ap (λ v. goes_from ts v (met i) t) (step_event i s e))
