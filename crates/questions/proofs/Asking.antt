-- A question about the object in a row, by the places that name it.
use Prim.Native.Nat.{ℕ, zero, suc, ◌+◌, ◌-◌, ◌*◌, ◌/◌, ◌%◌, ◌≤◌, ◌<◌}
use mathlib.Core.Path.{◌≡◌, refl, sym, ap, ap₂, subst, ◌∙◌}
use mathlib.Core.Bool.{Bool, true, false, ◌&&◌, ◌||◌, not, cond, or-true}
use mathlib.Core.List.{List}
use mathlib.Core.Option.{Option, none, some}
use mathlib.Core.Logic.{◌⊎◌, inl, inr, ⊎_elim}
use native.Mathlib.Nat.{eq-or-lt_of_le, le_of_suc-le-suc}
use native.Mathlib.Omega.{arith}
use lib.Dec.{T, leb, eqb}
use lib.ListN.{get_or, get_elem?}
use borrow.Author.Tests.{ne_eqb, eqb-true, leb-true, leb-false}
use Rattle.meaning.specs.Lists.{holds}
use Rattle.meaning.specs.Reach.{Step, Change, some_step}
use Rattle.tables.specs.Columns.{object_row, types_of, event_row}
use Rattle.tables.specs.declared.Counts.{Counts}
use Rattle.register.specs.Tables.{object_place}
use Rattle.chains.specs.Chains.{lead, slot_word}
use Rattle.chains.proofs.Chains.{Lead, lead_some, lead_none}
use Rattle.register.proofs.Hits.{hit_some}
use Rattle.register.proofs.Rows.{guessed_place}
use Rattle.walks.specs.Site.{id_in}
use Rattle.trace_places.specs.Questions.{Question, answers, named, answers_at}
use Rattle.trace_places.specs.Traces.{place_answers, named_at, or_past, row_named, place_row, there_word, met_word, Traced}
use Rattle.trace_places.proofs.Questions.{names, step_places}
use Rattle.trace_places.proofs.Steps.{any_none_at, any_some_at, step_at_lem, step_within, step_event}

so_true : (b : Bool) → T b → b ≡ true
so_true true t = refl
so_true false t = absurd t

-- ---- the rows that places name

module _ {c : Change} {n : Counts} {types objects links events trace : List ℕ} (traced : Traced c n types objects links events trace) {row : ℕ} (there : row < n.objects) where
  abbrev u : ℕ
  u = id_in objects row

  abbrev key : ℕ → ℕ
  key = place_row n.objects objects events

  -- the object of an id stands in the row exactly where the id is the row's
  pub row_names : (o : Option ℕ) → row_named n.objects objects o ≡ row → T (holds (eqb u) o)
  row_names none e = absurd (omega (arith, traced.objects_few))
  row_names (some id) e = step (object_place n.objects objects id) refl e
    where
      step : (r : Option ℕ) → object_place n.objects objects id ≡ r → or_past r ≡ row → T (eqb u id)
      step none q e = absurd (omega (arith, traced.objects_few))
      step (some r) q e =
          let hit = hit_some (λ o. eqb o.id id) (object_row objects) n.objects q in
          subst (λ k. T (eqb (id_in objects k) id)) e hit.1

  pub names_row : (o : Option ℕ) → holds (eqb u) o ≡ true → row_named n.objects objects o ≡ row
  names_row none e = absurd (subst (λ b. T (not b)) e tt)
  names_row (some id) e = ap or_past (guessed_place n.objects objects traced.ascends row there (eqb-true u id e))

  module _ (q : Question) where
    -- whether the event of a place answers
    abbrev pub answer_at : ℕ → Bool
    answer_at p = answers_at (types_of n.types types) q (event_row events (p / 2)) (p % 2) (met_word trace (p / 2)) (eqb (there_word trace (p / 2)) 1)

    -- an event answers at its places
    at_step : (i : ℕ) (s : Step) → get_elem? c.steps i ≡ some s → s.event ≡ event_row events i → i < n.events
        → answers c q u s ≡ ((names u (event_row events i) 0 && answer_at (2 * i)) || (names u (event_row events i) 1 && answer_at (2 * i + 1)))
    at_step i s e is h =
        let first : 2 * i / 2 ≡ i = omega arith in
        let even : 2 * i % 2 ≡ 0 = omega arith in
        let second : (2 * i + 1) / 2 ≡ i = omega arith in
        let odd : (2 * i + 1) % 2 ≡ 1 = omega arith in
        let met = met_word trace i in
        let end = eqb (there_word trace i) 1 in
        step_places c u s met end (traced.seen.met_is i s e) (λ r a b z. traced.there_is i h r a b (sym is ∙ z)) q
        ∙ (λ k. (names u (is k) 0 && answers_at (traced.seen.types_are k) q (is k) 0 met end) || (names u (is k) 1 && answers_at (traced.seen.types_are k) q (is k) 1 met end))
        ∙ ap₂ (λ x y. (names u (event_row events i) 0 && x) || (names u (event_row events i) 1 && y))
        (λ k. answers_at (types_of n.types types) q (event_row events (sym first k)) (sym even k) (met_word trace (sym first k)) (eqb (there_word trace (sym first k)) 1))
        (λ k. answers_at (types_of n.types types) q (event_row events (sym second k)) (sym odd k) (met_word trace (sym second k)) (eqb (there_word trace (sym second k)) 1))

    -- a place that names the row, and answers
    pub found : (p : ℕ) → p < 2 * n.events → key p ≡ row → answer_at p ≡ true → true ≡ named c q u
    unfolding named some_step
    found p h k a =
        let r = step_at_lem traced.seen (p / 2) (omega arith) in
        sym (any_some_at (answers c q u) c.steps (p / 2) r.0 r.1 (at_step (p / 2) r.0 r.1 r.2 (omega arith) ∙ side (p % 2) refl (omega arith)))
      where
        i : ℕ
        i = p / 2

        at_place : names u (event_row events i) (p % 2) ≡ true
        at_place = so_true (names u (event_row events i) (p % 2)) (row_names (named_at (event_row events i) (p % 2)) k)

        side : (j : ℕ) → p % 2 ≡ j → j < 2 → ((names u (event_row events i) 0 && answer_at (2 * i)) || (names u (event_row events i) 1 && answer_at (2 * i + 1))) ≡ true
        side zero e l =
            let at : p ≡ 2 * i = omega arith in
            ap₂ (λ x y. (x && y) || (names u (event_row events i) 1 && answer_at (2 * i + 1))) (ap (names u (event_row events i)) (sym e) ∙ at_place) (ap answer_at (sym at) ∙ a)
        side (suc zero) e l =
            let at : p ≡ 2 * i + 1 = omega arith in
            ap₂ (λ x y. (names u (event_row events i) 0 && answer_at (2 * i)) || (x && y)) (ap (names u (event_row events i)) (sym e) ∙ at_place) (ap answer_at (sym at) ∙ a)
            ∙ or-true (names u (event_row events i) 0 && answer_at (2 * i))
        side (suc (suc j)) e l = absurd (omega arith)

    -- no place that names the row answers
    pub not_found : ((p : ℕ) → p < 2 * n.events → key p ≡ row → answer_at p ≡ false) → false ≡ named c q u
    unfolding named some_step
    not_found h = sym (any_none_at (answers c q u) c.steps still)
      where
        silent : (i j p : ℕ) → p < 2 * n.events → p / 2 ≡ i → p % 2 ≡ j → (b : Bool) → names u (event_row events i) j ≡ b → (b && answer_at p) ≡ false
        silent i j p l d m true e = h p l (ap₂ (λ x y. row_named n.objects objects (named_at (event_row events x) y)) d m ∙ names_row (named_at (event_row events i) j) e)
        silent i j p l d m false e = refl

        still : (i : ℕ) (s : Step) → get_elem? c.steps i ≡ some s → answers c q u s ≡ false
        still i s e =
            let within = step_within traced.seen i s e in
            at_step i s e (step_event traced.seen i s e) within
            ∙ ap₂ ◌||◌ (silent i 0 (2 * i) (omega arith) (omega arith) (omega arith) (names u (event_row events i) 0) refl) (silent i 1 (2 * i + 1) (omega arith) (omega arith) (omega arith) (names u (event_row events i) 1) refl)

-- ---- the walk over a row's places

le_or_lt : (m n : ℕ) → (m ≤ n) ⊎ (n < m)
le_or_lt m n = step (leb m n) refl
  where
    step : (b : Bool) → leb m n ≡ b → (m ≤ n) ⊎ (n < m)
    step true e = inl (leb-true m n e)
    step false e = inr (leb-false m n e)

-- what is left of a walk that holds the word
abbrev pub left_of : ℕ → ℕ → ℕ
left_of limit word = cond (eqb word 0) 0 (suc (limit - word))

-- places that stand one after the other, from a slot on
module _ (at : ℕ → ℕ) (base : ℕ) (at_is : (p : ℕ) → at p ≡ base + p) (key : ℕ → ℕ) (places row : ℕ) (silent : ℕ → Bool) where
  -- The walk holds 1 + the slot of the first place of the row from i on, and none before is one that answers.
  pub record Walk (word : ℕ) : Type 0 where
    pub from : ℕ
    pub word_is : word ≡ slot_word at (lead key places row from)
    pub passed : (p : ℕ) → p < from → key p ≡ row → silent p ≡ false

  -- the place of a word of a chain
  placed : (place w : ℕ) → suc (at place) ≡ slot_word at w → suc place ≡ w
  placed place zero e = absurd (omega arith)
  placed place (suc p) e = omega (arith, at_is place, at_is p)

  no_place : (w : ℕ) → 0 ≡ slot_word at w → 0 ≡ w
  no_place zero e = refl
  no_place (suc p) e = absurd (omega arith)

  past_base : (w : ℕ) → (slot_word at w ≡ 0 → ⊥) → base < slot_word at w
  past_base zero d = absurd (d refl)
  past_base (suc p) d = omega (arith, at_is p)

  module _ {word : ℕ} (walk : Walk word) where
    -- a walk that has not ended stands at a slot of the places
    pub slot_low : (word ≡ 0 → ⊥) → base < word
    slot_low d = subst (λ w. base < w) (sym walk.word_is) (past_base (lead key places row walk.from) (λ e. d (walk.word_is ∙ e)))

    -- the place that the walk has come to
    pub here : (place : ℕ) → suc (at place) ≡ word → Lead key row walk.from places place
    here place e = lead_some key row places walk.from (placed place (lead key places row walk.from) (e ∙ walk.word_is))

    -- after the last place, none of the row answers
    pub all_passed : word ≡ 0 → (p : ℕ) → p < places → key p ≡ row → silent p ≡ false
    all_passed e p h k =
        ⊎_elim
        (λ (l : walk.from ≤ p). absurd (lead_none key row places walk.from (no_place (lead key places row walk.from) (sym e ∙ walk.word_is)) p l h k))
        (λ (l : p < walk.from). walk.passed p l k)
        (le_or_lt walk.from p)

    -- one place on
    module _ (place : ℕ) (e : suc (at place) ≡ word) (still : silent place ≡ false) {next : ℕ} (next_is : next ≡ slot_word at (lead key places (key place) (suc place))) where
      pub goes_on : Walk next
      goes_on =
          let came = here place e in
          record {
            from = suc place;
            word_is = next_is ∙ ap (λ k. slot_word at (lead key places k (suc place))) came.leads;
            passed = λ p h k.
                ⊎_elim
                (λ (l : walk.from ≤ p). ⊎_elim (λ (s : p ≡ place). ap silent s ∙ still) (λ (s : p < place). absurd (came.others p l s k)) (eq-or-lt_of_le (le_of_suc-le-suc h)))
                (λ (l : p < walk.from). walk.passed p l k)
                (le_or_lt walk.from p);
          }

      pub less_left : {limit : ℕ} → base + places ≤ limit → left_of limit next < left_of limit word
      less_left {limit} few = step (lead key places (key place) (suc place)) refl
        where
          held : (w : ℕ) → 0 < w → left_of limit w ≡ suc (limit - w)
          held w h = rw (ne_eqb w 0 (λ q. omega arith))

          step : (w : ℕ) → lead key places (key place) (suc place) ≡ w → left_of limit next < left_of limit word
          step zero q = subst (λ v. left_of limit v < left_of limit word) (sym (next_is ∙ ap (slot_word at) q)) (rw (held word (omega arith)) (omega arith))
          step (suc p) q =
              let next_at : next ≡ suc (at p) = next_is ∙ ap (slot_word at) q in
              let l = lead_some key (key place) places (suc place) (sym q) in
              let m = here place e in
              omega (arith, held word (omega arith), held next (omega arith), next_at, at_is p, at_is place, l.from, l.within, m.within)

-- ---- sets that hold the row of every place that answers hold every object of which a question is answered by an event that names it

pub covers : {c : Change} {n : Counts} {types objects links events trace : List ℕ} (traced : Traced c n types objects links events trace) (q : Question) (marked : ℕ → Bool)
    → ((p : ℕ) → p < 2 * n.events → get_or trace p 0 < n.objects → place_answers (types_of n.types types) q events trace p ≡ true → marked (get_or trace p 0) ≡ true)
    → (row : ℕ)
    → row < n.objects
    → named c q (id_in objects row) ≡ true
    → marked row ≡ true
covers {c} {n} {types} {objects} {links} {events} {trace} traced q marked each row there answered = step (marked row) refl
  where
    step : (b : Bool) → marked row ≡ b → marked row ≡ true
    step true e = e
    step false e = absurd (subst T (sym answered ∙ sym (not_found traced there q silent)) tt)
      where
        silent : (p : ℕ) → p < 2 * n.events → place_row n.objects objects events p ≡ row → place_answers (types_of n.types types) q events trace p ≡ false
        silent p h k = at (place_answers (types_of n.types types) q events trace p) refl
          where
            is : get_or trace p 0 ≡ row
            is = traced.row_is p h ∙ k

            at : (b : Bool) → place_answers (types_of n.types types) q events trace p ≡ b → place_answers (types_of n.types types) q events trace p ≡ false
            at true a = absurd (subst T (sym (each p h (subst (λ r. r < n.objects) (sym is) there) a) ∙ ap marked is ∙ e) tt)
            at false a = a
