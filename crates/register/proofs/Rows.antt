-- Objects by their rows: the row of an id that is there, and the id of a row.
use Prim.Native.Nat.{ℕ, ◌≤◌, ◌<◌}
use mathlib.Core.Path.{◌≡◌, refl, sym, ap, subst, ◌∙◌}
use mathlib.Core.Bool.{Bool, true, ◌&&◌}
use mathlib.Core.List.{List}
use mathlib.Core.Option.{Option, none, some, map}
use native.Mathlib.Omega.{arith}
use lib.Dec.{T, ltb, eqb}
use mir.Facts.{not_T, and_yes, ltb_yes, eqb_yes, yes_eqb}
use Rattle.meaning.specs.Limits.{max_objects}
use Rattle.meaning.specs.Lists.{holds}
use Rattle.meaning.specs.Register.{Object, Link, object_key, present}
use Rattle.meaning.proofs.Order.{before_one}
use Rattle.tables.specs.Columns.{object_row}
use Rattle.register.specs.Tables.{objects_with, ObjectsAscend, object_place, or_zero, row_at}
use Rattle.register.proofs.Hits.{missed_to, hit_at, hit_some}
use Rattle.register.proofs.Places.{ordered}
use Rattle.register.proofs.Searches.{object_row_lem}

module _ (m : ℕ) (objects : List ℕ) where
  -- an object that is present has a row
  pub place_there : (ls : List Link) (id : ℕ) → T (present (objects_with m objects ls) id) → object_place m objects id ≡ none → ⊥
  unfolding present
  place_there ls id t e = subst T (ap (holds (λ o. true)) (object_row_lem m objects ls id ∙ ap (map (object_row objects)) e)) t

  module _ (id : ℕ) where
    pub place_row_lem : {i : ℕ} → object_place m objects id ≡ some i → (i < m) × ((object_row objects i).id ≡ id)
    place_row_lem e = let h = hit_some (λ (o : Object). eqb o.id id) (object_row objects) m e in (h.0, eqb_yes h.1)

    -- the row of an id that is there
    pub row_is : (object_place m objects id ≡ none → ⊥) → (row_at m objects id < m) × ((object_row objects (row_at m objects id)).id ≡ id)
    unfolding row_at
    row_is d = step (object_place m objects id) refl
      where
        step : (o : Option ℕ) → object_place m objects id ≡ o → (or_zero o < m) × ((object_row objects (or_zero o)).id ≡ id)
        step none e = absurd (d e)
        step (some i) e = place_row_lem e

    -- a row is below the limit, whether the id is there or not
    pub row_few : m ≤ max_objects → row_at m objects id < 1024
    unfolding row_at
    row_few few = step (object_place m objects id) refl
      where
        step : (o : Option ℕ) → object_place m objects id ≡ o → or_zero o < 1024
        step none e = omega arith
        step (some i) e = omega (arith, (place_row_lem e).0)

  module _ (a : ObjectsAscend m objects) (row : ℕ) (h : row < m) where
    abbrev own : Object → Bool
    own o = eqb o.id (object_row objects row).id

    -- a row is that of its own id
    pub own_place : object_place m objects (object_row objects row).id ≡ some row
    own_place =
        hit_at own (object_row objects) m
        (missed_to own (object_row objects) m row (omega arith)
        (λ j l.
        let under : (object_row objects j).id < (object_row objects row).id = before_one _ _ (ordered object_key (object_row objects) m a l h) in
        not_T (own (object_row objects j)) (λ t. absurd (omega (arith, eqb_yes {a = (object_row objects j).id} t)))))
        h (yes_eqb {a = (object_row objects row).id} refl)

    -- so a row that has the id is the object's, however it was come by
    pub guessed_place : {id : ℕ} → (object_row objects row).id ≡ id → object_place m objects id ≡ some row
    guessed_place e = subst (λ x. object_place m objects x ≡ some row) e own_place

    pub own_row : row_at m objects (object_row objects row).id ≡ row
    unfolding row_at
    own_row = ap or_zero own_place

  -- a guess that was tested
  pub tested_place : (a : ObjectsAscend m objects) (row id : ℕ) {b : Bool} → b ≡ ltb row m && eqb (object_row objects row).id id → b ≡ true
      → object_place m objects id ≡ some row
  tested_place a row id e so =
      let w = and_yes (ltb row m) (eqb (object_row objects row).id id) (subst T (sym so ∙ e) tt) in
      guessed_place a row (ltb_yes w.0) (eqb_yes w.1)
