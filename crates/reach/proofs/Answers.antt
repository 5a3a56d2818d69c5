-- What the forward rule answers of a form, by what it answers of the parts that the code looked at.
use Prim.Native.Nat.{ℕ, suc, ◌-◌, ◌<◌}
use mathlib.Core.Path.{◌≡◌, refl, sym, ap, ap₂, ◌∙◌}
use mathlib.Core.Bool.{Bool, true, false, ◌||◌}
use mathlib.Core.List.{List}
use lib.ListN.{get_or}
use borrow.Author.Tests.{eq-eqb, ne_eqb}
use native.Mathlib.Omega.{arith}
use Rattle.meaning.specs.Lists.{any}
use Rattle.meaning.specs.Schema.{Schema}
use Rattle.meaning.specs.Meaning.{meaning}
use Rattle.meaning.specs.Reach.{Change, cell_moves}
use Rattle.tables.specs.Bodies.{as_collection, ending, first_part}
use Rattle.directions.specs.Sets.{some_of}
use Rattle.body_rows.specs.Marks.{first_sort, second_sort}
use Rattle.form_marks.proofs.Nodes.{pass_to, to_second}
use Rattle.walks.specs.Site.{Site, rows_at, form_at, code_at, ids_of}
use Rattle.walks.specs.Values.{members_of}
use Rattle.trace_places.specs.Traces.{Traced}
use Rattle.reach.specs.Moves.{moved_by, leaf_moves, moves_at, moves_over}
use Rattle.reach.specs.Able.{Able}
use Rattle.reach.proofs.Abilities.{whole, last_sound, op, sorts}
use Rattle.reach.proofs.Nodes.{members_in, sum_moves, second_moves, leaf_here, one_here, two_here}

-- no direction, no movement
pub none_asked : (c : Change) (w : Site) (e : ℕ) (vars : List ℕ) (depth : ℕ) → false ≡ moves_at c w e vars depth 0
unfolding moves_at
none_asked c w e vars depth = refl

module _ {S : Schema} {w : Site} {starts : List ℕ} {e : ℕ} {vars : List ℕ} {depth : ℕ} (able : Able S w starts e vars depth) (c : Change) (set : ℕ) (some_set : 0 < set) (small : set < 4) where
  abbrev ids : List ℕ
  ids = ids_of w depth vars

  abbrev asks : ℕ → ℕ → Bool
  asks k dirs = moves_at c w k vars depth dirs

  -- the form that ends with the row is the one at the place
  at_end : moved_by c (ending (rows_at w) (suc (e - 1))).form ids set ≡ asks e set
  unfolding moves_at
  at_end = ap (λ k. moved_by c (form_at w k) ids set) (whole able)

  pub leaf_made : {code x y : ℕ} {r : Bool} → code ≡ code_at w e → x ≡ (rows_at w (e - 1)).x → y ≡ (rows_at w (e - 1)).y → second_sort (sorts able) ≡ 3 → r ≡ some_of set (leaf_moves c ids code x y) → r ≡ asks e set
  leaf_made p q z h a =
      a ∙ (λ i. some_of set (leaf_moves c ids (p i) (q i) (z i))) ∙ leaf_here (rows_at w) (e - 1) (last_sound able) c ids set some_set small h ∙ at_end

  module _ (n : second_sort (sorts able) ≡ 3 → ⊥) {dirs : ℕ} (to : dirs ≡ to_second c.schema set (op able) (code_at w e) (rows_at w (e - 1)) (form_at w (e - 1))) where
    -- ---- one part

    module _ (f : first_sort (sorts able) ≡ 3) {r : Bool} (part : r ≡ asks (e - 1) dirs) where
      one_is : (r || sum_moves c ids set (code_at w e) (rows_at w (e - 1)).x (form_at w (e - 1))) ≡ asks e set
      unfolding moves_at
      one_is =
          ap (λ b. b || sum_moves c ids set (code_at w e) (rows_at w (e - 1)).x (form_at w (e - 1))) (part ∙ ap (moved_by c (form_at w (e - 1)) ids) to)
          ∙ one_here (rows_at w) (e - 1) (last_sound able) c ids set some_set small n f
          ∙ at_end

      pub one_moves : r ≡ true → true ≡ asks e set
      one_moves q = simp q at one_is

      pub one_still : {code : ℕ} → r ≡ false → code ≡ code_at w e → (code ≡ 17 → ⊥) → false ≡ asks e set
      one_still q k other = simp (q, ne_eqb (code_at w e) 17 (λ z. other (k ∙ z))) at one_is

      pub one_sums : {code x : ℕ} {b : Bool} → r ≡ false → code ≡ code_at w e → code ≡ 17 → x ≡ (rows_at w (e - 1)).x → b ≡ any (λ m. cell_moves c m x) (members_in c ids set (form_at w (e - 1))) → b ≡ asks e set
      one_sums q k is field a = a ∙ ap (λ y. any (λ m. cell_moves c m y) (members_in c ids set (form_at w (e - 1)))) field ∙ simp (q, eq-eqb (code_at w e) 17 (sym k ∙ is)) at one_is

    -- ---- two parts

    module _ (m : first_sort (sorts able) ≡ 3 → ⊥) {first to_first : ℕ} (at : first ≡ get_or starts (e - 1) 0) (passed : to_first ≡ pass_to false set (op able) 0) {r : Bool} (part : r ≡ asks first to_first) where
      -- the first part ends where the second starts
      first_is : form_at w first ≡ (first_part (rows_at w) (e - 1)).form
      first_is = ap (form_at w) (at ∙ able.right (e - 1) (omega arith))

      two_is : (r || second_moves c ids set (first_sort (sorts able)) dirs (form_at w first) (form_at w (e - 1))) ≡ asks e set
      unfolding moves_at
      two_is =
          ap (λ b. b || second_moves c ids set (first_sort (sorts able)) dirs (form_at w first) (form_at w (e - 1))) (part ∙ ap₂ (λ k d. moved_by c k ids d) first_is passed)
          ∙ ap₂ (λ d k. moved_by c (first_part (rows_at w) (e - 1)).form ids (pass_to false set (op able) 0) || second_moves c ids set (first_sort (sorts able)) d k (form_at w (e - 1))) to first_is
          ∙ two_here (rows_at w) (e - 1) (last_sound able) c ids set some_set small n m
          ∙ at_end

      pub first_moves : r ≡ true → true ≡ asks e set
      first_moves q = simp q at two_is

      pub plain_moves : {b : Bool} → r ≡ false → (first_sort (sorts able) ≡ 2 → ⊥) → b ≡ asks (e - 1) dirs → b ≡ asks e set
      unfolding moves_at
      plain_moves q k a = a ∙ simp (q, ne_eqb (first_sort (sorts able)) 2 k) at two_is

      pub over_moves : {b : Bool} → r ≡ false → first_sort (sorts able) ≡ 2 → b ≡ moves_over c w (e - 1) vars depth (members_in c ids set (form_at w first)) dirs → b ≡ asks e set
      over_moves q k a = a ∙ simp (q, eq-eqb (first_sort (sorts able)) 2 k) at two_is

-- the members at the end, as the batch has them
pub members_end : {c : Change} (w : Site) {events trace : List ℕ} → Traced c w.counts w.types w.objects w.links events trace → (e : ℕ) (vars : List ℕ) (depth set : ℕ) → members_of w e vars depth ≡ members_in c (ids_of w depth vars) set (form_at w e)
unfolding members_of
members_end {c} w traced e vars depth set = sym (ap₂ (λ ts g. meaning ts g (as_collection (form_at w e)) (ids_of w depth vars)) traced.seen.types_are traced.seen.end_is)
