-- What is covered of a form, by what is covered of the parts that the code went back from.
use Prim.Native.Nat.{ℕ, suc, ◌+◌, ◌-◌, ◌≤◌, ◌<◌}
use mathlib.Core.Path.{◌≡◌, sym, ap, subst, ◌∙◌}
use mathlib.Core.Bool.{Bool, false, ◌||◌, or-false}
use mathlib.Core.List.{List}
use native.Mathlib.Numerals.{add-one}
use native.Mathlib.Omega.{arith}
use lib.Dec.{T}
use lib.ListN.{get_or}
use borrow.Author.Tests.{eq-eqb, ne_eqb}
use Rattle.meaning.specs.Schema.{Schema}
use Rattle.meaning.specs.Reach.{Change, cell_moves}
use Rattle.tables.specs.Bodies.{as_collection, ending, first_part}
use Rattle.directions.specs.Sets.{some_of}
use Rattle.body_rows.specs.Marks.{first_sort, second_sort}
use Rattle.form_marks.proofs.Nodes.{pass_to, to_second}
use Rattle.walks.specs.Site.{Site, rows_at, form_at, code_at}
use Rattle.reach.specs.Able.{Able}
use Rattle.reach.proofs.Abilities.{whole, last_sound, op, sorts}
use Rattle.going_back.specs.Back.{leads_into, through_members, reached_by, leaf_reached, Covered}
use Rattle.row_sets.specs.Sets.{Sets, GrownBelow}
use Rattle.going_back.proofs.Covers.{covered_as, covered_then}
use Rattle.going_back.proofs.Nodes.{sum_reached, second_reached, leaf_here, one_here, two_here}

-- no direction, nothing reached
pub none_covers : (c : Change) (w : Site) (e depth : ℕ) {set : ℕ} {objects : List ℕ} {rows : ℕ} {sets : Sets} → set ≡ 0 → Covered (reached_by c (form_at w e) depth set) objects rows depth false sets
none_covers c w e depth q =
    covered_as (λ v u. ap (λ dirs. reached_by c (form_at w e) depth dirs v u) (sym q)) (record { each = λ still v l row h t. absurd (subst T (sym t) tt) })

module _ {S : Schema} {w : Site} {starts : List ℕ} {e : ℕ} {vars : List ℕ} {depth : ℕ} (able : Able S w starts e vars depth) (c : Change) (set : ℕ) (some_set : 0 < set) (small : set < 4) (objects : List ℕ) (rows : ℕ) where
  abbrev reach : ℕ → ℕ → ℕ → ℕ → Bool
  reach k dirs = reached_by c (form_at w k) depth dirs

  abbrev Cover : (ℕ → ℕ → Bool) → Bool → Sets → Type 0
  Cover f everything sets = Covered f objects rows depth everything sets

  -- the form that ends with the row is the one at the place
  at_end : (v u : ℕ) → reached_by c (ending (rows_at w) (suc (e - 1))).form depth set v u ≡ reach e set v u
  at_end v u = ap (λ k. reached_by c (form_at w k) depth set v u) (whole able)

  pub leaf_covers : {code x y : ℕ} {r : Bool} {s : Sets} → code ≡ code_at w e → x ≡ (rows_at w (e - 1)).x → y ≡ (rows_at w (e - 1)).y → second_sort (sorts able) ≡ 3
      → Cover (λ v u. some_of set (leaf_reached c code x y v u)) r s
      → Cover (reach e set) r s
  leaf_covers p q z h =
      covered_as (λ v u. (λ i. some_of set (leaf_reached c (p i) (q i) (z i) v u)) ∙ leaf_here (rows_at w) (e - 1) (last_sound able) c depth set some_set small v u h ∙ at_end v u)

  module _ (n : second_sort (sorts able) ≡ 3 → ⊥) {dirs : ℕ} (to : dirs ≡ to_second c.schema set (op able) (code_at w e) (rows_at w (e - 1)) (form_at w (e - 1))) where
    -- ---- one part

    module _ (f : first_sort (sorts able) ≡ 3) {r : Bool} {s : Sets} (still : r ≡ false) (part : Cover (reach (e - 1) dirs) r s) where
      one_is : (v u : ℕ) → (reach (e - 1) dirs v u || sum_reached c depth set v u (code_at w e) (rows_at w (e - 1)).x (form_at w (e - 1))) ≡ reach e set v u
      one_is v u =
          ap (λ k. reach (e - 1) k v u || sum_reached c depth set v u (code_at w e) (rows_at w (e - 1)).x (form_at w (e - 1))) to
          ∙ one_here (rows_at w) (e - 1) (last_sound able) c depth set some_set small v u n f
          ∙ at_end v u

      pub one_covers : {code : ℕ} → code ≡ code_at w e → (code ≡ 17 → ⊥) → Cover (reach e set) false s
      one_covers k other =
          covered_as (λ v u. sym (or-false (reach (e - 1) dirs v u)) ∙ simp (ne_eqb (code_at w e) 17 (λ z. other (k ∙ z))) at (one_is v u))
          (subst (λ b. Cover (reach (e - 1) dirs) b s) still part)

      pub sum_covers : {code x : ℕ} {b : Bool} {t : Sets} → rows ≤ 1024 → code ≡ code_at w e → code ≡ 17 → x ≡ (rows_at w (e - 1)).x → GrownBelow depth s t
          → Cover (leads_into c (as_collection (form_at w (e - 1))) (λ y. cell_moves c y x)) b t
          → Cover (reach e set) b t
      sum_covers few k is field grown sums =
          covered_as
          (λ v u. ap (λ x. reach (e - 1) dirs v u || leads_into c (as_collection (form_at w (e - 1))) (λ y. cell_moves c y x) v u) field ∙ simp (eq-eqb (code_at w e) 17 (sym k ∙ is)) at (one_is v u))
          (covered_then few still part grown sums)

    -- ---- two parts

    module _ (m : first_sort (sorts able) ≡ 3 → ⊥) {first to_first : ℕ} (at : first ≡ get_or starts (e - 1) 0) (passed : to_first ≡ pass_to false set (op able) 0) {r : Bool} {s t : Sets}
        (few : rows ≤ 1024) (still : r ≡ false) (part : Cover (reach first to_first) r s) (grown : GrownBelow depth s t) where
      -- the first part ends where the second starts
      first_is : form_at w first ≡ (first_part (rows_at w) (e - 1)).form
      first_is = ap (form_at w) (at ∙ able.right (e - 1) (omega arith))

      two_is : (v u : ℕ) → (reach first to_first v u || second_reached c depth set v u (first_sort (sorts able)) dirs (form_at w first) (form_at w (e - 1))) ≡ reach e set v u
      two_is v u =
          (λ i. reached_by c (first_is i) depth (passed i) v u || second_reached c depth set v u (first_sort (sorts able)) (to i) (first_is i) (form_at w (e - 1)))
          ∙ two_here (rows_at w) (e - 1) (last_sound able) c depth set some_set small v u n m
          ∙ at_end v u

      pub plain_covers : {b : Bool} → (first_sort (sorts able) ≡ 2 → ⊥) → Cover (reach (e - 1) dirs) b t → Cover (reach e set) b t
      plain_covers k second = covered_as (λ v u. simp (ne_eqb (first_sort (sorts able)) 2 k) at (two_is v u)) (covered_then few still part grown second)

      pub over_covers : {b : Bool} → first_sort (sorts able) ≡ 2 → Cover (through_members c (as_collection (form_at w first)) depth (reached_by c (form_at w (e - 1)) (depth + 1) dirs)) b t → Cover (reach e set) b t
      over_covers k second =
          covered_as
          (λ v u. ap (λ d. reach first to_first v u || through_members c (as_collection (form_at w first)) depth (reached_by c (form_at w (e - 1)) d dirs) v u) (add-one depth) ∙ simp (eq-eqb (first_sort (sorts able)) 2 k) at (two_is v u))
          (covered_then few still part grown second)
