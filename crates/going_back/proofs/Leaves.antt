-- What is reached from a form without parts is covered, by its code.
use Prim.Native.Nat.{ℕ, ◌<◌}
use mathlib.Core.Path.{◌≡◌, sym, ap, subst, ◌∙◌}
use mathlib.Core.Bool.{Bool, true, false, ◌&&◌, ◌||◌}
use mathlib.Core.List.{List}
use lib.Dec.{T, eqb}
use borrow.Author.Tests.{eqb-true}
use Rattle.meaning.specs.Reach.{Change, Direction, up, down, role_moves, all_moves, cell_moves, kind_moves, specialised}
use Rattle.directions.specs.Sets.{has, some_of}
use Rattle.walks.specs.Site.{id_in}
use Rattle.trace_places.specs.Questions.{asked, cell_set, joined_by, parted_by, specialised_into, generalised_from}
use Rattle.reach.proofs.Leaves.{asked_set, asked_joined, asked_parted, asked_specialised, asked_generalised}
use Rattle.reach.proofs.Nodes.{always}
use Rattle.going_back.specs.Back.{leaf_reached, Covered}
use Rattle.row_sets.specs.Sets.{Sets, in_set}
use Rattle.row_sets.proofs.Tests.{both_true, and_more, or_more}
use Rattle.going_back.proofs.Nodes.{some_and}
use Rattle.going_back.proofs.Covers.{covered_as}

module _ (c : Change) (x y set : ℕ) (some_set : 0 < set) (small : set < 4) (objects : List ℕ) (rows depth : ℕ) (sets : Sets) where
  abbrev Reached : ℕ → Bool → Type 0
  Reached k everything = Covered (λ v u. some_of set (leaf_reached c k x y v u)) objects rows depth everything sets

  -- with the code as it was read
  coded : {code k : ℕ} {everything : Bool} → code ≡ k → Reached k everything → Reached code everything
  coded e r = covered_as (λ v u. ap (λ k. some_of set (leaf_reached c k x y v u)) (sym e)) r

  -- what is in the set of variable x
  abbrev Put : (ℕ → Bool) → Type 0
  Put put = (row : ℕ) → row < rows → put (id_in objects row) ≡ true → in_set sets x row ≡ true

  at_variable : (m : ℕ → Bool) → Put m → Covered (λ v u. eqb v x && m u) objects rows depth false sets
  at_variable m put =
      record {
        each = λ e v l row h t.
            let p = both_true (eqb v x) (m (id_in objects row)) t in
            ap (λ w. in_set sets w row) (eqb-true v x p.0) ∙ put row h p.1;
      }

  -- of what is gained, and of what is lost
  both_ways : (m : ℕ → Direction → Bool) (gained lost : ℕ → Bool) → ((u : ℕ) → m u up ≡ true → gained u ≡ true) → ((u : ℕ) → m u down ≡ true → lost u ≡ true)
      → Put (λ u. (has set up && gained u) || (has set down && lost u))
      → Covered (λ v u. some_of set (λ d. eqb v x && m u d)) objects rows depth false sets
  both_ways m gained lost f g put =
      covered_as (λ v u. sym (some_and c set small (eqb v x) (m u)))
      (at_variable (λ u. some_of set (m u)) (λ row h t. let u = id_in objects row in put row h (or_more (has set up && m u up) (has set down && m u down) (and_more (has set up) (f u)) (and_more (has set down) (g u)) t)))

  pub leaf_all : {code : ℕ} {r : Bool} → code ≡ 21 → r ≡ some_of set (all_moves c x) → Reached code r
  unfolding leaf_reached
  leaf_all e q = coded e (record { each = λ still v l row h t. absurd (subst T (sym t ∙ sym q ∙ still) tt) })

  pub leaf_num : {code : ℕ} → code ≡ 14 → Reached code false
  unfolding leaf_reached
  leaf_num e = coded e (record { each = λ still v l row h t. absurd (subst T (sym t ∙ always set false some_set small) tt) })

  pub leaf_cell : {code : ℕ} → code ≡ 15 → Put (asked c (cell_set y)) → Reached code false
  unfolding leaf_reached
  leaf_cell e put =
      coded e
      (covered_as (λ v u. sym (always set (eqb v x && cell_moves c u y) some_set small)) (at_variable (λ u. cell_moves c u y) (λ row h t. put row h (asked_set c (id_in objects row) y ∙ t))))

  pub leaf_role : {code : ℕ} → code ≡ 20 → Put (λ u. (has set up && asked c (joined_by y) u) || (has set down && asked c (parted_by y) u)) → Reached code false
  unfolding leaf_reached
  leaf_role e put =
      coded e (both_ways (role_moves c y) (asked c (joined_by y)) (asked c (parted_by y)) (λ u t. asked_joined c u y ∙ t) (λ u t. asked_parted c u y ∙ t) put)

  -- of a special, whether its object is there at the end is not asked
  pub leaf_kind : {code : ℕ} → code ≡ 13 → Put (λ u. (has set up && asked c (specialised_into y) u) || (has set down && asked c (generalised_from y) u)) → Reached code false
  unfolding leaf_reached kind_moves
  leaf_kind e put =
      coded e
      (both_ways (λ u. kind_moves c u y) (asked c (specialised_into y)) (asked c (generalised_from y)) (λ u t. asked_specialised c u y ∙ (both_true (specialised c u y) _ t).0) (λ u t. asked_generalised c u y ∙ t) put)
