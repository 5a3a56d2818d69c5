-- The directions of a part by its form's, from the entries of the table.
use Prim.Native.Nat.{ℕ, zero, suc, ◌+◌, ◌*◌, ◌<◌}
use mathlib.Core.Path.{◌≡◌, refl, sym, ap, ◌∙◌}
use mathlib.Core.Bool.{Bool, cond}
use mathlib.Core.List.{List, [], ◌∷◌, ◌++◌}
use mathlib.Core.Option.{Option, none, some}
use native.Mathlib.Omega.{arith}
use lib.Bits.{bit_or}
use lib.Dec.{T, ltb, lit<}
use lib.ListN.{get_or}
use mir.Facts.{and_yes, ltb_yes}
use Rattle.meaning.specs.Lists.{every}
use Rattle.meaning.specs.Reach.{up, down, Passing, same, reversed, either}
use Rattle.tables.specs.Codes.{Operator, operator_of}
use Rattle.direction_table.specs.Entries.{first_passing, second_passing, entry_of, form_row, form_number, rule_table}
use Rattle.direction_table.proofs.Rules.{rules_at}
use Rattle.directions.specs.Sets.{holds_one, passed}
use Rattle.directions.specs.Passes.{passed_by, sets_of, pass_row}

-- a part's directions stand in its four of a row, by the set
sets_at : (p : Option Passing) (more : List ℕ) (set : ℕ) → set < 4 → get_or (sets_of p ++ more) set 0 ≡ passed_by p set
sets_at p more zero h = refl
sets_at p more (suc zero) h = refl
sets_at p more (suc (suc zero)) h = refl
sets_at p more (suc (suc (suc zero))) h = refl
sets_at p more (suc (suc (suc (suc set)))) h = absurd (omega arith)

module _ (floored : Bool) (o : Operator) (set : ℕ) (small : set < 4) where
  first_at : get_or (pass_row floored o) (0 * 4 + set) 0 ≡ passed_by (first_passing o) set
  first_at =
      let at : 0 * 4 + set ≡ set = omega arith in
      ap (λ i. get_or (pass_row floored o) i 0) at ∙ sets_at (first_passing o) (sets_of (second_passing floored o)) set small

  second_at : get_or (pass_row floored o) (1 * 4 + set) 0 ≡ passed_by (second_passing floored o) set
  second_at =
      let at : 1 * 4 + set ≡ suc (suc (suc (suc set))) = omega arith in
      ap (λ i. get_or (pass_row floored o) i 0) at ∙ sets_at (second_passing floored o) [] set small

  pub first_passed : (p : Passing) → first_passing o ≡ some p → get_or (pass_row floored o) (0 * 4 + set) 0 ≡ passed p set
  first_passed p e = first_at ∙ ap (λ q. passed_by q set) e

  pub second_passed : (p : Passing) → second_passing floored o ≡ some p → get_or (pass_row floored o) (1 * 4 + set) 0 ≡ passed p set
  second_passed p e = second_at ∙ ap (λ q. passed_by q set) e

-- The entries of the directions in a set, put together.
entries_passed : (p : Option Passing) (set : ℕ) → set < 4 → bit_or (cond (holds_one set 1) (entry_of p up) 0) (cond (holds_one set 2) (entry_of p down) 0) ≡ passed_by p set
entries_passed none zero h = refl
entries_passed none (suc zero) h = refl
entries_passed none (suc (suc zero)) h = refl
entries_passed none (suc (suc (suc zero))) h = refl
entries_passed (some same) zero h = refl
entries_passed (some same) (suc zero) h = refl
entries_passed (some same) (suc (suc zero)) h = refl
entries_passed (some same) (suc (suc (suc zero))) h = refl
entries_passed (some reversed) zero h = refl
entries_passed (some reversed) (suc zero) h = refl
entries_passed (some reversed) (suc (suc zero)) h = refl
entries_passed (some reversed) (suc (suc (suc zero))) h = refl
entries_passed (some either) zero h = refl
entries_passed (some either) (suc zero) h = refl
entries_passed (some either) (suc (suc zero)) h = refl
entries_passed (some either) (suc (suc (suc zero))) h = refl
entries_passed p (suc (suc (suc (suc set)))) h = absurd (omega arith)

-- The entries that are asked for, at the number of a form and of its part, are the directions of the part.
pub asked_passed : (code : ℕ) (floored : Bool) (part set : ℕ) {form : ℕ} → form ≡ form_number code floored → (o : Operator) → (code < 23) × (part < 2) × (set < 4) → operator_of code ≡ some o
    → bit_or (cond (holds_one set 1) (get_or (get_or rule_table form []) (part * 2 + 0) 0) 0) (cond (holds_one set 2) (get_or (get_or rule_table form []) (part * 2 + 1) 0) 0)
    ≡ get_or (pass_row floored o) (part * 4 + set) 0
asked_passed code floored part set {form} numbered o (low, two, four) e =
    ap (λ row. put row part) (ap (λ k. get_or rule_table k []) numbered ∙ rules_at code floored o low e) ∙ of_part part two
  where
    put : List ℕ → ℕ → ℕ
    put row i = bit_or (cond (holds_one set 1) (get_or row (i * 2 + 0) 0) 0) (cond (holds_one set 2) (get_or row (i * 2 + 1) 0) 0)

    of_part : (i : ℕ) → i < 2 → put (form_row floored o) i ≡ get_or (pass_row floored o) (i * 4 + set) 0
    of_part zero h = entries_passed (first_passing o) set four ∙ sym (first_at floored o set four)
    of_part (suc zero) h = entries_passed (second_passing floored o) set four ∙ sym (second_at floored o set four)
    of_part (suc (suc i)) h = absurd (omega arith)

-- what is passed is a set of directions again
small : List ℕ → Bool
small l = every (λ w. ltb w 4) l

small_at : (l : List ℕ) → T (small l) → (i : ℕ) → get_or l i 0 < 4
unfolding small
small_at [] t i = lit< tt
small_at (w ∷ l) t zero = ltb_yes (and_yes (ltb w 4) (small l) t).0
small_at (w ∷ l) t (suc i) = small_at l (and_yes (ltb w 4) (small l) t).1 i

small_sets : (p : Option Passing) (l : List ℕ) → T (small l) → T (small (sets_of p ++ l))
unfolding small
small_sets none l t = t
small_sets (some same) l t = t
small_sets (some reversed) l t = t
small_sets (some either) l t = t

pub pass_small : (floored : Bool) (o : Operator) (part set : ℕ) → get_or (pass_row floored o) (part * 4 + set) 0 < 4
unfolding small
pass_small floored o part set = small_at (pass_row floored o) (small_sets (first_passing o) (sets_of (second_passing floored o)) (small_sets (second_passing floored o) [] tt)) (part * 4 + set)
