-- The bits of a word that are set rule by rule are the rules that pass a test.
use Prim.Native.Nat.{ℕ, zero, suc, ◌+◌, ◌%◌, ◌^◌, ◌≤◌}
use mathlib.Core.Path.{◌≡◌, refl, sym, ap, ap₂, ◌∙◌}
use mathlib.Core.Bool.{Bool, true, false, ◌&&◌, ◌||◌, cond, or-false, and-true, and-false}
use mathlib.Core.List.{[], ◌∷◌}
use native.Mathlib.Nat.{zero-div}
use native.Mathlib.Omega.{arith}
use borrow.Author.Tests.{lt-ltb, le-ltb, ltb-true, ltb-false, eqb-true, eqb-false}
use lib.Dec.{ltb, eqb}
use Rattle.meaning.specs.Lists.{keep}
use Rattle.rows.specs.Rows.{rows_from, read_rows}
use Rattle.bits.specs.Bits.{bit_at, numbers_from, bits_in}

module _ (p : ℕ → Bool) where
  -- the word has the bits of those below the end that pass
  pub record SetBelow (word end : ℕ) : Type 0 where
    pub bit : (j : ℕ) → bit_at word j ≡ (ltb j end && p j)

  pub set_none : SetBelow 0 0
  unfolding bit_at
  set_none = record { bit = λ j. ap (λ w. eqb (w % 2) 1) (zero-div (2 ^ j)) ∙ sym (ap (λ b. b && p j) (le-ltb j 0 (omega arith))) }

  -- ---- one number more

  module _ (end : ℕ) (set : Bool) (passes : p end ≡ set) where
    one_more : (j : ℕ) (b : Bool) → eqb end j ≡ b → ((ltb j end && p j) || (set && eqb end j)) ≡ (ltb j (end + 1) && p j)
    one_more j true e =
        let own : end ≡ j = eqb-true end j e in
        ap₂ (λ x y. (x && p j) || (set && y)) (le-ltb j end (omega arith)) e
        ∙ and-true set
        ∙ sym passes
        ∙ ap p own
        ∙ sym (ap (λ x. x && p j) (lt-ltb j (end + 1) (omega arith)))
    one_more j false e =
        ap (λ y. (ltb j end && p j) || y) (ap (λ y. set && y) e ∙ and-false set)
        ∙ or-false (ltb j end && p j)
        ∙ ap (λ x. x && p j) (other (ltb j end) refl)
      where
        other : (b : Bool) → ltb j end ≡ b → ltb j end ≡ ltb j (end + 1)
        other true h = let less = ltb-true j end h in h ∙ sym (lt-ltb j (end + 1) (omega arith))
        other false h =
            let past = ltb-false j end h in
            let apart = eqb-false end j e in
            h ∙ sym (le-ltb j (end + 1) (omega arith))

    pub set_next : {word word' : ℕ} → SetBelow word end → ((j : ℕ) → bit_at word' j ≡ (bit_at word j || (set && eqb end j))) → SetBelow word' (end + 1)
    set_next now put = record { bit = λ j. put j ∙ ap (λ x. x || (set && eqb end j)) (now.bit j) ∙ one_more j (eqb end j) refl }

  -- ---- all of them

  abbrev test : ℕ → ℕ → Bool
  test end j = ltb j end && p j

  none_kept : (end base d : ℕ) → end ≤ base → keep (test end) (numbers_from base d) ≡ []
  none_kept end base zero h = refl
  none_kept end base (suc d) h = rw (le-ltb base end h) (none_kept end (suc base) d (omega arith))

  all_kept : (end base d k : ℕ) → end ≡ base + k → k ≤ d → keep (test end) (numbers_from base d) ≡ keep p (rows_from (λ i. i) base k)
  all_kept end base d zero e h = none_kept end base d (omega arith)
  all_kept end base zero (suc k) e h = absurd (omega arith)
  all_kept end base (suc d) (suc k) e h =
      ap₂ (λ b l. cond (b && p base) (base ∷ l) l) (lt-ltb base end (omega arith)) (all_kept end (suc base) d k (omega arith) (omega arith))

  pub set_all : (word end : ℕ) → end ≤ 32 → SetBelow word end → bits_in word ≡ keep p (read_rows (λ i. i) end)
  unfolding bits_in
  set_all word end h now = ap (λ t. keep t (numbers_from 0 32)) (λ i j. now.bit j i) ∙ all_kept end 0 32 end (omega arith) h
