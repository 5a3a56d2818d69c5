-- The rows of a table as a list, after a row is put in at its key's place, taken out, or changed.
use Prim.Native.Nat.{ℕ, zero, suc, ◌+◌, ◌≤◌, ◌<◌, zero-le}
use mathlib.Core.Path.{◌≡◌, refl, sym, ap, ap₂, subst, ◌∙◌}
use mathlib.Core.Logic.{⊎_elim}
use mathlib.Core.Bool.{Bool, not}
use mathlib.Core.List.{List, [], ◌∷◌, ◌++◌, map}
use native.Mathlib.Nat.{le_refl, eq-or-lt_of_le}
use native.Mathlib.Omega.{arith}
use lib.Dec.{T}
use lib.ListN.{take, replicate, set}
use mir.Facts.{not_T}
use Rattle.meaning.specs.Lists.{before, keep, put_in_order}
use Rattle.meaning.proofs.Lists.{cond_yes, cond_no, not_not}
use Rattle.meaning.proofs.Order.{before_irreflexive, before_transitive}
use Rattle.rows.specs.Rows.{rows_from, read_rows}

module _ {A : Type 0} (read read' : ℕ → A) where
  -- rows that are read alike
  pub rows_map : (f : A → A) (j n : ℕ) → ((i : ℕ) → j ≤ i → i < j + n → read' i ≡ f (read i)) → rows_from read' j n ≡ map f (rows_from read j n)
  rows_map f j zero same = refl
  rows_map f j (suc n) same =
      ap₂ ◌∷◌ (same j (le_refl j) (omega arith)) (rows_map f (suc j) n (λ i l h. same i (omega arith) (omega arith)))

  pub rows_same : (j n : ℕ) → ((i : ℕ) → j ≤ i → i < j + n → read' i ≡ read i) → rows_from read' j n ≡ rows_from read j n
  rows_same j zero same = refl
  rows_same j (suc n) same =
      ap₂ ◌∷◌ (same j (le_refl j) (omega arith)) (rows_same (suc j) n (λ i l h. same i (omega arith) (omega arith)))

  -- rows that stand one row on
  pub rows_on : (j n : ℕ) → ((i : ℕ) → j ≤ i → i < j + n → read' (suc i) ≡ read i) → rows_from read' (suc j) n ≡ rows_from read j n
  rows_on j zero same = refl
  rows_on j (suc n) same =
      ap₂ ◌∷◌ (same j (le_refl j) (omega arith)) (rows_on (suc j) n (λ i l h. same i (omega arith) (omega arith)))

module _ {A : Type 0} (read read' : ℕ → A) (r count : ℕ) (lower : (i : ℕ) → i < r → read' i ≡ read i) where
  -- ---- put in at row r, the place of x's key

  module _
      (key : A → List ℕ)
      (x : A)
      (own : read' r ≡ x)
      (upper : (i : ℕ) → r ≤ i → i < count → read' (suc i) ≡ read i)
      (below : (i : ℕ) → i < r → T (before (key (read i)) (key x)))
      (above : r < count → T (before (key x) (key (read r))))
    where
      place_from_lem : (j n : ℕ) → j ≤ r → r ≤ j + n → j + n ≡ count → put_in_order key x (rows_from read j n) ≡ rows_from read' j (suc n)
      place_from_lem j zero l h e =
          let here : j ≡ r = omega arith in
          ap (λ y. y ∷ []) (sym own ∙ ap read' (sym here))
      place_from_lem j (suc n) l h e =
          ⊎_elim here (λ q. there q (place_from_lem (suc j) n q (omega arith) (omega arith))) (eq-or-lt_of_le l)
        where
          here : j ≡ r → put_in_order key x (rows_from read j (suc n)) ≡ rows_from read' j (suc (suc n))
          here q =
              let t : T (before (key x) (key (read j))) = subst (λ i. T (before (key x) (key (read i)))) (sym q) (above (omega arith)) in
              cond_yes (before (key x) (key (read j))) _ _ t
              ∙ ap₂ ◌∷◌ (sym own ∙ ap read' (sym q)) (sym (rows_on read read' j (suc n) (λ i b k. upper i (omega arith) (omega arith))))

          there : j < r → put_in_order key x (rows_from read (suc j) n) ≡ rows_from read' (suc j) (suc n) → put_in_order key x (rows_from read j (suc n)) ≡ rows_from read' j (suc (suc n))
          there q rest =
              let t = below j q in
              let back : T (not (before (key x) (key (read j)))) =
              not_T (before (key x) (key (read j)))
              (λ u. before_irreflexive (key x) (before_transitive (key x) (key (read j)) (key x) u t)) in
              cond_no (before (key x) (key (read j))) _ _ back ∙ cond_yes (before (key (read j)) (key x)) _ _ t
              ∙ ap₂ ◌∷◌ (sym (lower j q)) rest

      pub rows_placed : r ≤ count → put_in_order key x (read_rows read count) ≡ read_rows read' (suc count)
      rows_placed h = place_from_lem 0 count zero-le (omega arith) (omega arith)

  -- ---- row r taken out, which alone passes the test

  module _
      (hit : A → Bool)
      (upper : (i : ℕ) → r ≤ i → suc i < count → read' i ≡ read (suc i))
      (own : T (hit (read r)))
      (others : (i : ℕ) → i < count → (i ≡ r → ⊥) → T (not (hit (read i))))
    where
      keep_all : (j n : ℕ) → r < j → j + n ≡ count → keep (λ x. not (hit x)) (rows_from read j n) ≡ rows_from read j n
      keep_all j zero l e = refl
      keep_all j (suc n) l e =
          cond_yes (not (hit (read j))) _ _ (others j (omega arith) (λ q. absurd (omega arith)))
          ∙ ap (λ k. read j ∷ k) (keep_all (suc j) n (omega arith) (omega arith))

      keep_here : (j n : ℕ) → j ≡ r → j + suc n ≡ count → keep (λ x. not (hit x)) (rows_from read j (suc n)) ≡ rows_from read' j n
      keep_here j n q e =
          cond_no (not (hit (read j))) _ _ (not_not (hit (read j)) (subst (λ i. T (hit (read i))) (sym q) own))
          ∙ keep_all (suc j) n (omega arith) (omega arith)
          ∙ rows_on read' read j n (λ i c k. sym (upper i (omega arith) (omega arith)))

      keep_from : (j n : ℕ) → j ≤ r → j + suc n ≡ count → r < count → keep (λ x. not (hit x)) (rows_from read j (suc n)) ≡ rows_from read' j n
      keep_from j zero l e b = keep_here j zero (omega arith) e
      keep_from j (suc n) l e b =
          ⊎_elim (λ q. keep_here j (suc n) q e) (λ q. there q (keep_from (suc j) n q (omega arith) b)) (eq-or-lt_of_le l)
        where
          there : j < r → keep (λ x. not (hit x)) (rows_from read (suc j) (suc n)) ≡ rows_from read' (suc j) n → keep (λ x. not (hit x)) (rows_from read j (suc (suc n))) ≡ rows_from read' j (suc n)
          there q rest =
              cond_yes (not (hit (read j))) _ _ (others j (omega arith) (λ z. absurd (omega arith))) ∙ ap₂ ◌∷◌ (sym (lower j q)) rest

      pub rows_without : (left : ℕ) → suc left ≡ count → r < count → keep (λ x. not (hit x)) (read_rows read count) ≡ read_rows read' left
      rows_without left e h = subst (λ n. keep (λ x. not (hit x)) (read_rows read n) ≡ read_rows read' left) e (keep_from 0 left zero-le (omega arith) h)

-- ---- values of one row's columns, changed

module _ {A : Type 0} (read read' : ℕ → A) where
  -- one of them
  pub rows_set : (x : A) (k j n : ℕ) → k < n → read' (j + k) ≡ x → ((i : ℕ) → j ≤ i → (i ≡ j + k → ⊥) → read' i ≡ read i) → rows_from read' j n ≡ set (rows_from read j n) k x
  rows_set x k j zero h own same = absurd (omega arith)
  rows_set x zero j (suc n) h own same =
      ap₂ ◌∷◌ (ap read' (omega arith) ∙ own) (rows_same read read' (suc j) n (λ i l b. same i (omega arith) (λ e. omega arith)))
  rows_set x (suc k) j (suc n) h own same =
      ap₂ ◌∷◌ (same j (le_refl j) (λ e. omega arith))
      (rows_set x k (suc j) n (omega arith) (ap read' (omega arith) ∙ own) (λ i l d. same i (omega arith) (λ e. d (omega arith))))

  -- those from one on
  pub rows_cleared : (z : A) (m d j n : ℕ) → n ≡ m + d → ((i : ℕ) → j ≤ i → i < j + m → read' i ≡ read i) → ((i : ℕ) → j + m ≤ i → i < j + n → read' i ≡ z)
      → rows_from read' j n ≡ take m (rows_from read j n) ++ replicate d z
  rows_cleared z zero zero j zero e low high = refl
  rows_cleared z zero (suc d) j zero e low high = absurd (omega arith)
  rows_cleared z zero zero j (suc n) e low high = absurd (omega arith)
  rows_cleared z zero (suc d) j (suc n) e low high =
      ap₂ ◌∷◌ (high j (omega arith) (omega arith))
      (rows_cleared z zero d (suc j) n (omega arith) (λ i l b. absurd (omega arith)) (λ i l b. high i (omega arith) (omega arith)))
  rows_cleared z (suc m) d j zero e low high = absurd (omega arith)
  rows_cleared z (suc m) d j (suc n) e low high =
      ap₂ ◌∷◌ (low j (le_refl j) (omega arith))
      (rows_cleared z m d (suc j) n (omega arith) (λ i l b. low i (omega arith) (omega arith)) (λ i l b. high i (omega arith) (omega arith)))
