-- The cells of an object's row: a word is a signed number of 32 bits, and is 0 where that number is.
use Prim.Native.Nat.{ℕ, zero, suc, ◌+◌, ◌-◌, ◌^◌, ◌≤◌, ◌<◌}
use mathlib.Core.Path.{◌≡◌, refl, sym, ap, subst, ◌∙◌}
use mathlib.Core.Logic.{⊎_elim}
use mathlib.Core.Bool.{Bool, true, false, ◌&&◌, not, cond}
use mathlib.Core.List.{List}
use native.Mathlib.Numerals.{add-one}
use native.Mathlib.Omega.{arith}
use lib.Dec.{T, ltb, eqb}
use lib.IntN.{ℤ, pos, negsuc}
use lib.Signed.{mag}
use lib.ListN.{length, drop, get_or, drop_of_length-le}
use lib.Seq.{drop-cons}
use mir.Facts.{ltb_yes, ltb_no, yes_ltb}
use borrow.Author.Tests.{lt-ltb, lt-leb, eq-eqb, ne_eqb}
use Rattle.meaning.specs.Lists.{every}
use Rattle.meaning.specs.Limits.{fits_word, cell_count}
use Rattle.meaning.specs.Schema.{ObjectType, cells_of}
use Rattle.meaning.specs.Register.{is_zero, cells_fit, negative}
use Rattle.meaning.proofs.Lists.{decide, cond_yes}
use Rattle.rows.specs.Rows.{word_at, rows_from, read_rows, signed}
use Rattle.rows.proofs.Words.{signed_fits}
use Rattle.tables.specs.Columns.{object_row}
use Rattle.signed.proofs.Signed.{signed_low, signed_high}
use Rattle.schema.proofs.Rows.{length_rows, row_used}
use Rattle.register.specs.Tables.{cell_word}

-- which of the two a word is
signs : (P : ℤ → Type 0) (w : ℕ) → (w < 2 ^ 31 → P (pos w)) → (2 ^ 31 ≤ w → P (negsuc (2 ^ 32 - 1 - w))) → P (signed w)
signs P w f g =
    ⊎_elim
    (λ (t : T (ltb w (2 ^ 31))). subst P (sym (signed_low w (ltb_yes t))) (f (ltb_yes t)))
    (λ (t : T (not (ltb w (2 ^ 31)))). subst P (sym (signed_high w (ltb_no t))) (g (ltb_no t)))
    (decide (ltb w (2 ^ 31)))

zero_pos : (w : ℕ) → is_zero (pos w) ≡ eqb w 0
zero_pos zero = refl
zero_pos (suc w) = rw (lt-leb (suc w) 0 (omega arith), ne_eqb (suc w) 0 (omega arith))

signed_zero : (w : ℕ) → is_zero (signed w) ≡ eqb w 0
signed_zero w = signs (λ z. is_zero z ≡ eqb w 0) w (λ h. zero_pos w) (λ h. sym (ne_eqb w 0 (omega arith)))

module _ (read : ℕ → ℕ) where
  abbrev cells : ℕ → List ℤ
  cells n = read_rows (λ k. signed (read k)) n

  from_fit : (j n : ℕ) → every fits_word (rows_from (λ k. signed (read k)) j n) ≡ true
  unfolding fits_word
  from_fit j zero = refl
  from_fit j (suc n) = rw (lt-ltb (mag (signed (read j))) (2 ^ 31) (signed_fits (read j))) (from_fit (suc j) n)

  module _ (n : ℕ) where
    zero_end : {k : ℕ} → n ≤ k → every is_zero (drop k (cells n)) ≡ true
    zero_end {k} h =
        let long : length (cells n) ≤ k = omega (arith, length_rows (λ k. signed (read k)) n) in
        ap (every is_zero) (drop_of_length-le (cells n) long)

    zero_step : {k : ℕ} → k < n → every is_zero (drop k (cells n)) ≡ (eqb (read k) 0 && every is_zero (drop (k + 1) (cells n)))
    zero_step {k} h =
        let short : k < length (cells n) = omega (arith, length_rows (λ k. signed (read k)) n) in
        let head : get_or (cells n) k (pos 0) ≡ signed (read k) = row_used (λ k. signed (read k)) (λ z. z) n k (pos 0) ∙ cond_yes (ltb k n) (signed (read k)) (pos 0) (yes_ltb h) in
        ap (every is_zero) (drop-cons (cells n) k (pos 0) short) ∙ rw (head, signed_zero (read k), add-one)

module _ (objects : List ℕ) (i : ℕ) where
  -- the cells of a row are eight, each of 32 bits
  pub row_cells : (types : List ObjectType) → cells_fit types (object_row objects i) ≡ every is_zero (drop (cells_of types (object_row objects i).type) (object_row objects i).cells)
  unfolding cells_fit object_row
  row_cells types = rw (from_fit (λ k. word_at objects 10 i (2 + k)) 0 cell_count)

  pub cells_end : {k : ℕ} → cell_count ≤ k → every is_zero (drop k (object_row objects i).cells) ≡ true
  unfolding object_row
  cells_end h = zero_end (λ k. word_at objects 10 i (2 + k)) cell_count h

  cells_step : {k : ℕ} → k < cell_count → every is_zero (drop k (object_row objects i).cells) ≡ (eqb (cell_word objects i k) 0 && every is_zero (drop (k + 1) (object_row objects i).cells))
  unfolding object_row cell_word
  cells_step {k} h = rw (lt-ltb k cell_count h) (zero_step (λ k. word_at objects 10 i (2 + k)) cell_count h)

  -- w is the word in the cell
  module _ {k w : ℕ} (e : w ≡ cell_word objects i k) (h : k < cell_count) where
    pub cells_used : (w ≡ 0 → ⊥) → every is_zero (drop k (object_row objects i).cells) ≡ false
    cells_used d = cells_step h ∙ rw (← e, ne_eqb _ _ d)

    pub cells_on : w ≡ 0 → every is_zero (drop k (object_row objects i).cells) ≡ every is_zero (drop (k + 1) (object_row objects i).cells)
    cells_on q = cells_step h ∙ rw (← e, eq-eqb _ _ q)

  -- the value of a cell is its word's, and 0 where there is none
  pub cell_value : (k : ℕ) → signed (cell_word objects i k) ≡ get_or (object_row objects i).cells k (pos 0)
  unfolding object_row cell_word
  cell_value k = step (ltb k cell_count) ∙ sym (row_used (λ k. signed (word_at objects 10 i (2 + k))) (λ z. z) cell_count k (pos 0))
    where
      step : (b : Bool) → signed (cond b (word_at objects 10 i (2 + k)) 0) ≡ cond b (signed (word_at objects 10 i (2 + k))) (pos 0)
      step true = refl
      step false = refl

  -- it is below 0 where its word says so
  pub cell_negative : (k : ℕ) {w : ℕ} {b : Bool} → w ≡ cell_word objects i k → b ≡ negative (signed w) → b ≡ negative (get_or (object_row objects i).cells k (pos 0))
  cell_negative k e f = f ∙ ap (λ w. negative (signed w)) e ∙ ap negative (cell_value k)
