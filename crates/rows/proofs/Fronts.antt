-- Words at the front of a list, and the first rows of a table as the words of each.
use Prim.Native.Nat.{ℕ, zero, suc, ◌+◌, ◌*◌, ◌≤◌, ◌<◌}
use mathlib.Core.Path.{◌≡◌, refl, sym, ap, ap₂, ◌∙◌}
use mathlib.Core.List.{List, ◌∷◌, ◌++◌, flat_map}
use native.Mathlib.Nat.{add-zero, zero-add, add-suc, suc-add, add_comm, suc-mul, zero-mul, add-mul}
use native.Mathlib.Omega.{arith}
use lib.ListN.{length, get_or, take, drop, length-append}
use borrow.Author.Tests.{le-leb, eq-eqb}
use lib.Seq.{take_at, drop-append-add, drop-drop, drop-cons, take-add}
use Rattle.rows.specs.Rows.{word_at, rows_from, read_rows, in_front, with_row}

-- a row that fits is put
pub row_put_lem : (t words : List ℕ) (width row : ℕ) → length words ≡ width → row * width + width ≤ length t
    → with_row t width row words ≡ take (row * width) t ++ words ++ drop (row * width + width) t
unfolding with_row
row_put_lem t words width row long room = rw (eq-eqb (length words) width long, le-leb (row * width + width) (length t) room)

-- words that follow those at the front
pub front_more : (front words list : List ℕ) (at size : ℕ) → at ≡ length front → size ≡ length words
    → take at (in_front front list) ++ words ++ drop (at + size) (in_front front list) ≡ in_front (front ++ words) list
front_more front words list at size p q =
    rw (p, q) (
    ap (λ l. l ++ words ++ drop (length front + length words) (in_front front list)) (take_at front (drop (length front) list) (length front) refl)
    ∙ ap (λ l. front ++ words ++ l) (drop-append-add front (drop (length front) list) (length words) ∙ drop-drop (length words) (length front) list ∙ ap (λ n. drop n list) (sym (length-append front words))))

-- the words from a on, one by one
pub words_from_lem : (t : List ℕ) (a j n : ℕ) → a + j + n ≤ length t → rows_from (λ k. get_or t (a + k) 0) j n ≡ take n (drop (a + j) t)
words_from_lem t a j zero h = refl
words_from_lem t a j (suc n) h =
    let here : a + j < length t = omega arith in
    let rest : rows_from (λ k. get_or t (a + k) 0) (suc j) n ≡ take n (drop (suc (a + j)) t) = rw add-suc at (words_from_lem t a (suc j) n (omega (arith, add-suc a j))) in
    ap (λ l. get_or t (a + j) 0 ∷ l) rest ∙ sym (rw (drop-cons t (a + j) 0 here))

-- ---- rows that are read, and written again

module _ {A : Type 0} (width : ℕ) (t : List ℕ) (row : ℕ → A) (columns : A → List ℕ) where
  pub rows_words_from : (i n : ℕ) → ((j : ℕ) → columns (row j) ≡ read_rows (word_at t width j) width) → (i + n) * width ≤ length t
      → flat_map columns (rows_from row i n) ≡ take (n * width) (drop (i * width) t)
  unfolding flat_map
  rows_words_from i zero back h = rw zero-mul
  rows_words_from i (suc n) back h =
      let lent : i * width + width + n * width ≤ length t = omega (arith, add-suc i n, suc-mul (i + n) width, add-mul i n width) in
      let one : columns (row i) ≡ take width (drop (i * width) t) = back i ∙ rw add-zero at (words_from_lem t (i * width) 0 width (omega arith)) in
      let rest : flat_map columns (rows_from row (suc i) n) ≡ take (n * width) (drop (i * width + width) t) =
      rw suc-mul at (rows_words_from (suc i) n back (rw (suc-add, ← add-suc) h)) in
      ap₂ ◌++◌ one rest
      ∙ ap (λ l. take width (drop (i * width) t) ++ take (n * width) l) (sym (drop-drop width (i * width) t))
      ∙ sym (take-add width (n * width) (drop (i * width) t))
      ∙ ap (λ k. take k (drop (i * width) t)) (add_comm width (n * width) ∙ sym (suc-mul n width))

  pub rows_words : (n : ℕ) → ((j : ℕ) → columns (row j) ≡ read_rows (word_at t width j) width) → n * width ≤ length t → flat_map columns (read_rows row n) ≡ take (n * width) t
  rows_words n back h = rw zero-mul at (rows_words_from 0 n back (rw zero-add h))
