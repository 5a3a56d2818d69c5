-- The first rows of a list: one more, and those that were written there.
use Prim.Native.Nat.{ℕ, zero, suc, ◌+◌, ◌*◌, ◌≤◌, ◌<◌}
use mathlib.Core.Path.{◌≡◌, refl, sym, ap, ap₂, ◌∙◌}
use mathlib.Core.List.{List, [], ◌∷◌, ◌++◌, append_assoc, append-nil, flat_map}
use native.Mathlib.Nat.{add-zero, zero-add, add-suc, suc-add, suc-mul, zero-mul, not-suc-le-zero, le_of_suc-le-suc}
use native.Mathlib.Numerals.{add-one}
use native.Mathlib.Omega.{arith}
use lib.ListN.{length, get_or, drop, length-append, get_or-append}
use lib.Seq.{drop_at, drop-drop, get_or-drop}
use Rattle.rows.specs.Rows.{word_at, rows_from, read_rows, in_front}

module _ {A : Type 0} (show : A → List ℕ) (read : ℕ → A) where
  flat_from : (j n : ℕ) → flat_map show (rows_from read j (suc n)) ≡ flat_map show (rows_from read j n) ++ show (read (j + n))
  unfolding flat_map
  flat_from j zero = append-nil (show (read j)) ∙ ap (λ k. show (read k)) (sym (add-zero j))
  flat_from j (suc n) =
      ap (λ l. show (read j) ++ l) (flat_from (suc j) n)
      ∙ sym (append_assoc (show (read j)) (flat_map show (rows_from read (suc j) n)) (show (read (suc j + n))))
      ∙ ap (λ k. (show (read j) ++ flat_map show (rows_from read (suc j) n)) ++ show (read k)) (suc-add j n ∙ sym (add-suc j n))

  -- a turn of a loop over them
  pub flat_more : (i : ℕ) → flat_map show (read_rows read i) ++ show (read i) ≡ flat_map show (read_rows read (i + 1))
  flat_more i = rw add-one (sym (flat_from 0 i ∙ ap (λ k. flat_map show (read_rows read i) ++ show (read k)) (zero-add i)))

  -- rows that each show at most so many bytes
  flat_few : (size j n : ℕ) → ((i : ℕ) → i < j + n → length (show (read i)) ≤ size) → length (flat_map show (rows_from read j n)) ≤ size * n
  unfolding flat_map
  flat_few size j zero h = omega arith
  flat_few size j (suc n) h =
      omega (arith, length-append (show (read j)) (flat_map show (rows_from read (suc j) n)), h j (omega arith), flat_few size (suc j) n (λ i l. h i (omega arith)))

  pub flat_short : (size n : ℕ) → ((i : ℕ) → i < n → length (show (read i)) ≤ size) → length (flat_map show (read_rows read n)) ≤ size * n
  flat_short size n h = flat_few size 0 n (λ i l. h i (omega arith))

-- ---- rows that were written at the front of a list

module _ {A : Type 0} (width : ℕ) (columns : A → List ℕ) (sized : (a : A) → length (columns a) ≡ width) (t : List ℕ) where
  -- from row j on there are the words of a
  abbrev pub Stands : ℕ → A → Type 0
  Stands j a = (k : ℕ) → k < width → word_at t width j k ≡ get_or (columns a) k 0

  abbrev From : ℕ → List ℕ → Type 0
  From j words = drop (j * width) t ≡ words

  stands : (j : ℕ) (a : A) (rest : List ℕ) → From j (columns a ++ rest) → Stands j a
  stands j a rest e k h = sym (get_or-drop (j * width) t k 0) ∙ ap (λ l. get_or l k 0) e ∙ get_or-append (columns a) rest 0 k (omega (arith, sized a))

  next : (j : ℕ) (a : A) (rest : List ℕ) → From j (columns a ++ rest) → From (suc j) rest
  next j a rest e = ap (λ k. drop k t) (suc-mul j width) ∙ sym (drop-drop width (j * width) t) ∙ ap (drop width) e ∙ drop_at (columns a) rest width (sized a)

  module _ (row : ℕ → A) (back : (j : ℕ) (a : A) → Stands j a → row j ≡ a) where
    rows_from_lem : (xs : List A) (rest : List ℕ) (j : ℕ) → From j (flat_map columns xs ++ rest) → rows_from row j (length xs) ≡ xs
    unfolding flat_map
    rows_from_lem [] rest j e = refl
    rows_from_lem (a ∷ xs) rest j e =
        let words = e ∙ append_assoc (columns a) (flat_map columns xs) rest in
        ap₂ ◌∷◌ (back j a (stands j a _ words)) (rows_from_lem xs rest (suc j) (next j a _ words))

    pub rows_back : (xs : List A) (list : List ℕ) → t ≡ in_front (flat_map columns xs) list → read_rows row (length xs) ≡ xs
    rows_back xs list e = rows_from_lem xs (drop (length (flat_map columns xs)) list) 0 (ap (λ k. drop k t) (zero-mul width) ∙ e)

  module _ (Q : ℕ → Type 0) (holds : (j : ℕ) (a : A) → Stands j a → Q j) where
    each_from : (xs : List A) (rest : List ℕ) (j : ℕ) → From j (flat_map columns xs ++ rest) → (i : ℕ) → i < length xs → Q (j + i)
    unfolding flat_map
    each_from [] rest j e i h = absurd (not-suc-le-zero h)
    each_from (a ∷ xs) rest j e zero h = rw add-zero (holds j a (stands j a _ (e ∙ append_assoc (columns a) (flat_map columns xs) rest)))
    each_from (a ∷ xs) rest j e (suc i) h =
        let words = e ∙ append_assoc (columns a) (flat_map columns xs) rest in
        rw (add-suc, ← suc-add) (each_from xs rest (suc j) (next j a _ words) i (le_of_suc-le-suc h))

    pub each_row : (xs : List A) (list : List ℕ) → t ≡ in_front (flat_map columns xs) list → (i : ℕ) → i < length xs → Q i
    each_row xs list e i h = rw zero-add at (each_from xs (drop (length (flat_map columns xs)) list) 0 (ap (λ k. drop k t) (zero-mul width) ∙ e) i h)
