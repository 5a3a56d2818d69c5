-- Document 01, theorem 5: by the limits no number that a rule computes passes 2 to the 47th.
use Prim.Native.Nat.{ℕ, ◌+◌, ◌*◌, ◌^◌, ◌≤◌, zero-le}
use mathlib.Core.Path.{◌≡◌, refl}
use mathlib.Core.Bool.{Bool}
use mathlib.Core.List.{List, [], ◌∷◌, map}
use mathlib.Core.Option.{Option, none, some}
use native.Mathlib.Nat.{le_trans}
use native.Mathlib.Omega.{arith}
use lib.Dec.{T, lit≤}
use lib.ListN.{length, get_or}
use lib.IntN.{ℤ, pos, nat_abs}
use lib.Signed.{nat_abs-le}
use mir.Facts.{and_yes, ltb_yes}
use Rattle.meaning.specs.Limits.{fits_word}
use Rattle.meaning.specs.Schema.{ObjectType, Schema}
use Rattle.meaning.specs.Register.{Object, Register, object_at, cell_at}
use Rattle.meaning.specs.Forms.{number, collection, Arithmetic, add, sub, Form, num, cell, size, sum, combine, variable, form_count, well_typed}
use Rattle.meaning.specs.Meaning.{combined, total, meaning}
use Rattle.meaning.proofs.Lists.{every_get_d}
use Rattle.meaning.proofs.Integers.{nat_abs_add, nat_abs_sub}
use Rattle.meaning.proofs.Registers.{RegisterFits, object_parts, object_at_lem}
use Rattle.meaning.proofs.Collections.{gathered, members_count}

word_size : (n : ℤ) → T (fits_word n) → nat_abs n ≤ 2 ^ 31
unfolding fits_word
word_size n t = nat_abs-le n (ltb_yes t)

-- the sum of n numbers of a word
total_size : (f : ℕ → ℤ) → ((x : ℕ) → nat_abs (f x) ≤ 2 ^ 31) → (l : List ℕ) → nat_abs (total (map f l)) ≤ length l * 2 ^ 31
unfolding total
total_size f h [] = zero-le
total_size f h (x ∷ xs) = omega (arith, nat_abs_add (f x) (total (map f xs)), h x, total_size f h xs)

combined_size : (o : Arithmetic) (a b : ℤ) → nat_abs (combined o a b) ≤ nat_abs a + nat_abs b
unfolding combined
combined_size add a b = nat_abs_add a b
combined_size sub a b = nat_abs_sub a b

-- Cells are words, a collection has at most 1024 members, and a form passes a test that asks of its numbers that they are words.
module _ (types : List ObjectType) (g : Register)
    (cells : (x k : ℕ) → nat_abs (cell_at g x k) ≤ 2 ^ 31)
    (few : (c : Form collection) (vs : List ℕ) → length (meaning types g c vs) ≤ 1024)
    (fit : Form number → Bool) (word : (n : ℤ) → T (fit (num n)) → T (fits_word n))
    (parts : (o : Arithmetic) (a b : Form number) → T (fit (combine o a b)) → T (fit a) × T (fit b)) where
  -- a form adds at most 2^41 of its own: the sum of 1024 cells
  number_size : (f : Form number) → T (fit f) → (vs : List ℕ) → nat_abs (meaning types g f vs) ≤ form_count f * 2 ^ 41
  unfolding meaning form_count
  number_size (num n) w vs = le_trans (word_size n (word n w)) (lit≤ tt)
  number_size (cell v k) w vs = le_trans (cells (variable vs v) k) (lit≤ tt)
  number_size (size c) w vs = omega (arith, few c vs)
  number_size (sum c k) w vs = omega (arith, total_size (λ x. cell_at g x k) (λ x. cells x k) (meaning types g c vs), few c vs)
  number_size (combine o a b) w vs =
      let r = parts o a b w in
      omega (arith, combined_size o (meaning types g a vs) (meaning types g b vs), number_size a r.0 vs, number_size b r.1 vs)

  pub number_small : (f : Form number) → T (fit f) → form_count f ≤ 64 → (vs : List ℕ) → nat_abs (meaning types g f vs) ≤ 2 ^ 47
  number_small f w n vs = omega (arith, number_size f w vs)

module _ (S : Schema) (g : Register) (fits : RegisterFits S g) where
  pub cell_size : (x k : ℕ) → nat_abs (cell_at g x k) ≤ 2 ^ 31
  unfolding cell_at fits_word
  cell_size x k = step (object_at g x) refl
    where
      step : (found : Option Object) → object_at g x ≡ found → nat_abs (elim found [ none ↦ pos 0 | some o ↦ get_or o.cells k (pos 0) ]) ≤ 2 ^ 31
      step none e = zero-le
      step (some o) e =
          word_size (get_or o.cells k (pos 0))
          (every_get_d fits_word o.cells k (pos 0) (object_parts S o (fits.objects_fit o (object_at_lem g x e).0)).cells_word tt)

  module _ (few : length g.objects ≤ 1024) where
    pub number_bound : (ts : List ℕ) (f : Form number) → T (well_typed S ts f) → form_count f ≤ 64 → (vs : List ℕ) → nat_abs (meaning S.types g f vs) ≤ 2 ^ 47
    unfolding well_typed
    number_bound ts =
        number_small S.types g cell_size (λ c vs. le_trans (members_count S.types g (gathered S g fits) c vs) few) (well_typed S ts) (λ n w. w)
        (λ o a b. and_yes (well_typed S ts a) (well_typed S ts b))
