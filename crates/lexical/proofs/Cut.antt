-- What the reader's loop keeps of the digits it has passed.
use Prim.Native.Nat.{ℕ, suc, ◌+◌, ◌-◌, ◌*◌, ◌^◌, ◌≤◌, ◌<◌, min}
use mathlib.Core.Path.{◌≡◌, refl, sym, ap, ◌∙◌}
use mathlib.Core.Bool.{Bool, true, false, cond}
use mathlib.Core.List.{List, [], ◌∷◌}
use mathlib.Core.Option.{none, some}
use Rattle.std.specs.Prelude.{Some, None}
use Rattle.std.proofs.lemmas.Option.{cond_some}
use native.Mathlib.Numerals.{add-one}
use native.Mathlib.Omega.{arith}
use borrow.Author.Tests.{lt-ltb, le-ltb, lt-leb, le-leb}
use lib.Dec.{eqb}
use lib.IntN.{pos, negsuc}
use lib.ListN.{length, get_or, drop}
use lib.Seq.{drop-cons}
use Rattle.lexical.specs.declared.Digits.{Digits}
use Rattle.lexical.specs.Decimals.{is_digit, digits_in, value_from, value_of, plain, too_large, cut_value, plain_at, positive, negative, number_in}
use Rattle.lexical.proofs.Runs.{run_go}

-- a value cut at a limit says no more and no less of what is below the limit
pub cut : (w : ℕ) (ds : List ℕ) → min too_large (value_from (min too_large w) ds) ≡ min too_large (value_from w ds)
cut w [] = omega arith
cut w (d ∷ ds) =
    let e : min too_large (min too_large w * 10 + (d - 48)) ≡ min too_large (w * 10 + (d - 48)) = omega arith in
    sym (cut (min too_large w * 10 + (d - 48)) ds)
    ∙ ap (λ (v : ℕ). min too_large (value_from v ds)) e
    ∙ cut (w * 10 + (d - 48)) ds

-- a turn of the loop
pub scan_step : (t : List ℕ) (i v w : ℕ) → i < length t → is_digit (get_or t i 0) ≡ true → w ≡ min too_large (v * 10 + (get_or t i 0 - 48))
    → min too_large (value_from w (digits_in (drop (i + 1) t))) ≡ min too_large (value_from v (digits_in (drop i t)))
scan_step t i v w h d e = rw (e, run_go is_digit t i h d) (cut (v * 10 + (get_or t i 0 - 48)) (digits_in (drop (i + 1) t)))

cond_none : {A : Type 0} (b : Bool) (x : A) → cond b (Some x) None ≡ None → b ≡ false
cond_none true x e = absurd (grind arith)
cond_none false x e = refl

-- ---- plain digits, by their value v that was cut

module _ (ds : List ℕ) (at v end : ℕ) (e : plain_at at ds ≡ Some (record { value = v; end = end })) where
  parts : (plain ds ≡ true) × (v ≡ cut_value ds) × (end ≡ at + length ds)
  parts =
      let f = cond_some (plain ds) _ _ e in
      (f.0, sym (ap (λ (d : Digits). d.value) f.1), sym (ap (λ (d : Digits). d.end) f.1))

  pub ends : end ≡ at + length ds
  ends = parts.2

  pub positive_is : v < 2 ^ 31 → positive ds ≡ some (record { value = pos v; size = length ds })
  unfolding positive
  positive_is h =
      let s : value_of ds ≡ v = omega (arith, parts.1) in
      rw (parts.0, s, lt-ltb v (2 ^ 31) h)

  pub positive_not : 2 ^ 31 ≤ v → positive ds ≡ none
  unfolding positive
  positive_not h = rw (parts.0, le-ltb (value_of ds) (2 ^ 31) (omega (arith, parts.1)))

  pub negative_is : 0 < v → v ≤ 2 ^ 31 → negative ds ≡ some (record { value = negsuc (v - 1); size = suc (length ds) })
  unfolding negative
  negative_is h k =
      let s : value_of ds ≡ v = omega (arith, parts.1) in
      rw (parts.0, s, lt-ltb 0 v h, le-leb v (2 ^ 31) k)

  pub negative_zero : v ≡ 0 → negative ds ≡ none
  unfolding negative
  negative_zero h =
      let s : value_of ds ≡ v = omega (arith, parts.1) in
      rw (parts.0, s, le-ltb 0 v (omega arith))

  pub negative_large : 2 ^ 31 < v → negative ds ≡ none
  unfolding negative
  negative_large h = rw (parts.0, lt-ltb 0 (value_of ds) (omega (arith, parts.1)), lt-leb (value_of ds) (2 ^ 31) (omega (arith, parts.1)))

-- ---- digits that are not plain

module _ (ds : List ℕ) (at : ℕ) (e : plain_at at ds ≡ None) where
  pub not_plain : plain ds ≡ false
  not_plain = cond_none (plain ds) _ e

  pub no_positive : positive ds ≡ none
  unfolding positive
  no_positive = rw not_plain

  pub no_negative : negative ds ≡ none
  unfolding negative
  no_negative = rw not_plain

-- the number at a place, by its first byte
pub number_at : (t : List ℕ) (i : ℕ) → i < length t
    → number_in (drop i t) ≡ cond (eqb (get_or t i 0) 45) (negative (digits_in (drop (i + 1) t))) (positive (digits_in (drop i t)))
unfolding number_in
number_at t i h = rw (add-one, drop-cons t i 0)
