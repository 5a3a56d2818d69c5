-- What the types of a schema without refusal 3 are, and the laws of `under` in them.
use Prim.Native.Nat.{ℕ, zero, suc, ◌<◌, ◌≤◌}
use mathlib.Core.Path.{◌≡◌, refl, sym, ap, subst, ◌∙◌}
use mathlib.Core.Logic.{◌⊎◌, inl, inr, ⊎_elim}
use mathlib.Core.Bool.{Bool, true, not, ◌&&◌}
use mathlib.Core.List.{List, [], ◌∷◌}
use mathlib.Core.Option.{none, some, some-injective}
use native.Mathlib.Nat.{le_refl, le_trans, le_of_eq}
use native.Mathlib.Omega.{arith}
use lib.Dec.{T, ltb, leb, eqb, eqb_refl}
use lib.ListN.{get_or, get_elem?}
use mir.Facts.{and_yes, or_yes, T_not, T_not-not, ltb_yes, leb_yes, eqb_yes, yes_eqb}
use Rattle.meaning.specs.Lists.{holds}
use Rattle.meaning.specs.Limits.{cell_count}
use Rattle.meaning.specs.Schema.{ObjectType, type_at, parent_of, cells_of, has_parent, climbs, under, parent_fits, faulty_type, type_fault}
use Rattle.meaning.proofs.Lists.{holds_some, some_holds, or_left, or_right}
use Rattle.meaning.proofs.Order.{fault_none}

pub record TypesFit (types : List ObjectType) : Type 0 where
  pub parent_lower : (t p : ℕ) → parent_of types t ≡ some p → p < t
  pub parent_cells : (t p : ℕ) → parent_of types t ≡ some p → cells_of types p ≤ cells_of types t
  pub cells_bound : (t : ℕ) → cells_of types t ≤ 8

get_d_cases : {A : Type 0} (l : List A) (n : ℕ) (d : A) → (get_elem? l n ≡ some (get_or l n d)) ⊎ (get_or l n d ≡ d)
get_d_cases [] n d = inr refl
get_d_cases (x ∷ xs) zero d = inl refl
get_d_cases (x ∷ xs) (suc n) d = get_d_cases xs n d

type_fits : List ObjectType → ℕ → ObjectType → Bool
type_fits types n t = parent_fits types n t && leb t.cells cell_count

-- a type that the schema lacks has no parent and no cell, so it fits too
each_type_fits : (types : List ObjectType) → type_fault types ≡ none → (t : ℕ) → T (type_fits types t (type_at types t))
unfolding type_fault faulty_type type_fits type_at parent_fits
each_type_fits types e t =
    ⊎_elim
    (λ q. T_not-not (type_fits types t (type_at types t)) (fault_none (faulty_type types) types e t (type_at types t) q).1)
    (λ (q : type_at types t ≡ record { parent = none; cells = 0 }). subst (λ o. T (type_fits types t o)) (sym q) tt)
    (get_d_cases types t (record { parent = none; cells = 0 }))

parent_fits_lem : (types : List ObjectType) → type_fault types ≡ none → (t p : ℕ) → parent_of types t ≡ some p → T (ltb p t) × T (leb (cells_of types p) (cells_of types t))
unfolding type_fits parent_fits parent_of cells_of
parent_fits_lem types e t p q =
    let fits = (and_yes (parent_fits types t (type_at types t)) (leb (cells_of types t) cell_count) (each_type_fits types e t)).0 in
    let lower = ltb p t && leb (cells_of types p) (cells_of types t) in
    and_yes (ltb p t) (leb (cells_of types p) (cells_of types t)) (T_not-not lower (rw q at fits))

pub types_fit : (types : List ObjectType) → type_fault types ≡ none → TypesFit types
unfolding type_fits cells_of
types_fit types e =
    record {
      parent_lower = λ t p q. ltb_yes (parent_fits_lem types e t p q).0;
      parent_cells = λ t p q. leb_yes (parent_fits_lem types e t p q).1;
      cells_bound = λ t. leb_yes (and_yes (parent_fits types t (type_at types t)) (leb (cells_of types t) cell_count) (each_type_fits types e t)).1;
    }

-- ---- under

pub under_refl : (types : List ObjectType) (t : ℕ) → T (under types t t)
unfolding under climbs
under_refl types zero = eqb_refl zero
under_refl types (suc t) = or_left (eqb (suc t) (suc t)) _ (eqb_refl (suc t))

-- the way up from a type to u, without a bound on its steps
data Climb (types : List ObjectType) (u : ℕ) : ℕ → Type 0 where
  there : {t : ℕ} → t ≡ u → Climb types u t
  further : {t p : ℕ} → parent_of types t ≡ some p → Climb types u p → Climb types u t

climb : (types : List ObjectType) (n t u : ℕ) → T (climbs types n t u) → Climb types u t
unfolding climbs
climb types zero t u h = there (eqb_yes h)
climb types (suc n) t u h = step (λ p. climb types n p u) (or_yes (eqb t u) (holds (λ p. climbs types n p u) (parent_of types t)) h)
  where
    step : ((p : ℕ) → T (climbs types n p u) → Climb types u p) → T (eqb t u) ⊎ T (holds (λ p. climbs types n p u) (parent_of types t)) → Climb types u t
    step below (inl e) = there (eqb_yes e)
    step below (inr k) = let r = holds_some (λ p. climbs types n p u) (parent_of types t) k in further r.1 (below r.0 r.2)

module _ (types : List ObjectType) (fits : TypesFit types) where
  -- a parent's number is lower, so t steps are enough from t
  climbed : (n : ℕ) {t u : ℕ} → t ≤ n → Climb types u t → T (climbs types n t u)
  unfolding climbs
  climbed zero {t} {u} h (there e) = yes_eqb e
  climbed (suc n) {t} {u} h (there e) = or_left (eqb t u) _ (yes_eqb e)
  climbed zero {t} {u} h (further {p = p} e c) = absurd (omega (arith, fits.parent_lower t p e))
  climbed (suc n) {t} {u} h (further {p = p} e c) =
      or_right (eqb t u) _ (some_holds (λ p. climbs types n p u) e (climbed n (omega (arith, fits.parent_lower t p e)) c))

  under_climb : (t u : ℕ) → T (under types t u) → Climb types u t
  unfolding under
  under_climb t u = climb types t t u

  climb_under : {t u : ℕ} → Climb types u t → T (under types t u)
  unfolding under
  climb_under {t} = climbed t (le_refl t)

  climb_trans : {u w t : ℕ} → Climb types u t → Climb types w u → Climb types w t
  climb_trans {w = w} (there e) d = subst (Climb types w) (sym e) d
  climb_trans (further e c) d = further e (climb_trans c d)

  pub under_trans : (t u w : ℕ) → T (under types t u) → T (under types u w) → T (under types t w)
  under_trans t u w p q = climb_under (climb_trans (under_climb t u p) (under_climb u w q))

  climb_cells : {u t : ℕ} → Climb types u t → cells_of types u ≤ cells_of types t
  climb_cells (there e) = le_of_eq (ap (cells_of types) (sym e))
  climb_cells {t = t} (further {p = p} e c) = le_trans (climb_cells c) (fits.parent_cells t p e)

  -- a type has at least the cells of the types above it
  pub under_cells : (t u : ℕ) → T (under types t u) → cells_of types u ≤ cells_of types t
  under_cells t u p = climb_cells (under_climb t u p)

  climb_linear : {u t w : ℕ} → Climb types u w → Climb types t w → Climb types t u ⊎ Climb types u t
  climb_linear {t = t} (there e) d = inl (subst (Climb types t) e d)
  climb_linear {u = u} (further e c) (there q) = inr (subst (Climb types u) q (further e c))
  climb_linear {t = t} (further {p = p} e c) (further {p = q} f d) =
      climb_linear c (subst (Climb types t) (some-injective q p (sym f ∙ e)) d)

  -- the types above a type are one above the other
  pub under_linear : (w u t : ℕ) → T (under types w u) → T (under types w t) → T (under types u t) ⊎ T (under types t u)
  under_linear w u t p q =
      ⊎_elim (λ c. inl (climb_under c)) (λ c. inr (climb_under c)) (climb_linear (under_climb w u p) (under_climb w t q))

  pub under_top : (t u : ℕ) → T (not (has_parent types t)) → T (under types t u) → t ≡ u
  unfolding has_parent
  under_top t u n p = top (under_climb t u p)
    where
      top : Climb types u t → t ≡ u
      top (there e) = e
      top (further e c) = absurd (T_not (has_parent types t) (some_holds (λ p. true) e tt) n)
