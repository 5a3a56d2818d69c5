-- The way up from a type, step by step.
use Prim.Native.Nat.{ℕ, zero, suc, ◌-◌, ◌<◌, ◌≤◌}
use mathlib.Core.Path.{◌≡◌, refl, ap, ◌∙◌}
use mathlib.Core.Bool.{true, false}
use mathlib.Core.List.{List}
use native.Mathlib.Omega.{arith}
use lib.Dec.{eqb}
use borrow.Author.Tests.{eq-eqb, ne_eqb}
use Rattle.meaning.specs.Lists.{holds}
use Rattle.meaning.specs.Schema.{ObjectType, parent_of, climbs}
use Rattle.tables.specs.Refusals.{found_of}
use Rattle.std.specs.Prelude.{Some, None}
use Rattle.schema.proofs.Founds.{found_none, found_some}

module _ (types : List ObjectType) where
  pub climb_there : (n : ℕ) {t u : ℕ} → t ≡ u → climbs types n t u ≡ true
  unfolding climbs
  climb_there zero e = eq-eqb _ _ e
  climb_there (suc n) {t} {u} e = rw (eq-eqb t u e)

  pub climb_end : (n t u : ℕ) → n ≤ 0 → climbs types n t u ≡ eqb t u
  unfolding climbs
  climb_end zero t u h = refl
  climb_end (suc n) t u h = absurd (omega arith)

  -- t is not u: on to its parent
  climb_on : (n : ℕ) {t u : ℕ} → 0 < n → (t ≡ u → ⊥) → climbs types n t u ≡ holds (λ p. climbs types (n - 1) p u) (parent_of types t)
  unfolding climbs
  climb_on zero h d = absurd (omega arith)
  climb_on (suc n) {t} {u} h d = let e : suc n - 1 ≡ n = omega arith in rw (ne_eqb t u d, e)

  pub climb_top : (n : ℕ) {t u : ℕ} → 0 < n → (t ≡ u → ⊥) → None ≡ found_of (parent_of types t) → climbs types n t u ≡ false
  climb_top n {t} {u} h d e = climb_on n h d ∙ ap (holds (λ p. climbs types (n - 1) p u)) (found_none (parent_of types t) e)

  pub climb_up : (n : ℕ) {t u p : ℕ} → 0 < n → (t ≡ u → ⊥) → Some p ≡ found_of (parent_of types t) → climbs types n t u ≡ climbs types (n - 1) p u
  climb_up n {t} {u} {p} h d e = climb_on n h d ∙ ap (holds (λ p. climbs types (n - 1) p u)) (found_some (parent_of types t) e)
