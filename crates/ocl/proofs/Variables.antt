-- The ids that bound variables stand for.
use Prim.Native.Nat.{ℕ, zero, suc, ◌+◌, ◌≤◌, ◌<◌}
use mathlib.Core.Path.{◌≡◌, refl, ap, ◌∙◌}
use mathlib.Core.List.{List, [], ◌∷◌, ◌++◌, map, map-append}
use native.Mathlib.Nat.{le_of_suc-le-suc, not-suc-le-zero}
use native.Mathlib.Numerals.{add-one}
use lib.ListN.{length, get_or, take, set}
use lib.Seq.{take-suc-set}

module _ (f : ℕ → ℕ) where
  -- a bound variable
  pub bound_at : (depth : ℕ) (l : List ℕ) (v : ℕ) → v < depth → depth ≤ length l → get_or (map f (take depth l)) v 0 ≡ f (get_or l v 0)
  bound_at zero l v h k = absurd (not-suc-le-zero h)
  bound_at (suc d) [] v h k = absurd (not-suc-le-zero k)
  bound_at (suc d) (x ∷ xs) zero h k = refl
  bound_at (suc d) (x ∷ xs) (suc v) h k = bound_at d xs v (le_of_suc-le-suc h) (le_of_suc-le-suc k)

  -- one variable more
  pub one_more : (depth : ℕ) (l : List ℕ) (x : ℕ) → depth < length l → map f (take (depth + 1) (set l depth x)) ≡ map f (take depth l) ++ f x ∷ []
  one_more d l x h =
      ap (λ k. map f (take k (set l d x))) (add-one d) ∙ ap (map f) (take-suc-set l d x h) ∙ map-append f (take d l) (x ∷ [])
