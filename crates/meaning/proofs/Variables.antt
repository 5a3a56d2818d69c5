-- Variables and their types, place by place: a relation between an id and a type that holds of each variable.
use Prim.Native.Nat.{ℕ, zero, suc, ◌<◌}
use mathlib.Core.List.{List, [], ◌∷◌}
use native.Mathlib.Nat.{le_of_suc-le-suc, not-suc-le-zero}
use lib.ListN.{length}
use Rattle.meaning.specs.Forms.{bind, variable}

module _ (R : ℕ → ℕ → Type 0) where
  -- as many variables as types, each in the relation to its type
  abbrev pub Each : List ℕ → List ℕ → Type 0
  Each [] [] = Unit {0}
  Each [] (t ∷ ts) = ⊥
  Each (x ∷ xs) [] = ⊥
  Each (x ∷ xs) (t ∷ ts) = R x t × Each xs ts

  pub each_at : (vs ts : List ℕ) → Each vs ts → (v : ℕ) → v < length ts → R (variable vs v) (variable ts v)
  each_at [] [] w v h = absurd (not-suc-le-zero h)
  each_at [] (t ∷ ts) w v h = absurd w
  each_at (x ∷ xs) [] w v h = absurd w
  each_at (x ∷ xs) (t ∷ ts) w zero h = w.0
  each_at (x ∷ xs) (t ∷ ts) w (suc v) h = each_at xs ts w.1 v (le_of_suc-le-suc h)

  pub each_bind : (vs ts : List ℕ) (x t : ℕ) → Each vs ts → R x t → Each (bind vs x) (bind ts t)
  each_bind [] [] x t w u = (u, tt)
  each_bind [] (s ∷ ts) x t w u = absurd w
  each_bind (y ∷ ys) [] x t w u = absurd w
  each_bind (y ∷ ys) (s ∷ ts) x t w u = (w.0, each_bind ys ts x t w.1 u)
