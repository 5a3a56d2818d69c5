-- Words that fill a row.
use Prim.Native.Nat.{ℕ, ◌-◌}
use mathlib.Core.Path.{◌≡◌, ap, ◌∙◌}
use mathlib.Core.List.{List, ◌++◌, append-nil}
use lib.ListN.{length, replicate}
use Rattle.text.specs.Bodies.{padded}

pub padded_all : (l : List ℕ) → length l ≡ 10 → padded 10 l ≡ l
padded_all l h = ap (λ n. l ++ replicate n 0) (ap (λ k. 10 - k) h) ∙ append-nil l
