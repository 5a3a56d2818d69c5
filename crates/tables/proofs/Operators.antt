-- A table with a row for each operator, in the order of their codes, has an operator's row at its code.
use Prim.Native.Nat.{ℕ, zero, suc}
use mathlib.Core.Path.{◌≡◌, ap}
use mathlib.Core.List.{List, [], ◌∷◌, map}
use mathlib.Core.Option.{some, none-ne-some, some-injective}
use lib.ListN.{get_or, get_elem?}
use Rattle.tables.specs.Codes.{Operator, operators, operator_of}

map_at : {A B : Type 0} (f : A → B) (l : List A) (d : B) (k : ℕ) (x : A) → get_elem? l k ≡ some x → get_or (map f l) k d ≡ f x
map_at f [] d k x e = absurd (none-ne-some x e)
map_at f (y ∷ ys) d zero x e = ap f (some-injective y x e)
map_at f (y ∷ ys) d (suc k) x e = map_at f ys d k x e

pub row_at_lem : {B : Type 0} (f : Operator → B) (d : B) (code : ℕ) (o : Operator) → operator_of code ≡ some o → get_or (map f operators) code d ≡ f o
unfolding operator_of
row_at_lem f d code o e = map_at f operators d code o e
