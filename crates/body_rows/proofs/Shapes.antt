-- The table of the operators' shapes, and which codes are operators.
use Prim.Native.Nat.{ℕ, zero, suc, ◌≤◌, ◌<◌}
use mathlib.Core.Path.{◌≡◌, refl, sym, ap, ◌∙◌}
use mathlib.Core.Bool.{Bool, true, false}
use mathlib.Core.List.{List, [], ◌∷◌, map}
use mathlib.Core.Option.{none, some, none-ne-some, some-injective}
use native.Mathlib.Nat.{le_of_suc-le-suc, not-suc-le-zero}
use lib.Dec.{ltb}
use lib.ListN.{length, get_or, get_elem?}
use borrow.Author.Tests.{ltb-true, ltb-false}
use Rattle.tables.specs.Codes.{Operator, operators, operator_of, shape_of}
use Rattle.body_rows.specs.Marks.{shape_row, shape_word}

-- the table: a row for each operator, in the order of their codes
unfoldable pub shape_rows : List (List ℕ)
shape_rows = map (λ o. shape_row (shape_of o)) operators

row_at_lem : {A B : Type 0} (f : A → B) (l : List A) (d : B) (k : ℕ) (x : A) → get_elem? l k ≡ some x → get_or (map f l) k d ≡ f x
row_at_lem f [] d k x e = absurd (none-ne-some x e)
row_at_lem f (y ∷ ys) d zero x e = ap f (some-injective y x e)
row_at_lem f (y ∷ ys) d (suc k) x e = row_at_lem f ys d k x e

pub shape_at : (k : ℕ) (o : Operator) → operator_of k ≡ some o → (c : ℕ) → get_or (get_or shape_rows k []) c 0 ≡ shape_word (shape_of o) c
unfolding operator_of shape_rows
shape_at k o e c = ap (λ r. get_or r c 0) (row_at_lem (λ o. shape_row (shape_of o)) operators [] k o e)

-- ---- which codes are operators

within : {A : Type 0} (l : List A) (k : ℕ) → k < length l → (x : A) × (get_elem? l k ≡ some x)
within [] k h = absurd (not-suc-le-zero h)
within (x ∷ xs) zero h = (x, refl)
within (x ∷ xs) (suc k) h = within xs k (le_of_suc-le-suc h)

beyond : {A : Type 0} (l : List A) (k : ℕ) → length l ≤ k → get_elem? l k ≡ none
beyond [] k h = refl
beyond (x ∷ xs) zero h = absurd (not-suc-le-zero h)
beyond (x ∷ xs) (suc k) h = beyond xs k (le_of_suc-le-suc h)

pub an_operator : (k : ℕ) → k < 23 → (o : Operator) × (operator_of k ≡ some o)
unfolding operator_of operators
an_operator k h = within operators k h

pub no_operator : (k : ℕ) → 23 ≤ k → operator_of k ≡ none
unfolding operator_of operators
no_operator k h = beyond operators k h

-- the operator of a row's code, as the code was read
pub operator_at : (k code : ℕ) → code ≡ k → code < 23 → (o : Operator) × (operator_of code ≡ some o) × (operator_of k ≡ some o)
operator_at k code e h = let r = an_operator code h in (r.0, r.1, ap operator_of (sym e) ∙ r.1)

pub no_operator_at : (k code : ℕ) → code ≡ k → 23 ≤ code → operator_of k ≡ none
no_operator_at k code e h = ap operator_of (sym e) ∙ no_operator code h

-- an operator's code is below 23
pub coded_below : (k : ℕ) (o : Operator) → operator_of k ≡ some o → k < 23
coded_below k o e = step (ltb k 23) refl
  where
    step : (b : Bool) → ltb k 23 ≡ b → k < 23
    step true q = ltb-true k 23 q
    step false q = absurd (none-ne-some o (sym (no_operator k (ltb-false k 23 q)) ∙ e))
