-- The writer's table of names is the text's: one test of the whole table.
use Prim.Native.Nat.{ℕ, zero, suc, ◌+◌, ◌-◌, ◌≤◌, ◌<◌}
use mathlib.Core.Path.{◌≡◌, refl, ap, subst, sym, ◌∙◌}
use mathlib.Core.Bool.{Bool, true, ◌&&◌}
use mathlib.Core.List.{List, [], ◌∷◌}
use native.Mathlib.Nat.{not-suc-le-zero}
use native.Mathlib.Omega.{arith}
use native.Mathlib.Decide.{ℕ_discrete}
use borrow.Author.Tests.{leb-true}
use lib.Dec.{T, leb}
use lib.ListN.{get_or, take, drop}
use Rattle.meaning.specs.Lists.{same_list}
use Rattle.meaning.proofs.Order.{same_list_eq}
use Rattle.lexical.proofs.Runs.{both}
use Rattle.text.specs.Names.{names, name_count, name_of}

-- where each name starts, and the names' letters
unfoldable pub starts : List ℕ
starts =
    0 ∷ 4 ∷ 9 ∷ 12 ∷ 16 ∷ 19 ∷ 23 ∷ 29 ∷ 35 ∷ 38 ∷ 42 ∷ 46 ∷ 53 ∷ 60 ∷ 62 ∷ 64 ∷ 66 ∷ 68 ∷ 70 ∷ 72 ∷ 75 ∷ 78 ∷ 80 ∷ 83 ∷ 90 ∷ 96 ∷ 102 ∷ 106 ∷ 109 ∷ 113 ∷ 117 ∷ 120 ∷ 123 ∷ 126 ∷ 130 ∷ 133 ∷ 139 ∷ []

unfoldable pub letters : List ℕ
letters =
    116 ∷ 121 ∷ 112 ∷ 101 ∷  -- type
    102 ∷ 108 ∷ 111 ∷ 111 ∷ 114 ∷  -- floor
    114 ∷ 101 ∷ 108 ∷  -- rel
    114 ∷ 117 ∷ 108 ∷ 101 ∷  -- rule
    101 ∷ 110 ∷ 116 ∷  -- ent
    108 ∷ 105 ∷ 110 ∷ 107 ∷  -- link
    105 ∷ 110 ∷ 115 ∷ 101 ∷ 114 ∷ 116 ∷  -- insert
    100 ∷ 101 ∷ 108 ∷ 101 ∷ 116 ∷ 101 ∷  -- delete
    115 ∷ 101 ∷ 116 ∷  -- set
    106 ∷ 111 ∷ 105 ∷ 110 ∷  -- join
    112 ∷ 97 ∷ 114 ∷ 116 ∷  -- part
    115 ∷ 112 ∷ 101 ∷ 99 ∷ 105 ∷ 97 ∷ 108 ∷  -- special
    103 ∷ 101 ∷ 110 ∷ 101 ∷ 114 ∷ 97 ∷ 108 ∷  -- general
    108 ∷ 101 ∷  -- le
    108 ∷ 116 ∷  -- lt
    101 ∷ 113 ∷  -- eq
    110 ∷ 101 ∷  -- ne
    103 ∷ 101 ∷  -- ge
    103 ∷ 116 ∷  -- gt
    110 ∷ 111 ∷ 116 ∷  -- not
    97 ∷ 110 ∷ 100 ∷  -- and
    111 ∷ 114 ∷  -- or
    120 ∷ 111 ∷ 114 ∷  -- xor
    105 ∷ 109 ∷ 112 ∷ 108 ∷ 105 ∷ 101 ∷ 115 ∷  -- implies
    102 ∷ 111 ∷ 114 ∷ 97 ∷ 108 ∷ 108 ∷  -- forall
    101 ∷ 120 ∷ 105 ∷ 115 ∷ 116 ∷ 115 ∷  -- exists
    107 ∷ 105 ∷ 110 ∷ 100 ∷  -- kind
    110 ∷ 117 ∷ 109 ∷  -- num
    99 ∷ 101 ∷ 108 ∷ 108 ∷  -- cell
    115 ∷ 105 ∷ 122 ∷ 101 ∷  -- size
    115 ∷ 117 ∷ 109 ∷  -- sum
    97 ∷ 100 ∷ 100 ∷  -- add
    115 ∷ 117 ∷ 98 ∷  -- sub
    114 ∷ 111 ∷ 108 ∷ 101 ∷  -- role
    97 ∷ 108 ∷ 108 ∷  -- all
    115 ∷ 101 ∷ 108 ∷ 101 ∷ 99 ∷ 116 ∷  -- select
    []

abbrev pub start : ℕ → ℕ
start k = get_or starts k 0

abbrev letters_at : ℕ → List ℕ
letters_at k = take (start (k + 1) - start k) (drop (start k) letters)

right : ℕ → Bool
right k = leb (start k) (start (k + 1)) && (leb (start (k + 1)) 139 && same_list (letters_at k) (name_of k))

all_right : ℕ → Bool
all_right zero = true
all_right (suc n) = right n && all_right n

tested : all_right name_count ≡ true
unfolding all_right right starts letters names
tested = refl

below : (n k : ℕ) → all_right n ≡ true → k < n → right k ≡ true
unfolding all_right
below zero k e h = absurd (not-suc-le-zero h)
below (suc n) k e h = go (both (right n) (all_right n) e) (λ q. below n k q) (ℕ_discrete k n)
  where
    go : (right n ≡ true) × (all_right n ≡ true) → (all_right n ≡ true → k < n → right k ≡ true) → Dec (k ≡ n) → right k ≡ true
    go f before (yes q) = ap right q ∙ f.0
    go f before (no q) = before f.1 (omega arith)

pub record Named (k : ℕ) : Type 0 where
  pub ascends : start k ≤ start (k + 1)
  pub within : start (k + 1) ≤ 139
  pub is : letters_at k ≡ name_of k

pub named : (k : ℕ) → k < name_count → Named k
unfolding right
named k h =
    let a = both (leb (start k) (start (k + 1))) _ (below name_count k tested h) in
    let b = both (leb (start (k + 1)) 139) (same_list (letters_at k) (name_of k)) a.1 in
    record { ascends = leb-true (start k) (start (k + 1)) a.0; within = leb-true (start (k + 1)) 139 b.0; is = same_list_eq (letters_at k) (name_of k) (subst T (sym b.1) tt) }
