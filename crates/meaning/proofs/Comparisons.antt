-- What document 01's reach rules say of the six comparisons. `le`, `lt`, `ge` and `gt` are `le_z`, its parts exchanged or not,
-- negated or not: one law of `le_z` is theirs. `eq` and `ne` count as unmoved only where both parts stay the same.
use mathlib.Core.Path.{sym, subst₂}
use lib.IntN.{ℤ}
use lib.Signed.{le_z, lt_z, le_z_yes}
use Rattle.meaning.specs.Forms.{truth, number, Comparison, le, lt, eq, ne, ge, gt}
use Rattle.meaning.specs.Meaning.{compared}
use Rattle.meaning.specs.Reach.{Direction, up, down, either, left_of, right_of}
use Rattle.meaning.proofs.Integers.{≤ℤ-trans, ≤ℤ-antisym, lt_z_not_le_z}
use Rattle.meaning.specs.Unmoved.{Below, Unmoved, Through}
use Rattle.meaning.proofs.Monotone.{exchanged, not_below}

le_z_below : {a a' b b' : ℤ} → Below number a' a → Below number b b' → Below truth (le_z a b) (le_z a' b')
le_z_below h k t = (≤ℤ-trans h (≤ℤ-trans (le_z_yes t) k)).le

lt_z_below : {a a' b b' : ℤ} → Below number a' a → Below number b b' → Below truth (lt_z a b) (lt_z a' b')
lt_z_below {a} {a'} {b} {b'} h k =
    subst₂ (Below truth) (sym (lt_z_not_le_z a b)) (sym (lt_z_not_le_z a' b')) (not_below (le_z b' a') (le_z b a) (le_z_below k h))

-- parts that move neither way are the same before and after
still : (o : Comparison) (a a' b b' : ℤ) → Through either (λ e. Unmoved number e a a') down → Through either (λ e. Unmoved number e b b') down → Below truth (compared o a b) (compared o a' b')
still o a a' b b' h k =
    subst₂ (λ x y. Below truth (compared o a b) (compared o x y)) (≤ℤ-antisym h.1 h.0) (≤ℤ-antisym k.1 k.0) (λ t. t)

comparison_below : (o : Comparison) (a a' b b' : ℤ) → Through (left_of o) (λ e. Unmoved number e a a') down → Through (right_of o) (λ e. Unmoved number e b b') down → Below truth (compared o a b) (compared o a' b')
unfolding left_of right_of compared
comparison_below le a a' b b' h k = le_z_below h k
comparison_below lt a a' b b' h k = lt_z_below h k
comparison_below eq a a' b b' h k = still eq a a' b b' h k
comparison_below ne a a' b b' h k = still ne a a' b b' h k
comparison_below ge a a' b b' h k = le_z_below k h
comparison_below gt a a' b b' h k = lt_z_below k h

pub comparison_unmoved : (o : Comparison) (d : Direction) (a a' b b' : ℤ) → Through (left_of o) (λ e. Unmoved number e a a') d → Through (right_of o) (λ e. Unmoved number e b b') d → Unmoved truth d (compared o a b) (compared o a' b')
comparison_unmoved o up a a' b b' h k = comparison_below o a' a b' b (exchanged number (left_of o) a a' h) (exchanged number (right_of o) b b' k)
comparison_unmoved o down a a' b b' h k = comparison_below o a a' b b' h k
