-- Connectives by their codes, and what the left part alone decides.
use Prim.Native.Nat.{ℕ}
use mathlib.Core.Path.{◌≡◌, refl, sym, ap, ◌∙◌}
use mathlib.Core.Bool.{Bool, true, false, not}
use lib.Dec.{eqb}
use borrow.Author.Tests.{eq-eqb, ne_eqb}
use Rattle.meaning.specs.Forms.{and, or, xor, implies}
use Rattle.meaning.specs.Meaning.{connected}
use Rattle.operators.specs.Operators.{connective_of}

module _ (k : ℕ) where
  pub code_and : k ≡ 7 → connective_of k ≡ and
  unfolding connective_of
  code_and e = ap connective_of e

  pub code_or : k ≡ 8 → connective_of k ≡ or
  unfolding connective_of
  code_or e = ap connective_of e

  pub code_xor : k ≡ 9 → connective_of k ≡ xor
  unfolding connective_of
  code_xor e = ap connective_of e

  pub code_implies : (k ≡ 7 → ⊥) → (k ≡ 8 → ⊥) → (k ≡ 9 → ⊥) → connective_of k ≡ implies
  unfolding connective_of
  code_implies a b c = rw (ne_eqb k 7 a, ne_eqb k 8 b, ne_eqb k 9 c)

  pub decided_and : (a : Bool) → k ≡ 7 → not a ≡ true → (b : Bool) → connected (connective_of k) a b ≡ not (eqb k 7)
  unfolding connected
  decided_and true e h b = cc
  decided_and false e h b = rw (code_and e, eq-eqb k 7 e)

  pub decided_or : (a : Bool) → k ≡ 8 → a ≡ true → (b : Bool) → connected (connective_of k) a b ≡ not (eqb k 7)
  unfolding connected
  decided_or true e h b = ap (λ o. connected o true b) (code_or e) ∙ ap (λ j. not (eqb j 7)) (sym e)
  decided_or false e h b = cc

  pub decided_implies : (a : Bool) → (k ≡ 7 → ⊥) → (k ≡ 8 → ⊥) → (k ≡ 9 → ⊥) → not a ≡ true → (b : Bool) → connected (connective_of k) a b ≡ not (eqb k 7)
  unfolding connected
  decided_implies true x y z h b = cc
  decided_implies false x y z h b = rw (code_implies x y z, ne_eqb k 7 x)

pub xor_true : (b : Bool) → connected xor true b ≡ not b
unfolding connected
xor_true true = refl
xor_true false = refl
