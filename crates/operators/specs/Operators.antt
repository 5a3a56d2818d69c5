-- Operators by the codes of their rows (docs/TABLES.md).
use Rattle.std.specs.Prelude.{ℕ, Bool, not, cond, eqb}
use Rattle.meaning.specs.Forms.{Connective, and, or, xor, implies, Quantifier, forall, exists, Arithmetic, add, sub}

unfoldable pub connective_of : ℕ → Connective
connective_of code = cond (eqb code 7) and (cond (eqb code 8) or (cond (eqb code 9) xor implies))

unfoldable pub quantifier_of : ℕ → Quantifier
quantifier_of code = cond (eqb code 11) forall exists

unfoldable pub arithmetic_of : ℕ → Arithmetic
arithmetic_of code = cond (eqb code 18) add sub

-- a member at which a quantifier is decided
unfoldable pub stopping : Quantifier → Bool → Bool
stopping forall holds = not holds
stopping exists holds = holds
