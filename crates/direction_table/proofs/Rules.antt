-- What the table of the rules says at each form: the rules of its parts.
use Prim.Native.Nat.{ℕ, ◌<◌}
use mathlib.Core.Path.{◌≡◌, refl, sym, ap, subst, ◌∙◌}
use mathlib.Core.Bool.{Bool, true, false, ◌&&◌, cond}
use mathlib.Core.List.{[], ◌∷◌, map}
use mathlib.Core.Option.{some, some-injective}
use native.Mathlib.Omega.{arith}
use lib.Dec.{T, eqb}
use lib.ListN.{get_or, get_or-append}
use mir.Facts.{eqb_yes}
use borrow.Author.Tests.{eqb-false}
use Rattle.tables.specs.Codes.{Operator, comparing, negating, connecting, quantifying, kind_of, literal, cell_of, size_of, sum_of, combining, role_of, all_of, selecting, operators, operator_of, code_of}
use Rattle.tables.proofs.Operators.{row_at_lem}
use Rattle.tables.proofs.Readings.{code_of_lem}
use Rattle.direction_table.specs.Entries.{second_passing, form_row, form_number, rule_table}

pub number_low : (code : ℕ) (floored : Bool) → code < 23 → form_number code floored < 24
number_low code floored h = step (floored && eqb code 17)
  where
    step : (b : Bool) → cond b 23 code < 24
    step true = omega arith
    step false = omega arith

-- what is no sum does not ask for floors
unfloored : (o : Operator) → (o ≡ sum_of → ⊥) → form_row true o ≡ form_row false o
unfolding second_passing
unfloored (comparing o) h = refl
unfloored negating h = refl
unfloored (connecting o) h = refl
unfloored (quantifying q) h = refl
unfloored kind_of h = refl
unfloored literal h = refl
unfloored cell_of h = refl
unfloored size_of h = refl
unfloored sum_of h = absurd (h refl)
unfloored (combining o) h = refl
unfloored role_of h = refl
unfloored all_of h = refl
unfloored selecting h = refl

-- The row at a form's number has the entries of its rules.
pub rules_at : (code : ℕ) (floored : Bool) (o : Operator) → code < 23 → operator_of code ≡ some o → get_or rule_table (form_number code floored) [] ≡ form_row floored o
unfolding operators operator_of code_of
rules_at code floored o low e = step floored (eqb code 17) refl
  where
    plain : get_or rule_table code [] ≡ form_row false o
    plain = get_or-append (map (form_row false) operators) (form_row true sum_of ∷ []) [] code low ∙ row_at_lem (form_row false) [] code o e

    is_sum : code ≡ 17 → o ≡ sum_of
    is_sum q = some-injective o sum_of (sym (subst (λ k. operator_of k ≡ some o) q e))

    step : (f b : Bool) → eqb code 17 ≡ b → get_or rule_table (cond (f && b) 23 code) [] ≡ form_row f o
    step false b q = plain
    step true true q = ap (form_row true) (sym (is_sum (eqb_yes (subst T (sym q) tt))))
    step true false q = plain ∙ sym (unfloored o (λ s. eqb-false code 17 q (sym (code_of_lem code o e) ∙ ap code_of s)))
