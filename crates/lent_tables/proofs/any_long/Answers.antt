-- `lent_tables::any_long` meets its contract. The invariant: a rule is long if one from `row` on is.
use Prim.Native.Nat.{◌+◌, ◌≤◌}
use mathlib.Core.Path.{◌≡◌, sym, ap, subst, ◌∙◌}
use mathlib.Core.Bool.{false, ◌||◌}
use native.Mathlib.Omega.{arith}
use borrow.Author.Tests.{le-ltb}
use Rattle.meaning.specs.Limits.{max_forms}
use Rattle.tables.specs.Refusals.{long_body}
use Rattle.lent_tables.proofs.Counting.{passes_from, passes_here}
use Rattle.lent_tables.proofs.any_long.Goals as goal

pub loop-row-preserved : goal.loop-row-preserved
loop-row-preserved c =
    let rules = c.args.rules.now in
    let count = c.args.count in
    let row = c.loop-row.row in
    let here : long_body rules row ≡ false = le-ltb max_forms _ (subst (λ w. w ≤ max_forms) c.word.ensures c.if-word-gt-MAX_FORMS.false) in
    (omega arith, sym (passes_here (long_body rules) count row c.loop-row-test.true ∙ ap (λ b. b || passes_from (long_body rules) count (row + 1)) here) ∙ c.loop-row.invariant.1)
