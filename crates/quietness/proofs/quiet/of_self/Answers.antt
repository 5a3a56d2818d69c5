-- `quietness::quiet::of_self` meets its contract, by the law of the form that ends with a row.
use Prim.Native.Nat.{ℕ, suc, ◌-◌}
use mathlib.Core.Path.{◌≡◌, sym, ap, ap₂, subst, ◌∙◌}
use mathlib.Core.Bool.{Bool, ◌&&◌}
use native.Mathlib.Omega.{arith}
use lib.Dec.{T, eqb}
use borrow.Author.Tests.{not-true, not-false}
use Rattle.tables.specs.Bodies.{BodyRow, ending}
use Rattle.tables.specs.Columns.{relationships_of}
use Rattle.tables.proofs.Readings.{sound_pos}
use Rattle.body_rows.specs.Marks.{body_of}
use Rattle.quietness.specs.Quiet.{counted, self_part}
use Rattle.quietness.proofs.Unlinked.{self_test, self_here}
use mathlib.Core.Bool.{not}
use Rattle.quietness.proofs.quiet.of_self.Goals as goal

-- what is asked of the row is what the form asks
asked : (counts : ℕ → Bool) (rows : ℕ → BodyRow) (end : ℕ) → T (ending rows end).sound → self_test counts (rows (end - 1)).code (rows (end - 1)) ≡ self_part counts (ending rows end).form
asked counts rows end ok =
    let h = sound_pos rows end ok in
    let whole : suc (end - 1) ≡ end = omega arith in
    self_here rows (end - 1) (subst (λ n. T (ending rows n).sound) (sym whole) ok) counts ∙ ap (λ n. self_part counts (ending rows n).form) whole

pub overflow_sub-row : goal.overflow_sub-row
overflow_sub-row c = sound_pos (body_of c.args.bodies.now c.args.rule) c.args.end c.requires

pub returns-then-not-role-own : goal.returns-then-not-role-own
returns-then-not-role-own c =
    let a = c.args in
    let rows = body_of a.bodies.now a.rule in
    let row = a.end - 1 in
    let counts = counted a.roles.every (relationships_of a.roles.relationships a.relationships.now) a.roles.context in
    let test = ap₂ (λ k x. eqb k 20 && eqb x 0) c.field-role.ensures c.field-own.ensures in
    sym (ap (λ own. own && counts (rows row).y) (sym test ∙ not-true _ (ap not c.if-not-role-own.true))) ∙ asked counts rows a.end c.requires

pub returns : goal.returns
returns c =
    let a = c.args in
    let rows = body_of a.bodies.now a.rule in
    let row = a.end - 1 in
    let counts = counted a.roles.every (relationships_of a.roles.relationships a.relationships.now) a.roles.context in
    let test = ap₂ (λ k x. eqb k 20 && eqb x 0) c.field-role.ensures c.field-own.ensures in
    c.counts.ensures ∙ ap counts c.field.ensures
    ∙ sym (ap (λ self. self && counts (rows row).y) (sym test ∙ not-false _ (ap not c.if-not-role-own.false)))
    ∙ asked counts rows a.end c.requires
