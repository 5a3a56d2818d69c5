-- `selection::inspection::mark_context` meets its contract: of the rows below the row those are marked whose object is under the rule's context type.
use mathlib.Core.Path.{◌≡◌, refl, sym, ap, ap₂, ◌∙◌}
use native.Mathlib.Omega.{arith}
use lib.ListN.{length}
use Rattle.meaning.specs.Schema.{under}
use Rattle.tables.specs.Columns.{types_of}
use Rattle.selection.specs.Selected.{in_context}
use Rattle.selection.proofs.Adding.{added_to, rows_start, row_marked, row_passed}
use Rattle.selection.proofs.inspection.mark_context.Goals.{else-under, then-under}
use Rattle.selection.proofs.inspection.mark_context.Goals as goal

pub loop-row-init : goal.loop-row-init
loop-row-init c = (omega arith, omega arith, c.requires.2, rows_start _ _ _ _)

pub mark-requires : goal.mark-requires
mark-requires c =
    (c.loop-row.invariant.2, c.requires.1, omega (arith, c.loop-row-test.true, c.requires.0))

pub overflow_add-count : goal.overflow_add-count
overflow_add-count c =
    omega (arith, c.loop-row-test.true, c.loop-row.invariant.1, c.requires.0)

pub loop-row-preserved : goal.loop-row-preserved
loop-row-preserved c =
    let a = c.args in
    let asked : c.under.result ≡ in_context (types_of a.n.types a.types.now) a.rules.now a.objects.now a.rule c.loop-row.row =
    c.under.ensures ∙ ap₂ (under (types_of a.n.types a.types.now)) c.type_of.ensures c.word-context.ensures in
    let inv = c.loop-row.invariant in (
      omega (arith, c.loop-row-test.true),
      elim c.if-under.branch [ then-under w ↦ omega (arith, w.count-is, inv.1) | else-under w ↦ omega (arith, w.count-is, inv.1) ],
      elim c.if-under.branch [ then-under w ↦ ap length w.marks-is ∙ w.mark.ensures.0 | else-under w ↦ ap length w.marks-is ∙ inv.2 ],
      elim c.if-under.branch [ then-under w ↦ added_to refl refl w.marks-is (row_marked inv.3 (sym w.if-under.true ∙ asked) w.mark.ensures.1 w.count-is) | else-under w ↦ row_passed inv.3 (sym w.if-under.false ∙ asked) w.marks-is w.count-is ],
    )

pub returns : goal.returns
returns c =
    let inv = c.loop-row.invariant in
    let all : c.loop-row.row ≡ c.args.n.objects = omega (arith, c.loop-row-test.false, inv.0) in
    (inv.2, omega (arith, inv.1, inv.0), added_to all refl refl inv.3)
