-- `selection::rule::choose` meets its contract: of the rows below the row those are marked at which the rule is selected.
use mathlib.Core.Path.{◌≡◌, refl, sym, ap, ◌∙◌}
use native.Mathlib.Omega.{arith}
use lib.ListN.{length}
use Rattle.selection.proofs.Adding.{added_to, rows_start, row_marked, row_passed}
use Rattle.selection.proofs.rule.choose.Goals.{else-chosen_at, then-chosen_at}
use Rattle.selection.proofs.rule.choose.Goals as goal

pub loop-row-init : goal.loop-row-init
loop-row-init c =
    (omega arith, omega arith, c.requires.4, λ k traced known. rows_start _ _ _ _)

pub chosen_at-requires : goal.chosen_at-requires
chosen_at-requires c =
    (c.requires.0, c.requires.1, c.requires.2, c.loop-row-test.true)

pub mark-requires : goal.mark-requires
mark-requires c =
    (c.loop-row.invariant.2, c.requires.3, omega (arith, c.loop-row-test.true, c.requires.1.1.objects_few))

pub overflow_add-count : goal.overflow_add-count
overflow_add-count c =
    omega (arith, c.loop-row-test.true, c.loop-row.invariant.1, c.requires.1.1.objects_few)

pub loop-row-preserved : goal.loop-row-preserved
loop-row-preserved c =
    let inv = c.loop-row.invariant in
    let asked = c.chosen_at.ensures in (
      omega (arith, c.loop-row-test.true),
      elim c.if-chosen_at.branch [ then-chosen_at w ↦ omega (arith, w.count-is, inv.1) | else-chosen_at w ↦ omega (arith, w.count-is, inv.1) ],
      elim c.if-chosen_at.branch [ then-chosen_at w ↦ ap length w.marks-is ∙ w.mark.ensures.0 | else-chosen_at w ↦ ap length w.marks-is ∙ inv.2 ],
      λ k traced known.
          elim c.if-chosen_at.branch [ then-chosen_at w ↦ added_to refl refl w.marks-is (row_marked (inv.3 k traced known) (sym w.if-chosen_at.true ∙ asked k traced known) w.mark.ensures.1 w.count-is) | else-chosen_at w ↦ row_passed (inv.3 k traced known) (sym w.if-chosen_at.false ∙ asked k traced known) w.marks-is w.count-is ],
    )

pub returns : goal.returns
returns c =
    let inv = c.loop-row.invariant in
    let all : c.loop-row.row ≡ c.args.n.objects = omega (arith, c.loop-row-test.false, inv.0) in
    (inv.2, omega (arith, inv.1, inv.0), λ k traced known. added_to all refl refl (inv.3 k traced known))
