-- `selection::inspection::every_pair` meets its contract: the pairs of the rules below the rule are marked.
use mathlib.Core.Path.{◌≡◌, refl, sym, ap}
use native.Mathlib.Omega.{arith}
use Rattle.rows.specs.Rows.{read_rows}
use Rattle.selection.proofs.Adding.{added_to, one_more, rules_start, rules_on}
use Rattle.selection.proofs.inspection.every_pair.Goals as goal

pub loop-rule-init : goal.loop-rule-init
loop-rule-init c = (omega arith, omega arith, c.requires.2, rules_start _)

pub mark_context-found-requires : goal.mark_context-found-requires
mark_context-found-requires c =
    (c.requires.1, omega (arith, c.loop-rule-test.true, c.requires.0), c.loop-rule.invariant.2)

pub overflow_add-count : goal.overflow_add-count
overflow_add-count c =
    omega (arith, c.loop-rule-test.true, c.loop-rule.invariant.1, c.mark_context-found.ensures.1, c.requires.0, c.requires.1)

pub loop-rule-preserved : goal.loop-rule-preserved
loop-rule-preserved c =
    let inv = c.loop-rule.invariant in
    let promised = c.mark_context-found.ensures in (
      omega (arith, c.loop-rule-test.true),
      omega (arith, promised.1, inv.1, c.requires.1),
      promised.0,
      added_to refl (sym (one_more c.loop-rule.rule)) refl (rules_on inv.3 promised.2),
    )

pub returns : goal.returns
returns c =
    let inv = c.loop-rule.invariant in
    let all : c.loop-rule.rule ≡ c.args.n.rules = omega (arith, c.loop-rule-test.false, inv.0) in
    (inv.2, omega (arith, inv.1, inv.0), added_to refl (ap (read_rows (λ i. i)) all) refl inv.3)
