-- `candidates::mark_all` meets its contract. The loop's invariant: the rows that were passed are marked. The measure is what is left of the rows.
use mathlib.Core.Path.{sym, ap, ◌∙◌}
use mathlib.Core.Bool.{true, false, ◌||◌}
use native.Mathlib.Omega.{arith}
use lib.ListN.{get_or, length-set}
use lib.Seq.{get_or-set_same, get_or-set_other}
use borrow.Author.Count.{below_more}
use borrow.Author.Rules.{rules}
use borrow.Author.Tests.{not-true, not-false}
use mathlib.Core.Bool.{not}
use Rattle.candidates.proofs.mark_all.Goals as goal

pub returns-then-not-everything : goal.returns-then-not-everything
returns-then-not-everything c =
    let a = c.args in
    λ row h. sym (ap (λ b. b || get_or a.marks.now row false) (not-true a.everything (ap not c.if-not-everything.true)))

pub loop-row-init : goal.loop-row-init
loop-row-init c = (omega arith, c.requires.1, λ k h. absurd (omega arith))

pub loop-row-preserved : goal.loop-row-preserved
loop-row-preserved c =
    let l = c.loop-row in
    let test = c.loop-row-test.true in
    let few = c.requires.0 in (
      search rules,
      length-set l.marks l.row true ∙ l.invariant.1,
      below_more _ _ (λ k h. get_or-set_other l.marks l.row k true false (λ e. omega arith) ∙ l.invariant.2 k h) (get_or-set_same l.marks l.row true false (omega (arith, l.invariant.1))),
    )

pub returns : goal.returns
returns c =
    let test = c.loop-row-test.false in
    let a = c.args in
    λ row h. c.loop-row.invariant.2 row (omega arith) ∙ sym (ap (λ b. b || get_or a.marks.now row false) (not-false a.everything (ap not c.if-not-everything.false)))
