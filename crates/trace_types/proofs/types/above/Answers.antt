-- `trace_types::types::above` meets its contract. The invariant: the types that the walk has put, and those that are left of it, are those above t.
use Prim.Native.Nat.{◌+◌, ◌-◌}
use mathlib.Core.Path.{◌≡◌, refl, sym, ap, subst, ◌∙◌}
use mathlib.Core.Bool.{false, not}
use lib.ListN.{replicate}
use Rattle.meaning.specs.Limits.{max_types}
use mathlib.Core.Option.{some}
use native.Mathlib.Omega.{arith}
use borrow.Author.Tests.{not-true, not-false}
use Rattle.tables.specs.Columns.{types_of}
use Rattle.trace_types.proofs.Climbing.{Walked, no_truths, no_parent_lem, parent_word_lem, walk_none, walk_up, walk_top, walk_end}
use Rattle.trace_types.proofs.types.above.Goals as goal

pub loop-init : goal.loop-init
loop-init c =
    let a = c.args in
    let e : a.t ≡ a.t - 0 = omega arith in
    (refl, subst (λ n. Walked (types_of a.type_count a.types.now) a.t (replicate max_types false) n a.t) e (walk_none _ _ _ no_truths.each))

pub returns-then-not-has_parent : goal.returns-then-not-has_parent
returns-then-not-has_parent c =
    let a = c.args in
    walk_top (types_of a.type_count a.types.now) a.t c.loop.invariant.1 c.put.ensures (omega (arith, c.loop-test.true))
    (no_parent_lem _ c.loop.at (sym c.has_parent.ensures ∙ not-true c.has_parent.result (ap not c.if-not-has_parent.true)))

pub loop-preserved : goal.loop-preserved
loop-preserved c =
    let a = c.args in
    let e : a.t - c.loop.counter - 1 ≡ a.t - (c.loop.counter + 1) = omega arith in (
      c.put.auto.truths ∙ c.loop.invariant.0,
      subst (λ n. Walked (types_of a.type_count a.types.now) a.t c.put.new.truths n c.word-at.result) e
          (walk_up (types_of a.type_count a.types.now) a.t c.loop.invariant.1 c.put.ensures (omega (arith, c.loop-test.true))
          (parent_word_lem a.type_count a.types.now c.loop.at (sym c.has_parent.ensures ∙ not-false c.has_parent.result (ap not c.if-not-has_parent.false)) ∙ ap some (sym c.word-at.ensures))),
    )

pub returns : goal.returns
returns c =
    let a = c.args in
    walk_end (types_of a.type_count a.types.now) a.t c.loop.invariant.1 c.put-2.ensures (omega (arith, c.loop-test.false))
