-- `selection::select` meets its contract: the pairs of the rules that were taken are marked, and the others are the bits of the word that is left.
use Prim.Native.Nat.{◌-◌, ◌<◌}
use mathlib.Core.Path.{◌≡◌, refl, sym, ap, ◌∙◌}
use mathlib.Core.Bool.{false}
use mathlib.Core.List.{[], ◌∷◌}
use native.Mathlib.Omega.{arith}
use lib.ListN.{length-replicate}
use Rattle.bits.specs.Bits.{bits_in}
use Rattle.selection.proofs.Adding.{added_to, rules_start, rules_on}
use Rattle.selection.proofs.Going.{going_starts, next_low, next_room, going_on, going_ends}
use Rattle.selection.proofs.select.Goals as goal

pub loop-init : goal.loop-init
loop-init c =
    let (may, all) = c.requires.2 in
    (c.requires.3, length-replicate 65536 false, (going_starts c.args.n.rules may (bits_in c.args.touched) all (omega (arith, c.count-touched_rules.ensures)), λ k traced e. rules_start _))

pub slice_bounds-select_rule-end : goal.slice_bounds-select_rule-end
slice_bounds-select_rule-end c = sym c.loop.invariant.1

pub select_rule-found-requires : goal.select_rule-found-requires
select_rule-found-requires c =
    (c.requires.0, c.requires.1, next_low c.loop.invariant.2.0 (omega (arith, c.loop-test.true)) c.lowest-rule.ensures, c.loop.invariant.0, c.loop.invariant.1)

pub overflow_add-count : goal.overflow_add-count
overflow_add-count c =
    let g = c.loop.invariant.2.0 in
    let yes : 0 < c.count-touched_rules.result - c.loop.counter = omega (arith, c.loop-test.true) in
    omega (arith, next_low g yes c.lowest-rule.ensures, next_room g yes c.lowest-rule.ensures, c.select_rule-found.ensures.2, c.requires.0.given.few_rules)

pub loop-preserved : goal.loop-preserved
loop-preserved c =
    let (g, added) = c.loop.invariant.2 in
    let promised = c.select_rule-found.ensures in (
      promised.0,
      promised.1 ∙ c.loop.invariant.1,
      (
        going_on g (omega (arith, c.loop-test.true)) c.lowest-rule.ensures c.rest-left.ensures (omega (arith, promised.2)) (omega (arith, c.loop-test.true)),
        λ k traced e. rules_on (added k traced e) (added_to refl (ap (λ i. i ∷ []) c.lowest-rule.ensures) refl (promised.3 k traced e)),
      ),
    )

pub returns : goal.returns
returns c =
    let (g, added) = c.loop.invariant.2 in
    let none : c.count-touched_rules.result - c.loop.counter ≡ 0 = omega (arith, c.loop-test.false) in
    (c.loop.invariant.0, omega (arith, g.room, g.low_few), λ k traced e. added_to refl (going_ends g none) refl (added k traced e))
