-- `schema::under` meets its contract. The invariant: what is left of the way up decides.
use Prim.Native.Nat.{ℕ, ◌-◌, ◌+◌}
use mathlib.Core.Path.{◌≡◌, refl, sym, ap, ◌∙◌}
use native.Mathlib.Omega.{arith}
use Rattle.meaning.specs.Schema.{climbs, under}
use Rattle.tables.specs.Columns.{types_of}
use Rattle.schema.proofs.Climb.{climb_there, climb_end, climb_top, climb_up}
use Rattle.schema.proofs.under.Goals as goal

pub loop-init : goal.loop-init
unfolding under
loop-init c =
    let x = c.args in
    let e : x.t - 0 ≡ x.t = omega arith in
    sym (ap (λ n. climbs (types_of x.type_count x.types.now) n x.t x.u) e)

pub returns-then-at-u : goal.returns-then-at-u
returns-then-at-u c = rw c.loop.invariant (sym (climb_there _ _ c.if-at-u.true))

pub returns-in-None : goal.returns-in-None
returns-in-None c =
    rw c.loop.invariant
    (sym (climb_top _ _ (omega (arith, c.loop-test.true)) c.if-at-u.false (sym c.in-None.is ∙ c.parent_of.ensures)))

pub loop-preserved : goal.loop-preserved
loop-preserved c =
    let x = c.args in
    let e : x.t - c.loop.counter - 1 ≡ x.t - (c.loop.counter + 1) = omega arith in
    c.loop.invariant
    ∙ climb_up _ _ (omega (arith, c.loop-test.true)) c.if-at-u.false (sym c.in-Some.is ∙ c.parent_of.ensures)
    ∙ ap (λ n. climbs (types_of x.type_count x.types.now) n c.in-Some.parent x.u) e

pub returns : goal.returns
returns c = rw c.loop.invariant (sym (climb_end _ _ _ _ (omega (arith, c.loop-test.false))))
