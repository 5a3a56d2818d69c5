-- `lent_run::short` meets its contract.
use mathlib.Core.Path.{◌≡◌, sym, ap}
use mathlib.Core.Bool.{Bool, true, false, ◌||◌}
use borrow.Author.Tests.{lt-ltb, le-ltb}
use Rattle.lent_run.proofs.short.Goals as goal

either : (a b : Bool) → a ≡ true → true ≡ (a || b)
either a b e = sym (ap (λ x. x || b) e)

second : (a b : Bool) → a ≡ false → b ≡ (a || b)
second a b e = sym (ap (λ x. x || b) e)

pub returns-then-scratch_objects-objects : goal.returns-then-scratch_objects-objects
returns-then-scratch_objects-objects c = either _ _ (lt-ltb _ _ c.if-scratch_objects-objects.true)

pub returns : goal.returns
returns c = second _ _ (le-ltb _ _ c.if-scratch_objects-objects.false)
