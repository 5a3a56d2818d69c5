use Prim.Native.Nat.{min}
use mathlib.Core.Path.{◌≡◌}
use native.Mathlib.Omega.{arith}
use lib.ListN.{get_or}
use Rattle.std.proofs.lemmas.Bool.Decides.{nat_tests}
use Rattle.tables.specs.Layouts.{limit_of}
use Rattle.reading.proofs.look.is_full.Goals as goal

pub returns-then-most-counts : goal.returns-then-most-counts
unfolding limit_of
returns-then-most-counts c =
    let most : c.min-most.result ≡ min (limit_of c.args.section) (get_or c.args.room.now c.args.section 0) = omega (arith, c.min-most.ensures) in
    grind (arith, nat_tests)

pub returns-then-section-eq-RULE_SECTION : goal.returns-then-section-eq-RULE_SECTION
unfolding limit_of
returns-then-section-eq-RULE_SECTION c =
    let most : c.min-most.result ≡ min (limit_of c.args.section) (get_or c.args.room.now c.args.section 0) = omega (arith, c.min-most.ensures) in
    grind (arith, nat_tests)

pub returns-else-section-eq-RULE_SECTION : goal.returns-else-section-eq-RULE_SECTION
unfolding limit_of
returns-else-section-eq-RULE_SECTION c =
    let most : c.min-most.result ≡ min (limit_of c.args.section) (get_or c.args.room.now c.args.section 0) = omega (arith, c.min-most.ensures) in
    grind (arith, nat_tests)
