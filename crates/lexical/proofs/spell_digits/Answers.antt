-- `lexical::spell_digits` meets its contract. The loop's invariant: the digits of the rest, before what the buffer has from i on, are the digits of n, and there is room for them and a sign.
use Prim.Native.Nat.{◌/◌}
use mathlib.Core.Path.{◌≡◌}
use native.Mathlib.Omega.{arith}
use lib.ListN.{length-set}
use Rattle.lexical.proofs.Spelling.{lead_zero, lead_longer, short_lead, spell_first, spell_more}
use Rattle.lexical.proofs.spell_digits.Goals as goal

pub loop-rest-init : goal.loop-rest-init
loop-rest-init c =
    (spell_first c.args.buffer.now _ c.requires, omega (arith, short_lead 9 (c.args.n / 10) (omega (arith, c.ranges.n))), omega arith, simp length-set c.requires)

pub loop-rest-preserved : goal.loop-rest-preserved
loop-rest-preserved c =
    let inv = c.loop-rest.invariant in
    let longer = lead_longer c.loop-rest.rest c.loop-rest-test.true in
    (spell_more c.loop-rest.buffer c.loop-rest.i c.loop-rest.rest inv.0 c.loop-rest-test.true (omega arith) (omega arith), omega arith, omega arith, simp length-set inv.3)

pub returns : goal.returns
returns c =
    let inv = c.loop-rest.invariant in
    let none : c.loop-rest.rest ≡ 0 = omega arith in
    (omega arith, inv.2, rw (none, lead_zero) at inv.0, inv.3)
