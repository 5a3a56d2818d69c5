-- `tokens::pack` meets its contract. The loop's invariant: the value is that of the bytes from i on, and has as many digits at most.
use Prim.Native.Nat.{◌-◌, ◌^◌, ◌≤◌}
use mathlib.Core.Path.{◌≡◌}
use native.Mathlib.Nat.{le_refl, pow-le-pow_right}
use native.Mathlib.Omega.{arith}
use lib.ListN.{get_or}
use Rattle.tokens.specs.Tokens.{packed}
use Rattle.tokens.proofs.Names.{pack_more, power_more}
use Rattle.tokens.proofs.pack.Goals as goal

pub loop-i-init : goal.loop-i-init
unfolding packed
loop-i-init c =
    let e = c.args.end in
    let n : e - e ≡ 0 = omega arith in
    (c.requires.0, le_refl e, rw (n, packed), rw n (omega arith))

pub overflow_mul-value : goal.overflow_mul-value
overflow_mul-value c =
    let few : c.args.end - c.loop-i.i ≤ 6 = omega arith in
    let small : 256 ^ (c.args.end - c.loop-i.i) ≤ 256 ^ 6 = pow-le-pow_right (omega arith) few in
    omega arith

pub overflow_add-value : goal.overflow_add-value
overflow_add-value c =
    let few : c.args.end - c.loop-i.i ≤ 6 = omega arith in
    let small : 256 ^ (c.args.end - c.loop-i.i) ≤ 256 ^ 6 = pow-le-pow_right (omega arith) few in
    omega (arith, c.type_inv.line (c.loop-i.i - 1))

pub loop-i-preserved : goal.loop-i-preserved
loop-i-preserved c =
    let args = c.args in
    let i = c.loop-i.i in
    let inv = c.loop-i.invariant in
    let byte = c.type_inv.line (i - 1) in
    (omega arith, omega arith, pack_more args.line.now args.at args.end i c.loop-i.value (omega arith) (omega arith) (omega arith) inv.2, power_more args.end i c.loop-i.value (get_or args.line.now (i - 1) 0) (omega arith) (omega arith) inv.3 (omega (arith, byte)))
