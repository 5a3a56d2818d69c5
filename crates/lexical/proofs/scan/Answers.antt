-- `lexical::scan` meets its contract. The loop's invariant: the value so far and the digits from i on say, cut, what all the digits say, and they end where all do.
use Prim.Native.Nat.{◌+◌, ◌-◌, ◌*◌, min}
use mathlib.Core.Path.{◌≡◌, sym, ap, ◌∙◌}
use mathlib.Core.Bool.{true}
use native.Mathlib.Omega.{arith}
use lib.ListN.{length, get_or}
use Rattle.lexical.specs.Decimals.{is_digit, too_large}
use Rattle.lexical.proofs.Runs.{run_go}
use Rattle.lexical.proofs.Cut.{scan_step}
use Rattle.lexical.proofs.scan.Goals as goal

pub loop-i-preserved : goal.loop-i-preserved
loop-i-preserved c =
    let t = c.args.text.now in
    let i = c.loop-i.i in
    let v = c.loop-i.value in
    let d : is_digit (get_or t i 0) ≡ true = sym c.is_ascii_digit.ensures.value ∙ c.if-not-is_ascii_digit.false in
    let e : c.min-value.result ≡ min too_large (v * 10 + (get_or t i 0 - 48)) = omega arith in
    (scan_step t i v c.min-value.result c.loop-i-test.true d e ∙ c.loop-i.invariant.0, omega (arith, ap length (run_go is_digit t i c.loop-i-test.true d)), omega arith)
