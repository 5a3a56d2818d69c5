-- `lexical::read_negative` meets its contract: the tests of the cut value are those of `negative`.
use Prim.Native.Nat.{ℕ, suc, ◌+◌, ◌-◌}
use mathlib.Core.Path.{◌≡◌, ap₂, sym}
use mathlib.Core.Option.{none}
use Rattle.std.specs.Prelude.{Some}
use native.Mathlib.Omega.{arith}
use lib.ListN.{length, drop}
use Rattle.lexical.specs.Decimals.{digits_in, negative}
use Rattle.lexical.proofs.Cut.{ends, negative_is, negative_zero, negative_large, no_negative}
use Rattle.lexical.proofs.Decimals.{number}
use Rattle.lexical.proofs.read_negative.Goals.{then-value-lt1-via-then-value-lt1, then-value-lt1-via-else-value-lt1+then-value-gt2147483648}
use Rattle.lexical.proofs.read_negative.Goals as goal

pub returns-in_err-d : goal.returns-in_err-d
returns-in_err-d c = rw (no_negative _ _ (sym c.in_err-d.ensures)) c.from_residual.ensures

pub returns-then-value-lt1 : goal.returns-then-value-lt1
returns-then-value-lt1 c =
    let digits = sym c.in_ok-d.ensures in
    let no : negative (digits_in (drop (c.args.at + 1) c.args.text.now)) ≡ none =
    elim c.then-value-lt1.branch [
      | then-value-lt1-via-then-value-lt1 w ↦ negative_zero _ _ _ _ digits (omega arith)
      | then-value-lt1-via-else-value-lt1+then-value-gt2147483648 w ↦ negative_large _ _ _ _ digits (omega arith)
    ] in
    rw no

pub returns : goal.returns
returns c =
    let d = c.in_ok-d.d in
    let digits = sym c.in_ok-d.ensures in
    let word : 4294967296 - d.value ≡ 4294967295 - (d.value - 1) = omega arith in
    let ds = digits_in (drop (c.args.at + 1) c.args.text.now) in
    let next : d.end ≡ c.args.at + suc (length ds) = omega (arith, ends ds (c.args.at + 1) d.value d.end digits) in
    rw (negative_is _ _ _ _ digits (omega arith) (omega arith)) (ap₂ (λ (w e : ℕ). Some (number w e)) word next)
