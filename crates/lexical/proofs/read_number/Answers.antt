-- `lexical::read_number` meets its contract, by the first byte; the tests of the cut value are those of `positive`.
use Prim.Native.Nat.{ℕ}
use mathlib.Core.Path.{ap, sym}
use Rattle.std.specs.Prelude.{Some}
use native.Mathlib.Omega.{arith}
use borrow.Author.Tests.{eq-eqb, ne_eqb}
use lib.ListN.{drop_of_length-le}
use Rattle.lexical.specs.Decimals.{number_in}
use Rattle.lexical.proofs.Cut.{ends, positive_is, positive_not, no_positive, number_at}
use Rattle.lexical.proofs.Decimals.{number}
use Rattle.lexical.proofs.read_number.Goals as goal

pub returns-then-text-at : goal.returns-then-text-at
unfolding number_in
returns-then-text-at c = rw (drop_of_length-le _ c.if-text-at.true)

pub returns-then-text-at-eq45 : goal.returns-then-text-at-eq45
returns-then-text-at-eq45 c =
    rw (number_at _ _ c.if-text-at.false, eq-eqb _ _ c.if-text-at-eq45.true) c.read_negative.ensures

pub returns-in_err-d : goal.returns-in_err-d
returns-in_err-d c =
    rw (number_at _ _ c.if-text-at.false, ne_eqb _ _ c.if-text-at-eq45.false, no_positive _ _ (sym c.in_err-d.ensures)) c.from_residual.ensures

pub returns-then-value-gt2147483647 : goal.returns-then-value-gt2147483647
returns-then-value-gt2147483647 c =
    rw (number_at _ _ c.if-text-at.false, ne_eqb _ _ c.if-text-at-eq45.false, positive_not _ _ _ _ (sym c.in_ok-d.ensures) (omega arith))

pub returns : goal.returns
returns c =
    let d = c.in_ok-d.d in
    let digits = sym c.in_ok-d.ensures in
    rw (number_at _ _ c.if-text-at.false, ne_eqb _ _ c.if-text-at-eq45.false, positive_is _ _ _ _ digits (omega arith))
    (ap (λ (e : ℕ). Some (number d.value e)) (ends _ _ _ _ digits))
