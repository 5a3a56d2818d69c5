-- `register::search::guesses` meets its contract. The invariant: the rows from this one on, put into the table, make the table that is promised.
use Prim.Native.Nat.{suc, ◌-◌}
use mathlib.Core.Path.{◌≡◌, sym, ap, ◌∙◌}
use native.Mathlib.Numerals.{add-one}
use native.Mathlib.Omega.{arith}
use Rattle.register.specs.Guesses.{with_guess, with_guesses}
use Rattle.register.proofs.search.guesses.Goals as goal

pub loop-row-preserved : goal.loop-row-preserved
unfolding with_guesses
loop-row-preserved c =
    let at = c.loop-row in
    let x = c.args in
    let left : x.object_count - at.row ≡ suc (x.object_count - suc at.row) = omega (arith, c.loop-row-test.true) in
    rw (add-one at.row)
    (ap (λ t. with_guesses t x.objects.now (suc at.row) (x.object_count - suc at.row)) (c.put_guess.ensures ∙ ap (λ id. with_guess at.table id at.row) c.id_of.ensures)
    ∙ ap (with_guesses at.table x.objects.now at.row) (sym left)
    ∙ at.invariant)

pub returns : goal.returns
unfolding with_guesses
returns c =
    let at = c.loop-row in
    let x = c.args in
    let none_left : x.object_count - at.row ≡ 0 = omega (arith, c.loop-row-test.false) in
    ap (with_guesses at.table x.objects.now at.row) (sym none_left) ∙ at.invariant
