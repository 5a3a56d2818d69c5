-- `tokens::after_space` meets its contract: an open bracket and its name, or an item.
use mathlib.Core.Path.{sym, ◌∙◌}
use native.Mathlib.Omega.{arith}
use borrow.Author.Tests.{eq-eqb, ne_eqb}
use Rattle.tokens.proofs.Tokens.{after_at, after_past, named, unnamed}
use Rattle.tokens.proofs.after_space.Goals as goal

pub returns-then-line-from : goal.returns-then-line-from
returns-then-line-from c = rw (after_past _ _ c.if-line-from.true)

pub returns-then-line-from-ne40 : goal.returns-then-line-from-ne40
returns-then-line-from-ne40 c =
    rw (after_at _ _ c.if-line-from.false, ne_eqb _ _ c.if-line-from-ne40.true) c.item.ensures

pub returns-in_err-place : goal.returns-in_err-place
returns-in_err-place c =
    let none = sym c.in_err-place.was ∙ c.name-n.ensures.0 in
    rw (after_at _ _ c.if-line-from.false, eq-eqb _ _ c.if-line-from-ne40.false, unnamed _ _ none) c.from_residual.ensures

pub returns : goal.returns
returns c =
    let place = sym c.in_ok-place.was ∙ c.name-n.ensures.0 in
    rw (after_at _ _ c.if-line-from.false, eq-eqb _ _ c.if-line-from-ne40.false) (named _ c.args.at _ _ place (omega (arith, c.name-n.ensures.1)))
