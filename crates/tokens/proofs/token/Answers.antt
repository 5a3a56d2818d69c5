-- `tokens::token` meets its contract, by the first byte.
use mathlib.Core.Path.{◌≡◌}
use lib.ListN.{get_or}
use native.Mathlib.Omega.{arith}
use borrow.Author.Tests.{eq-eqb, ne_eqb}
use Rattle.tokens.proofs.Tokens.{token_at_lem, token_past}
use Rattle.tokens.proofs.token.Goals as goal

pub returns-then-line-at : goal.returns-then-line-at
returns-then-line-at c = rw (token_past _ _ c.if-line-at.true)

pub returns-in-41 : goal.returns-in-41
returns-in-41 c = rw (token_at_lem _ _ c.if-line-at.false, eq-eqb _ _ c.in-41.is)

pub returns-in-32 : goal.returns-in-32
returns-in-32 c = rw (token_at_lem _ _ c.if-line-at.false, c.in-32.is) c.after_space.ensures

pub returns-in_default : goal.returns-in_default
returns-in_default c =
    let b = get_or c.args.line.now c.args.at 0 in
    let no_end : b ≡ 41 → ⊥ = λ e. omega arith in
    let no_space : b ≡ 32 → ⊥ = λ e. omega arith in
    rw (token_at_lem _ _ c.if-line-at.false, ne_eqb _ _ no_end, ne_eqb _ _ no_space)
