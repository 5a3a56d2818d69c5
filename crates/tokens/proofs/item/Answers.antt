-- `tokens::item` meets its contract: a number, or `-` alone where none is read.
use Prim.Native.Nat.{ℕ, ◌+◌, ◌<◌}
use mathlib.Core.Path.{sym, ap}
use native.Mathlib.Omega.{arith}
use borrow.Author.Tests.{eq-eqb, ne_eqb}
use lib.ListN.{length}
use Rattle.std.specs.Prelude.{Some}
use Rattle.tokens.specs.declared.Found.TheVariants.{Item}
use Rattle.tokens.proofs.Tokens.{dash_at, number_read, number_unread}
use Rattle.tokens.proofs.item.Goals as goal

pub returns-in-Some : goal.returns-in-Some
returns-in-Some c = number_read _ _ _ _ (sym c.in-Some.ensures)

pub returns-then-line-start-ne45 : goal.returns-then-line-start-ne45
returns-then-line-start-ne45 c =
    let unread = sym c.in_default.ensures in
    let h : c.args.at + 1 < length c.args.line.now = c.requires in
    rw (number_unread _ _ _ unread, dash_at _ _ h, ne_eqb _ _ c.if-line-start-ne45.true)

pub returns : goal.returns
returns c =
    let unread = sym c.in_default.ensures in
    let h : c.args.at + 1 < length c.args.line.now = c.requires in
    rw (number_unread _ _ _ unread, dash_at _ _ h, eq-eqb _ _ c.if-line-start-ne45.false) (ap (λ (next : ℕ). Some (Item 4294967296 next)) (omega arith))
