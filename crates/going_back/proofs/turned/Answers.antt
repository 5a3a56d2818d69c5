-- `going_back::turned` meets its contract.
use Prim.Native.Nat.{◌%◌}
use native.Mathlib.Omega.{arith}
use borrow.Author.Tests.{eq-eqb, ne_eqb}
use Rattle.going_back.proofs.turned.Goals as goal

pub returns-then-role-eq0 : goal.returns-then-role-eq0
returns-then-role-eq0 c = (rw (eq-eqb (c.args.role % 2) 0 c.if-role-eq0.true), omega arith)

pub returns-else-role-eq0 : goal.returns-else-role-eq0
returns-else-role-eq0 c = (rw (ne_eqb (c.args.role % 2) 0 c.if-role-eq0.false), omega arith)
