-- `going_back::leaf` meets its contract, by the laws of Leaves.
use Prim.Native.Nat.{◌<◌}
use native.Mathlib.Omega.{arith}
use Rattle.row_sets.proofs.Growth.{grown_none}
use Rattle.going_back.proofs.Leaves.{leaf_all, leaf_num, leaf_cell, leaf_role, leaf_kind}
use Rattle.going_back.proofs.leaf.Goals as goal

pub all_moved-requires : goal.all_moved-requires
all_moved-requires c = (c.requires.1, c.requires.0.1.known c.if-code-eq-ALL.true)

pub returns-then-code-eq-ALL : goal.returns-then-code-eq-ALL
returns-then-code-eq-ALL c =
    let a = c.args in
    (grown_none _, λ k traced. leaf_all k a.x a.y a.set c.requires.2 c.requires.3 _ _ _ _ c.if-code-eq-ALL.true (c.all_moved.ensures k traced))

pub returns-then-code-eq-NUM : goal.returns-then-code-eq-NUM
returns-then-code-eq-NUM c =
    let a = c.args in
    (grown_none _, λ k traced. leaf_num k a.x a.y a.set c.requires.2 c.requires.3 _ _ _ _ c.if-code-eq-NUM.true)

pub put_answers-requires : goal.put_answers-requires
put_answers-requires c =
    let bound : c.args.x < 64 = let able = c.requires.0.1 in let low = able.bound c.if-code-eq-NUM.false c.if-code-eq-ALL.false in omega (arith, able.shallow) in
    (c.requires.1, omega arith, bound, c.requires.4)

pub returns-then-code-eq-CELL : goal.returns-then-code-eq-CELL
returns-then-code-eq-CELL c =
    let a = c.args in
    (c.put_answers.ensures.0, λ k traced. leaf_cell k a.x a.y a.set c.requires.2 c.requires.3 _ _ _ _ c.if-code-eq-CELL.true (c.put_answers.ensures.1 k traced))

pub put_moved-requires : goal.put_moved-requires
put_moved-requires c =
    let bound : c.args.x < 64 = let able = c.requires.0.1 in let low = able.bound c.if-code-eq-NUM.false c.if-code-eq-ALL.false in omega (arith, able.shallow) in
    (c.requires.1, omega arith, omega arith, bound, c.requires.4)

pub returns-then-code-eq-ROLE : goal.returns-then-code-eq-ROLE
returns-then-code-eq-ROLE c =
    let a = c.args in
    (c.put_moved.ensures.0, λ k traced. leaf_role k a.x a.y a.set c.requires.2 c.requires.3 _ _ _ _ c.if-code-eq-ROLE.true (c.put_moved.ensures.1 k traced))

pub put_moved-requires-2 : goal.put_moved-requires-2
put_moved-requires-2 c =
    let bound : c.args.x < 64 = let able = c.requires.0.1 in let low = able.bound c.if-code-eq-NUM.false c.if-code-eq-ALL.false in omega (arith, able.shallow) in
    (c.requires.1, omega arith, omega arith, bound, c.requires.4)

pub returns : goal.returns
returns c =
    let a = c.args in
    let code = c.requires.0.1.codes c.if-code-eq-NUM.false c.if-code-eq-CELL.false c.if-code-eq-ROLE.false c.if-code-eq-ALL.false in
    (c.put_moved-2.ensures.0, λ k traced. leaf_kind k a.x a.y a.set c.requires.2 c.requires.3 _ _ _ _ code (c.put_moved-2.ensures.1 k traced))
