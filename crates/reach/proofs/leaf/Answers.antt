-- `reach::leaf` meets its contract.
use Prim.Native.Nat.{ℕ, ◌<◌}
use mathlib.Core.Path.{◌≡◌, sym, ap, ◌∙◌}
use mathlib.Core.List.{List, map}
use native.Mathlib.Omega.{arith}
use lib.ListN.{get_or, take}
use Rattle.meaning.specs.Forms.{variable}
use Rattle.meaning.specs.Reach.{role_moves, cell_moves, kind_moves}
use Rattle.directions.specs.Sets.{some_of}
use Rattle.walks.specs.Site.{id_in}
use Rattle.ocl.proofs.Variables.{bound_at}
use Rattle.reach.specs.Moves.{leaf_moves}
use Rattle.reach.proofs.Leaves.{asked_set, leaf_all, leaf_num, leaf_cell, leaf_role, leaf_kind}
use Rattle.tables.specs.declared.Sheet as Code
use Rattle.reach.proofs.leaf.Goals as goal

-- the objects of the variables that are bound
abbrev env : Code.Sheet → ℕ → List ℕ → List ℕ
env s depth vs = map (id_in s.objects.now) (take depth vs)

pub all_moved-requires : goal.all_moved-requires
all_moved-requires c = (c.requires.0, c.requires.1.known c.if-code-eq-ALL.true)

pub returns-then-code-eq-ALL : goal.returns-then-code-eq-ALL
returns-then-code-eq-ALL c =
    let a = c.args in
    λ k traced. c.all_moved.ensures k traced
    ∙ leaf_all k (env c.args.sheet.now c.args.depth c.args.vs.now) a.x a.y a.set c.requires.2 c.requires.3
    ∙ ap (λ code. some_of a.set (leaf_moves k (env c.args.sheet.now c.args.depth c.args.vs.now) code a.x a.y)) (sym c.if-code-eq-ALL.true)

pub returns-then-code-eq-NUM : goal.returns-then-code-eq-NUM
returns-then-code-eq-NUM c =
    let a = c.args in
    λ k traced. leaf_num k (env c.args.sheet.now c.args.depth c.args.vs.now) a.x a.y a.set c.requires.2 c.requires.3
    ∙ ap (λ code. some_of a.set (leaf_moves k (env c.args.sheet.now c.args.depth c.args.vs.now) code a.x a.y)) (sym c.if-code-eq-NUM.true)

pub bounds-vs-at : goal.bounds-vs-at
bounds-vs-at c =
    let bound : c.args.x < c.args.depth = c.requires.1.bound c.if-code-eq-NUM.false c.if-code-eq-ALL.false in
    let b = bound in
    omega (arith, c.requires.1.shallow)

pub ask-requires : goal.ask-requires
ask-requires c =
    let bound : c.args.x < c.args.depth = c.requires.1.bound c.if-code-eq-NUM.false c.if-code-eq-ALL.false in
    (c.requires.0, c.requires.1.there c.args.x bound, omega arith)

pub returns-then-code-eq-CELL : goal.returns-then-code-eq-CELL
returns-then-code-eq-CELL c =
    let named : variable (env c.args.sheet.now c.args.depth c.args.vs.now) c.args.x ≡ id_in c.args.sheet.now.objects.now (get_or c.args.vs.now c.args.x 0) = let p = c.requires.1 in bound_at (id_in c.args.sheet.now.objects.now) c.args.depth c.args.vs.now c.args.x (c.requires.1.bound c.if-code-eq-NUM.false c.if-code-eq-ALL.false) (omega (arith, p.held, p.shallow)) in
    let a = c.args in
    λ k traced. c.ask.ensures k traced ∙ asked_set k _ a.y ∙ ap (λ u. cell_moves k u a.y) (sym named)
    ∙ leaf_cell k (env c.args.sheet.now c.args.depth c.args.vs.now) a.x a.y a.set c.requires.2 c.requires.3
    ∙ ap (λ code. some_of a.set (leaf_moves k (env c.args.sheet.now c.args.depth c.args.vs.now) code a.x a.y)) (sym c.if-code-eq-CELL.true)

pub role_moved-requires : goal.role_moved-requires
role_moved-requires c =
    let bound : c.args.x < c.args.depth = c.requires.1.bound c.if-code-eq-NUM.false c.if-code-eq-ALL.false in
    (c.requires.0, c.requires.1.there c.args.x bound)

pub returns-then-code-eq-ROLE : goal.returns-then-code-eq-ROLE
returns-then-code-eq-ROLE c =
    let named : variable (env c.args.sheet.now c.args.depth c.args.vs.now) c.args.x ≡ id_in c.args.sheet.now.objects.now (get_or c.args.vs.now c.args.x 0) = let p = c.requires.1 in bound_at (id_in c.args.sheet.now.objects.now) c.args.depth c.args.vs.now c.args.x (c.requires.1.bound c.if-code-eq-NUM.false c.if-code-eq-ALL.false) (omega (arith, p.held, p.shallow)) in
    let a = c.args in
    λ k traced. c.role_moved.ensures k traced ∙ ap (λ u. some_of a.set (role_moves k a.y u)) (sym named)
    ∙ leaf_role k (env c.args.sheet.now c.args.depth c.args.vs.now) a.x a.y a.set c.requires.2 c.requires.3
    ∙ ap (λ code. some_of a.set (leaf_moves k (env c.args.sheet.now c.args.depth c.args.vs.now) code a.x a.y)) (sym c.if-code-eq-ROLE.true)

pub kind_moved-requires : goal.kind_moved-requires
kind_moved-requires c =
    let bound : c.args.x < c.args.depth = c.requires.1.bound c.if-code-eq-NUM.false c.if-code-eq-ALL.false in
    (c.requires.0, c.requires.1.there c.args.x bound)

pub returns : goal.returns
returns c =
    let named : variable (env c.args.sheet.now c.args.depth c.args.vs.now) c.args.x ≡ id_in c.args.sheet.now.objects.now (get_or c.args.vs.now c.args.x 0) = let p = c.requires.1 in bound_at (id_in c.args.sheet.now.objects.now) c.args.depth c.args.vs.now c.args.x (c.requires.1.bound c.if-code-eq-NUM.false c.if-code-eq-ALL.false) (omega (arith, p.held, p.shallow)) in
    let a = c.args in
    λ k traced. c.kind_moved.ensures k traced ∙ ap (λ u. some_of a.set (kind_moves k u a.y)) (sym named)
    ∙ leaf_kind k (env c.args.sheet.now c.args.depth c.args.vs.now) a.x a.y a.set c.requires.2 c.requires.3
    ∙ ap (λ code. some_of a.set (leaf_moves k (env c.args.sheet.now c.args.depth c.args.vs.now) code a.x a.y)) (sym (c.requires.1.codes (omega arith) (omega arith) (omega arith) (omega arith)))
