-- `body_rows::body::start_at` meets its contract: the tests that the code makes in turn are those of the reading.
use Prim.Native.Nat.{ℕ}
use mathlib.Core.Path.{◌≡◌, sym, ◌∙◌}
use mathlib.Core.Option.{some}
use native.Mathlib.Omega.{arith}
use borrow.Author.Tests.{eq-eqb, ne_eqb}
use Rattle.tables.specs.Codes.{Operator, operator_of, shape_of}
use Rattle.tables.specs.Bodies.{BodyRow}
use Rattle.body_rows.specs.Marks.{body_of, first_sort, second_sort}
use Rattle.body_rows.proofs.Shapes.{operator_at, no_operator_at}
use Rattle.body_rows.proofs.Marks.{start_none, start_some}
use Rattle.body_rows.proofs.body.start_at.Goals as goal
use Rattle.body_rows.proofs.body.start_at.Lts as lts
use Rattle.body_rows.proofs.body.start_at.Reads as reads
use Rattle.body_rows.proofs.body.start_at.Tie as tie

abbrev rows : lts.Start tie.the-claims reads.Pre reads.Post → ℕ → BodyRow
rows s = body_of s.args.bodies.now s.args.rule

-- the row's operator
operator : (c : lts.Else1 tie.the-claims reads.Pre reads.Post) → (o : Operator) × (operator_of c.field-code.result ≡ some o) × (operator_of (rows c.before.before.before c.args.row).code ≡ some o)
operator c =
    operator_at (rows c.before.before.before c.args.row).code c.field-code.result c.field-code.ensures c.if-code-ge23.false

-- the parts that it wants
second : (c : lts.After-shape tie.the-claims reads.Pre reads.Post) → c.shape.result ≡ second_sort (shape_of (operator c.before).0).parts
second c = let w = operator c.before in c.shape.ensures w.0 w.1

first : (c : lts.After-shape2 tie.the-claims reads.Pre reads.Post) → c.shape-2.result ≡ first_sort (shape_of (operator c.before.before.before).0).parts
first c = let w = operator c.before.before.before in c.shape-2.ensures w.0 w.1

pub returns-then-code-ge23 : goal.returns-then-code-ge23
returns-then-code-ge23 c =
    sym (start_none (rows c.before.before.before.before) c.args.row (no_operator_at (rows c.before.before.before.before c.args.row).code c.field-code.result c.field-code.ensures c.if-code-ge23.true))

pub returns-then-shape-eq-NONE : goal.returns-then-shape-eq-NONE
returns-then-shape-eq-NONE c =
    let w = operator c.before.before.before in
    sym (start_some (rows c.before.before.before.before.before.before) c.args.row w.0 w.2 ∙ simp (eq-eqb (second_sort (shape_of w.0).parts) 3 (sym (second c.before.before) ∙ c.if-shape-eq-NONE.true)))

second_some : (c : lts.Else2 tie.the-claims reads.Pre reads.Post) → second_sort (shape_of (operator c.before.before).0).parts ≡ 3 → ⊥
second_some c e = c.if-shape-eq-NONE.false (second c.before ∙ e)

pub returns-then-shape-eq-NONE-2 : goal.returns-then-shape-eq-NONE-2
returns-then-shape-eq-NONE-2 c =
    let w = operator c.before.before.before.before.before in
    let parts = (shape_of w.0).parts in
    sym (start_some (rows c.before.before.before.before.before.before.before.before) c.args.row w.0 w.2 ∙ simp (ne_eqb (second_sort parts) 3 (second_some c.before.before.before), eq-eqb (first_sort parts) 3 (sym (first c.before.before) ∙ c.if-shape-eq-NONE-2.true)) (omega arith))

pub returns-else-shape-eq-NONE-2 : goal.returns-else-shape-eq-NONE-2
returns-else-shape-eq-NONE-2 c =
    let w = operator c.before.before.before.before.before in
    let parts = (shape_of w.0).parts in
    sym (start_some (rows c.before.before.before.before.before.before.before.before) c.args.row w.0 w.2 ∙ simp (ne_eqb (second_sort parts) 3 (second_some c.before.before.before), ne_eqb (first_sort parts) 3 (λ e. c.if-shape-eq-NONE-2.false (first c.before.before ∙ e))) (omega arith))
