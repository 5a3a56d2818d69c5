-- `body_rows::body::mark_at` meets its contract: the tests that the code makes in turn are those of the reading.
use Prim.Native.Nat.{ℕ}
use mathlib.Core.Path.{◌≡◌, sym, ap, ap₂, ◌∙◌}
use mathlib.Core.Bool.{true}
use mathlib.Core.Option.{some}
use borrow.Author.Tests.{not-true, not-false}
use Rattle.tables.specs.Codes.{Operator, operator_of, shape_of}
use Rattle.tables.specs.Bodies.{BodyRow, fields_fit, first_part, second_part}
use Rattle.body_rows.specs.Marks.{body_of, mark, first_sort, second_sort, serves}
use Rattle.body_rows.proofs.Shapes.{operator_at, no_operator_at}
use Rattle.body_rows.proofs.Marks.{mark_none, mark_some}
use mathlib.Core.Bool.{not}
use Rattle.body_rows.proofs.body.mark_at.Goals as goal
use Rattle.body_rows.proofs.body.mark_at.Lts as lts
use Rattle.body_rows.proofs.body.mark_at.Reads as reads
use Rattle.body_rows.proofs.body.mark_at.Tie as tie

abbrev rows : lts.Start tie.the-claims reads.Pre reads.Post → ℕ → BodyRow
rows c = body_of c.args.bodies.now c.args.rule

-- the row's operator
operator : (c : lts.Else1 tie.the-claims reads.Pre reads.Post) → (o : Operator) × (operator_of c.field-code.result ≡ some o) × (operator_of (rows c.before.before.before c.args.row).code ≡ some o)
operator c =
    operator_at (rows c.before.before.before c.args.row).code c.field-code.result c.field-code.ensures c.if-code-ge23.false

-- what each call answers is the test of the reading
first : (c : lts.After-accepts tie.the-claims reads.Pre reads.Post) → serves (first_sort (shape_of (operator c.before.before).0).parts) (mark (first_part (rows c.before.before.before.before.before) c.args.row)) ≡ c.accepts.result
first c =
    let w = operator c.before.before in
    ap₂ serves (sym (c.shape.ensures w.0 w.1)) (sym c.requires.1) ∙ sym c.accepts.ensures

second : (c : lts.After-accepts2 tie.the-claims reads.Pre reads.Post) → serves (second_sort (shape_of (operator c.before.before.before.before.before).0).parts) (mark (second_part (rows c.before.before.before.before.before.before.before.before) c.args.row)) ≡ c.accepts-2.result
second c =
    let w = operator c.before.before.before.before.before in
    ap₂ serves (sym (c.shape-2.ensures w.0 w.1)) (sym c.requires.2) ∙ sym c.accepts-2.ensures

third : (c : lts.After-unused tie.the-claims reads.Pre reads.Post) → fields_fit (shape_of (operator c.before.before.before.before.before.before.before.before).0).fields (rows c.before.before.before.before.before.before.before.before.before.before.before c.args.row) ≡ c.unused.result
third c =
    let w = operator c.before.before.before.before.before.before.before.before in
    ap (λ k. fields_fit k (rows c.before.before.before.before.before.before.before.before.before.before.before c.args.row)) (sym (c.shape-3.ensures w.0 w.1)) ∙ sym c.unused.ensures

pub returns-then-code-ge23 : goal.returns-then-code-ge23
returns-then-code-ge23 c =
    sym (mark_none (rows c.before.before.before.before) c.args.row (no_operator_at (rows c.before.before.before.before c.args.row).code c.field-code.result c.field-code.ensures c.if-code-ge23.true))

pub returns-then-not-accepts : goal.returns-then-not-accepts
returns-then-not-accepts c =
    let w = operator c.before.before.before.before in
    let a = first c.before.before ∙ not-true c.accepts.result (ap not c.if-not-accepts.true) in
    sym (mark_some (rows c.before.before.before.before.before.before.before) c.args.row w.0 w.2 ∙ simp a)

-- both parts are accepted
first_yes : (c : lts.Else2 tie.the-claims reads.Pre reads.Post) → serves (first_sort (shape_of (operator c.before.before.before).0).parts) (mark (first_part (rows c.before.before.before.before.before.before) c.args.row)) ≡ true
first_yes c = first c.before ∙ not-false c.accepts.result (ap not c.if-not-accepts.false)

second_yes : (c : lts.Else3 tie.the-claims reads.Pre reads.Post) → serves (second_sort (shape_of (operator c.before.before.before.before.before.before).0).parts) (mark (second_part (rows c.before.before.before.before.before.before.before.before.before) c.args.row)) ≡ true
second_yes c = second c.before ∙ not-false c.accepts-2.result (ap not c.if-not-accepts-2.false)

pub returns-then-not-accepts-2 : goal.returns-then-not-accepts-2
returns-then-not-accepts-2 c =
    let w = operator c.before.before.before.before.before.before.before in
    let d = second c.before.before ∙ not-true c.accepts-2.result (ap not c.if-not-accepts-2.true) in
    sym (mark_some (rows c.before.before.before.before.before.before.before.before.before.before) c.args.row w.0 w.2 ∙ simp (first_yes c.before.before.before.before, d))

pub returns-then-not-unused : goal.returns-then-not-unused
returns-then-not-unused c =
    let w = operator c.before.before.before.before.before.before.before.before.before.before in
    let d = third c.before.before ∙ not-true c.unused.result (ap not c.if-not-unused.true) in
    sym (mark_some (rows c.before.before.before.before.before.before.before.before.before.before.before.before.before) c.args.row w.0 w.2 ∙ simp (first_yes c.before.before.before.before.before.before.before, second_yes c.before.before.before.before, d))

pub returns : goal.returns
returns c =
    let w = operator c.before.before.before.before.before.before.before.before.before.before.before in
    let d = third c.before.before.before ∙ not-false c.unused.result (ap not c.if-not-unused.false) in
    sym (mark_some (rows c.before.before.before.before.before.before.before.before.before.before.before.before.before.before) c.args.row w.0 w.2 ∙ simp (first_yes c.before.before.before.before.before.before.before.before, second_yes c.before.before.before.before.before, d) (sym (c.shape-4.ensures w.0 w.1)))
