-- `schema::faulty_type` meets its contract. Each return has met the tests that decide `faulty_type`.
use mathlib.Core.Path.{sym}
use borrow.Author.Tests.{lt-ltb, le-ltb, le-leb, lt-leb, eq-eqb, ne_eqb}
use Rattle.meaning.specs.Schema.{faulty_type, parent_fits}
use Rattle.tables.specs.Columns.{type_row}
use Rattle.schema.proofs.Tests.{not_leb, not_not, and-false, and-true}
use Rattle.schema.proofs.faulty_type.Goals as goal

pub returns-then-cells-gt-CELLS : goal.returns-then-cells-gt-CELLS
unfolding faulty_type type_row
returns-then-cells-gt-CELLS c = λ previous. simp (← c.word-cells.ensures, lt-leb _ _ c.if-cells-gt-CELLS.true, and-false)

pub returns-then-parent : goal.returns-then-parent
unfolding faulty_type parent_fits type_row
returns-then-parent c = λ previous. simp (← c.word-parent.ensures, ← c.word-cells.ensures, eq-eqb _ _ c.if-parent.true, le-leb _ _ c.if-cells-gt-CELLS.false)

pub returns-then-parent-t : goal.returns-then-parent-t
unfolding faulty_type parent_fits type_row
returns-then-parent-t c =
    λ previous.
    simp (
      ← c.word-parent.ensures,
      ← c.word-cells.ensures,
      ne_eqb _ _ c.if-parent.false,
      le-leb _ _ c.if-cells-gt-CELLS.false,
      lt-ltb _ _ c.if-parent-t.true,
      ← c.cells_of.ensures,
      not_not,
      and-true,
    )
    (sym (not_leb c.cells_of.result c.word-cells.result))

pub returns-else-parent-t : goal.returns-else-parent-t
unfolding faulty_type parent_fits type_row
returns-else-parent-t c = λ previous. simp (← c.word-parent.ensures, ne_eqb _ _ c.if-parent.false, le-ltb _ _ c.if-parent-t.false)
