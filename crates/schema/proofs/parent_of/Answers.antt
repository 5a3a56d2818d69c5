-- `schema::parent_of` meets its contract. The type is a used row or not, and its first word is that of no parent or not.
use borrow.Author.Tests.{lt-ltb, le-ltb, eq-eqb, ne_eqb}
use Rattle.tables.specs.Columns.{type_row}
use Rattle.schema.proofs.Types.{parent_used}
use Rattle.schema.proofs.parent_of.Goals as goal

pub returns-then-p : goal.returns-then-p
unfolding type_row
returns-then-p c = rw (parent_used _ _ _, lt-ltb _ _ c.if-t-type_count.true, ← c.word-p.ensures, eq-eqb _ _ c.if-p.true)

pub returns-else-p : goal.returns-else-p
unfolding type_row
returns-else-p c = rw (parent_used _ _ _, lt-ltb _ _ c.if-t-type_count.true, ← c.word-p.ensures, ne_eqb _ _ c.if-p.false)

pub returns-else-t-type_count : goal.returns-else-t-type_count
returns-else-t-type_count c = rw (parent_used _ _ _, le-ltb _ _ c.if-t-type_count.false)
