-- `schema::faulty_relationship` meets its contract. Each return has met the tests that decide `faulty_relationship`.
use borrow.Author.Tests.{lt-ltb, le-ltb}
use Rattle.meaning.specs.Schema.{faulty_relationship}
use Rattle.tables.specs.Columns.{relationship_row}
use Rattle.schema.proofs.Tests.{not_ltb}
use Rattle.schema.proofs.Types.{type_known}
use Rattle.schema.proofs.faulty_relationship.Goals as goal

pub returns-then-source-type_count : goal.returns-then-source-type_count
unfolding faulty_relationship relationship_row
returns-then-source-type_count c = λ types previous. simp (← c.word-source.ensures, type_known, le-ltb _ _ c.if-source-type_count.true)

pub returns : goal.returns
unfolding faulty_relationship relationship_row
returns c = λ types previous. simp (← c.word.ensures, ← c.word-source.ensures, type_known, lt-ltb _ _ c.if-source-type_count.false, not_ltb)
