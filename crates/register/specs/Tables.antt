-- A register of which only one of its two tables is at hand, its rows, and its cells.
use Rattle.std.specs.Prelude.{ℕ, ◌+◌, cond, List, ltb, eqb}
use Rattle.std.proofs.Math.Option.{Option, none, some}
use Rattle.meaning.specs.Lists.{first_fault, Ascending, Before}
use Rattle.meaning.specs.Limits.{cell_count}
use Rattle.meaning.specs.Register.{Object, Link, Register, object_key, link_key, same_link}
use Rattle.rows.specs.Rows.{word_at, read_rows}
use Rattle.tables.specs.Columns.{object_row, link_row}

-- what is said of such a register holds whatever the other table is
abbrev pub objects_with : ℕ → List ℕ → List Link → Register
objects_with object_count objects links = record { objects = read_rows (object_row objects) object_count; links = links }

abbrev pub links_with : List Object → ℕ → List ℕ → Register
links_with objects link_count links = record { objects = objects; links = read_rows (link_row links) link_count }

-- the used rows of the table ascend, none twice
abbrev pub ObjectsAscend : ℕ → List ℕ → Type 0
ObjectsAscend object_count objects = Ascending (Before object_key) (read_rows (object_row objects) object_count)

abbrev pub LinksAscend : ℕ → List ℕ → Type 0
LinksAscend link_count links = Ascending (Before link_key) (read_rows (link_row links) link_count)

-- the row of the object of an id, and that of a link
abbrev pub object_place : ℕ → List ℕ → ℕ → Option ℕ
object_place object_count objects id = first_fault (λ n previous o. eqb o.id id) (read_rows (object_row objects) object_count)

abbrev pub link_place : ℕ → List ℕ → Link → Option ℕ
link_place link_count links l = first_fault (λ n previous k. same_link l k) (read_rows (link_row links) link_count)

-- the word in a cell of an object's row; "eight signed 32-bit cells", and 0 where there is none
unfoldable pub cell_word : List ℕ → ℕ → ℕ → ℕ
cell_word objects row cell = cond (ltb cell cell_count) (word_at objects 10 row (2 + cell)) 0

-- a row, if there is one; else 0
abbrev pub or_zero : Option ℕ → ℕ
or_zero none = 0
or_zero (some i) = i

-- the row of the object of an id; 0 where there is none
unfoldable pub row_at : ℕ → List ℕ → ℕ → ℕ
row_at m objects id = or_zero (object_place m objects id)
