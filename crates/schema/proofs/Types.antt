-- A type's parent and cells and a relationship's ends, read from the tables.
use Prim.Native.Nat.{ℕ}
use mathlib.Core.Path.{◌≡◌, ap}
use mathlib.Core.Bool.{cond}
use mathlib.Core.List.{List}
use mathlib.Core.Option.{none}
use lib.Dec.{ltb}
use Rattle.meaning.specs.Schema.{ObjectType, Relationship, known_type, known_relationship, type_at, parent_of, cells_of, relationship_at, source_type, target_type}
use Rattle.rows.specs.Rows.{word_at}
use Rattle.tables.specs.Columns.{type_row, relationship_row, types_of, relationships_of}
use Rattle.schema.proofs.Rows.{row_used, length_rows}

module _ (n : ℕ) (types : List ℕ) (t : ℕ) where
  pub type_known : known_type (types_of n types) t ≡ ltb t n
  unfolding known_type
  type_known = ap (ltb t) (length_rows (type_row types) n)

  pub parent_used : parent_of (types_of n types) t ≡ cond (ltb t n) (type_row types t).parent none
  unfolding parent_of type_at
  parent_used = row_used (type_row types) (λ (o : ObjectType). o.parent) n t (record { parent = none; cells = 0 })

  pub cells_used : cells_of (types_of n types) t ≡ cond (ltb t n) (word_at types 2 t 1) 0
  unfolding cells_of type_at type_row
  cells_used = row_used (type_row types) (λ (o : ObjectType). o.cells) n t (record { parent = none; cells = 0 })

module _ (n : ℕ) (relationships : List ℕ) (r : ℕ) where
  pub relationship_known : known_relationship (relationships_of n relationships) r ≡ ltb r n
  unfolding known_relationship
  relationship_known = ap (ltb r) (length_rows (relationship_row relationships) n)

  pub source_used : source_type (relationships_of n relationships) r ≡ cond (ltb r n) (word_at relationships 2 r 0) 0
  unfolding source_type relationship_at relationship_row
  source_used = row_used (relationship_row relationships) (λ (o : Relationship). o.source) n r (record { source = 0; target = 0 })

  pub target_used : target_type (relationships_of n relationships) r ≡ cond (ltb r n) (word_at relationships 2 r 1) 0
  unfolding target_type relationship_at relationship_row
  target_used = row_used (relationship_row relationships) (λ (o : Relationship). o.target) n r (record { source = 0; target = 0 })
