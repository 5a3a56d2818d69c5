-- The links of a register that fits its schema can be indexed.
use Prim.Native.Nat.{ℕ, ◌≤◌, ◌<◌}
use mathlib.Core.List.{List}
use native.Mathlib.Omega.{arith}
use lib.Dec.{T}
use lib.ListN.{length}
use mir.Facts.{ltb_yes}
use Rattle.meaning.specs.Limits.{max_relationships, max_objects, max_links}
use Rattle.meaning.specs.Schema.{Schema, known_relationship, source_type, target_type}
use Rattle.meaning.specs.Register.{Link, Register, present}
use Rattle.meaning.proofs.Registers.{RegisterFits, under_present, link_parts}
use Rattle.rows.specs.Rows.{read_rows}
use Rattle.tables.specs.Columns.{link_row, register_of}
use Rattle.link_index.specs.Slots.{Indexable}
use Rattle.register.proofs.Places.{row_there}
use Rattle.register.proofs.Rows.{place_there}

module _ (S : Schema) (m : ℕ) (objects : List ℕ) (n : ℕ) (links : List ℕ) (fits : RegisterFits S (register_of m objects n links)) where
  abbrev g : Register
  g = register_of m objects n links

  -- a link's relationship is known, and its objects are there
  record Good (l : Link) : Type 0 where
    known : T (known_relationship S.relationships l.relationship)
    source : T (present g l.source)
    target : T (present g l.target)

  good : (i : ℕ) → i < n → Good (link_row links i)
  good i h =
      let l = link_row links i in
      let p = link_parts S g l (fits.links_fit l (row_there (link_row links) n i h)) in
      record {
        known = p.0;
        source = under_present S.types g l.source (source_type S.relationships l.relationship) p.1.0;
        target = under_present S.types g l.target (target_type S.relationships l.relationship) p.1.1;
      }

  pub indexable : m ≤ max_objects → n ≤ max_links → length S.relationships ≤ max_relationships → Indexable m objects n links
  unfolding known_relationship
  indexable few links_few related =
      record {
        few = few;
        links_few = links_few;
        related = λ i h. let k : (link_row links i).relationship < length S.relationships = ltb_yes (good i h).known in omega arith;
        sourced = λ i h. place_there m objects (read_rows (link_row links) n) (link_row links i).source (good i h).source;
        targeted = λ i h. place_there m objects (read_rows (link_row links) n) (link_row links i).target (good i h).target;
      }
