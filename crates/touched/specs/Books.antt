-- What the touched rules are asked of: a lent book that is not refused.
use Rattle.std.specs.Prelude.{ℕ, ◌≤◌, ◌<◌, ◌≡◌, List, T}
use Rattle.std.proofs.Math.Option.{none}
use Rattle.meaning.specs.Limits.{max_types, max_relationships, max_rules}
use Rattle.meaning.specs.Forms.{Book}
use Rattle.meaning.specs.Answers.{book_refusal}
use Rattle.rows.specs.Rows.{word_at}
use Rattle.tables.specs.Bodies.{whole_body}
use Rattle.tables.specs.Columns.{floors_of, schema_of, rules_of}
use Rattle.tables.specs.declared.Counts.{Counts}
use Rattle.body_rows.specs.Marks.{body_of}

-- the book of its tables
abbrev pub lent_book : Counts → List ℕ → List ℕ → List ℕ → List ℕ → List ℕ → Book
lent_book n types floors relationships rules bodies =
    record { schema = schema_of n.types types (floors_of n.floors floors) n.relationships relationships; rules = rules_of n.rules rules bodies }

-- its limits are kept, refusals 3 and 4 are not met, and its bodies are whole forms
pub record BookGiven (n : Counts) (types floors relationships rules bodies : List ℕ) : Type 0 where
  pub few_types : n.types ≤ max_types
  pub few_relationships : n.relationships ≤ max_relationships
  pub few_rules : n.rules ≤ max_rules
  pub clear : book_refusal (lent_book n types floors relationships rules bodies) ≡ none
  pub whole : (i : ℕ) → i < n.rules → T (whole_body (body_of bodies i) (word_at rules 2 i 1))
