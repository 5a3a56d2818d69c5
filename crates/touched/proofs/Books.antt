-- What no refusal gives of a lent book, and a rule of it that a batch touches.
use Prim.Native.Nat.{ℕ, ◌<◌}
use mathlib.Core.Path.{◌≡◌, ap, ◌∙◌}
use mathlib.Core.Bool.{Bool, false, ◌||◌}
use mathlib.Core.List.{List}
use native.Mathlib.Omega.{arith}
use lib.ListN.{replicate, get_or-replicate}
use Rattle.meaning.specs.Forms.{Rule, Book}
use Rattle.meaning.specs.Reach.{Change}
use Rattle.meaning.specs.EventList.{event_list, touched}
use Rattle.meaning.specs.Answers.{book_refusal, register_refusal, refusal}
use Rattle.meaning.proofs.Lists.{first_of_none}
use Rattle.tables.specs.Layouts.{Sheet}
use Rattle.tables.specs.Columns.{type_row, relationship_row, rule_row, book_of, register_in}
use Rattle.tables.specs.declared.Counts.{Counts}
use Rattle.schema.proofs.Rows.{length_rows, row_there}
use Rattle.checks.specs.Given.{Given}
use Rattle.type_marks.specs.Marks.{places, marked, Added}
use Rattle.event_marks.proofs.Bounds.{book_placed}
use Rattle.touched.specs.Shared.{shared_below, Occurring}
use Rattle.touched.specs.Books.{lent_book, BookGiven}
use Rattle.touched.proofs.Marks.{shared_touched}

pub book_given : (n : Counts) (s : Sheet) → Given n s → BookGiven n s.types s.floors s.relationships s.rules s.bodies
unfolding refusal
book_given n s g =
    record {
      few_types = g.few_types;
      few_relationships = g.few_relationships;
      few_rules = g.few_rules;
      clear = (first_of_none (book_refusal (book_of n s)) (register_refusal (book_of n s).schema (register_in n s)) g.clear).0;
      whole = g.whole;
    }

module _ (n : Counts) (types floors relationships rules bodies : List ℕ) (given : BookGiven n types floors relationships rules bodies) (rule : ℕ) (there : rule < n.rules) where
  abbrev k : Book
  k = lent_book n types floors relationships rules bodies

  abbrev r : Rule
  r = rule_row rules bodies rule

  -- the rule's marks, put where none was, share one with the batch's
  pub rule_shared : (marks occurring : List Bool) → Added (replicate places false) marks (marked (event_list k.schema r))
      → (c : Change)
      → c.schema ≡ k.schema
      → Occurring c occurring
      → shared_below marks occurring places ≡ touched c r
  rule_shared marks occurring added c same known =
      shared_touched k.schema r
      (book_placed k given.clear
      (omega (arith, given.few_types, length_rows (type_row types) n.types))
      (omega (arith, given.few_relationships, length_rows (relationship_row relationships) n.relationships))
      rule r (row_there (rule_row rules bodies) n.rules rule there))
      marks occurring
      (λ place h. added.each place h ∙ ap (λ b. b || marked (event_list k.schema r) place) (get_or-replicate places place false false h))
      c same known
