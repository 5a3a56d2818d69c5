-- What is printed of tables, by what is asked. The full check does not look at the batch, and the event lists look at the book alone.
use mathlib.Core.Path.{◌≡◌, refl, sym, ap, ◌∙◌}
use mathlib.Core.List.{List, []}
use Prim.Native.Nat.{ℕ}
use Rattle.tables.specs.Layouts.{Sheet, sheet_of, book_tables}
use Rattle.tables.specs.Refusals.{table_refusal}
use Rattle.tables.specs.declared.Counts.{Counts}
use Rattle.full.specs.Answers.{lent_answer}
use Rattle.event_list.specs.Answers.{rule_tables, lent_book_refusal}
use Rattle.answers.specs.Checks.{batch_printed}
use Rattle.park_tables.specs.Tables.{full_printed, events_printed, after_printed}
use Rattle.park_answers.specs.Prints.{tables_printed}
use Rattle.park_answers.specs.declared.Asked.{Asked}
use Rattle.park_answers.specs.declared.Asked.TheVariants.{Check, Full, Events, After}

module _ (n : Counts) where
  pub check_asked : {asked : Asked} (s : Sheet) → asked ≡ Check → batch_printed 65536 n s ≡ tables_printed asked n s
  unfolding tables_printed
  check_asked s e = ap (λ a. tables_printed a n s) (sym e)

  pub after_asked : {asked : Asked} (s : Sheet) → asked ≡ After → after_printed 65536 n s ≡ tables_printed asked n s
  unfolding tables_printed
  after_asked s e = ap (λ a. tables_printed a n s) (sym e)

  module _ (types floors relationships rules bodies objects links events : List ℕ) where
    abbrev s : Sheet
    s = sheet_of types floors relationships rules bodies objects links events

    full_alone : full_printed n (sheet_of types floors relationships rules bodies objects links []) ≡ full_printed n s
    unfolding full_printed lent_answer table_refusal book_tables
    full_alone = refl

    pub full_asked : {asked : Asked} → asked ≡ Full → full_printed n (sheet_of types floors relationships rules bodies objects links []) ≡ tables_printed asked n s
    unfolding tables_printed
    full_asked e = full_alone ∙ ap (λ a. tables_printed a n s) (sym e)

    events_alone : events_printed n (sheet_of types floors relationships rules bodies [] [] []) ≡ events_printed n s
    unfolding events_printed lent_book_refusal table_refusal rule_tables
    events_alone = refl

    pub events_asked : {asked : Asked} → asked ≡ Events → events_printed n (sheet_of types floors relationships rules bodies [] [] []) ≡ tables_printed asked n s
    unfolding tables_printed
    events_asked e = events_alone ∙ ap (λ a. tables_printed a n s) (sym e)
