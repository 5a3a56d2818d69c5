-- The line of a rule, by what its event list says, and one line more.
use Prim.Native.Nat.{ℕ, ◌+◌, ◌*◌, ◌≤◌, ◌<◌}
use Rattle.tables.specs.declared.Refusal as Code
use mathlib.Core.Path.{◌≡◌, refl, sym, ap, ap₂, ◌∙◌}
use mathlib.Core.List.{List, [], ◌++◌, flat_map}
use mathlib.Core.Option.{none}
use native.Mathlib.Omega.{arith}
use lib.ListN.{length, drop, length-append}
use Rattle.meaning.specs.Forms.{Book}
use Rattle.meaning.specs.EventList.{EventType}
use Rattle.rows.specs.Rows.{word_at, in_front}
use Rattle.tables.specs.Layouts.{Sheet, sheet_of}
use Rattle.tables.specs.Columns.{book_of}
use Rattle.tables.specs.Refusals.{verdict_of}
use Rattle.tables.specs.declared.Counts.{Counts}
use Rattle.std.specs.Prelude.{Ok, Err}
use Rattle.event_list.specs.Answers.{lent_book_refusal, rule_refusal, list_of, list_words, answer, list_after}
use Rattle.event_list.proofs.Answers.{rule_known, few_listed, list_fits}
use Rattle.printing.proofs.Rows.{flat_more}
use Rattle.event_lines.specs.Events.{events_line, event_types_in, room_for_events}
use Rattle.event_lines.proofs.Lines.{types_back, kinds_known}
use Rattle.park_tables.specs.Tables.{rule_lines}

-- ---- the rules of a book

module _ (k : Book) where
  pub no_lines : rule_lines k 0 ≡ []
  unfolding rule_lines flat_map
  no_lines = refl

  pub more_lines : (rule : ℕ) → rule_lines k rule ++ events_line rule (list_of k rule) ≡ rule_lines k (rule + 1)
  unfolding rule_lines
  more_lines rule = flat_more (λ rule. events_line rule (list_of k rule)) (λ rule. rule) rule

  pub more_short : (rule : ℕ) → length (rule_lines k rule) ≤ room_for_events 1792 * rule → length (events_line rule (list_of k rule)) ≤ room_for_events 1792
      → length (rule_lines k (rule + 1)) ≤ room_for_events 1792 * (rule + 1)
  more_short rule h l = omega (arith, ap length (more_lines rule), length-append (rule_lines k rule) (events_line rule (list_of k rule)))

-- ---- a rule of a book that is not refused, with words for every event type

module _ (n : Counts) (types floors relationships rules bodies : List ℕ) (rule : ℕ) (words : List ℕ) where
  abbrev s : Sheet
  s = sheet_of types floors relationships rules bodies [] [] []

  abbrev es : List EventType
  es = list_of (book_of n s) rule

  module _ (clear : lent_book_refusal n s ≡ none) (known : rule < n.rules) (lent : length words ≡ 5376) where
    not_refused : Ok tt ≡ verdict_of (rule_refusal n s rule)
    not_refused = rule_known n types floors relationships rules bodies rule (sym (ap verdict_of clear)) known

    fits : (answer n s rule (length words) ≡ Ok (length es)) × (list_after n s rule words ≡ in_front (list_words es) words)
    fits = list_fits n types floors relationships rules bodies rule not_refused words (omega arith)

    few : length es ≤ 1792
    few = few_listed n types floors relationships rules bodies rule not_refused

    pub never_refused : {r : Code.Refusal} → Err r ≡ answer n s rule (length words) → ⊥
    never_refused e = let is = fits.0 in let z : ◌≡◌ {A = ℕ} 0 1 = cc in omega arith

    module _ {count : ℕ} {list : List ℕ} (told : Ok count ≡ answer n s rule (length words)) (left : list ≡ list_after n s rule words) where
      count_is : count ≡ length es
      count_is = let is = fits.0 in cc

      front : list ≡ in_front (list_words es) words
      front = left ∙ fits.1

      pub words_there : length list ≡ 5376 → 3 * count ≤ length list
      words_there long = omega (arith, count_is, few)

      pub kinds_there : (i : ℕ) → i < count → word_at list 3 i 0 < 7
      unfolding list_words
      kinds_there i h = kinds_known es list words front i (omega (arith, count_is))

      pub line_same : events_line rule (event_types_in list count) ≡ events_line rule es
      unfolding list_words
      line_same = ap (λ m. events_line rule (event_types_in list m)) count_is ∙ ap (events_line rule) (types_back es list words front)

      pub line_short : length (events_line rule (event_types_in list count)) ≤ room_for_events count → length (events_line rule es) ≤ room_for_events 1792
      line_short h = omega (arith, ap length line_same, count_is, few)
