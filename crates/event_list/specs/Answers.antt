-- Document 01, "Event list of a rule", of a rule of a lent book: the refusals in their order, the answer, and the lent words after it.
use Rattle.std.specs.Prelude.{ℕ, false, cond, ltb, length}
use mathlib.Core.List.{List, [], ◌∷◌, flat_map}
use Rattle.std.proofs.Math.Option.{Option, none, some}
use Rattle.std.proofs.Math.ListN.{get_elem?}
use Rattle.meaning.specs.Lists.{first_of}
use Rattle.meaning.specs.Schema.{Schema}
use Rattle.meaning.specs.Forms.{Rule, Book}
use Rattle.meaning.specs.Events.{Refusal}
use Rattle.meaning.specs.EventList.{EventType, event_type_words, event_list}
use Rattle.meaning.specs.Answers.{book_refusal, lacked_rule}
use Rattle.tables.specs.Layouts.{Sheet, Layout, type_table, floor_table, relationship_table, rule_table, body_table}
use Rattle.tables.specs.Columns.{book_of}
use Rattle.tables.specs.Refusals.{OrRefused, unless_met, table_refusal}
use Rattle.tables.specs.declared.Counts.{Counts}
use Rattle.rows.specs.Rows.{in_front}

-- the tables of a book
unfoldable pub rule_tables : List Layout
rule_tables = type_table ∷ floor_table ∷ relationship_table ∷ rule_table ∷ body_table ∷ []

-- 2, 6, 3 and 4 of a lent book, "checked from the top"
unfoldable pub lent_book_refusal : Counts → Sheet → Option Refusal
lent_book_refusal n s = first_of (table_refusal rule_tables n s false) (book_refusal (book_of n s))

-- then 4 of a rule number that it lacks
unfoldable pub rule_refusal : Counts → Sheet → ℕ → Option Refusal
rule_refusal n s rule = first_of (lent_book_refusal n s) (lacked_rule (book_of n s) rule)

-- the event list of a rule, if there is one
abbrev pub list_in : Schema → Option Rule → List EventType
list_in S none = []
list_in S (some r) = event_list S r

-- that of the rule of a number
unfoldable pub list_of : Book → ℕ → List EventType
list_of k rule = list_in k.schema (get_elem? k.rules rule)

-- "three 16-bit words each"
unfoldable pub list_words : List EventType → List ℕ
unfolding flat_map
list_words = flat_map event_type_words

-- 14: the "event list .. need[s] more than is lent"
unfoldable pub room_refusal : ℕ → List EventType → Option Refusal
room_refusal lent es = cond (ltb lent (length (list_words es))) (some (record { number = 14; place = 0 })) none

unfoldable pub list_refusal : Counts → Sheet → ℕ → ℕ → Option Refusal
list_refusal n s rule lent = first_of (rule_refusal n s rule) (room_refusal lent (list_of (book_of n s) rule))

-- how many event types the list has, unless a refusal is met
abbrev pub listed_of : Option Refusal → List EventType → OrRefused ℕ
listed_of r es = unless_met r (length es)

unfoldable pub answer : Counts → Sheet → ℕ → ℕ → OrRefused ℕ
answer n s rule lent = listed_of (list_refusal n s rule lent) (list_of (book_of n s) rule)

-- the list's words are at the front, and a refusal writes none
abbrev pub words_after : Option Refusal → List EventType → List ℕ → List ℕ
words_after none es before = in_front (list_words es) before
words_after (some r) es before = before

unfoldable pub list_after : Counts → Sheet → ℕ → List ℕ → List ℕ
list_after n s rule before = words_after (list_refusal n s rule (length before)) (list_of (book_of n s) rule) before
