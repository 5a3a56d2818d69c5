-- Refusals 2 and 6 of lent tables, and with them those of their contents; answers of the checks as the code gives them.
use Rattle.std.specs.Prelude.{ℕ, min, Bool, false, ◌||◌, not, cond, List, ltb}
use Rattle.std.proofs.Math.Option.{Option, none, some}
use Rattle.meaning.specs.Lists.{any, first_of, first_fault}
use Rattle.meaning.specs.Limits.{max_forms}
use Rattle.meaning.specs.Events.{Refusal, known_event}
use Rattle.meaning.specs.Answers.{refusal_at, refusal}
use Rattle.rows.specs.Rows.{word_at, read_rows, whole_rows, rows_lent}
use Rattle.tables.specs.Layouts.{Sheet, Layout, rule_table, book_tables, layouts}
use Rattle.tables.specs.Columns.{book_of, register_in, batch_in}
use Rattle.tables.specs.declared.Counts.{Counts}
use Rattle.std.specs.Prelude as Std
use Rattle.std.specs.Prelude.{Some, None, Ok, Err}
use Rattle.tables.specs.declared.Refusal as Code

-- a place or an id, if there is one
abbrev pub found_of : Option ℕ → Std.Option ℕ
found_of none = None
found_of (some n) = Some n

-- what a call answers that can be refused: "a refusal gives number and place"
abbrev pub OrRefused : Type 0 → Type 0
OrRefused A = Std.Result A Code.Refusal

abbrev pub refused_by : {A : Type 0} → ℕ → ℕ → OrRefused A
refused_by number place = Err (record { number = number; place = place })

abbrev pub unless_met : {A : Type 0} → Option Refusal → A → OrRefused A
unless_met none x = Ok x
unless_met (some r) x = refused_by r.number r.place

abbrev pub verdict_of : Option Refusal → OrRefused (Unit {0})
verdict_of r = unless_met r tt

-- 2: "a count above its limit or the lent rows"
abbrev pub overfull : List ℕ → ℕ → ℕ → ℕ → Bool
overfull words width used limit = ltb (min limit (rows_lent words width)) used

abbrev pub any_overfull : List Layout → Counts → Sheet → Bool
any_overfull tables n s = any (λ l. overfull (l.words s) l.width (l.used n) l.limit) tables

-- 2 of a body: "at most 64 forms"
abbrev pub long_body : List ℕ → ℕ → Bool
long_body rules i = ltb max_forms (word_at rules rule_table.width i 1)

abbrev pub any_long : List ℕ → ℕ → Bool
any_long rules used = any (long_body rules) (read_rows (λ i. i) used)

-- 6: "not whole rows"
abbrev pub not_whole : List Layout → Sheet → Bool
not_whole tables s = any (λ l. not (whole_rows (l.words s) l.width)) tables

-- 2 before 6, both at place 0. 6 also: "scratch shorter than the register's tables".
unfoldable pub table_refusal : List Layout → Counts → Sheet → Bool → Option Refusal
table_refusal tables n s scratch_short =
    cond (any_overfull tables n s || any_long s.rules n.rules) (some (record { number = 2; place = 0 }))
    (cond (not_whole tables s || scratch_short) (some (record { number = 6; place = 0 })) none)

-- Refusals 2, 6, 3, 4 and 5, "checked from the top": 2 and 6 of these tables, the others of the book and the register.
unfoldable pub refusal_of : List Layout → Counts → Sheet → Bool → Option Refusal
refusal_of tables n s scratch_short = first_of (table_refusal tables n s scratch_short) (refusal (book_of n s) (register_in n s))

-- those of a book and a register
abbrev pub lent_refusal : Counts → Sheet → Bool → Option Refusal
lent_refusal = refusal_of book_tables

-- 7 of an event by itself: the first of a batch that is not known
unfoldable pub event_fault : Counts → Sheet → Option ℕ
event_fault n s = first_fault (λ k previous e. not (known_event (book_of n s).schema e)) (batch_in n s)

-- those of a book, a register and a batch: 2 to 6, and 7 of the events by themselves, which asks nothing of the register
unfoldable pub sheet_refusal : Counts → Sheet → Option Refusal
sheet_refusal n s = first_of (refusal_of layouts n s false) (refusal_at 7 (event_fault n s))
