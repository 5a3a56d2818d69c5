-- The answers of the full check, and of one rule at one object, for lent tables.
use Rattle.std.specs.Prelude.{ℕ, false, cond, [], ◌∷◌, ltb, eqb}
use Rattle.std.proofs.Math.Option.{Option}
use Rattle.meaning.specs.Lists.{first_of}
use Rattle.meaning.specs.Events.{Refusal}
use Rattle.meaning.specs.Reach.{pair_of}
use Rattle.meaning.specs.Answers as Meaning
use Rattle.meaning.specs.Answers.{refusal_for, unless_refused, first_broken, full_check}
use Rattle.tables.specs.Layouts.{Sheet, book_tables}
use Rattle.tables.specs.Columns.{book_of, register_in}
use Rattle.tables.specs.Refusals.{OrRefused, refused_by, table_refusal}
use Rattle.tables.specs.declared.Counts.{Counts}
use Rattle.std.specs.Prelude.{Ok, Err}

-- The full check of the book and the register that the tables hold, after refusals 2 and 6 of the tables themselves.
unfoldable pub lent_answer : Counts → Sheet → Meaning.Answer
lent_answer n s = unless_refused (table_refusal book_tables n s false) (full_check (book_of n s) (register_in n s))

-- refusals 2, 6, 3, 4 and 5 of a question about one rule, "checked from the top"
unfoldable pub lent_refusal_for : Counts → Sheet → ℕ → Option Refusal
lent_refusal_for n s rule = first_of (table_refusal book_tables n s false) (refusal_for (book_of n s) (register_in n s) rule)

-- One rule at one object: broken there, or accepted. "A rule is *broken* at an object under its context type", so it is accepted where
-- the object is not there or not under that type.
unfoldable pub lent_answer_at : Counts → Sheet → ℕ → ℕ → Meaning.Answer
lent_answer_at n s rule id = unless_refused (lent_refusal_for n s rule) (first_broken (book_of n s) (register_in n s) (pair_of rule id ∷ []))

-- A verdict on the tables, with the stage of a lacked rule put before that of the register.
abbrev pub lacking : OrRefused (Unit {0}) → ℕ → OrRefused (Unit {0})
lacking (Err r) rule = cond (eqb r.number 5) (refused_by 4 rule) (Err r)
lacking (Ok x) rule = refused_by 4 rule

abbrev pub verdict_for : OrRefused (Unit {0}) → ℕ → ℕ → OrRefused (Unit {0})
verdict_for verdict rules rule = cond (ltb rule rules) verdict (lacking verdict rule)
