-- The stages of the checks are the definitions' first refusal.
use Prim.Native.Nat.{ℕ}
use mathlib.Core.Path.{◌≡◌, refl, sym, ap, ◌∙◌}
use mathlib.Core.Bool.{Bool, true, false, ◌||◌, cond, or_assoc, or_comm}
use mathlib.Core.List.{List, []}
use mathlib.Core.Option.{Option, none, some}
use Rattle.meaning.specs.Lists.{first_of}
use Rattle.meaning.specs.Schema.{type_fault, floor_fault, relationship_fault}
use Rattle.meaning.specs.Register.{Register, object_fault, link_fault}
use Rattle.meaning.specs.Forms.{Book, rule_fault}
use Rattle.meaning.specs.Events.{Refusal}
use Rattle.meaning.specs.Answers.{refusal_at, book_refusal, register_refusal, refusal}
use Rattle.tables.specs.Layouts.{Sheet, sheet_of, Layout, event_table, book_tables, layouts}
use Rattle.tables.specs.Columns.{book_of, register_in}
use Rattle.tables.specs.declared.Refusal as Code
use Rattle.tables.specs.Refusals.{found_of, refused_by, verdict_of, overfull, any_overfull, any_long, not_whole, table_refusal, refusal_of}
use Rattle.tables.specs.declared.Counts.{Counts}
use Rattle.std.specs.Prelude.{Ok, Err}
use Rattle.lent_tables.proofs.Torn.{any_last, torn, all_whole}
use Rattle.checks.specs.Stages.{refused_at}

-- a stage that refuses decides, and one that does not leaves it to the rest
pub stage_refuses : (number : ℕ) (place : Option ℕ) (rest : Option Refusal) {r : Code.Refusal} → Err r ≡ refused_at number (found_of place) → Err r ≡ verdict_of (first_of (refusal_at number place) rest)
unfolding refusal_at
stage_refuses number none rest e = cc
stage_refuses number (some p) rest e = e

pub stage_passes : (number : ℕ) (place : Option ℕ) (rest : Option Refusal) → Ok tt ≡ refused_at number (found_of place) → rest ≡ first_of (refusal_at number place) rest
unfolding refusal_at
stage_passes number none rest e = refl
stage_passes number (some p) rest e = cc

last_stage : (number : ℕ) (place : Option ℕ) → refused_at number (found_of place) ≡ verdict_of (refusal_at number place)
unfolding refusal_at
last_stage number none = refl
last_stage number (some p) = refl

pub first_assoc : {A : Type 0} (a b d : Option A) → first_of (first_of a b) d ≡ first_of a (first_of b d)
first_assoc none b d = refl
first_assoc (some x) b d = refl

pub first_none : {A : Type 0} (a : Option A) → a ≡ first_of a none
first_none none = refl
first_none (some x) = refl

module _ (n : Counts) (s : Sheet) where
  abbrev k : Book
  k = book_of n s

  abbrev g : Register
  g = register_in n s

  abbrev types : Option ℕ
  types = first_of (type_fault k.schema.types) (first_of (floor_fault k.schema) (relationship_fault k.schema))

  abbrev rows : Option ℕ
  rows = first_of (object_fault k.schema.types k.schema.floors g) (link_fault k.schema g)

  abbrev after_types : Option Refusal
  after_types = first_of (refusal_at 4 (rule_fault k)) (refusal_at 5 rows)

  in_turn : first_of (refusal_at 3 types) after_types ≡ refusal k g
  unfolding refusal book_refusal register_refusal
  in_turn = sym (first_assoc (refusal_at 3 types) (refusal_at 4 (rule_fault k)) (refusal_at 5 rows))

  -- refusals 3, 4 and 5, stage by stage
  pub types_refused : {r : Code.Refusal} → Err r ≡ refused_at 3 (found_of types) → Err r ≡ verdict_of (refusal k g)
  types_refused e = stage_refuses 3 types after_types e ∙ ap verdict_of in_turn

  module _ (typed : Ok tt ≡ refused_at 3 (found_of types)) where
    from_rules : after_types ≡ refusal k g
    from_rules = stage_passes 3 types after_types typed ∙ in_turn

    pub rules_refused : {r : Code.Refusal} → Err r ≡ refused_at 4 (found_of (rule_fault k)) → Err r ≡ verdict_of (refusal k g)
    rules_refused e = stage_refuses 4 (rule_fault k) (refusal_at 5 rows) e ∙ ap verdict_of from_rules

    pub rows_decide : Ok tt ≡ refused_at 4 (found_of (rule_fault k)) → refused_at 5 (found_of rows) ≡ verdict_of (refusal k g)
    rows_decide ruled = last_stage 5 rows ∙ ap verdict_of (stage_passes 4 (rule_fault k) (refusal_at 5 rows) ruled ∙ from_rules)

  abbrev long : Bool
  long = any_long s.rules n.rules

  -- refusal 2, refusal 6, and what comes after them
  module _ (tables : List Layout) (short : Bool) where
    pub counts_refused : any_overfull tables n s ≡ true → verdict_of (refusal_of tables n s short) ≡ refused_by 2 0
    unfolding refusal_of table_refusal
    counts_refused e = rw e

    module _ (few : any_overfull tables n s ≡ false) where
      pub bodies_refused : long ≡ true → verdict_of (refusal_of tables n s short) ≡ refused_by 2 0
      unfolding refusal_of table_refusal
      bodies_refused e = rw (few, e)

      pub rows_refused : long ≡ false → (not_whole tables s || short) ≡ true → verdict_of (refusal_of tables n s short) ≡ refused_by 6 0
      unfolding refusal_of table_refusal
      rows_refused e f = rw (few, e, f)

      pub contents_decide : long ≡ false → (not_whole tables s || short) ≡ false → verdict_of (refusal_of tables n s short) ≡ verdict_of (refusal k g)
      unfolding refusal_of table_refusal
      contents_decide e f = rw (few, e, f)

-- ---- the events' table too

abbrev pub over : Counts → Sheet → Layout → Bool
over n s l = overfull (l.words s) l.width (l.used n) l.limit

module _ (n : Counts) (s : Sheet) (short : Bool) where
  many : any_overfull layouts n s ≡ (over n s event_table || any_overfull book_tables n s)
  unfolding layouts
  many = any_last (over n s) book_tables event_table ∙ or_comm (any_overfull book_tables n s) (over n s event_table)

  whole : (not_whole layouts s || short) ≡ (not_whole book_tables s || (torn s event_table || short))
  whole = ap (λ b. b || short) (all_whole s) ∙ or_assoc (not_whole book_tables s) (torn s event_table) short

  pub events_refused : over n s event_table ≡ true → verdict_of (refusal_of layouts n s short) ≡ refused_by 2 0
  events_refused e = counts_refused n s layouts short (many ∙ ap (λ b. b || any_overfull book_tables n s) e)

  -- where the events are few, the other tables decide, their rows taken for broken where the events' are
  pub others_decide : over n s event_table ≡ false → refusal_of book_tables n s (torn s event_table || short) ≡ refusal_of layouts n s short
  unfolding refusal_of table_refusal
  others_decide e =
      let few : any_overfull layouts n s ≡ any_overfull book_tables n s = many ∙ ap (λ b. b || any_overfull book_tables n s) e in
      sym (λ j. first_of
      (cond (few j || long n s) (some (record { number = 2; place = 0 })) (cond (whole j) (some (record { number = 6; place = 0 })) none))
      (refusal (book_of n s) (register_in n s)))

-- a book and a register are refused alike, whatever the events
pub without_events : (n : Counts) (types floors relationships rules bodies objects links events : List ℕ) (short : Bool)
    → refusal_of book_tables n (sheet_of types floors relationships rules bodies objects links []) short
    ≡ refusal_of book_tables n (sheet_of types floors relationships rules bodies objects links events) short
unfolding refusal_of table_refusal book_tables
without_events n types floors relationships rules bodies objects links events short = refl
