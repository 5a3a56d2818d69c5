-- No refusal gives what specs/Given says: the one place where it is derived.
use Prim.Native.Nat.{ℕ, zero, suc, min, ◌≤◌, ◌<◌}
use mathlib.Core.Path.{◌≡◌, refl, sym, ap, subst, ◌∙◌}
use mathlib.Core.Logic.{⊎_elim}
use mathlib.Core.Bool.{Bool, true, false, ◌||◌, not, cond, false≢true}
use mathlib.Core.List.{List, [], ◌∷◌}
use mathlib.Core.Option.{Option, none, some, none-ne-some, some-injective}
use native.Mathlib.Nat.{div-mul-le_self}
use native.Mathlib.Omega.{arith}
use borrow.Author.Tests.{lt-ltb, ltb-false}
use denote.Floats.{is_true}
use lib.Dec.{T}
use lib.ListN.{length, get_elem?}
use mir.Facts.{ltb_yes, T_not-not}
use Rattle.meaning.specs.Lists.{any}
use Rattle.meaning.specs.Limits.{cell_count}
use Rattle.meaning.specs.Schema.{Schema, cells_of}
use Rattle.meaning.specs.Forms.{well_typed}
use Rattle.meaning.specs.Events.{Refusal, known_event}
use Rattle.meaning.specs.Answers.{refusal_at, refusal}
use Rattle.meaning.proofs.Lists.{decide, element_in, first_of_none}
use Rattle.meaning.proofs.Order.{fault_none}
use Rattle.meaning.proofs.Registers.{object_parts}
use Rattle.meaning.proofs.Agreement.{Checked, checked, refusal_at_none}
use Rattle.rows.specs.Rows.{word_at, rows_lent}
use Rattle.tables.specs.Layouts.{Sheet, Layout, type_table, floor_table, relationship_table, rule_table, body_table, object_table, link_table, event_table, book_tables, layouts}
use Rattle.tables.specs.Bodies.{whole_body}
use Rattle.tables.specs.Columns.{floors_of, book_of, register_in, batch_in, rule_row, object_row, event_row}
use Rattle.tables.specs.Refusals.{verdict_of, any_overfull, table_refusal, refusal_of, event_fault, sheet_refusal}
use Rattle.tables.specs.declared.Counts.{Counts}
use Rattle.std.specs.Prelude.{Ok}
use Rattle.tables.proofs.Forms.{body_none}
use Rattle.schema.proofs.Rows.{row_there}
use Rattle.schema.proofs.Types.{type_known, cells_used}
use Rattle.body_rows.specs.Marks.{body_of}
use Rattle.checks.specs.Given.{Given, EventsLent, EventsKnown}
use Rattle.lent_tables.proofs.Torn.{torn}
use Rattle.checks.proofs.Stages.{over, others_decide}
use Rattle.known_events.proofs.Known.{kind_known}

pub clear_none : (o : Option Refusal) → Ok tt ≡ verdict_of o → o ≡ none
clear_none none e = refl
clear_none (some r) e = cc

not_refused : (b : Bool) (r : Refusal) (o : Option Refusal) → cond b (some r) o ≡ none → b ≡ false
not_refused true r o e = cc
not_refused false r o e = refl

neither : (a b : Bool) → (a || b) ≡ false → (a ≡ false) × (b ≡ false)
neither true b e = absurd (false≢true (sym e))
neither false b e = (refl, e)

-- what none of a list is, none that stands in it is
pub any_off : {A : Type 0} (p : A → Bool) (l : List A) → any p l ≡ false → (k : ℕ) (x : A) → get_elem? l k ≡ some x → p x ≡ false
any_off p [] e k x q = absurd (none-ne-some x q)
any_off p (y ∷ l) e zero x q = ap p (sym (some-injective y x q)) ∙ (neither (p y) (any p l) e).0
any_off p (y ∷ l) e (suc k) x q = any_off p l (neither (p y) (any p l) e).1 k x q

module _ (n : Counts) (s : Sheet) where
  -- a table that is not overfull keeps its limit, and its used rows are lent
  pub kept : (l : Layout) → over n s l ≡ false → l.used n ≤ l.limit
  kept l e = omega (arith, ltb-false (min l.limit (rows_lent (l.words s) l.width)) (l.used n) e)

  pub lent : (l : Layout) → over n s l ≡ false → l.used n ≤ rows_lent (l.words s) l.width
  lent l e = omega (arith, ltb-false (min l.limit (rows_lent (l.words s) l.width)) (l.used n) e)

  -- rows that are no whole form are read as a body that is not well typed
  pub bodies_whole : Checked (book_of n s) (register_in n s) → (i : ℕ) → i < n.rules → T (whole_body (body_of s.bodies i) (word_at s.rules 2 i 1))
  unfolding rule_row well_typed
  bodies_whole fits i h =
      let r = rule_row s.rules s.bodies in
      let size = word_at s.rules 2 i 1 in
      let good = fits.typed i (r i) (row_there r n.rules i h) in
      ⊎_elim
      (λ w. w)
      (λ w. absurd (subst (λ b. T (well_typed (book_of n s).schema (word_at s.rules 2 i 0 ∷ []) b)) (body_none (body_of s.bodies i) size w) good))
      (decide (whole_body (body_of s.bodies i) size))

  module _ (tables : List Layout) (short : Bool) (clear : refusal_of tables n s short ≡ none) where
    parts : (table_refusal tables n s short ≡ none) × (refusal (book_of n s) (register_in n s) ≡ none)
    unfolding refusal_of
    parts = first_of_none (table_refusal tables n s short) (refusal (book_of n s) (register_in n s)) clear

    few_at : (k : ℕ) (l : Layout) → get_elem? tables k ≡ some l → over n s l ≡ false
    unfolding table_refusal
    few_at k l q = any_off (over n s) tables (neither (any_overfull tables n s) _ (not_refused _ _ _ parts.0)).0 k l q

  -- ---- a book and a register

  module _ (clear : refusal (book_of n s) (register_in n s) ≡ none) where
    abbrev S : Schema
    S = (book_of n s).schema

    fits : Checked (book_of n s) (register_in n s)
    fits = checked (book_of n s) (register_in n s) clear

    pub whole : (i : ℕ) → i < n.rules → T (whole_body (body_of s.bodies i) (word_at s.rules 2 i 1))
    whole = bodies_whole fits

    pub typed : (i : ℕ) → i < n.objects → word_at s.objects 10 i 1 < n.types
    unfolding object_row
    typed i h =
        let o = object_row s.objects i in
        let fit = fits.register.objects_fit o (element_in _ i (row_there (object_row s.objects) n.objects i h)) in
        ltb_yes (subst T (type_known n.types s.types (word_at s.objects 10 i 1)) (object_parts S o fit).type_known)

    pub cells : (i : ℕ) → i < n.objects → word_at s.types 2 (word_at s.objects 10 i 1) 1 ≤ cell_count
    cells i h =
        let t = word_at s.objects 10 i 1 in
        let same : cells_of S.types t ≡ word_at s.types 2 t 1 = cells_used n.types s.types t ∙ rw (lt-ltb t n.types (typed i h)) in
        subst (λ k. k ≤ cell_count) same (fits.types.cells_bound t)

  module _ (short : Bool) (clear : refusal_of book_tables n s short ≡ none) where
    few : (k : ℕ) (l : Layout) → get_elem? book_tables k ≡ some l → over n s l ≡ false
    few = few_at book_tables short clear

    pub given : Given n s
    unfolding book_tables
    given =
        record {
          few_types = kept type_table (few 0 type_table refl);
          few_floors = kept floor_table (few 1 floor_table refl);
          few_relationships = kept relationship_table (few 2 relationship_table refl);
          few_rules = kept rule_table (few 3 rule_table refl);
          few_objects = kept object_table (few 5 object_table refl);
          few_links = kept link_table (few 6 link_table refl);
          types_lent = omega (arith, lent type_table (few 0 type_table refl), div-mul-le_self (length s.types) 2);
          floors_lent = omega (arith, lent floor_table (few 1 floor_table refl), div-mul-le_self (length s.floors) 2);
          relationships_lent = omega (arith, lent relationship_table (few 2 relationship_table refl), div-mul-le_self (length s.relationships) 2);
          rules_lent = omega (arith, lent rule_table (few 3 rule_table refl), div-mul-le_self (length s.rules) 2);
          bodies_lent = omega (arith, lent body_table (few 4 body_table refl), div-mul-le_self (length s.bodies) 4);
          objects_lent_lem = omega (arith, lent object_table (few 5 object_table refl), div-mul-le_self (length s.objects) 10);
          links_lent_lem = omega (arith, lent link_table (few 6 link_table refl), div-mul-le_self (length s.links) 3);
          clear = (parts book_tables short clear).1;
          whole = whole (parts book_tables short clear).1;
          typed = typed (parts book_tables short clear).1;
          cells = cells (parts book_tables short clear).1;
        }

  -- ---- a batch with them

  module _ (short : Bool) (clear : refusal_of layouts n s short ≡ none) where
    few_events : over n s event_table ≡ false
    unfolding layouts
    few_events = few_at layouts short clear 7 event_table refl

    pub given_all : Given n s × EventsLent n s
    given_all =
        let rows = lent event_table few_events in (
          given (torn s event_table || short) (others_decide n s short few_events ∙ clear),
          record {
            few_events = kept event_table few_events;
            events_lent = omega (arith, rows, div-mul-le_self (length s.events) 4);
          },
        )

  pub given_sheet : sheet_refusal n s ≡ none → Given n s × EventsLent n s × EventsKnown n s
  unfolding sheet_refusal event_fault event_row
  given_sheet clear =
      let (checks, faults) = first_of_none (refusal_of layouts n s false) (refusal_at 7 (event_fault n s)) clear in
      let (book, rows) = given_all false checks in
      let known : (i : ℕ) → i < n.events → T (known_event (book_of n s).schema (event_row s.events i)) =
      λ i h.
      let e = event_row s.events i in
      T_not-not (known_event (book_of n s).schema e)
      (fault_none (λ m previous e. not (known_event (book_of n s).schema e)) (batch_in n s) (refusal_at_none 7 (event_fault n s) faults) i e
      (row_there (event_row s.events) n.events i h)).1 in (
        book,
        rows,
        record {
          known = known;
          kinds = λ i h. kind_known n.types s.types (floors_of n.floors s.floors) n.relationships s.relationships _ _ _ (word_at s.events 4 i 0) (is_true _ (known i h));
        },
      )
