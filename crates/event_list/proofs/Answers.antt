-- What the checks of a lent book say about the answer, and what no refusal gives.
use Prim.Native.Nat.{ℕ, ◌*◌, ◌≤◌, ◌<◌}
use Rattle.tables.specs.Refusals.{refused_by}
use Rattle.tables.specs.declared.Refusal as Code
use mathlib.Core.Path.{◌≡◌, refl, sym, ap, ◌∙◌}
use mathlib.Core.Bool.{Bool, true, false, ◌||◌, cond}
use mathlib.Core.List.{List, []}
use mathlib.Core.Option.{Option, none, some}
use native.Mathlib.Omega.{arith}
use borrow.Author.Tests.{lt-ltb, le-ltb, ltb-true}
use lib.Dec.{T, ltb}
use lib.ListN.{length, get_or, replicate, get_elem?, get_or-replicate, length-replicate}
use Rattle.meaning.specs.Lists.{first_of, ◌∈◌}
use Rattle.meaning.specs.Limits.{max_rules}
use Rattle.meaning.specs.Schema.{Schema}
use Rattle.meaning.specs.Register.{object_fault, link_fault}
use Rattle.meaning.specs.Forms.{Rule, Book}
use Rattle.meaning.specs.Events.{Refusal}
use Rattle.meaning.specs.EventList.{EventType, event_list}
use Rattle.meaning.specs.Answers.{refusal_at, book_refusal, register_refusal, refusal, lacked_rule}
use Rattle.meaning.proofs.Lists.{first_of_none}
use Rattle.meaning.proofs.Touched.{event_list_ascends}
use Rattle.rows.specs.Rows.{word_at, read_rows, in_front}
use Rattle.tables.specs.Layouts.{Sheet, sheet_of, book_tables}
use Rattle.tables.specs.Bodies.{whole_body}
use Rattle.tables.specs.Columns.{type_row, relationship_row, rule_row, book_of, register_in}
use Rattle.tables.specs.Refusals.{verdict_of, table_refusal, refusal_of, lent_refusal}
use Rattle.tables.specs.declared.Counts.{Counts}
use Rattle.std.specs.Prelude.{Ok, Err}
use Rattle.schema.proofs.Rows.{length_rows, row_there, row_at_lem}
use Rattle.body_rows.specs.Marks.{body_of}
use Rattle.checks.specs.Given.{Given}
use Rattle.checks.proofs.Given.{given, clear_none}
use Rattle.checks.proofs.Stages.{first_none}
use Rattle.type_marks.specs.Marks.{places, marked, Added}
use Rattle.event_marks.proofs.Bounds.{placed, book_placed}
use Rattle.mark_words.specs.Places.{marked_below, place_words}
use Rattle.event_list.specs.Answers.{rule_tables, lent_book_refusal, rule_refusal, list_in, list_of, list_words, room_refusal, list_refusal, listed_of, answer, words_after, list_after}
use Rattle.mark_words.proofs.Places.{words_length, below_few}
use Rattle.event_list.proofs.Read.{read_length, read_words_lem}

-- ---- a refusal that is met first

refused_first : (o later : Option Refusal) {r : Code.Refusal} → Err r ≡ verdict_of o → Err r ≡ verdict_of (first_of o later)
refused_first none later e = cc
refused_first (some x) later e = e

refused_listed : (o later : Option Refusal) (es : List EventType) {r : Code.Refusal} → Err r ≡ verdict_of o → Err r ≡ listed_of (first_of o later) es
refused_listed none later es e = cc
refused_listed (some x) later es e = cc

refused_words : (o later : Option Refusal) (es : List EventType) (l : List ℕ) {r : Code.Refusal} → Err r ≡ verdict_of o → l ≡ words_after (first_of o later) es l
refused_words none later es l e = cc
refused_words (some x) later es l e = refl

-- a rule that is not known is lacked
abbrev unless_known : Bool → ℕ → Option Refusal
unless_known known rule = cond known none (some (record { number = 4; place = rule }))

-- the counts without a register
abbrev book_alone : Counts → Counts
book_alone n = record { types = n.types; floors = n.floors; relationships = n.relationships; rules = n.rules; objects = 0; links = 0; events = 0 }

-- an empty register is never refused
pub book_alone_lem : (n : Counts) (types floors relationships rules bodies : List ℕ)
    → lent_refusal (book_alone n) (sheet_of types floors relationships rules bodies [] [] []) false ≡ lent_book_refusal n (sheet_of types floors relationships rules bodies [] [] [])
unfolding refusal_of table_refusal book_tables rule_tables refusal register_refusal object_fault link_fault refusal_at lent_book_refusal
book_alone_lem n types floors relationships rules bodies =
    let s = sheet_of types floors relationships rules bodies [] [] [] in
    ap (first_of (table_refusal rule_tables n s false)) (sym (first_none (book_refusal (book_of n s))))

-- a book that is not refused has at most 32 rules
pub few_rules : (n : Counts) (types floors relationships rules bodies : List ℕ) → lent_book_refusal n (sheet_of types floors relationships rules bodies [] [] []) ≡ none → n.rules ≤ max_rules
few_rules n types floors relationships rules bodies e =
    (given (book_alone n) (sheet_of types floors relationships rules bodies [] [] []) false (book_alone_lem n types floors relationships rules bodies ∙ e)).few_rules

module _ (n : Counts) (types floors relationships rules bodies : List ℕ) (rule : ℕ) where
  abbrev s : Sheet
  s = sheet_of types floors relationships rules bodies [] [] []

  abbrev k : Book
  k = book_of n s

  lacked_is : unless_known (ltb rule n.rules) rule ≡ lacked_rule k rule
  unfolding lacked_rule
  lacked_is = ap (λ count. unless_known (ltb rule count) rule) (sym (length_rows (rule_row rules bodies) n.rules))

  -- ---- the verdict

  pub book_refused : {r : Code.Refusal} → Err r ≡ verdict_of (lent_book_refusal n s) → Err r ≡ verdict_of (rule_refusal n s rule)
  unfolding rule_refusal
  book_refused e = refused_first (lent_book_refusal n s) (lacked_rule k rule) e

  module _ (clear : Ok tt ≡ verdict_of (lent_book_refusal n s)) where
    lacked_decides : verdict_of (unless_known (ltb rule n.rules) rule) ≡ verdict_of (rule_refusal n s rule)
    unfolding rule_refusal
    lacked_decides =
        ap verdict_of lacked_is
        ∙ ap (λ o. verdict_of (first_of o (lacked_rule k rule))) (sym (clear_none (lent_book_refusal n s) clear))

    pub rule_known : rule < n.rules → Ok tt ≡ verdict_of (rule_refusal n s rule)
    rule_known h = rw (lt-ltb rule n.rules h) at lacked_decides

    pub rule_lacked : n.rules ≤ rule → refused_by 4 rule ≡ verdict_of (rule_refusal n s rule)
    rule_lacked h = rw (le-ltb rule n.rules h) at lacked_decides

  -- ---- a refusal of the book

  pub list_refused : {r : Code.Refusal} → Err r ≡ verdict_of (rule_refusal n s rule) → (l : List ℕ) → (Err r ≡ answer n s rule (length l)) × (l ≡ list_after n s rule l)
  unfolding answer list_after list_refusal
  list_refused e l =
      let room = room_refusal (length l) (list_of k rule) in
      (refused_listed (rule_refusal n s rule) room (list_of k rule) e, refused_words (rule_refusal n s rule) room (list_of k rule) l e)

  -- ---- no refusal of the book

  module _ (clear : Ok tt ≡ verdict_of (rule_refusal n s rule)) where
    met : (lent_book_refusal n s ≡ none) × (lacked_rule k rule ≡ none)
    unfolding rule_refusal
    met = first_of_none (lent_book_refusal n s) (lacked_rule k rule) (clear_none (rule_refusal n s rule) clear)

    known : Given (book_alone n) s
    known = given (book_alone n) s false (book_alone_lem n types floors relationships rules bodies ∙ met.0)

    there : rule < n.rules
    there = ltb-true rule n.rules (step (ltb rule n.rules) (lacked_is ∙ met.1))
      where
        step : (b : Bool) → unless_known b rule ≡ none → b ≡ true
        step true e = refl
        step false e = cc

    pub body_whole : T (whole_body (body_of bodies rule) (word_at rules 2 rule 1))
    body_whole = known.whole rule there

    abbrev S : Schema
    S = k.schema

    abbrev r : Rule
    r = rule_row rules bodies rule

    abbrev es : List EventType
    es = event_list S r

    found : get_elem? k.rules rule ≡ some r
    found = row_there (rule_row rules bodies) n.rules rule there

    book_clear : book_refusal k ≡ none
    unfolding refusal
    book_clear = (first_of_none (book_refusal k) (register_refusal S (register_in (book_alone n) s)) known.clear).0

    in_place : (e : EventType) → e ∈ es → T (placed e)
    in_place =
        book_placed k book_clear
        (omega (arith, known.few_types, length_rows (type_row types) n.types))
        (omega (arith, known.few_relationships, length_rows (relationship_row relationships) n.relationships))
        rule
        r
        found

    list_is : list_of k rule ≡ es
    unfolding list_of
    list_is = ap (list_in S) found

    module _ (marks : List Bool) (added : Added (replicate places false) marks (marked es)) where
      abbrev read : List ℕ
      read = marked_below marks places

      each : (place : ℕ) → place < places → get_or marks place false ≡ marked es place
      each place h = added.each place h ∙ ap (λ b. b || marked es place) (get_or-replicate places place false false h)

      words_same : place_words read ≡ list_words (list_of k rule)
      words_same = read_words_lem marks es (event_list_ascends S r) in_place each ∙ ap list_words (sym list_is)

      length_same : length read ≡ length (list_of k rule)
      length_same = read_length marks es (event_list_ascends S r) in_place each ∙ ap length (sym list_is)

      words_lent : 3 * length read ≡ length (list_words (list_of k rule))
      words_lent = sym (words_length read) ∙ ap length words_same

      -- 14, where the words do not fit
      abbrev unless_room : Bool → Option Refusal
      unless_room short = cond short (some (record { number = 14; place = 0 })) none

      refusal_is : (lent : ℕ) (short : Bool) → ltb lent (3 * length read) ≡ short → unless_room short ≡ list_refusal n s rule lent
      unfolding list_refusal room_refusal
      refusal_is lent short e =
          ap unless_room (sym e)
          ∙ ap (λ size. unless_room (ltb lent size)) words_lent
          ∙ ap (λ o. first_of o (room_refusal lent (list_of k rule))) (sym (clear_none (rule_refusal n s rule) clear))

      module _ (l : List ℕ) where
        pub list_short : length l < 3 * length read → (refused_by 14 0 ≡ answer n s rule (length l)) × (l ≡ list_after n s rule l)
        unfolding answer list_after
        list_short h =
            let is = refusal_is (length l) true (lt-ltb (length l) (3 * length read) h) in
            (ap (λ o. listed_of o (list_of k rule)) is, ap (λ o. words_after o (list_of k rule) l) is)

        pub list_whole : 3 * length read ≤ length l → (Ok (length read) ≡ answer n s rule (length l)) × (in_front (place_words read) l ≡ list_after n s rule l)
        unfolding answer list_after
        list_whole h =
            let is = refusal_is (length l) false (le-ltb (length l) (3 * length read) h) in (
              ap Ok length_same ∙ ap (λ o. listed_of o (list_of k rule)) is,
              ap (λ w. in_front w l) words_same ∙ ap (λ o. words_after o (list_of k rule) l) is,
            )

    -- ---- words for every place are enough

    -- what the list marks, place by place
    all_marks : Added (replicate places false) (read_rows (marked es) places) (marked es)
    all_marks = record { long = length_rows (marked es) places ∙ sym (length-replicate places false); each = each_mark }
      where
        each_mark : (place : ℕ) → place < places → get_or (read_rows (marked es) places) place false ≡ (get_or (replicate places false) place false || marked es place)
        each_mark place h = row_at_lem (marked es) places place false h ∙ ap (λ b. b || marked es place) (sym (get_or-replicate places place false false h))

    few_by : (marks : List Bool) → Added (replicate places false) marks (marked es) → length (list_of k rule) ≤ places
    few_by marks added = omega (arith, length_same marks added, below_few marks places)

    fits_by : (marks : List Bool) → Added (replicate places false) marks (marked es) → (l : List ℕ) → 3 * places ≤ length l
        → (answer n s rule (length l) ≡ Ok (length (list_of k rule))) × (list_after n s rule l ≡ in_front (list_words (list_of k rule)) l)
    fits_by marks added l h =
        let whole = list_whole marks added l (omega (arith, below_few marks places)) in
        (sym whole.0 ∙ ap Ok (length_same marks added), sym whole.1 ∙ ap (λ w. in_front w l) (words_same marks added))

    -- at most one event type for each place, so that 14 is not met
    pub few_listed : length (list_of k rule) ≤ places
    few_listed = few_by (read_rows (marked es) places) all_marks

    pub list_fits : (l : List ℕ) → 3 * places ≤ length l → (answer n s rule (length l) ≡ Ok (length (list_of k rule))) × (list_after n s rule l ≡ in_front (list_words (list_of k rule)) l)
    list_fits = fits_by (read_rows (marked es) places) all_marks
