-- The claims of specs/Claims, proved.
use Prim.Native.Nat.{ℕ, ◌+◌, ◌*◌, ◌/◌, ◌≤◌, ◌<◌}
use mathlib.Core.Path.{◌≡◌, refl, sym, ap, ap₂, subst, ◌∙◌}
use mathlib.Core.Logic.{◌≢◌}
use mathlib.Core.Bool.{Bool, true, false, ◌&&◌, cond}
use mathlib.Core.List.{List, [], ◌∷◌}
use mathlib.Core.Option.{Option, none, some}
use native.Mathlib.Nat.{div-mul-le_self, le-div_iff_mul-le}
use native.Mathlib.Omega.{arith}
use lib.Dec.{T, lit<}
use lib.ListN.{length, get_or, get_elem?, take, drop}
use lib.Seq.{take_at, get_or-take}
use borrow.Author.Tests.{ltb-false}
use mir.Facts.{and_yes, yes_and}
use Rattle.meaning.specs.Limits.{max_forms, valid_id}
use Rattle.meaning.specs.Schema.{Schema}
use Rattle.meaning.specs.Forms.{Sort, Form, bind, member_type, compare, negate, connect, quantify, kind, num, cell, size, sum, combine, role, all, select, well_typed}
use Rattle.meaning.specs.Events.{Event, Refusal, known_event}
use Rattle.meaning.specs.Answers.{refusal}
use Rattle.meaning.proofs.Lists.{first_of_none}
use Rattle.rows.specs.Rows.{word_at, read_rows, rows_lent}
use Rattle.tables.specs.Layouts.{Sheet, Layout, type_table, floor_table, relationship_table, rule_table, body_table, object_table, link_table, event_table, layouts, lines_lent}
use Rattle.tables.specs.Bodies.{read_body, write_form}
use Rattle.tables.specs.Columns.{rule_row, no_event, event_row, book_of, register_in, batch_in}
use Rattle.tables.specs.Refusals.{OrRefused, not_whole, sheet_refusal}
use Rattle.tables.specs.declared.Counts.{Counts}
use Rattle.tables.proofs.Forms.{nums_fit, words_from, body_count, body_read, table_words}
use Rattle.schema.proofs.Rows.{length_rows, row_there}
use Rattle.body_rows.specs.Marks.{body_of}
use Rattle.checks.specs.Given.{Given, EventsLent, EventsKnown}
use Rattle.checks.proofs.Given.{any_off, lent, given_sheet}
use Rattle.checks.proofs.Stages.{over}
use Rattle.text.specs.Names.{type_name, floor_name, relationship_name, rule_name, object_name, link_name}
use Rattle.text.specs.Entries.{Entry, event_section, count_of, table_of, bodies_of}
use Rattle.text.specs.Texts.{max_text, spelled, Reading, taken, refused, reading}
use Rattle.text.specs.Sheets.{entries_of, text_of}
use Rattle.text.proofs.Bodies.{written_rows}
use Rattle.text.proofs.Texts.{write_after_read}
use Rattle.text.proofs.Determined.{one_spelling}
use Rattle.reader.specs.Reads.{unless_broken, lent_reading, read_answer, counts_of, sheet_after}
use Rattle.filling.specs.Fills.{sheet_with}
use Rattle.std.specs.Prelude.{Ok, Err}
use Rattle.writer.specs.Answers.{text_refusal, writer_refusal, write_answer, bytes_after}
use Rattle.round_trip.specs.Claims.{SmallWords, text_in, written_text, Enough, ReadAs, WrittenIsRead, NoOtherIsRead}
use Rattle.round_trip.proofs.Sheets.{known, rule_few, Room, sheet_fits, sheet_read}
use Rattle.round_trip.proofs.Models.{Alike, SameUsed, same_book, same_register, same_batch, exact, exact_used}
use Rattle.round_trip.proofs.Rows.{counts_are, SameRows, same_counts, same_rows}
use Rattle.round_trip.proofs.Held.{Good, fit_good, bodies_length, same_lines}

-- ---- a body that is well typed has numbers of 32 bits only

pair_fits : {s u : Sort} (S : Schema) (ts us : List ℕ) (a : Form s) (b : Form u) → T (well_typed S ts a && well_typed S us b)
    → (T (well_typed S ts a) → T (nums_fit a)) → (T (well_typed S us b) → T (nums_fit b)) → T (nums_fit a && nums_fit b)
pair_fits S ts us a b t f g =
    let (x, y) = and_yes (well_typed S ts a) (well_typed S us b) t in yes_and (nums_fit a) (nums_fit b) (f x) (g y)

nums_fit_lem : {s : Sort} (S : Schema) (ts : List ℕ) (f : Form s) → T (well_typed S ts f) → T (nums_fit f)
unfolding well_typed nums_fit
nums_fit_lem S ts (compare o a b) t = pair_fits S ts ts a b t (nums_fit_lem S ts a) (nums_fit_lem S ts b)
nums_fit_lem S ts (negate a) t = nums_fit_lem S ts a t
nums_fit_lem S ts (connect o a b) t = pair_fits S ts ts a b t (nums_fit_lem S ts a) (nums_fit_lem S ts b)
nums_fit_lem S ts (quantify q c b) t = let us = bind ts (member_type S.relationships c) in pair_fits S ts us c b t (nums_fit_lem S ts c) (nums_fit_lem S us b)
nums_fit_lem S ts (kind v k) t = tt
nums_fit_lem S ts (num z) t = t
nums_fit_lem S ts (cell v k) t = tt
nums_fit_lem S ts (size c) t = nums_fit_lem S ts c t
nums_fit_lem S ts (sum c k) t = nums_fit_lem S ts c (and_yes (well_typed S ts c) _ t).0
nums_fit_lem S ts (combine o a b) t = pair_fits S ts ts a b t (nums_fit_lem S ts a) (nums_fit_lem S ts b)
nums_fit_lem S ts (role v r) t = tt
nums_fit_lem S ts (all k) t = tt
nums_fit_lem S ts (select c b) t = let us = bind ts (member_type S.relationships c) in pair_fits S ts us c b t (nums_fit_lem S ts c) (nums_fit_lem S us b)

-- ---- tables that the writer does not refuse

module _ (n : Counts) (s : Sheet) (out : List ℕ) (small : SmallWords s) (clear : writer_refusal n s (length out) ≡ none) where
  stages : (sheet_refusal n s ≡ none) × (text_refusal (text_of n s) (length out) ≡ none)
  unfolding writer_refusal
  stages = first_of_none (sheet_refusal n s) (text_refusal (text_of n s) (length out)) clear

  sound : Given n s × EventsLent n s × EventsKnown n s
  sound = given_sheet n s stages.0

  short : length (spelled (entries_of n s)) ≤ max_text
  unfolding text_refusal text_of
  short = ltb-false max_text (length (spelled (entries_of n s))) (kept _ _ _ stages.1)
    where
      kept : (b : Bool) (r : Refusal) (o : Option Refusal) → cond b (some r) o ≡ none → b ≡ false
      kept true r o e = cc
      kept false r o e = refl

  -- what it writes is the text
  text_written : written_text n s out ≡ text_of n s
  unfolding bytes_after
  text_written =
      let text = text_of n s in
      ap (λ o. text_in (write_answer o (length text)) (bytes_after o text out)) clear
      ∙ take_at text (drop (length text) out) (length text) refl

  abbrev lines : List Entry
  lines = entries_of n s

  abbrev rows : SameRows n s lines
  rows = same_rows n s small sound

  -- the lines that are read are good, in tables of whatever size
  abbrev exact_room : List ℕ
  exact_room = n.types ∷ n.floors ∷ n.relationships ∷ n.rules ∷ n.objects ∷ n.links ∷ n.events ∷ []

  roomy : Room n s small sound exact_room
  roomy =
      record {
        types_room = omega arith;
        floors_room = omega arith;
        relationships_room = omega arith;
        rules_room = omega arith;
        objects_room = omega arith;
        links_room = omega arith;
        events_room = omega arith;
      }

  lines_good : Good lines
  lines_good = fit_good exact_room [] lines (sheet_fits n s small sound exact_room roomy)

  -- ---- the book, the register and the batch of the lines' tables

  front : (t u : List ℕ) (used : ℕ) → u ≡ take used t → Alike used u t
  front t u used e k h = ap (λ l. get_or l k 0) e ∙ get_or-take used t k 0 h

  abbrev size_at : ℕ → ℕ
  size_at i = word_at s.rules 2 i 1

  rule_word : (i c : ℕ) → i < n.rules → c < 2 → word_at (table_of rule_name lines) 2 i c ≡ word_at s.rules 2 i c
  rule_word i c h l = front s.rules (table_of rule_name lines) (n.rules * 2) rows.rules_same (i * 2 + c) (omega arith)

  body_same : (i : ℕ) → i < n.rules → read_body (body_of (bodies_of lines) i) (size_at i) ≡ read_body (body_of s.bodies i) (size_at i)
  unfolding rule_row
  body_same i h =
      let f = read_body (body_of s.bodies i) (size_at i) in
      let typed = (known n s small sound).typed i (rule_row s.rules s.bodies i) (row_there (rule_row s.rules s.bodies) n.rules i h) in
      let few = rule_few n s small sound i h in
      let count = lines_count in
      let long = bodies_length lines lines_good in
      let place : (i * max_forms + 0) * 4 ≡ i * 256 = omega arith in
      let words : words_from (body_of (bodies_of lines) i) 0 (size_at i) ≡ write_form f =
      table_words (bodies_of lines) (i * max_forms) 0 (size_at i) (omega (arith, h, few, long, count))
      ∙ ap (λ k. take (size_at i * 4) (drop k (bodies_of lines))) place
      ∙ rows.bodies_same i h
      ∙ written_rows f in
      body_read (body_of (bodies_of lines) i) f (size_at i) (nums_fit_lem (book_of n s).schema _ f typed)
      (body_count (body_of s.bodies i) (λ j. small.of_bodies ((i * max_forms + j) * 4 + 1)) (size_at i) (sound.0.whole i h)) few words
    where
      lines_count : count_of rule_name lines ≡ n.rules
      lines_count = ap (λ m. m.rules) (same_counts n s)

  rule_same : (i : ℕ) → i < n.rules → rule_row (table_of rule_name lines) (bodies_of lines) i ≡ rule_row s.rules s.bodies i
  unfolding rule_row
  rule_same i h =
      let context = rule_word i 0 h (omega arith) in
      let count = rule_word i 1 h (omega arith) in
      let body = ap (read_body (body_of (bodies_of lines) i)) count ∙ body_same i h in
      cc (context, body)

  used_same : SameUsed n (exact lines) s
  used_same =
      record {
        types = front s.types (table_of type_name lines) (n.types * 2) rows.types_same;
        floors = front s.floors (table_of floor_name lines) (n.floors * 2) rows.floors_same;
        relationships = front s.relationships (table_of relationship_name lines) (n.relationships * 2) rows.relationships_same;
        rules = rule_same;
        objects = front s.objects (table_of object_name lines) (n.objects * 10) rows.objects_same;
        links = front s.links (table_of link_name lines) (n.links * 3) rows.links_same;
        events = front s.events (table_of event_section lines) (n.events * 4) rows.events_same;
      }

  -- ---- read back

  module _ (into : Sheet) (enough : Enough n into) where
    few : (k : ℕ) (l : Layout) → get_elem? layouts k ≡ some l → l.used n ≤ rows_lent (l.words into) l.width
    few k l q = lent n into l (any_off (over n into) layouts enough.rows k l q)

    room : Room n s small sound (lines_lent into)
    unfolding lines_lent layouts
    room =
        let bodies = few 4 body_table refl in
        let bodies_lent : n.rules * 256 ≤ length into.bodies = omega (arith, bodies, div-mul-le_self (length into.bodies) 4) in
        let bodies_room : n.rules ≤ length into.bodies / 256 = (le-div_iff_mul-le (lit< tt)).1 bodies_lent in
        record {
          types_room = few 0 type_table refl;
          floors_room = few 1 floor_table refl;
          relationships_room = few 2 relationship_table refl;
          rules_room = omega (arith, few 3 rule_table refl, bodies_room);
          objects_room = few 5 object_table refl;
          links_room = few 6 link_table refl;
          events_room = few 7 event_table refl;
        }

    is_read : lent_reading (written_text n s out) into ≡ taken lines
    unfolding lent_reading unless_broken text_of
    is_read =
        ap (λ text. unless_broken (reading (lines_lent into) text) (not_whole layouts into)) text_written
        ∙ ap₂ unless_broken (sheet_read n s small sound (lines_lent into) room short) enough.whole

    pub read_back : ReadAs (written_text n s out) into n (book_of n s) (register_in n s) (batch_in n s)
    unfolding sheet_after
    read_back =
        let filled = exact_used lines into n in
        let after : sheet_after (lent_reading (written_text n s out) into) into ≡ sheet_with lines into = ap (λ r. sheet_after r into) is_read in
        record {
          answer_is = ap read_answer is_read ∙ ap Ok (same_counts n s);
          book_is = ap (book_of n) after ∙ same_book filled ∙ same_book used_same;
          register_is = ap (register_in n) after ∙ same_register filled ∙ same_register used_same;
          batch_is = ap (batch_in n) after ∙ same_batch filled ∙ same_batch used_same;
        }

  -- ---- no other text

  module _ (text : List ℕ) (into : Sheet) (m : Counts) (r : ReadAs text into m (book_of n s) (register_in n s) (batch_in n s)) where
    done_taken : (o : Reading) (broken : Bool) → read_answer (unless_broken o broken) ≡ Ok m
        → (es : List Entry) × (o ≡ taken es) × (unless_broken o broken ≡ taken es) × (counts_of es ≡ m)
    unfolding unless_broken
    done_taken (taken es) true e = let z : ◌≡◌ {A = ℕ} 0 1 = cc in absurd (omega arith)
    done_taken (taken es) false e = (es, refl, refl, counts_of_lem e)
      where
        counts_of_lem : ◌≡◌ {A = OrRefused Counts} (Ok (counts_of es)) (Ok m) → counts_of es ≡ m
        counts_of_lem e = cc
    done_taken (refused number line) broken e = let z : ◌≡◌ {A = ℕ} 0 1 = cc in absurd (omega arith)

    found : (es : List Entry) × (reading (lines_lent into) text ≡ taken es) × (lent_reading text into ≡ taken es) × (counts_of es ≡ m)
    unfolding lent_reading
    found = done_taken (reading (lines_lent into) text) (not_whole layouts into) r.answer_is

    abbrev others : List Entry
    others = found.0

    -- as many rows as the lists are long
    length_same : {A : Type 0} (f g : ℕ → A) (a b : ℕ) → read_rows f a ≡ read_rows g b → a ≡ b
    length_same f g a b e = sym (length_rows f a) ∙ ap length e ∙ length_rows g b

    counts_same : m ≡ n
    counts_same =
        counts_are n
        (length_same _ _ m.types n.types (ap (λ b. b.schema.types) r.book_is))
        (length_same _ _ m.floors n.floors (ap (λ b. b.schema.floors) r.book_is))
        (length_same _ _ m.relationships n.relationships (ap (λ b. b.schema.relationships) r.book_is))
        (length_same _ _ m.rules n.rules (ap (λ b. b.rules) r.book_is))
        (length_same _ _ m.objects n.objects (ap (λ g. g.objects) r.register_is))
        (length_same _ _ m.links n.links (ap (λ g. g.links) r.register_is))
        (length_same _ _ m.events n.events r.batch_is)

    -- both are lines whose tables hold the book, the register and the batch
    record Holds (es : List Entry) : Type 0 where
      pub counts : counts_of es ≡ n
      pub book : book_of (counts_of es) (exact es) ≡ book_of n s
      pub register : register_in (counts_of es) (exact es) ≡ register_in n s
      pub batch : batch_in (counts_of es) (exact es) ≡ batch_in n s

    these : Holds lines
    these =
        let c = same_counts n s in
        record {
          counts = c;
          book = ap (λ k. book_of k (exact lines)) c ∙ same_book used_same;
          register = ap (λ k. register_in k (exact lines)) c ∙ same_register used_same;
          batch = ap (λ k. batch_in k (exact lines)) c ∙ same_batch used_same;
        }

    those : Holds others
    unfolding sheet_after
    those =
        let c = found.3 in
        let filled = exact_used others into m in
        let after : sheet_after (lent_reading text into) into ≡ sheet_with others into = ap (λ o. sheet_after o into) found.2 in
        record {
          counts = c ∙ counts_same;
          book = ap (λ k. book_of k (exact others)) c ∙ sym (same_book filled) ∙ sym (ap (book_of m) after) ∙ r.book_is;
          register = ap (λ k. register_in k (exact others)) c ∙ sym (same_register filled) ∙ sym (ap (register_in m) after) ∙ r.register_is;
          batch = ap (λ k. batch_in k (exact others)) c ∙ sym (same_batch filled) ∙ sym (ap (batch_in m) after) ∙ r.batch_is;
        }

    not_refused : (es : List Entry) → Holds es → refusal (book_of (counts_of es) (exact es)) (register_in (counts_of es) (exact es)) ≡ none
    not_refused es h = ap₂ refusal h.book h.register ∙ sound.0.clear

    event_real : (i : ℕ) → i < count_of event_section others → event_row (table_of event_section others) i ≢ no_event
    unfolding known_event valid_id
    event_real i h e =
        let here : i < n.events = omega (arith, h, ap (λ k. k.events) those.counts) in
        let same : event_row (table_of event_section others) i ≡ event_row s.events i = row_same i here in
        subst (λ v. T (known_event (book_of n s).schema v)) (sym same ∙ e) (sound.2.known i here)
      where
        row_same : (i : ℕ) → i < n.events → event_row (table_of event_section others) i ≡ event_row s.events i
        row_same i h =
            let there = row_there (event_row (table_of event_section others)) (count_of event_section others) i (omega (arith, h, ap (λ k. k.events) those.counts)) in
            some_same (sym there ∙ ap (λ l. get_elem? l i) those.batch ∙ row_there (event_row s.events) n.events i h)
          where
            some_same : {x y : Event} → some x ≡ some y → x ≡ y
            some_same q = cc

    pub no_other : text ≡ written_text n s out
    unfolding text_of
    no_other =
        let counts = those.counts ∙ sym these.counts in
        let fits = (write_after_read (lines_lent into) text others found.1).fits in
        let same =
        same_lines others lines (fit_good (lines_lent into) [] others fits) lines_good counts
        (those.book ∙ sym these.book ∙ ap (λ k. book_of k (exact lines)) (sym counts))
        (those.register ∙ sym these.register ∙ ap (λ k. register_in k (exact lines)) (sym counts))
        (those.batch ∙ sym these.batch ∙ ap (λ k. batch_in k (exact lines)) (sym counts))
        (not_refused others those) (not_refused lines these) event_real in
        one_spelling (lines_lent into) exact_room text (spelled lines) others lines found.1 (sheet_read n s small sound exact_room roomy short) same
        ∙ sym text_written

-- ---- the claims

pub written_is_read : WrittenIsRead
written_is_read n s out small clear into enough = read_back n s out small clear into enough

pub no_other_is_read : NoOtherIsRead
no_other_is_read n s out small clear text into m r = no_other n s out small clear text into m r
