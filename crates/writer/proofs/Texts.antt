-- The lines of all sections are the text of the tables' entries.
use Prim.Native.Nat.{ℕ, zero, suc, ◌+◌, ◌*◌, ◌≤◌, ◌<◌}
use mathlib.Core.Path.{◌≡◌, refl, sym, ap, ap₂, ◌∙◌}
use mathlib.Core.Bool.{false, cond}
use mathlib.Core.List.{List, [], ◌∷◌, ◌++◌, append_assoc, append-nil}
use native.Mathlib.Nat.{add-zero, zero-add, suc-add, add-suc}
use native.Mathlib.Omega.{arith}
use lib.Dec.{eqb}
use borrow.Author.Tests.{eq-eqb}
use lib.ListN.{length, get_or, take, drop}
use lib.Seq.{drop-cons, take-take}
use Rattle.meaning.specs.Limits.{cell_count}
use Rattle.rows.specs.Rows.{word_at, rows_from, read_rows}
use Rattle.tables.specs.Layouts.{Sheet, type_table, floor_table, relationship_table, object_table, link_table, event_table}
use Rattle.tables.specs.declared.Counts.{Counts}
use Rattle.text.specs.Names.{type_name, floor_name, relationship_name, rule_name, object_name, link_name, first_event}
use Rattle.text.specs.Entries.{Entry, row, section_of, entry_words, count_of, table_of, cells_in, parent_item, event_fields, items_of, name_for, bracket_of, spell_entry}
use Rattle.text.specs.Texts.{spell_from, spelled}
use Rattle.text.specs.Sheets.{words_at, row_entry, rule_entry, entries_of, text_of}
use Rattle.text.proofs.Blocks.{At, at-start, at_block, count_append, table_append, count_block, table_other}
use Rattle.checks.specs.Given.{Given, EventsLent, EventsKnown}
use Rattle.line_writer.specs.Lines.{row_line, type_line, relationship_line, rule_line, cells_for, object_line, plain_line, event_line, line_of, rows_in, lines_of, section_text, sheet_text}
use Rattle.line_writer.proofs.Spellings.{few_fields}

-- ---- the text of entries after entries

pub spell_both : (before es fs : List Entry) → spell_from before (es ++ fs) ≡ spell_from before es ++ spell_from (before ++ es) fs
unfolding spell_from
spell_both before [] fs = ap (λ b. spell_from b fs) (sym (append-nil before))
spell_both before (e ∷ es) fs =
    ap (λ s. spell_entry before e ++ 10 ∷ s) (spell_both (before ++ e ∷ []) es fs ∙ ap (λ b. spell_from (before ++ e ∷ []) es ++ spell_from b fs) (append_assoc before (e ∷ []) es))
    ∙ sym (append_assoc (spell_entry before e) (10 ∷ spell_from (before ++ e ∷ []) es) (spell_from (before ++ (e ∷ es)) fs))

rows_snoc : {A : Type 0} (read : ℕ → A) (j n : ℕ) → rows_from read j (suc n) ≡ rows_from read j n ++ read (j + n) ∷ []
rows_snoc read j zero = ap (λ k. read k ∷ []) (sym (add-zero j))
rows_snoc read j (suc n) = ap (λ l. read j ∷ l) (rows_snoc read (suc j) n ∙ ap (λ k. rows_from read (suc j) n ++ read k ∷ []) (suc-add j n ∙ sym (add-suc j n)))

-- rows whose lines are known, by their numbers
module _ (before : List Entry) (read : ℕ → Entry) (line : ℕ → List ℕ) where
  pub spell_rows : (n : ℕ) → ((i : ℕ) → i < n → spell_entry (before ++ read_rows read i) (read i) ++ 10 ∷ [] ≡ line i) → spell_from before (read_rows read n) ≡ lines_of line n
  unfolding spell_from lines_of
  spell_rows zero h = refl
  spell_rows (suc n) h =
      ap (spell_from before) (rows_snoc read 0 n ∙ ap (λ k. read_rows read n ++ read k ∷ []) (zero-add n))
      ∙ spell_both before (read_rows read n) (read n ∷ [])
      ∙ ap₂ (λ s t. s ++ t) (spell_rows n (λ i k. h i (omega arith))) (h n (omega arith))

-- ---- the words of a row that is lent

words_from_lem : (t : List ℕ) (base j n : ℕ) → base + j + n ≤ length t → rows_from (λ k. get_or t (base + k) 0) j n ≡ take n (drop (base + j) t)
words_from_lem t base j zero h = refl
words_from_lem t base j (suc n) h =
    let next : base + suc j ≡ suc (base + j) = omega arith in
    ap (λ l. get_or t (base + j) 0 ∷ l) (words_from_lem t base (suc j) n (omega arith) ∙ ap (λ k. take n (drop k t)) next)
    ∙ sym (ap (take (suc n)) (drop-cons t (base + j) 0 (omega arith)))

words_lent : (t : List ℕ) (width i : ℕ) → i * width + width ≤ length t → words_at t width i ≡ take width (drop (i * width) t)
words_lent t width i h = words_from_lem t (i * width) 0 width (omega arith) ∙ ap (λ k. take width (drop k t)) (add-zero (i * width))

-- the cells of a type, by the lines of the types
cells_from : (types : List ℕ) (j n t : ℕ) → t < n → get_or (table_of type_name (rows_from (λ i. row type_name (words_at types 2 i)) j n)) (t * 2 + 1) 0 ≡ word_at types 2 (j + t) 1
unfolding table_of section_of entry_words
cells_from types j zero t h = absurd (omega arith)
cells_from types j (suc n) zero h = ap (λ k. word_at types 2 k 1) (sym (add-zero j))
cells_from types j (suc n) (suc t) h =
    let e : suc t * 2 + 1 ≡ suc (suc (t * 2 + 1)) = omega arith in
    let k : suc j + t ≡ j + suc t = omega arith in
    rw e (cells_from types (suc j) n t (omega arith) ∙ ap (λ i. word_at types 2 i 1) k)

-- ---- the line of each row, after the lines before it

module _ (n : Counts) (s : Sheet) (sound : Given n s × EventsLent n s × EventsKnown n s) where
  abbrev type_entry : ℕ → Entry
  type_entry = row_entry type_table s.types

  abbrev floor_entry : ℕ → Entry
  floor_entry = row_entry floor_table s.floors

  abbrev relationship_entry : ℕ → Entry
  relationship_entry = row_entry relationship_table s.relationships

  abbrev body_entry : ℕ → Entry
  body_entry = rule_entry s.rules s.bodies

  abbrev object_entry : ℕ → Entry
  object_entry = row_entry object_table s.objects

  abbrev link_entry : ℕ → Entry
  link_entry = row_entry link_table s.links

  abbrev event_entry : ℕ → Entry
  event_entry = row_entry event_table s.events

  abbrev one : List Entry
  one = read_rows type_entry n.types

  abbrev two : List Entry
  two = one ++ read_rows floor_entry n.floors

  abbrev three : List Entry
  three = two ++ read_rows relationship_entry n.relationships

  abbrev four : List Entry
  four = three ++ read_rows body_entry n.rules

  abbrev five : List Entry
  five = four ++ read_rows object_entry n.objects

  abbrev six : List Entry
  six = five ++ read_rows link_entry n.links

  -- the position of a row among those of its section, of which there is none before
  row_count : (q : ℕ) (read : ℕ → Entry) → ((k : ℕ) → section_of (read k) ≡ q) → {before : List Entry} → At q before → (i : ℕ) → count_of q (before ++ read_rows read i) ≡ i
  row_count q read of {before} at i =
      count_append q before (read_rows read i)
      ∙ ap₂ (λ a b. a + b) (at.none_yet q (omega arith)) (count_block q read of q 0 i ∙ ap (λ b. cond b i 0) (eq-eqb q q refl))
      ∙ zero-add i

  at_one : At floor_name one
  unfolding section_of
  at_one = at_block type_name type_entry (λ k. refl) [] n.types at-start

  at_two : At relationship_name two
  unfolding section_of
  at_two = at_block floor_name floor_entry (λ k. refl) one n.floors at_one

  at_three : At rule_name three
  unfolding section_of
  at_three = at_block relationship_name relationship_entry (λ k. refl) two n.relationships at_two

  -- lines of another section add nothing to the types' table
  types_only : (before : List Entry) (q : ℕ) (read : ℕ → Entry) → ((i : ℕ) → section_of (read i) ≡ q) → eqb q type_name ≡ false → (m : ℕ)
      → table_of type_name (before ++ read_rows read m) ≡ table_of type_name before
  types_only before q read of other m =
      table_append type_name before (read_rows read m)
      ∙ ap (λ y. table_of type_name before ++ y) (table_other q read of type_name 0 m other)
      ∙ append-nil (table_of type_name before)

  object_cells : (i t : ℕ) → t < n.types → cells_in (four ++ read_rows object_entry i) t ≡ word_at s.types 2 t 1
  unfolding section_of
  object_cells i t h =
      let all : table_of type_name (four ++ read_rows object_entry i) ≡ table_of type_name one =
      types_only four object_name object_entry (λ k. refl) refl i
      ∙ types_only three rule_name body_entry (λ k. refl) refl n.rules
      ∙ types_only two relationship_name relationship_entry (λ k. refl) refl n.relationships
      ∙ types_only one floor_name floor_entry (λ k. refl) refl n.floors in
      ap (λ l. word_at l 2 t 1) all ∙ cells_from s.types 0 n.types t h ∙ ap (λ k. word_at s.types 2 k 1) (zero-add t)

  -- the lines
  type_line_lem : (i : ℕ) → spell_entry (read_rows type_entry i) (type_entry i) ++ 10 ∷ [] ≡ type_line s.types i
  unfolding section_of spell_entry bracket_of items_of name_for type_line row_line
  type_line_lem i = ap (λ k. row_line type_name (k ∷ parent_item (word_at s.types 2 i 0) ∷ word_at s.types 2 i 1 ∷ [])) (row_count type_name type_entry (λ k. refl) at-start i)

  floor_line : (i : ℕ) → i < n.floors → spell_entry (one ++ read_rows floor_entry i) (floor_entry i) ++ 10 ∷ [] ≡ plain_line floor_name s.floors 2 i
  unfolding spell_entry bracket_of items_of name_for plain_line row_line
  floor_line i h = ap (row_line floor_name) (words_lent s.floors 2 i (omega (arith, sound.0.floors_lent)))

  relationship_line_lem : (i : ℕ)
      → spell_entry (two ++ read_rows relationship_entry i) (relationship_entry i) ++ 10 ∷ [] ≡ relationship_line s.relationships i
  unfolding section_of spell_entry bracket_of items_of name_for relationship_line row_line
  relationship_line_lem i =
      ap (λ k. row_line relationship_name (k ∷ word_at s.relationships 2 i 0 ∷ word_at s.relationships 2 i 1 ∷ [])) (row_count relationship_name relationship_entry (λ k. refl) at_two i)

  rule_line_lem : (i : ℕ) → spell_entry (three ++ read_rows body_entry i) (body_entry i) ++ 10 ∷ [] ≡ rule_line s.rules s.bodies i
  unfolding section_of spell_entry bracket_of rule_line
  rule_line_lem i = rw (row_count rule_name body_entry (λ k. refl) at_three i)

  object_line_lem : (i : ℕ) → i < n.objects
      → spell_entry (four ++ read_rows object_entry i) (object_entry i) ++ 10 ∷ [] ≡ object_line s.types s.objects i
  unfolding spell_entry bracket_of items_of name_for object_line row_line
  object_line_lem i h =
      let objects = s.objects in
      let c = cells_for s.types objects i in
      let few : c ≤ cell_count = sound.0.cells i h in
      let lent : i * 10 + 10 ≤ length objects = omega (arith, sound.0.objects_lent_lem) in
      ap (λ k. row_line object_name (take (2 + k) (words_at objects 10 i))) (object_cells i (word_at objects 10 i 1) (sound.0.typed i h))
      ∙ ap (row_line object_name) (ap (take (2 + c)) (words_lent objects 10 i lent) ∙ take-take (2 + c) 10 (drop (i * 10) objects) (omega arith))

  link_line : (i : ℕ) → i < n.links → spell_entry (five ++ read_rows link_entry i) (link_entry i) ++ 10 ∷ [] ≡ plain_line link_name s.links 3 i
  unfolding spell_entry bracket_of items_of name_for plain_line row_line
  link_line i h = ap (row_line link_name) (words_lent s.links 3 i (omega (arith, sound.0.links_lent_lem)))

  event_line_lem : (i : ℕ) → i < n.events → spell_entry (six ++ read_rows event_entry i) (event_entry i) ++ 10 ∷ [] ≡ event_line s.events i
  unfolding spell_entry bracket_of items_of name_for event_line row_line
  event_line_lem i h =
      let events = s.events in
      let kind = word_at events 4 i 0 in
      let f = event_fields kind in
      let few : f ≤ 3 = few_fields kind in
      let lent : i * 4 + 4 ≤ length events = omega (arith, sound.1.events_lent) in
      let rest : drop 1 (words_at events 4 i) ≡ take 3 (drop (i * 4 + 1) events) = words_from_lem events (i * 4) 1 3 (omega arith) in
      ap (row_line (first_event + kind)) (ap (take f) rest ∙ take-take f 3 (drop (i * 4 + 1) events) few)

  -- section after section
  pub text_spelled : sheet_text n s ≡ text_of n s
  unfolding text_of sheet_text section_text lines_of spelled entries_of line_of rows_in
  text_spelled =
      sym
      (spell_both [] six (read_rows event_entry n.events)
      ∙ ap₂ (λ s t. s ++ t)
      (spell_both [] five (read_rows link_entry n.links)
      ∙ ap₂ (λ s t. s ++ t)
      (spell_both [] four (read_rows object_entry n.objects)
      ∙ ap₂ (λ s t. s ++ t)
      (spell_both [] three (read_rows body_entry n.rules)
      ∙ ap₂ (λ s t. s ++ t)
      (spell_both [] two (read_rows relationship_entry n.relationships)
      ∙ ap₂ (λ s t. s ++ t)
      (spell_both [] one (read_rows floor_entry n.floors)
      ∙ ap₂ (λ s t. s ++ t)
      (spell_rows [] type_entry (line_of s type_name) n.types (λ i h. type_line_lem i))
      (spell_rows one floor_entry (line_of s floor_name) n.floors floor_line))
      (spell_rows two relationship_entry (line_of s relationship_name) n.relationships (λ i h. relationship_line_lem i)))
      (spell_rows three body_entry (line_of s rule_name) n.rules (λ i h. rule_line_lem i)))
      (spell_rows four object_entry (line_of s object_name) n.objects object_line_lem))
      (spell_rows five link_entry (line_of s link_name) n.links link_line))
      (spell_rows six event_entry (line_of s first_event) n.events event_line_lem))
