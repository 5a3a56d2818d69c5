-- Tables that the writer does not refuse are lines that can be said, so their text is read as these lines.
use Prim.Native.Nat.{ℕ, zero, suc, ◌+◌, ◌*◌, ◌-◌, ◌^◌, min, ◌≤◌, ◌<◌}
use mathlib.Core.Path.{◌≡◌, refl, sym, ap, ap₂, subst, ◌∙◌}
use mathlib.Core.Bool.{Bool, true, false, ◌&&◌, ◌||◌, cond}
use mathlib.Core.List.{List, [], ◌∷◌, ◌++◌, append-nil, append_assoc}
use mathlib.Core.Option.{none, some}
use native.Mathlib.Omega.{arith}
use lib.Dec.{T, ltb, leb, eqb, leb→le}
use lib.ListN.{length, get_or, take, drop}
use lib.IntN.{pos, negsuc}
use lib.Seq.{drop-nil}
use denote.Floats.{is_true}
use borrow.Author.Tests.{le-ltb, lt-ltb, le-leb, eq-eqb}
use mir.Facts.{and_yes}
use Rattle.meaning.specs.Lists.{every, ◌∈◌}
use Rattle.meaning.specs.Limits.{max_forms, cell_count, valid_id}
use Rattle.meaning.specs.Schema.{Schema, known_type, parent_of, cells_of, type_at}
use Rattle.meaning.specs.Register.{is_zero}
use Rattle.meaning.specs.Events.{Event, insert, delete, set, join, part, special, general, known_event}
use Rattle.meaning.proofs.Lists.{element_in, or_right}
use Rattle.meaning.proofs.Registers.{object_parts}
use Rattle.meaning.proofs.Agreement.{Checked, checked}
use Rattle.rows.specs.Rows.{word_at, read_rows, rows_from, signed, all_zero}
use Rattle.tables.specs.Layouts.{Sheet, type_table, floor_table, relationship_table, object_table, link_table, event_table, limit_of}
use Rattle.tables.specs.Bodies.{read_body}
use Rattle.tables.specs.Columns.{no_parent, book_of, register_in, type_row, rule_row, object_row, event_row}
use Rattle.tables.specs.declared.Counts.{Counts}
use Rattle.tables.proofs.Forms.{words_from, whole_body_lem, body_words_lem, body_count, table_words}
use Rattle.tables.specs.Words.{event_words}
use Rattle.tables.proofs.Determined.{event_back}
use Rattle.schema.proofs.Rows.{row_there, row_at_lem}
use Rattle.body_rows.specs.Marks.{body_of}
use Rattle.checks.specs.Given.{Given, EventsLent, EventsKnown}
use Rattle.text.specs.Names.{type_name, floor_name, relationship_name, rule_name, object_name, link_name}
use Rattle.text.specs.Tokens.{dash, is_word}
use Rattle.text.specs.Bodies.{well_written, forms_in, rows_of, written_of}
use Rattle.text.specs.Entries.{Entry, row, event_section, section_of, entry_words, count_of, table_of, cells_in, event_fields}
use Rattle.text.specs.Texts.{max_text, spelled, too_long, taken, reading}
use Rattle.text.specs.Sheets.{words_at, row_entry, rule_entry, row_entries, rule_entries, entries_of}
use Rattle.text.proofs.Bodies.{written_rows, written_count, written_well}
use Rattle.text.proofs.Entries.{row_fits, sayable}
use Rattle.text.proofs.Texts.{fit_from, fit, read_after_write}
use Rattle.text.proofs.Blocks.{count_append, table_append, fit_append, At, at-start, count_block, at_block, block_fits}
use Rattle.round_trip.specs.Claims.{Small, SmallWords}

-- ---- the table of rows

pub shift_rows : {X : Type 0} (f : ℕ → X) (a j n : ℕ) → rows_from (λ c. f (a + c)) j n ≡ rows_from f (a + j) n
shift_rows f a j zero = refl
shift_rows f a j (suc n) = ap (λ l. f (a + j) ∷ l) (shift_rows f a (suc j) n ∙ ap (λ k. rows_from f k n) (omega arith))

rows_append : {X : Type 0} (f : ℕ → X) (a n m : ℕ) → rows_from f a (n + m) ≡ rows_from f a n ++ rows_from f (a + n) m
rows_append f a zero m =
    let none_before : zero + m ≡ m = omega arith in
    let here : a ≡ a + zero = omega arith in
    ap (rows_from f a) none_before ∙ ap (λ k. rows_from f k m) here
rows_append f a (suc n) m =
    let step : suc n + m ≡ suc (n + m) = omega arith in
    ap (rows_from f a) step ∙ ap (λ l. f a ∷ l) (rows_append f (suc a) n m ∙ ap (λ k. rows_from f (suc a) n ++ rows_from f k m) (omega arith))

section_is : (s : ℕ) (words : List ℕ) → section_of (row s words) ≡ s
unfolding section_of
section_is s words = refl

-- the rows of a section, one after the other, are the table's words
pub rows_table : (q : ℕ) (t : List ℕ) (width j m : ℕ)
    → table_of q (rows_from (λ i. row q (words_at t width i)) j m) ≡ rows_from (λ c. get_or t c 0) (j * width) (m * width)
unfolding table_of section_of entry_words
rows_table q t width j zero = let none_there : 0 ≡ zero * width = omega arith in ap (rows_from (λ c. get_or t c 0) (j * width)) none_there
rows_table q t width j (suc m) =
    let at : ℕ → ℕ = λ c. get_or t c 0 in
    let rest = rows_from (λ i. row q (words_at t width i)) (suc j) m in
    let one : words_at t width j ≡ rows_from at (j * width) width = shift_rows at (j * width) 0 width ∙ ap (λ k. rows_from at k width) (omega arith) in
    let size : width + m * width ≡ suc m * width = omega arith in
    ap (λ b. cond b (words_at t width j ++ table_of q rest) (table_of q rest)) (eq-eqb q q refl)
    ∙ ap₂ (λ a b. a ++ b) one (rows_table q t width (suc j) m ∙ ap (λ k. rows_from at k (m * width)) (omega arith))
    ∙ sym (rows_append at (j * width) width (m * width))
    ∙ ap (rows_from at (j * width)) size

row_words_lem : (table : List ℕ) → Small table → (width i j n : ℕ) → every is_word (rows_from (word_at table width i) j n) ≡ true
row_words_lem table h width i j zero = refl
row_words_lem table h width i j (suc n) =
    ap₂ (λ x y. x && y) (lt-ltb (word_at table width i j) dash (h (i * width + j))) (row_words_lem table h width i (suc j) n)

-- ---- tables that are not refused

module _ (n : Counts) (s : Sheet) (small : SmallWords s) (sound : Given n s × EventsLent n s × EventsKnown n s) where
  abbrev S : Schema
  S = (book_of n s).schema

  pub known : Checked (book_of n s) (register_in n s)
  known = checked (book_of n s) (register_in n s) sound.0.clear

  -- ---- rows that can be said

  type_at_lem : (i : ℕ) → i < n.types → type_at S.types i ≡ type_row s.types i
  unfolding type_at
  type_at_lem i h = row_at_lem (type_row s.types) n.types i _ h

  parent_small : (i : ℕ) → i < n.types → (ltb (word_at s.types 2 i 0) (2 ^ 31) || eqb (word_at s.types 2 i 0) no_parent) ≡ true
  unfolding parent_of type_row
  parent_small i h = step (eqb word no_parent) refl
    where
      word : ℕ
      word = word_at s.types 2 i 0

      step : (b : Bool) → eqb word no_parent ≡ b → (ltb word (2 ^ 31) || b) ≡ true
      step true q = is_true (ltb word (2 ^ 31) || true) (or_right (ltb word (2 ^ 31)) true tt)
      step false q =
          let there : parent_of S.types i ≡ some word = ap (λ r. r.parent) (type_at_lem i h) ∙ ap (λ b. cond b none (some word)) q in
          ap (λ b. b || false) (lt-ltb word (2 ^ 31) (omega (arith, known.types.parent_lower i word there, h, sound.0.few_types)))

  type_said : (b : List Entry) (i : ℕ) → i < n.types → sayable b (row_entry type_table s.types i) ≡ true
  unfolding sayable
  type_said b i h = ap₂ (λ x y. x && y) (parent_small i h) (lt-ltb (word_at s.types 2 i 1) dash (small.of_types (i * 2 + 1)))

  floor_said : (b : List Entry) (i : ℕ) → sayable b (row_entry floor_table s.floors i) ≡ true
  unfolding sayable
  floor_said b i = row_words_lem s.floors small.of_floors 2 i 0 2

  relationship_said : (b : List Entry) (i : ℕ) → sayable b (row_entry relationship_table s.relationships i) ≡ true
  unfolding sayable
  relationship_said b i = row_words_lem s.relationships small.of_relationships 2 i 0 2

  link_said : (b : List Entry) (i : ℕ) → sayable b (row_entry link_table s.links i) ≡ true
  unfolding sayable
  link_said b i = row_words_lem s.links small.of_links 3 i 0 3

  event_fits : (e : Event) → every is_word (event_words e) ≡ true → row_fits [] event_section (event_words e) ≡ true
  unfolding event_words event_fields
  event_fits (insert x y) h = ap (λ b. b && true) h
  event_fits (delete x) h = ap (λ b. b && true) h
  event_fits (set x y v) h = ap (λ b. b && true) h
  event_fits (join r x y) h = ap (λ b. b && true) h
  event_fits (part r x y) h = ap (λ b. b && true) h
  event_fits (special x y) h = ap (λ b. b && true) h
  event_fits (general x y) h = ap (λ b. b && true) h

  event_said : (b : List Entry) (i : ℕ) → i < n.events → sayable b (row_entry event_table s.events i) ≡ true
  unfolding sayable known_event valid_id
  event_said b i h =
      let e = event_row s.events i in
      let same : event_words e ≡ words_at s.events 4 i =
      event_back s.events i small.of_events (λ q. subst (λ v. T (known_event S v)) q (sound.2.known i h)) in
      subst (λ words. row_fits b event_section words ≡ true) same
      (event_fits e (ap (every is_word) same ∙ row_words_lem s.events small.of_events 4 i 0 4))

  -- a body's rows
  abbrev size_at : ℕ → ℕ
  size_at i = word_at s.rules 2 i 1

  field_small : (i j : ℕ) → (body_of s.bodies i j).x < 2 ^ 32
  field_small i j = small.of_bodies ((i * max_forms + j) * 4 + 1)

  words_small : (i j m : ℕ) → every is_word (words_from (body_of s.bodies i) j m) ≡ true
  unfolding words_from
  words_small i j zero = refl
  words_small i j (suc m) =
      let at = (i * max_forms + j) * 4 in
      let word : (c : ℕ) → is_word (get_or s.bodies (at + c) 0) ≡ true = λ c. lt-ltb (get_or s.bodies (at + c) 0) dash (small.of_bodies (at + c)) in
      let and : Bool → Bool → Bool = λ x y. x && y in
      ap₂ and (word 0) (ap₂ and (word 1) (ap₂ and (word 2) (ap₂ and (word 3) (words_small i (suc j) m))))

  body_said : (i : ℕ) → i < n.rules → well_written (written_of (read_body (body_of s.bodies i) (size_at i))) ≡ true
  body_said i h =
      let rows = body_words_lem (body_of s.bodies i) (field_small i) (size_at i) (sound.0.whole i h) in
      written_well (read_body (body_of s.bodies i) (size_at i)) (ap (every is_word) (sym rows) ∙ words_small i 0 (size_at i))

  rule_said : (b : List Entry) (i : ℕ) → i < n.rules → sayable b (rule_entry s.rules s.bodies i) ≡ true
  unfolding sayable rule_row
  rule_said b i h = ap₂ (λ x y. x && y) (lt-ltb (word_at s.rules 2 i 0) dash (small.of_rules (i * 2 + 0))) (body_said i h)

  -- a rule's body has as many forms as it has rows, at most 64, and these rows
  pub rule_size : (i : ℕ) → i < n.rules → forms_in (written_of (rule_row s.rules s.bodies i).body) ≡ size_at i
  unfolding rule_row
  rule_size i h =
      written_count (read_body (body_of s.bodies i) (size_at i))
      ∙ body_count (body_of s.bodies i) (field_small i) (size_at i) (sound.0.whole i h)

  pub rule_few : (i : ℕ) → i < n.rules → size_at i ≤ max_forms
  rule_few i h = (whole_body_lem (body_of s.bodies i) (size_at i) (sound.0.whole i h)).few

  pub rule_rows : (i : ℕ) → i < n.rules
      → rows_of (written_of (rule_row s.rules s.bodies i).body) ≡ take (size_at i * 4) (drop (i * 256) s.bodies)
  unfolding rule_row
  rule_rows i h =
      let place : (i * max_forms + 0) * 4 ≡ i * 256 = omega arith in
      written_rows (read_body (body_of s.bodies i) (size_at i))
      ∙ sym (body_words_lem (body_of s.bodies i) (field_small i) (size_at i) (sound.0.whole i h))
      ∙ table_words s.bodies (i * max_forms) 0 (size_at i) (omega (arith, h, rule_few i h, sound.0.bodies_lent))
      ∙ ap (λ k. take (size_at i * 4) (drop k s.bodies)) place

  rule_short : (i : ℕ) → i < n.rules → too_long (rule_entry s.rules s.bodies i) ≡ false
  unfolding too_long
  rule_short i h =
      let f = (rule_row s.rules s.bodies i).body in
      le-ltb max_forms (forms_in (written_of f)) (omega (arith, rule_size i h, rule_few i h))

  -- the types are those of the tables
  record TypesAre (b : List Entry) : Type 0 where
    pub counted : count_of type_name b ≡ n.types
    pub cells : (u : ℕ) → u < n.types → cells_in b u ≡ cells_of S.types u

  object_there : (i : ℕ) → i < n.objects → object_row s.objects i ∈ (register_in n s).objects
  object_there i h = element_in (register_in n s).objects i (row_there (object_row s.objects) n.objects i h)

  zero_word : (v : ℕ) → T (is_zero (signed v)) → v ≡ 0
  zero_word v h = step (ltb v (2 ^ 31)) h
    where
      step : (b : Bool) → T (is_zero (cond b (pos v) (negsuc (2 ^ 32 - 1 - v)))) → v ≡ 0
      step true h = omega (arith, leb→le v 0 (and_yes (leb v 0) (leb 0 v) h).0)
      step false h = absurd h

  zero_words : (f : ℕ → ℕ) (k j m : ℕ) → T (every is_zero (drop k (rows_from (λ c. signed (f c)) j m))) → all_zero (drop k (rows_from f j m)) ≡ true
  zero_words f k j zero h = ap all_zero (drop-nil k)
  zero_words f zero j (suc m) h =
      let (z, more) = and_yes (is_zero (signed (f j))) (every is_zero (rows_from (λ c. signed (f c)) (suc j) m)) h in
      ap₂ (λ x y. x && y) (eq-eqb (f j) 0 (zero_word (f j) z)) (zero_words f zero (suc j) m more)
  zero_words f (suc k) j (suc m) h = zero_words f k (suc j) m h

  object_said : (b : List Entry) (i : ℕ) → i < n.objects → TypesAre b → sayable b (row_entry object_table s.objects i) ≡ true
  unfolding sayable object_row known_type
  object_said b i h types =
      let o = object_row s.objects i in
      let u = word_at s.objects 10 i 1 in
      let fits = object_parts S o (known.register.objects_fit o (object_there i h)) in
      let inside : u < n.types = sound.0.typed i h in
      let same : cells_in b u ≡ cells_of S.types u = types.cells u inside in
      let two : 2 + cells_in b u ≡ suc (suc (cells_of S.types u)) = omega (arith, same) in
      let and : Bool → Bool → Bool = λ x y. x && y in
      ap₂ and (row_words_lem s.objects small.of_objects 10 i 0 10)
      (ap₂ and (lt-ltb u (count_of type_name b) (omega (arith, inside, types.counted)))
      (ap₂ and (le-leb (cells_in b u) cell_count (omega (arith, same, known.types.cells_bound u)))
      (ap (λ k. all_zero (drop k (words_at s.objects 10 i))) two
      ∙ zero_words (λ c. word_at s.objects 10 i (2 + c)) (cells_of S.types u) 0 8 fits.cells_zero)))

  types_are : TypesAre (row_entries type_table n s)
  unfolding cells_of type_row
  types_are =
      record {
        counted = count_block type_name (row_entry type_table s.types) (λ i. section_is type_name _) type_name 0 n.types;
        cells = λ u h.
            ap (λ table. word_at table 2 u 1) (rows_table type_name s.types 2 0 n.types)
            ∙ row_at_lem (λ c. get_or s.types c 0) (n.types * 2) (u * 2 + 1) 0 (omega (arith, h))
            ∙ sym (ap (λ r. r.cells) (type_at_lem u h));
      }

  types_stay : (b : List Entry) (e : Entry) → eqb (section_of e) type_name ≡ false → TypesAre b → TypesAre (b ++ e ∷ [])
  unfolding count_of table_of
  types_stay b e h types =
      let none_more : table_of type_name (b ++ e ∷ []) ≡ table_of type_name b =
      table_append type_name b (e ∷ [])
      ∙ ap (λ c. table_of type_name b ++ cond c (entry_words e ++ []) []) h
      ∙ append-nil (table_of type_name b) in
      record {
        counted = count_append type_name b (e ∷ []) ∙ ap (λ c. count_of type_name b + length (cond c (e ∷ []) [])) h ∙ omega (arith, types.counted);
        cells = λ u l. ap (λ table. word_at table 2 u 1) none_more ∙ types.cells u l;
      }

  block_types : (read : ℕ → Entry) → ((i : ℕ) → eqb (section_of (read i)) type_name ≡ false) → (b : List Entry) (m : ℕ)
      → TypesAre b → TypesAre (b ++ read_rows read m)
  block_types read other b m types = from b 0 m types
    where
      from : (b : List Entry) (j m : ℕ) → TypesAre b → TypesAre (b ++ rows_from read j m)
      from b j zero types = subst TypesAre (sym (append-nil b)) types
      from b j (suc m) types =
          subst TypesAre (append_assoc b (read j ∷ []) (rows_from read (suc j) m))
          (from (b ++ read j ∷ []) (suc j) m (types_stay b (read j) (other j) types))

  -- ---- all of them, where the reader has rows for them

  abbrev A : List Entry
  A = row_entries type_table n s

  abbrev F : List Entry
  F = A ++ row_entries floor_table n s

  abbrev B : List Entry
  B = F ++ row_entries relationship_table n s

  abbrev C : List Entry
  C = B ++ rule_entries n s

  abbrev D : List Entry
  D = C ++ row_entries object_table n s

  abbrev L : List Entry
  L = D ++ row_entries link_table n s

  pub record Room (lent : List ℕ) : Type 0 where
    pub types_room : n.types ≤ get_or lent type_name 0
    pub floors_room : n.floors ≤ get_or lent floor_name 0
    pub relationships_room : n.relationships ≤ get_or lent relationship_name 0
    pub rules_room : n.rules ≤ get_or lent rule_name 0
    pub objects_room : n.objects ≤ get_or lent object_name 0
    pub links_room : n.links ≤ get_or lent link_name 0
    pub events_room : n.events ≤ get_or lent event_section 0

  both_rooms : (limit lent : ℕ) {used : ℕ} → used ≤ limit → used ≤ lent → used ≤ min limit lent
  both_rooms limit lent h g = omega (arith, h, g)

  module _ (lent : List ℕ) (room : Room lent) where
    at_floors : At floor_name A
    unfolding section_of
    at_floors = at_block type_name (row_entry type_table s.types) (λ i. refl) [] n.types at-start

    at-relationships : At relationship_name F
    unfolding section_of
    at-relationships = at_block floor_name (row_entry floor_table s.floors) (λ i. refl) A n.floors at_floors

    at_rules : At rule_name B
    unfolding section_of
    at_rules = at_block relationship_name (row_entry relationship_table s.relationships) (λ i. refl) F n.relationships at-relationships

    at-objects : At object_name C
    unfolding section_of
    at-objects = at_block rule_name (rule_entry s.rules s.bodies) (λ i. refl) B n.rules at_rules

    at-links : At link_name D
    unfolding section_of
    at-links = at_block object_name (row_entry object_table s.objects) (λ i. refl) C n.objects at-objects

    at_events : At event_section L
    unfolding section_of
    at_events = at_block link_name (row_entry link_table s.links) (λ i. refl) D n.links at-links

    types_objects : TypesAre C
    unfolding section_of
    types_objects =
        block_types (rule_entry s.rules s.bodies) (λ i. refl) B n.rules
        (block_types (row_entry relationship_table s.relationships) (λ i. refl) F n.relationships
        (block_types (row_entry floor_table s.floors) (λ i. refl) A n.floors types_are))

    -- a section whose lines can be said after any others
    fits_plain : (q : ℕ) (read : ℕ → Entry) → ((i : ℕ) → section_of (read i) ≡ q) → (used : ℕ)
        → ((b : List Entry) (i : ℕ) → i < used → sayable b (read i) ≡ true) → ((i : ℕ) → i < used → too_long (read i) ≡ false)
        → used ≤ limit_of q → used ≤ get_or lent q 0 → (b : List Entry) → At q b → fit_from lent b (read_rows read used) ≡ true
    fits_plain q read of used said short few lent_rows b at =
        block_fits q read of lent used (λ b. Unit) (λ b i p. tt) (λ b i h p. said b i h) short
        (both_rooms (limit_of q) (get_or lent q 0) few lent_rows) b at tt

    fits_types : fit_from lent [] A ≡ true
    unfolding section_of limit_of too_long
    fits_types =
        fits_plain type_name (row_entry type_table s.types) (λ i. refl) n.types type_said (λ i h. refl)
        sound.0.few_types room.types_room [] at-start

    fits_floors : fit_from lent A (row_entries floor_table n s) ≡ true
    unfolding section_of limit_of too_long
    fits_floors =
        fits_plain floor_name (row_entry floor_table s.floors) (λ i. refl) n.floors (λ b i h. floor_said b i) (λ i h. refl)
        sound.0.few_floors room.floors_room A at_floors

    fits_relationships : fit_from lent F (row_entries relationship_table n s) ≡ true
    unfolding section_of limit_of too_long
    fits_relationships =
        fits_plain relationship_name (row_entry relationship_table s.relationships) (λ i. refl) n.relationships (λ b i h. relationship_said b i)
        (λ i h. refl) sound.0.few_relationships room.relationships_room F at-relationships

    fits_rules : fit_from lent B (rule_entries n s) ≡ true
    unfolding section_of limit_of
    fits_rules =
        fits_plain rule_name (rule_entry s.rules s.bodies) (λ i. refl) n.rules rule_said rule_short
        sound.0.few_rules room.rules_room B at_rules

    fits_objects : fit_from lent C (row_entries object_table n s) ≡ true
    unfolding section_of limit_of too_long
    fits_objects =
        block_fits object_name (row_entry object_table s.objects) (λ i. refl) lent n.objects TypesAre
        (λ b i p. types_stay b (row_entry object_table s.objects i) refl p) object_said (λ i h. refl)
        (both_rooms 1024 (get_or lent object_name 0) sound.0.few_objects room.objects_room) C at-objects types_objects

    fits_links : fit_from lent D (row_entries link_table n s) ≡ true
    unfolding section_of limit_of too_long
    fits_links =
        fits_plain link_name (row_entry link_table s.links) (λ i. refl) n.links (λ b i h. link_said b i) (λ i h. refl)
        sound.0.few_links room.links_room D at-links

    fits_events : fit_from lent L (row_entries event_table n s) ≡ true
    unfolding section_of limit_of too_long
    fits_events =
        fits_plain event_section (row_entry event_table s.events) (λ i. refl) n.events event_said (λ i h. refl)
        sound.1.few_events room.events_room L at_events

    pub sheet_fits : fit lent (entries_of n s) ≡ true
    unfolding entries_of
    sheet_fits =
        fit_append lent L (row_entries event_table n s) []
        (fit_append lent D (row_entries link_table n s) []
        (fit_append lent C (row_entries object_table n s) []
        (fit_append lent B (rule_entries n s) []
        (fit_append lent F (row_entries relationship_table n s) []
        (fit_append lent A (row_entries floor_table n s) [] fits_types fits_floors) fits_relationships) fits_rules) fits_objects) fits_links) fits_events

    -- their text is read as these lines
    pub sheet_read : length (spelled (entries_of n s)) ≤ max_text → reading lent (spelled (entries_of n s)) ≡ taken (entries_of n s)
    sheet_read short = read_after_write lent (entries_of n s) sheet_fits short
