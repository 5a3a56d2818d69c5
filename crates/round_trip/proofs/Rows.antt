-- The tables of the lines of a sheet have the sheet's own rows.
use Prim.Native.Nat.{ℕ, zero, suc, ◌+◌, ◌*◌, ◌-◌, ◌≤◌, ◌<◌}
use mathlib.Core.Path.{◌≡◌, refl, sym, ap, ap₂, ◌∙◌}
use mathlib.Core.Bool.{Bool, true, false, cond}
use mathlib.Core.List.{List, [], ◌∷◌, ◌++◌, append-nil, append_assoc}
use native.Mathlib.Omega.{arith}
use lib.Dec.{eqb}
use lib.ListN.{length, get_or, take, drop, replicate, length-drop}
use lib.Seq.{drop_at, take_at, drop-cons, drop-drop, length-take-le}
use borrow.Author.Tests.{eqb-true}
use Rattle.rows.specs.Rows.{word_at, rows_from, read_rows}
use Rattle.tables.specs.Layouts.{Sheet, Layout, type_table, floor_table, relationship_table, object_table, link_table, event_table}
use Rattle.tables.specs.Columns.{rule_row}
use Rattle.tables.specs.declared.Counts.{Counts}
use Rattle.checks.specs.Given.{Given, EventsLent, EventsKnown}
use Rattle.text.specs.Names.{type_name, floor_name, relationship_name, rule_name, object_name, link_name}
use Rattle.text.specs.Bodies.{Written, padded, rows_of, written_of}
use Rattle.text.specs.Entries.{Entry, row, rule, event_section, section_of, entry_words, count_of, table_of, bodies_of}
use Rattle.text.specs.Sheets.{row_entry, rule_entry, row_entries, rule_entries, entries_of}
use Rattle.text.proofs.Entries.{padded_length}
use Rattle.text.proofs.Blocks.{count_append, table_append, count_block, table_other}
use Rattle.reader.specs.Reads.{counts_of}
use Rattle.round_trip.specs.Claims.{SmallWords}
use Rattle.round_trip.proofs.Sheets.{rows_table, rule_size, rule_few, rule_rows}

-- ---- one section more

module _ (p : ℕ) (read : ℕ → Entry) (of : (i : ℕ) → section_of (read i) ≡ p) where
  count_more : (q m : ℕ) (before : List Entry) {k : ℕ} → count_of q before ≡ k → count_of q (before ++ read_rows read m) ≡ k + cond (eqb p q) m 0
  count_more q m before e = count_append q before (read_rows read m) ∙ ap₂ (λ x y. x + y) e (count_block p read of q 0 m)

  -- a block has rows of its section only
  block_table : (q m : ℕ) → table_of q (read_rows read m) ≡ cond (eqb p q) (table_of p (read_rows read m)) []
  block_table q m = step (eqb p q) refl
    where
      step : (b : Bool) → eqb p q ≡ b → table_of q (read_rows read m) ≡ cond b (table_of p (read_rows read m)) []
      step true h = ap (λ k. table_of k (read_rows read m)) (sym (eqb-true p q h))
      step false h = table_other p read of q 0 m h

  table_more : (q m : ℕ) (before : List Entry) {l : List ℕ} → table_of q before ≡ l
      → table_of q (before ++ read_rows read m) ≡ l ++ cond (eqb p q) (table_of p (read_rows read m)) []
  table_more q m before e = table_append q before (read_rows read m) ∙ ap₂ (λ x y. x ++ y) e (block_table q m)

-- ---- counts and tables of all sections

pub counts_are : {a b c d e f g : ℕ} (n : Counts) → a ≡ n.types → b ≡ n.floors → c ≡ n.relationships → d ≡ n.rules → e ≡ n.objects → f ≡ n.links → g ≡ n.events
    → record { types = a; floors = b; relationships = c; rules = d; objects = e; links = f; events = g } ≡ n
counts_are n p q r t u v w = rw (p, q, r, t, u, v, w)

module _ (n : Counts) (s : Sheet) where
  abbrev A : List Entry
  A = row_entries type_table n s

  abbrev F : List Entry
  F = A ++ row_entries floor_table n s

  abbrev B : List Entry
  B = F ++ row_entries relationship_table n s

  abbrev C : List Entry
  C = B ++ rule_entries n s

  abbrev D : List Entry
  D = C ++ row_entries object_table n s

  abbrev L : List Entry
  L = D ++ row_entries link_table n s

  -- as many lines of a section as its table has used rows
  section_counts : (q : ℕ)
      → count_of q (entries_of n s) ≡ cond (eqb type_name q) n.types 0 + cond (eqb floor_name q) n.floors 0 + cond (eqb relationship_name q) n.relationships 0
      + cond (eqb rule_name q) n.rules 0 + cond (eqb object_name q) n.objects 0 + cond (eqb link_name q) n.links 0
      + cond (eqb event_section q) n.events 0
  unfolding entries_of section_of
  section_counts q =
      count_more event_section (row_entry event_table s.events) (λ i. refl) q n.events L
      (count_more link_name (row_entry link_table s.links) (λ i. refl) q n.links D
      (count_more object_name (row_entry object_table s.objects) (λ i. refl) q n.objects C
      (count_more rule_name (rule_entry s.rules s.bodies) (λ i. refl) q n.rules B
      (count_more relationship_name (row_entry relationship_table s.relationships) (λ i. refl) q n.relationships F
      (count_more floor_name (row_entry floor_table s.floors) (λ i. refl) q n.floors A
      (count_block type_name (row_entry type_table s.types) (λ i. refl) q 0 n.types))))))

  pub same_counts : counts_of (entries_of n s) ≡ n
  same_counts =
      counts_are n (section_counts type_name ∙ omega arith) (section_counts floor_name ∙ omega arith) (section_counts relationship_name ∙ omega arith) (section_counts rule_name ∙ omega arith)
      (section_counts object_name ∙ omega arith) (section_counts link_name ∙ omega arith) (section_counts event_section ∙ omega arith)

  -- the table of a section is that of its lines
  section_tables : (q : ℕ)
      → table_of q (entries_of n s) ≡ cond (eqb type_name q) (table_of type_name A) []
      ++ cond (eqb floor_name q) (table_of floor_name (row_entries floor_table n s)) []
      ++ cond (eqb relationship_name q) (table_of relationship_name (row_entries relationship_table n s)) []
      ++ cond (eqb rule_name q) (table_of rule_name (rule_entries n s)) []
      ++ cond (eqb object_name q) (table_of object_name (row_entries object_table n s)) []
      ++ cond (eqb link_name q) (table_of link_name (row_entries link_table n s)) []
      ++ cond (eqb event_section q) (table_of event_section (row_entries event_table n s)) []
  unfolding entries_of section_of
  section_tables q =
      table_more event_section (row_entry event_table s.events) (λ i. refl) q n.events L
      (table_more link_name (row_entry link_table s.links) (λ i. refl) q n.links D
      (table_more object_name (row_entry object_table s.objects) (λ i. refl) q n.objects C
      (table_more rule_name (rule_entry s.rules s.bodies) (λ i. refl) q n.rules B
      (table_more relationship_name (row_entry relationship_table s.relationships) (λ i. refl) q n.relationships F
      (table_more floor_name (row_entry floor_table s.floors) (λ i. refl) q n.floors A
      (block_table type_name (row_entry type_table s.types) (λ i. refl) q n.types))))))

-- ---- the words of used rows

words_taken : (table : List ℕ) (j m : ℕ) → j + m ≤ length table → rows_from (λ c. get_or table c 0) j m ≡ take m (drop j table)
words_taken table j zero h = refl
words_taken table j (suc m) h =
    ap (λ l. get_or table j 0 ∷ l) (words_taken table (suc j) m (omega (arith, h)))
    ∙ sym (ap (take (suc m)) (drop-cons table j 0 (omega (arith, h))))

used_rows_lem : (l : Layout) (table : List ℕ) (used : ℕ) → used * l.width ≤ length table
    → table_of l.section (read_rows (row_entry l table) used) ≡ take (used * l.width) table
used_rows_lem l table used h =
    let width = l.width in
    let none_before : 0 * width ≡ 0 = omega arith in
    rows_table l.section table width 0 used
    ∙ ap (λ j. rows_from (λ c. get_or table c 0) j (used * width)) none_before
    ∙ words_taken table 0 (used * width) (omega (arith, h))

nil_2 : (l : List ℕ) → l ++ [] ++ [] ≡ l
nil_2 l = append-nil (l ++ []) ∙ append-nil l

nil_4 : (l : List ℕ) → l ++ [] ++ [] ++ [] ++ [] ≡ l
nil_4 l = nil_2 (l ++ [] ++ []) ∙ nil_2 l

bodies_append : (a b : List Entry) → bodies_of (a ++ b) ≡ bodies_of a ++ bodies_of b
unfolding bodies_of
bodies_append [] b = refl
bodies_append (row q words ∷ a) b = bodies_append a b
bodies_append (rule c body ∷ a) b =
    ap (λ l. padded 256 (rows_of body) ++ l) (bodies_append a b) ∙ sym (append_assoc (padded 256 (rows_of body)) (bodies_of a) (bodies_of b))

no_bodies : (l : Layout) (table : List ℕ) (j m : ℕ) → bodies_of (rows_from (row_entry l table) j m) ≡ []
unfolding bodies_of
no_bodies l table j zero = refl
no_bodies l table j (suc m) = no_bodies l table (suc j) m

last_rows : (a : List Entry) (l : Layout) (table : List ℕ) (m : ℕ) → bodies_of (a ++ read_rows (row_entry l table) m) ≡ bodies_of a
last_rows a l table m =
    bodies_append a (read_rows (row_entry l table) m) ∙ ap (λ x. bodies_of a ++ x) (no_bodies l table 0 m) ∙ append-nil (bodies_of a)

all_bodies : (n : Counts) (s : Sheet) → bodies_of (entries_of n s) ≡ bodies_of (rule_entries n s)
unfolding entries_of
all_bodies n s =
    last_rows (L n s) event_table s.events n.events
    ∙ last_rows (D n s) link_table s.links n.links
    ∙ last_rows (C n s) object_table s.objects n.objects
    ∙ bodies_append (B n s) (rule_entries n s)
    ∙ ap (λ l. l ++ bodies_of (rule_entries n s))
    (last_rows (F n s) relationship_table s.relationships n.relationships
    ∙ last_rows (A n s) floor_table s.floors n.floors
    ∙ no_bodies type_table s.types 0 n.types)

-- ---- the rows that are written

-- the body of a rule, as the text has it
abbrev pub body_at : Sheet → ℕ → Written
body_at s i = written_of (rule_row s.rules s.bodies i).body

pub record SameRows (n : Counts) (s : Sheet) (es : List Entry) : Type 0 where
  pub types_same : table_of type_name es ≡ take (n.types * 2) s.types
  pub floors_same : table_of floor_name es ≡ take (n.floors * 2) s.floors
  pub relationships_same : table_of relationship_name es ≡ take (n.relationships * 2) s.relationships
  pub rules_same : table_of rule_name es ≡ take (n.rules * 2) s.rules
  pub bodies_same : (i : ℕ) → i < n.rules → take (word_at s.rules 2 i 1 * 4) (drop (i * 256) (bodies_of es)) ≡ rows_of (body_at s i)
  pub objects_same : table_of object_name es ≡ take (n.objects * 10) s.objects
  pub links_same : table_of link_name es ≡ take (n.links * 3) s.links
  pub events_same : table_of event_section es ≡ take (n.events * 4) s.events

module _ (n : Counts) (s : Sheet) (small : SmallWords s) (sound : Given n s × EventsLent n s × EventsKnown n s) where
  abbrev read : ℕ → Entry
  read = rule_entry s.rules s.bodies

  abbrev size_at : ℕ → ℕ
  size_at i = word_at s.rules 2 i 1

  abbrev words : ℕ → ℕ
  words c = get_or s.rules c 0

  rule_words : (j m : ℕ) → j + m ≤ n.rules → table_of rule_name (rows_from read j m) ≡ rows_from words (j * 2) (m * 2)
  unfolding table_of section_of entry_words
  rule_words j zero h = refl
  rule_words j (suc m) h =
      let two : suc m * 2 ≡ suc (suc (m * 2)) = omega arith in
      let second : suc (j * 2) ≡ j * 2 + 1 = omega arith in
      let first : j * 2 ≡ j * 2 + 0 = omega arith in
      let after : suc j * 2 ≡ suc (suc (j * 2)) = omega arith in
      ap₂ (λ k l. word_at s.rules 2 j 0 ∷ k ∷ l) (rule_size n s small sound j (omega (arith, h)))
      (rule_words (suc j) m (omega (arith, h)) ∙ ap (λ k. rows_from words k (m * 2)) after)
      ∙ sym (ap (rows_from words (j * 2)) two
      ∙ ap₂ (λ a b. words a ∷ words b ∷ rows_from words (suc (suc (j * 2))) (m * 2)) first second)

  rules_rows : table_of rule_name (rule_entries n s) ≡ take (n.rules * 2) s.rules
  rules_rows = rule_words 0 n.rules (omega arith) ∙ words_taken s.rules 0 (n.rules * 2) (omega (arith, sound.0.rules_lent))

  -- the bodies of the rules, 256 words each
  rows_long : (i : ℕ) → i < n.rules → length (rows_of (body_at s i)) ≡ size_at i * 4
  rows_long i h =
      let few = rule_few n s small sound i h in
      ap length (rule_rows n s small sound i h)
      ∙ length-take-le (size_at i * 4) (drop (i * 256) s.bodies) (omega (arith, h, few, sound.0.bodies_lent, length-drop (i * 256) s.bodies))

  body_at_lem : (j m i : ℕ) → i < m → j + m ≤ n.rules
      → take (size_at (j + i) * 4) (drop (i * 256) (bodies_of (rows_from read j m))) ≡ rows_of (body_at s (j + i))
  unfolding bodies_of
  body_at_lem j zero i h g = absurd (omega (arith, h))
  body_at_lem j (suc m) zero h g =
      let here : j + zero ≡ j = omega arith in
      let rows = rows_of (body_at s j) in
      let zeros : List ℕ = replicate (256 - length rows) 0 in
      let rest = bodies_of (rows_from read (suc j) m) in
      ap (λ k. take (size_at k * 4) (rows ++ zeros ++ rest)) here
      ∙ ap (take (size_at j * 4)) (append_assoc rows zeros rest)
      ∙ take_at rows (zeros ++ rest) (size_at j * 4) (rows_long j (omega (arith, g)))
      ∙ ap (λ k. rows_of (body_at s k)) (sym here)
  body_at_lem j (suc m) (suc i) h g =
      let rows = rows_of (body_at s j) in
      let rest = bodies_of (rows_from read (suc j) m) in
      let few : length rows ≤ 256 = omega (arith, rows_long j (omega (arith, g)), rule_few n s small sound j (omega (arith, g))) in
      let after : suc i * 256 ≡ 256 + i * 256 = omega arith in
      let next : j + suc i ≡ suc j + i = omega arith in
      ap₂ (λ k d. take (size_at k * 4) d) next
      (ap (λ k. drop k (padded 256 rows ++ rest)) after
      ∙ sym (drop-drop (i * 256) 256 (padded 256 rows ++ rest))
      ∙ ap (drop (i * 256)) (drop_at (padded 256 rows) rest 256 (padded_length 256 rows few)))
      ∙ body_at_lem (suc j) m i (omega (arith, h)) (omega (arith, g))
      ∙ ap (λ k. rows_of (body_at s k)) (sym next)

  bodies_rows : (i : ℕ) → i < n.rules → take (size_at i * 4) (drop (i * 256) (bodies_of (entries_of n s))) ≡ rows_of (body_at s i)
  bodies_rows i h =
      let here : 0 + i ≡ i = omega arith in
      ap (λ l. take (size_at i * 4) (drop (i * 256) l)) (all_bodies n s)
      ∙ ap (λ k. take (size_at k * 4) (drop (i * 256) (bodies_of (rule_entries n s)))) (sym here)
      ∙ body_at_lem 0 n.rules i h (omega arith)
      ∙ ap (λ k. rows_of (body_at s k)) here

  pub same_rows : SameRows n s (entries_of n s)
  same_rows =
      let table = section_tables n s in
      let given = sound.0 in
      record {
        types_same = table type_name ∙ nil_2 _ ∙ nil_4 _ ∙ used_rows_lem type_table s.types n.types given.types_lent;
        floors_same = table floor_name ∙ append-nil _ ∙ nil_4 _ ∙ used_rows_lem floor_table s.floors n.floors given.floors_lent;
        relationships_same =
            table relationship_name ∙ nil_4 _ ∙ used_rows_lem relationship_table s.relationships n.relationships given.relationships_lent;
        rules_same = table rule_name ∙ append-nil _ ∙ nil_2 _ ∙ rules_rows;
        bodies_same = bodies_rows;
        objects_same = table object_name ∙ nil_2 _ ∙ used_rows_lem object_table s.objects n.objects given.objects_lent_lem;
        links_same = table link_name ∙ append-nil _ ∙ used_rows_lem link_table s.links n.links given.links_lent_lem;
        events_same = table event_section ∙ used_rows_lem event_table s.events n.events sound.1.events_lent;
      }
