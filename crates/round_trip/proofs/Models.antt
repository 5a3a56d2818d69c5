-- Rows by their words: tables that have the same words in their used rows have the same book, register and batch.
use Prim.Native.Nat.{ℕ, ◌+◌, ◌*◌, ◌-◌, ◌<◌}
use mathlib.Core.Path.{◌≡◌, refl, sym, ap, ap₂, fun_ext, ◌∙◌}
use mathlib.Core.Bool.{cond}
use mathlib.Core.List.{List}
use mathlib.Core.Option.{none, some}
use native.Mathlib.Omega.{arith}
use native.Mathlib.Decide.{dec_lt}
use lib.Dec.{eqb}
use lib.ListN.{length, get_or, replicate, length-replicate, get_or-append, get_or-eq_default, get_or-replicate}
use Rattle.meaning.specs.Limits.{cell_count}
use Rattle.meaning.specs.Schema.{ObjectType, Floor, Relationship}
use Rattle.meaning.specs.Register.{Object}
use Rattle.meaning.specs.Forms.{Rule}
use Rattle.meaning.specs.Events.{link_of}
use Rattle.rows.specs.Rows.{word_at, read_rows, signed}
use Rattle.rows.proofs.Listed.{rows_same}
use Rattle.rows.proofs.Moves.{get_d_past}
use Rattle.rows.proofs.Offsets.{row_before}
use Rattle.tables.specs.Layouts.{Sheet, sheet_of}
use Rattle.tables.specs.Bodies.{BodyRow, body_row, read_body}
use Rattle.tables.specs.Columns.{no_parent, type_row, floor_row, relationship_row, rule_row, object_row, link_row, event_of, event_row, book_of, register_in, batch_in}
use Rattle.tables.specs.declared.Counts.{Counts}
use Rattle.body_rows.specs.Marks.{body_of}
use Rattle.text.specs.Names.{type_name, floor_name, relationship_name, rule_name, object_name, link_name}
use Rattle.text.specs.Entries.{Entry, event_section, table_of, bodies_of}
use Rattle.text.specs.Texts.{filled}
use Rattle.text.specs.Sheets.{words_at}
use Rattle.filling.specs.Fills.{sheet_with}

-- ---- a row by its words

type_by : (t u : List ℕ) (i : ℕ) → words_at t 2 i ≡ words_at u 2 i → type_row t i ≡ type_row u i
unfolding type_row
type_by t u i e =
    let read : List ℕ → ObjectType = λ w. record { parent = cond (eqb (get_or w 0 0) no_parent) none (some (get_or w 0 0)); cells = get_or w 1 0 } in
    ap read e

floor_by : (t u : List ℕ) (i : ℕ) → words_at t 2 i ≡ words_at u 2 i → floor_row t i ≡ floor_row u i
unfolding floor_row
floor_by t u i e = let read : List ℕ → Floor = λ w. record { type = get_or w 0 0; cell = get_or w 1 0 } in ap read e

relationship_by : (t u : List ℕ) (i : ℕ) → words_at t 2 i ≡ words_at u 2 i → relationship_row t i ≡ relationship_row u i
unfolding relationship_row
relationship_by t u i e = let read : List ℕ → Relationship = λ w. record { source = get_or w 0 0; target = get_or w 1 0 } in ap read e

object_by : (t u : List ℕ) (i : ℕ) → words_at t 10 i ≡ words_at u 10 i → object_row t i ≡ object_row u i
unfolding object_row
object_by t u i e =
    let read : List ℕ → Object =
    λ w. record { id = get_or w 0 0; type = get_or w 1 0; cells = read_rows (λ k. signed (get_or w (2 + k) 0)) cell_count } in
    ap read e

link_by : (t u : List ℕ) (i : ℕ) → words_at t 3 i ≡ words_at u 3 i → link_row t i ≡ link_row u i
unfolding link_row
link_by t u i e = ap (λ w. link_of (get_or w 0 0) (get_or w 1 0) (get_or w 2 0)) e

event_by : (t u : List ℕ) (i : ℕ) → words_at t 4 i ≡ words_at u 4 i → event_row t i ≡ event_row u i
unfolding event_row
event_by t u i e = ap (λ w. event_of (get_or w 0 0) (get_or w 1 0) (get_or w 2 0) (get_or w 3 0)) e

-- ---- rows that have the same words

abbrev pub Alike : ℕ → List ℕ → List ℕ → Type 0
Alike size t u = (k : ℕ) → k < size → get_or t k 0 ≡ get_or u k 0

module _ {A : Type 0} (width : ℕ) (read : List ℕ → ℕ → A) (by : (t u : List ℕ) (i : ℕ) → words_at t width i ≡ words_at u width i → read t i ≡ read u i) where
  rows_alike : (used : ℕ) (t u : List ℕ) → Alike (used * width) t u → read_rows (read t) used ≡ read_rows (read u) used
  rows_alike used t u same =
      rows_same (read u) (read t) 0 used
      (λ i l h. by t u i (rows_same (word_at u width i) (word_at t width i) 0 width (λ c m g. same (i * width + c) (omega (arith, row_before i used width (omega arith))))))

pub record SameUsed (n : Counts) (s u : Sheet) : Type 0 where
  pub types : Alike (n.types * 2) s.types u.types
  pub floors : Alike (n.floors * 2) s.floors u.floors
  pub relationships : Alike (n.relationships * 2) s.relationships u.relationships
  pub rules : (i : ℕ) → i < n.rules → rule_row s.rules s.bodies i ≡ rule_row u.rules u.bodies i
  pub objects : Alike (n.objects * 10) s.objects u.objects
  pub links : Alike (n.links * 3) s.links u.links
  pub events : Alike (n.events * 4) s.events u.events

module _ {n : Counts} {s u : Sheet} (same : SameUsed n s u) where
  pub same_book : book_of n s ≡ book_of n u
  same_book =
      let a = rows_alike 2 type_row type_by n.types s.types u.types same.types in
      let f = rows_alike 2 floor_row floor_by n.floors s.floors u.floors same.floors in
      let b = rows_alike 2 relationship_row relationship_by n.relationships s.relationships u.relationships same.relationships in
      let c : read_rows (rule_row s.rules s.bodies) n.rules ≡ read_rows (rule_row u.rules u.bodies) n.rules =
      rows_same (rule_row u.rules u.bodies) (rule_row s.rules s.bodies) 0 n.rules (λ i l h. same.rules i (omega arith)) in
      cc (a, f, b, c)

  pub same_register : register_in n s ≡ register_in n u
  same_register =
      let a = rows_alike 10 object_row object_by n.objects s.objects u.objects same.objects in
      let b = rows_alike 3 link_row link_by n.links s.links u.links same.links in
      cc (a, b)

  pub same_batch : batch_in n s ≡ batch_in n u
  same_batch = rows_alike 4 event_row event_by n.events s.events u.events same.events

-- ---- a table with zeros after its words is read like these words

pub filled_word : (size : ℕ) (words : List ℕ) (k : ℕ) → get_or (filled size words) k 0 ≡ get_or words k 0
filled_word size words k = go (dec_lt k (length words))
  where
    zeros : (m j : ℕ) → get_or {A = ℕ} (replicate m 0) j 0 ≡ 0
    zeros m j = inside (dec_lt j m)
      where
        inside : Dec (j < m) → get_or {A = ℕ} (replicate m 0) j 0 ≡ 0
        inside (yes h) = get_or-replicate m j 0 0 h
        inside (no h) = get_or-eq_default (replicate m 0) 0 (omega (arith, length-replicate {A = ℕ} m 0))

    go : Dec (k < length words) → get_or (filled size words) k 0 ≡ get_or words k 0
    go (yes h) = get_or-append words (replicate (size - length words) 0) 0 k h
    go (no h) =
        get_d_past words (replicate (size - length words) 0) (length words) k refl (omega arith)
        ∙ zeros (size - length words) (k - length words)
        ∙ sym (get_or-eq_default words 0 (omega arith))

-- a rule by its words and its body's rows
rule_by : (r q b c : List ℕ) (i : ℕ) → words_at r 2 i ≡ words_at q 2 i → body_of b i ≡ body_of c i → rule_row r b i ≡ rule_row q c i
unfolding rule_row
rule_by r q b c i e f =
    let read : List ℕ → (ℕ → BodyRow) → Rule = λ w rows. record { context = get_or w 0 0; body = read_body rows (get_or w 1 0) } in
    ap₂ read e f

-- the tables of lines, without the zeros
abbrev pub exact : List Entry → Sheet
exact es =
    sheet_of (table_of type_name es) (table_of floor_name es) (table_of relationship_name es) (table_of rule_name es) (bodies_of es) (table_of object_name es)
    (table_of link_name es) (table_of event_section es)

module _ (es : List Entry) (into : Sheet) where
  abbrev rules : List ℕ
  rules = filled (length into.rules) (table_of rule_name es)

  abbrev bodies : List ℕ
  bodies = filled (length into.bodies) (bodies_of es)

  rule_words : (i : ℕ) → words_at rules 2 i ≡ words_at (table_of rule_name es) 2 i
  rule_words i =
      rows_same (word_at (table_of rule_name es) 2 i) (word_at rules 2 i) 0 2
      (λ c l g. filled_word (length into.rules) (table_of rule_name es) (i * 2 + c))

  body_words_lem : (j : ℕ) → body_row bodies j ≡ body_row (bodies_of es) j
  body_words_lem j =
      let word : (c : ℕ) → get_or bodies (j * 4 + c) 0 ≡ get_or (bodies_of es) (j * 4 + c) 0 =
      λ c. filled_word (length into.bodies) (bodies_of es) (j * 4 + c) in
      cc (word 0, word 1, word 2, word 3)

  pub exact_used : (n : Counts) → SameUsed n (sheet_with es into) (exact es)
  exact_used n =
      record {
        types = λ k h. filled_word (length into.types) (table_of type_name es) k;
        floors = λ k h. filled_word (length into.floors) (table_of floor_name es) k;
        relationships = λ k h. filled_word (length into.relationships) (table_of relationship_name es) k;
        rules = λ i h. rule_by rules (table_of rule_name es) bodies (bodies_of es) i (rule_words i) (fun_ext (λ j. body_words_lem (i * 64 + j)));
        objects = λ k h. filled_word (length into.objects) (table_of object_name es) k;
        links = λ k h. filled_word (length into.links) (table_of link_name es) k;
        events = λ k h. filled_word (length into.events) (table_of event_section es) k;
      }
