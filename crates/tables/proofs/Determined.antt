-- The model determines the tables: two tables of the same length, with zeros past their used rows, that read to the same rows
-- are the same words. One law over the width and the row's reader, and its instances; and the rule table with the bodies that it measures.
use Prim.Native.Nat.{ℕ, zero, suc, ◌+◌, ◌*◌, ◌/◌, ◌%◌, ◌^◌, ◌≤◌, ◌<◌}
use mathlib.Core.Path.{◌≡◌, refl, sym, ap, subst, ◌∙◌}
use mathlib.Core.Logic.{◌≢◌, ⊎_elim}
use mathlib.Core.Bool.{Bool, true, false, cond}
use mathlib.Core.List.{List, [], ◌∷◌, map}
use mathlib.Core.Option.{none, some}
use native.Mathlib.Nat.{not-suc-le-zero, le_of_suc-le-suc, add-zero, add-suc, suc-add, zero-add, div-add-mod', mod-lt, div-lt_iff_lt-mul}
use native.Mathlib.Omega.{arith}
use borrow.Author.Tests.{eqb-true}
use lib.Dec.{T, ltb, eqb, ltb→lt, nltb→le, lit<}
use lib.ListN.{length, get_or, drop}
use lib.Seq.{ext_get_or, get_or-take, get_or-drop}
use Rattle.meaning.specs.Limits.{cell_count, max_forms}
use Rattle.meaning.specs.Forms.{Rule}
use Rattle.meaning.specs.Events.{Event, insert, delete, special, general}
use Rattle.meaning.proofs.Lists.{decide}
use Rattle.rows.specs.Rows.{word_at, rows_from, read_rows, zero_past, signed, word_of}
use Rattle.rows.proofs.Words.{word_signed}
use Rattle.rows.proofs.Zeros.{zero_past_lem}
use Rattle.tables.specs.Bodies.{BodyRow, body_row, whole_body, read_body}
use Rattle.tables.specs.Columns.{no_parent, type_row, floor_row, relationship_row, rule_row, object_row, link_row, no_event, event_of, event_row, rules_of}
use Rattle.tables.specs.Words.{parent_word, type_words, floor_words, relationship_words, object_words, link_words, event_words}
use Rattle.tables.proofs.Forms.{words_from, whole_body_lem, same_bodies, table_words}

-- words of 32 bits
abbrev pub Words : List ℕ → Type 0
Words t = (k : ℕ) → get_or t k 0 < 2 ^ 32

-- a table with so many used rows, and zeros past them
pub record Clean (width used : ℕ) (t : List ℕ) : Type 0 where
  pub words : Words t
  pub unused : T (zero_past t width used)

-- the words of row i
abbrev pub words_of : List ℕ → ℕ → ℕ → List ℕ
words_of t width i = read_rows (word_at t width i) width

-- rows that are the same as a list are the same one by one
same_at : {A : Type 0} (f g : ℕ → A) (j n : ℕ) → rows_from f j n ≡ rows_from g j n → (i : ℕ) → i < n → f (j + i) ≡ g (j + i)
same_at f g j zero e i h = absurd (not-suc-le-zero h)
same_at f g j (suc n) e zero h = rw add-zero (cc)
same_at f g j (suc n) e (suc i) h =
    let rest : rows_from f (suc j) n ≡ rows_from g (suc j) n = cc in
    rw (add-suc, ← suc-add) (same_at f g (suc j) n rest i (le_of_suc-le-suc h))

same_row : {A : Type 0} (f g : ℕ → A) (n : ℕ) → read_rows f n ≡ read_rows g n → (i : ℕ) → i < n → f i ≡ g i
same_row f g n e i h = rw zero-add at (same_at f g 0 n e i h)

-- The law. `columns` gives the words of a row back, where the row is `Good`.
module _ {A : Type 0} (width : ℕ) (wide : 0 < width) (row : List ℕ → ℕ → A) (Good : A → Type 0) (columns : A → List ℕ)
    (back : (t : List ℕ) (i : ℕ) → Words t → Good (row t i) → columns (row t i) ≡ words_of t width i) where
  pub determined : (used : ℕ) (t t' : List ℕ) → length t ≡ length t' → Clean width used t → Clean width used t'
      → ((i : ℕ) → i < used → Good (row t i)) → read_rows (row t) used ≡ read_rows (row t') used → t ≡ t'
  determined used t t' e c c' good same = ext_get_or 0 t t' e (λ k h. ⊎_elim (λ l. in_row k (ltb→lt _ _ l)) (λ l. past k (nltb→le _ _ l)) (decide (ltb k (used * width))))
    where
      in_row : (k : ℕ) → k < used * width → get_or t k 0 ≡ get_or t' k 0
      in_row k h =
          let i : ℕ = k / width in
          let l : i < used = (div-lt_iff_lt-mul wide).1 h in
          let r : row t i ≡ row t' i = same_row (row t) (row t') used same i l in
          let w : words_of t width i ≡ words_of t' width i =
          sym (back t i c.words (good i l)) ∙ ap columns r ∙ back t' i c'.words (subst Good r (good i l)) in
          let v : word_at t width i (k % width) ≡ word_at t' width i (k % width) =
          same_row (word_at t width i) (word_at t' width i) width w (k % width) (mod-lt k wide) in
          rw div-add-mod' at v

      past : (k : ℕ) → used * width ≤ k → get_or t k 0 ≡ get_or t' k 0
      past k h = zero_past_lem t width used k c.unused h ∙ sym (zero_past_lem t' width used k c'.unused h)

-- ---- that the words of what a row reads to are the row's

parent_back : (w : ℕ) → parent_word (cond (eqb w no_parent) none (some w)) ≡ w
unfolding parent_word
parent_back w = step (eqb w no_parent) refl
  where
    step : (b : Bool) → eqb w no_parent ≡ b → parent_word (cond b none (some w)) ≡ w
    step true e = sym (eqb-true w no_parent e)
    step false e = refl

pub type_back : (t : List ℕ) (i : ℕ) → type_words (type_row t i) ≡ words_of t 2 i
unfolding type_words type_row
type_back t i = ap (λ (w : ℕ). w ∷ word_at t 2 i 1 ∷ []) (parent_back (word_at t 2 i 0))

pub floor_back : (t : List ℕ) (i : ℕ) → floor_words (floor_row t i) ≡ words_of t 2 i
unfolding floor_words floor_row
floor_back t i = refl

pub relationship_back : (t : List ℕ) (i : ℕ) → relationship_words (relationship_row t i) ≡ words_of t 2 i
unfolding relationship_words relationship_row
relationship_back t i = refl

pub link_back : (t : List ℕ) (i : ℕ) → link_words (link_row t i) ≡ words_of t 3 i
unfolding link_words link_row
link_back t i = refl

cells_back : (f : ℕ → ℕ) → ((k : ℕ) → f k < 2 ^ 32) → (j n : ℕ) → map word_of (rows_from (λ k. signed (f k)) j n) ≡ rows_from f j n
cells_back f h j zero = refl
cells_back f h j (suc n) = cc (word_signed (f j) (h j), cells_back f h (suc j) n)

pub object_back : (t : List ℕ) (i : ℕ) → Words t → object_words (object_row t i) ≡ words_of t 10 i
unfolding object_words object_row
object_back t i h =
    ap (λ (ws : List ℕ). word_at t 10 i 0 ∷ word_at t 10 i 1 ∷ ws) (cells_back (λ k. word_at t 10 i (2 + k)) (λ k. h _) 0 cell_count)

-- a row is an event only where a field that it does not use is 0
unused_field : (z : ℕ) (e : Event) (ws : ℕ → List ℕ) → (e ≢ no_event → event_words e ≡ ws 0)
    → cond (eqb z 0) e no_event ≢ no_event → event_words (cond (eqb z 0) e no_event) ≡ ws z
unused_field z e ws k h = step (eqb z 0) refl h
  where
    step : (b : Bool) → eqb z 0 ≡ b → cond b e no_event ≢ no_event → event_words (cond b e no_event) ≡ ws z
    step true q h = k h ∙ ap ws (sym (eqb-true z 0 q))
    step false q h = absurd (h refl)

words_of_event : (kind x y z : ℕ) → z < 2 ^ 32 → event_of kind x y z ≢ no_event → event_words (event_of kind x y z) ≡ kind ∷ x ∷ y ∷ z ∷ []
unfolding event_of event_words
words_of_event zero x y z l h = unused_field z (insert x y) (λ w. 0 ∷ x ∷ y ∷ w ∷ []) (λ k. refl) h
words_of_event (suc zero) x y z l h =
    unused_field y (cond (eqb z 0) (delete x) no_event) (λ w. 1 ∷ x ∷ w ∷ z ∷ [])
    (unused_field z (delete x) (λ w. 1 ∷ x ∷ 0 ∷ w ∷ []) (λ k. refl)) h
words_of_event (suc (suc zero)) x y z l h = ap (λ (w : ℕ). 2 ∷ x ∷ y ∷ w ∷ []) (word_signed z l)
words_of_event (suc (suc (suc zero))) x y z l h = refl
words_of_event (suc (suc (suc (suc zero)))) x y z l h = refl
words_of_event (suc (suc (suc (suc (suc zero))))) x y z l h = unused_field z (special x y) (λ w. 5 ∷ x ∷ y ∷ w ∷ []) (λ k. refl) h
words_of_event (suc (suc (suc (suc (suc (suc zero)))))) x y z l h = unused_field z (general x y) (λ w. 6 ∷ x ∷ y ∷ w ∷ []) (λ k. refl) h
words_of_event (suc (suc (suc (suc (suc (suc (suc kind))))))) x y z l h = absurd (h refl)

pub event_back : (t : List ℕ) (i : ℕ) → Words t → event_row t i ≢ no_event → event_words (event_row t i) ≡ words_of t 4 i
unfolding event_row
event_back t i w h = words_of_event (word_at t 4 i 0) (word_at t 4 i 1) (word_at t 4 i 2) (word_at t 4 i 3) (w _) h

-- ---- the tables

module _ (used : ℕ) (t t' : List ℕ) (e : length t ≡ length t') where
  pub types_determined : Clean 2 used t → Clean 2 used t' → read_rows (type_row t) used ≡ read_rows (type_row t') used → t ≡ t'
  types_determined c c' =
      determined 2 (lit< tt) type_row (λ r. Unit) type_words (λ t i w g. type_back t i) used t t' e c c' (λ i h. tt)

  pub floors_determined : Clean 2 used t → Clean 2 used t' → read_rows (floor_row t) used ≡ read_rows (floor_row t') used → t ≡ t'
  floors_determined c c' =
      determined 2 (lit< tt) floor_row (λ f. Unit) floor_words (λ t i w g. floor_back t i) used t t' e c c' (λ i h. tt)

  pub relationships_determined : Clean 2 used t → Clean 2 used t'
      → read_rows (relationship_row t) used ≡ read_rows (relationship_row t') used → t ≡ t'
  relationships_determined c c' =
      determined 2 (lit< tt) relationship_row (λ r. Unit) relationship_words (λ t i w g. relationship_back t i) used t t' e c c' (λ i h. tt)

  pub objects_determined : Clean 10 used t → Clean 10 used t' → read_rows (object_row t) used ≡ read_rows (object_row t') used → t ≡ t'
  objects_determined c c' =
      determined 10 (lit< tt) object_row (λ o. Unit) object_words (λ t i w g. object_back t i w) used t t' e c c' (λ i h. tt)

  pub links_determined : Clean 3 used t → Clean 3 used t' → read_rows (link_row t) used ≡ read_rows (link_row t') used → t ≡ t'
  links_determined c c' =
      determined 3 (lit< tt) link_row (λ l. Unit) link_words (λ t i w g. link_back t i) used t t' e c c' (λ i h. tt)

  -- of a batch whose rows are all events
  pub events_determined : Clean 4 used t → Clean 4 used t' → ((i : ℕ) → i < used → event_row t i ≢ no_event)
      → read_rows (event_row t) used ≡ read_rows (event_row t') used → t ≡ t'
  events_determined c c' events =
      determined 4 (lit< tt) event_row (λ v. v ≢ no_event) event_words event_back used t t' e c c' events

-- ---- the rules and their bodies

-- the body rows of rule i, and their number
abbrev pub slot_of : List ℕ → ℕ → ℕ → BodyRow
slot_of bodies i j = body_row bodies (i * max_forms + j)

abbrev pub body_size : List ℕ → ℕ → ℕ
body_size rules i = word_at rules 2 i 1

-- bodies of so many rules: the slot of each, 256 words, holds one whole form and zeros after it; past the slots are zeros
pub record CleanBodies (used : ℕ) (rules bodies : List ℕ) : Type 0 where
  pub words : Words bodies
  pub whole : (i : ℕ) → i < used → T (whole_body (slot_of bodies i) (body_size rules i))
  pub rest : (i j : ℕ) → i < used → body_size rules i * 4 ≤ j → j < 256 → get_or bodies (i * 256 + j) 0 ≡ 0
  pub past : (k : ℕ) → used * 256 ≤ k → get_or bodies k 0 ≡ 0

-- rows that are the same one by one are the same as a list
same_rows : {A : Type 0} (f g : ℕ → A) (j n : ℕ) → ((i : ℕ) → i < j + n → f i ≡ g i) → rows_from f j n ≡ rows_from g j n
same_rows f g j zero h = refl
same_rows f g j (suc n) h =
    let first : f j ≡ g j = h j (omega arith) in
    cc (first, same_rows f g (suc j) n (λ i l. h i (omega arith)))

same_context : (rules rules' bodies bodies' : List ℕ) (i : ℕ) → rule_row rules bodies i ≡ rule_row rules' bodies' i → word_at rules 2 i 0 ≡ word_at rules' 2 i 0
unfolding rule_row
same_context rules rules' bodies bodies' i e = ap (λ (r : Rule). r.context) e

same_body : (rules rules' bodies bodies' : List ℕ) (i : ℕ) → rule_row rules bodies i ≡ rule_row rules' bodies' i
    → read_body (slot_of bodies i) (body_size rules i) ≡ read_body (slot_of bodies' i) (body_size rules' i)
unfolding rule_row
same_body rules rules' bodies bodies' i e = ap (λ (r : Rule). r.body) e

relationship_same : (t t' : List ℕ) (i : ℕ) → word_at t 2 i 0 ≡ word_at t' 2 i 0 → word_at t 2 i 1 ≡ word_at t' 2 i 1 → relationship_row t i ≡ relationship_row t' i
unfolding relationship_row
relationship_same t t' i a b = cc (a, b)

-- word j of the body of n rows in slot i
slot_word_lem : (t : List ℕ) (i n j : ℕ) → (i * max_forms + n) * 4 ≤ length t → j < n * 4 → get_or (words_from (slot_of t i) 0 n) j 0 ≡ get_or t (i * 256 + j) 0
slot_word_lem t i n j room h =
    let start : (i * 64 + 0) * 4 + j ≡ i * 256 + j = omega arith in
    ap (λ (ws : List ℕ). get_or ws j 0) (table_words t (i * max_forms) 0 n (omega arith))
    ∙ get_or-take (n * 4) (drop ((i * max_forms + 0) * 4) t) j 0 h
    ∙ get_or-drop ((i * max_forms + 0) * 4) t j 0
    ∙ ap (λ (k : ℕ). get_or t k 0) start

-- the rules determine both tables
module _ (used : ℕ) (rules rules' bodies bodies' : List ℕ) (e : length rules ≡ length rules') (e' : length bodies ≡ length bodies')
    (c : Clean 2 used rules) (c' : Clean 2 used rules') (d : CleanBodies used rules bodies) (d' : CleanBodies used rules' bodies')
    (room : used * 256 ≤ length bodies) (same : rules_of used rules bodies ≡ rules_of used rules' bodies') where
  rule_at : (i : ℕ) → i < used → rule_row rules bodies i ≡ rule_row rules' bodies' i
  rule_at i l = same_row (rule_row rules bodies) (rule_row rules' bodies') used same i l

  body_at_lem : (i : ℕ) → i < used
      → (body_size rules i ≡ body_size rules' i) × (words_from (slot_of bodies i) 0 (body_size rules i) ≡ words_from (slot_of bodies' i) 0 (body_size rules' i))
  body_at_lem i l =
      same_bodies (slot_of bodies i) (slot_of bodies' i) (λ k. d.words _) (λ k. d'.words _) (body_size rules i) (body_size rules' i)
      (d.whole i l) (d'.whole i l) (same_body rules rules' bodies bodies' i (rule_at i l))

  rules_same : rules ≡ rules'
  rules_same =
      relationships_determined used rules rules' e c c'
      (same_rows (relationship_row rules) (relationship_row rules') 0 used
      (λ i l.
      let l' : i < used = omega arith in
      relationship_same rules rules' i (same_context rules rules' bodies bodies' i (rule_at i l')) (body_at_lem i l').0))

  in_body : (i j : ℕ) → i < used → j < body_size rules i * 4 → get_or bodies (i * 256 + j) 0 ≡ get_or bodies' (i * 256 + j) 0
  in_body i j l h =
      let n : ℕ = body_size rules i in
      let few : n ≤ 64 = (whole_body_lem (slot_of bodies i) n (d.whole i l)).few in
      let ws : words_from (slot_of bodies i) 0 n ≡ words_from (slot_of bodies' i) 0 n =
      (body_at_lem i l).1 ∙ ap (words_from (slot_of bodies' i) 0) (sym (body_at_lem i l).0) in
      let fits : (i * 64 + n) * 4 ≤ length bodies = omega arith in
      let fits' : (i * 64 + n) * 4 ≤ length bodies' = omega arith in
      sym (slot_word_lem bodies i n j fits h) ∙ ap (λ (w : List ℕ). get_or w j 0) ws ∙ slot_word_lem bodies' i n j fits' h

  in_rest : (i j : ℕ) → i < used → body_size rules i * 4 ≤ j → j < 256 → get_or bodies (i * 256 + j) 0 ≡ get_or bodies' (i * 256 + j) 0
  in_rest i j l h m = d.rest i j l h m ∙ sym (d'.rest i j l (subst (λ (n : ℕ). n * 4 ≤ j) (body_at_lem i l).0 h) m)

  in_slot : (i j : ℕ) → i < used → j < 256 → get_or bodies (i * 256 + j) 0 ≡ get_or bodies' (i * 256 + j) 0
  in_slot i j l m =
      ⊎_elim (λ h. in_body i j l (ltb→lt _ _ h)) (λ h. in_rest i j l (nltb→le _ _ h) m) (decide (ltb j (body_size rules i * 4)))

  in_slots : (k : ℕ) → k < used * 256 → get_or bodies k 0 ≡ get_or bodies' k 0
  in_slots k h =
      let v : get_or bodies (k / 256 * 256 + k % 256) 0 ≡ get_or bodies' (k / 256 * 256 + k % 256) 0 =
      in_slot (k / 256) (k % 256) ((div-lt_iff_lt-mul (lit< tt)).1 h) (mod-lt k (lit< tt)) in
      rw div-add-mod' at v

  bodies_same : bodies ≡ bodies'
  bodies_same =
      ext_get_or 0 bodies bodies' e'
      (λ k h. ⊎_elim (λ l. in_slots k (ltb→lt _ _ l)) (λ l. d.past k (nltb→le _ _ l) ∙ sym (d'.past k (nltb→le _ _ l))) (decide (ltb k (used * 256))))

  pub rules_determined : (rules ≡ rules') × (bodies ≡ bodies')
  rules_determined = (rules_same, bodies_same)
