-- A line's entry and its bracket say each other: what is spelled is read, and what is read is spelled so.
use mathlib.Core.Logic.{◌⊎◌, inl, inr, ⊎_elim}
use Prim.Native.Nat.{ℕ, zero, suc, ◌+◌, ◌-◌, ◌^◌, ◌≤◌, ◌<◌}
use mathlib.Core.Path.{◌≡◌, refl, sym, ap, ap₂, subst, ◌∙◌}
use mathlib.Core.Bool.{Bool, true, false, ◌&&◌, ◌||◌, cond, false≢true}
use mathlib.Core.List.{List, [], ◌∷◌, ◌++◌}
use mathlib.Core.Option.{Option, none, some, bind, map, none-ne-some}
use native.Mathlib.Omega.{arith}
use lib.Dec.{ltb, leb, eqb}
use lib.ListN.{length, get_or, take, drop, replicate, length-append, length-replicate, length-drop, take-append-drop}
use lib.Seq.{take_at, drop_at, get_or-take, length-take-le}
use denote.Floats.{passes, is_true}
use borrow.Author.Tests.{ltb-true, leb-true, eqb-true, lt-ltb, le-ltb, le-leb, eq-eqb, ne_eqb}
use Rattle.meaning.specs.Lists.{every}
use Rattle.meaning.specs.Limits.{cell_count}
use Rattle.meaning.proofs.Lists.{length_keep, every_append, every_replicate, every_get_d, every_take}
use Rattle.rows.specs.Rows.{all_zero}
use Rattle.tables.specs.Layouts.{Layout, floor_table, link_table}
use Rattle.tables.specs.Columns.{no_parent}
use Rattle.lexical.specs.Lines.{is_inner}
use Rattle.lexical.proofs.Runs.{both}
use Rattle.text.specs.Names.{type_name, floor_name, relationship_name, rule_name, object_name, link_name, first_event, name_count}
use Rattle.text.specs.Tokens.{Token, begin, item, end, dash, is_word, Bracket, spell_bracket, bracket_in}
use Rattle.text.specs.Bodies.{Written, well_written, padded, closing, tokens_of, form_in}
use Rattle.text.specs.Entries.{Entry, row, rule, section_of, is_of, count_of, cells_in, last_section, event_section, parent_item, parent_word, is_type_line, is_relationship_line, is_object_line, is_plain_line, is_event_line, event_fields, items_of, name_for, bracket_of, spell_entry, items_in, row_if, type_in, relationship_in, object_in, plain_in, event_in, row_in, only_end, body_in, rule_in, inside_in, in_order, entry_in}
use Rattle.text.proofs.Tokens.{valid_token, bracket_read, bracket_spelled, bracket_inner}
use Rattle.text.proofs.Bodies.{close_valid, form_read, form_spelled, tokens_valid}

-- ---- what a text can say

-- the words are a row of the section, after the lines before it
abbrev pub type_words : List ℕ → Bool
type_words words = eqb (length words) 2 && ((ltb (get_or words 0 0) (2 ^ 31) || eqb (get_or words 0 0) no_parent) && is_word (get_or words 1 0))

abbrev pub plain_words : ℕ → List ℕ → Bool
plain_words width words = eqb (length words) width && every is_word words

abbrev pub object_words : List Entry → List ℕ → Bool
object_words before words =
    eqb (length words) 10 && (every is_word words && (ltb (get_or words 1 0) (count_of type_name before)
    && (leb (cells_in before (get_or words 1 0)) cell_count && all_zero (drop (2 + cells_in before (get_or words 1 0)) words))))

abbrev pub event_words : List ℕ → Bool
event_words words =
    eqb (length words) 4 && (every is_word words && (ltb (get_or words 0 0) 7 && all_zero (drop (event_fields (get_or words 0 0)) (drop 1 words))))

abbrev pub row_fits : List Entry → ℕ → List ℕ → Bool
row_fits before s words =
    cond (eqb s type_name) (type_words words)
    (cond (eqb s floor_name) (plain_words 2 words)
    (cond (eqb s relationship_name) (plain_words 2 words)
    (cond (eqb s object_name) (object_words before words)
    (cond (eqb s link_name) (plain_words 3 words)
    (eqb s event_section && event_words words)))))

unfoldable pub sayable : List Entry → Entry → Bool
sayable before (row s words) = row_fits before s words
sayable before (rule t body) = is_word t && well_written body

-- ---- items

pub items_read : (is : List ℕ) → items_in (closing is) ≡ some is
unfolding items_in
items_read [] = refl
items_read (v ∷ vs) = ap (map (λ l. v ∷ l)) (items_read vs)

map_some : {A B : Type 0} (f : A → B) (o : Option A) (b : B) → map f o ≡ some b → (a : A) × (o ≡ some a) × (f a ≡ b)
map_some f none b e = absurd (none-ne-some b e)
map_some f (some a) b e = (a, refl, some_is e)
  where
    some_is : some (f a) ≡ some b → f a ≡ b
    some_is e = cc

pub items_spelled : (ts : List Token) (is : List ℕ) → items_in ts ≡ some is → ts ≡ closing is
unfolding items_in
items_spelled [] is e = cc
items_spelled (begin k ∷ ts) is e = cc
items_spelled (item v ∷ ts) is e =
    let (vs, r, q) = map_some (λ l. v ∷ l) (items_in ts) is e in
    subst (λ is. item v ∷ ts ≡ closing is) q (ap (λ l. item v ∷ l) (items_spelled ts vs r))
items_spelled (end ∷ []) is e = subst (λ is. end ∷ [] ≡ closing is) (some_is e) refl
  where
    some_is : some [] ≡ some is → [] ≡ is
    some_is e = cc
items_spelled (end ∷ t ∷ ts) is e = cc

-- ---- rows without a body

bind_some : {A B : Type 0} (o : Option A) (f : A → Option B) (b : B) → bind o f ≡ some b → (a : A) × (o ≡ some a) × (f a ≡ some b)
unfolding bind
bind_some none f b e = absurd (none-ne-some b e)
bind_some (some a) f b e = (a, refl, e)

row_if_lem : (fits : Bool) (s : ℕ) (words : List ℕ) (e : Entry) → row_if fits s words ≡ some e → (fits ≡ true) × (row s words ≡ e)
row_if_lem true s words e q = (refl, cc)
row_if_lem false s words e q = absurd (none-ne-some e q)

list_two : (l : List ℕ) → length l ≡ 2 → l ≡ get_or l 0 0 ∷ get_or l 1 0 ∷ []
list_two [] h = absurd (omega arith)
list_two (a ∷ []) h = absurd (omega arith)
list_two (a ∷ b ∷ []) h = refl
list_two (a ∷ b ∷ c ∷ l) h = absurd (omega arith)

list_three : (l : List ℕ) → length l ≡ 3 → l ≡ get_or l 0 0 ∷ get_or l 1 0 ∷ get_or l 2 0 ∷ []
list_three [] h = absurd (omega arith)
list_three (a ∷ l) h = ap (λ r. a ∷ r) (list_two l (omega arith))

-- a row that a line says: its items and its name are those of the line
pub record Said (before : List Entry) (name : ℕ) (is : List ℕ) (e : Entry) : Type 0 where
  pub section : ℕ
  pub words : List ℕ
  pub is_row : row section words ≡ e
  pub items : items_of before section words ≡ is
  pub named : name_for section words ≡ name
  pub fits : row_fits before section words ≡ true

or_cases : (a b : Bool) → (a || b) ≡ true → (a ≡ true) ⊎ (b ≡ true)
or_cases true b e = inl refl
or_cases false b e = inr e

-- the parent's item and its word say each other: one of two large numbers stands for the other
abbrev swapped : ℕ → ℕ → ℕ → ℕ
swapped a b v = cond (eqb v a) b v

module _ (a b v : ℕ) (a_large : 2 ^ 31 ≤ a) (b_large : 2 ^ 31 ≤ b) (h : (ltb v (2 ^ 31) || eqb v a) ≡ true) where
  swap_back : swapped b a (swapped a b v) ≡ v
  swap_back = ⊎_elim low other (or_cases (ltb v (2 ^ 31)) (eqb v a) h)
    where
      low : ltb v (2 ^ 31) ≡ true → swapped b a (swapped a b v) ≡ v
      low t = let l = ltb-true v (2 ^ 31) t in rw (ne_eqb v a (λ q. omega (arith, l, q, a_large)), ne_eqb v b (λ q. omega (arith, l, q, b_large)))

      other : eqb v a ≡ true → swapped b a (swapped a b v) ≡ v
      other t = let there : swapped b a (swapped a b v) ≡ a = rw (t, eq-eqb b b refl) in there ∙ sym (eqb-true v a t)

  swap_fits : (ltb (swapped a b v) (2 ^ 31) || eqb (swapped a b v) b) ≡ true
  swap_fits = ⊎_elim low other (or_cases (ltb v (2 ^ 31)) (eqb v a) h)
    where
      low : ltb v (2 ^ 31) ≡ true → (ltb (swapped a b v) (2 ^ 31) || eqb (swapped a b v) b) ≡ true
      low t = let l = ltb-true v (2 ^ 31) t in rw (ne_eqb v a (λ q. omega (arith, l, q, a_large)), t)

      other : eqb v a ≡ true → (ltb (swapped a b v) (2 ^ 31) || eqb (swapped a b v) b) ≡ true
      other t = rw (t, le-ltb b (2 ^ 31) b_large, eq-eqb b b refl)

type_spelled : (before : List Entry) (is : List ℕ) (e : Entry) → type_in before is ≡ some e → Said before type_name is e
unfolding type_in is_type_line items_of name_for
type_spelled before is e q =
    let (fits, same) = row_if_lem (is_type_line before is) type_name _ e q in
    let (three, more) = both (eqb (length is) 3) _ fits in
    let (counted, rest) = both (eqb (get_or is 0 0) (count_of type_name before)) _ more in
    let (parent, cells) = both (ltb (get_or is 1 0) (2 ^ 31) || eqb (get_or is 1 0) dash) _ rest in
    record {
      section = type_name;
      words = parent_word (get_or is 1 0) ∷ get_or is 2 0 ∷ [];
      is_row = same;
      items = ap₂ (λ a b. a ∷ b ∷ get_or is 2 0 ∷ []) (sym (eqb-true (get_or is 0 0) (count_of type_name before) counted)) (swap_back dash no_parent (get_or is 1 0) (omega arith) (omega arith) parent) ∙ sym (list_three is (eqb-true (length is) 3 three));
      named = refl;
      fits = ap₂ (λ a b. a && b) (swap_fits dash no_parent (get_or is 1 0) (omega arith) (omega arith) parent) cells;
    }

relationship_spelled : (before : List Entry) (is : List ℕ) (e : Entry) → relationship_in before is ≡ some e → Said before relationship_name is e
unfolding relationship_in is_relationship_line items_of name_for
relationship_spelled before [] e q = absurd (none-ne-some e q)
relationship_spelled before (a ∷ is) e q =
    let (fits, same) = row_if_lem (is_relationship_line before (a ∷ is)) relationship_name _ e q in
    let (three, more) = both (eqb (length (a ∷ is)) 3) _ fits in
    let (counted, words) = both (eqb a (count_of relationship_name before)) _ more in
    let two : length is ≡ 2 = omega (arith, eqb-true (length (a ∷ is)) 3 three) in
    record {
      section = relationship_name;
      words = is;
      is_row = same;
      items = ap (λ n. n ∷ is) (sym (eqb-true a (count_of relationship_name before) counted));
      named = refl;
      fits = ap₂ (λ x y. x && y) (eq-eqb (length is) 2 two) (both (is_word a) _ words).1;
    }

and-true : (a b : Bool) → a ≡ true → b ≡ true → (a && b) ≡ true
and-true true b h g = g
and-true false b h g = h

zeros_zero : (n : ℕ) → all_zero (replicate n 0) ≡ true
zeros_zero zero = refl
zeros_zero (suc n) = zeros_zero n

zeros_are : (l : List ℕ) → all_zero l ≡ true → l ≡ replicate (length l) 0
zeros_are [] h = refl
zeros_are (x ∷ l) h = let (z, more) = both (eqb x 0) (all_zero l) h in ap₂ (λ y k. y ∷ k) (eqb-true x 0 z) (zeros_are l more)

-- words padded to a width
module _ (width : ℕ) (is : List ℕ) (fits : length is ≤ width) where
  pub padded_length : length (padded width is) ≡ width
  padded_length = length-append is (replicate (width - length is) 0) ∙ ap (λ n. length is + n) (length-replicate (width - length is) 0) ∙ omega (arith, fits)

  padded_words : every is_word is ≡ true → every is_word (padded width is) ≡ true
  padded_words h = is_true (every is_word (padded width is)) (every_append is_word is (replicate (width - length is) 0) (passes (every is_word is) h) (every_replicate is_word (width - length is) 0 tt))

  padded_take : (n : ℕ) → length is ≡ n → take n (padded width is) ≡ is
  padded_take n h = take_at is (replicate (width - length is) 0) n h

  padded_zero : (n : ℕ) → length is ≡ n → all_zero (drop n (padded width is)) ≡ true
  padded_zero n h = ap all_zero (drop_at is (replicate (width - length is) 0) n h) ∙ zeros_zero (width - length is)

object_spelled : (before : List Entry) (is : List ℕ) (e : Entry) → object_in before is ≡ some e → Said before object_name is e
unfolding object_in is_object_line items_of name_for
object_spelled before [] e q = absurd (none-ne-some e q)
object_spelled before (a ∷ []) e q = absurd (none-ne-some e q)
object_spelled before (a ∷ t ∷ vs) e q =
    let is = a ∷ t ∷ vs in
    let (fits, same) = row_if_lem (is_object_line before is) object_name _ e q in
    let (two, more) = both (leb 2 (length is)) _ fits in
    let (words, more2) = both (every is_word is) _ more in
    let (known, more3) = both (ltb t (count_of type_name before)) _ more2 in
    let (few, sized) = both (leb (cells_in before t) cell_count) _ more3 in
    let size : length is ≡ 2 + cells_in before t = eqb-true (length is) (2 + cells_in before t) sized in
    let room : length is ≤ 10 = omega (arith, size, leb-true (cells_in before t) cell_count few) in
    record {
      section = object_name;
      words = padded 10 is;
      is_row = same;
      items = padded_take 10 is room (2 + cells_in before t) size;
      named = refl;
      fits = and-true (eqb (length (padded 10 is)) 10) _ (eq-eqb (length (padded 10 is)) 10 (padded_length 10 is room))
          (and-true (every is_word (padded 10 is)) _ (padded_words 10 is room words)
          (and-true (ltb t (count_of type_name before)) _ known
          (and-true (leb (cells_in before t) cell_count) _ few (padded_zero 10 is room (2 + cells_in before t) size))));
    }

plain_spelled : (before : List Entry) (l : Layout) (is : List ℕ) (e : Entry) → items_of before l.section is ≡ is → name_for l.section is ≡ l.section → (is_plain_line l is ≡ true → row_fits before l.section is ≡ true) → plain_in l is ≡ some e → Said before l.section is e
unfolding plain_in
plain_spelled before l is e items named good q =
    let (fits, same) = row_if_lem (is_plain_line l is) l.section is e q in
    record { section = l.section; words = is; is_row = same; items = items; named = named; fits = good fits }

pub fields_few : (kind : ℕ) → event_fields kind ≤ 3
unfolding event_fields
fields_few kind = leb-true (event_fields kind) 3 (is_true (leb (event_fields kind) 3) (every_get_d (λ n. leb n 3) (2 ∷ 1 ∷ 3 ∷ 3 ∷ 3 ∷ 2 ∷ 2 ∷ []) kind 0 tt tt))

event_spelled : (before : List Entry) (name : ℕ) (is : List ℕ) (e : Entry) → first_event ≤ name → event_in (name - first_event) is ≡ some e → Said before name is e
unfolding event_in is_event_line items_of name_for
event_spelled before name is e h q =
    let kind = name - first_event in
    let (fits, same) = row_if_lem (is_event_line kind is) event_section _ e q in
    let (known, more) = both (ltb kind 7) _ fits in
    let (sized, words) = both (eqb (length is) (event_fields kind)) _ more in
    let size : length is ≡ event_fields kind = eqb-true (length is) (event_fields kind) sized in
    let room : length is ≤ 3 = omega (arith, size, fields_few kind) in
    record {
      section = event_section;
      words = kind ∷ padded 3 is;
      is_row = same;
      items = padded_take 3 is room (event_fields kind) size;
      named = omega (arith, h);
      fits = and-true (eqb (length (kind ∷ padded 3 is)) 4) _ (eq-eqb (length (kind ∷ padded 3 is)) 4 (ap suc (padded_length 3 is room)))
          (and-true (every is_word (kind ∷ padded 3 is)) _ (and-true (is_word kind) _ (lt-ltb kind dash (omega (arith, ltb-true kind 7 known))) (padded_words 3 is room words))
          (and-true (ltb kind 7) _ known (padded_zero 3 is room (event_fields kind) size)));
    }

pick : {A : Type 0} (b : Bool) (x y : Option A) (e : A) → cond b x y ≡ some e → ((b ≡ true) × (x ≡ some e)) ⊎ ((b ≡ false) × (y ≡ some e))
pick true x y e q = inl (refl, q)
pick false x y e q = inr (refl, q)

row_spelled : (before : List Entry) (name : ℕ) (is : List ℕ) (e : Entry) → row_in before name is ≡ some e → Said before name is e
unfolding row_in items_of name_for is_plain_line
row_spelled before name is e q =
    ⊎_elim (λ c. named type_name c.0 (type_spelled before is e c.1))
    (λ c. ⊎_elim (λ c. named floor_name c.0 (plain_spelled before floor_table is e refl refl (λ h. h) c.1))
    (λ c. ⊎_elim (λ c. named relationship_name c.0 (relationship_spelled before is e c.1))
    (λ c. ⊎_elim (λ c. named object_name c.0 (object_spelled before is e c.1))
    (λ c. ⊎_elim (λ c. named link_name c.0 (plain_spelled before link_table is e refl refl (λ h. h) c.1))
    (λ c. ⊎_elim (λ c. event_spelled before name is e (leb-true first_event name c.0) c.1) (λ c. absurd (none-ne-some e c.1))
    (pick (leb first_event name) _ _ e c.1))
    (pick (eqb name link_name) _ _ e c.1))
    (pick (eqb name object_name) _ _ e c.1))
    (pick (eqb name relationship_name) _ _ e c.1))
    (pick (eqb name floor_name) _ _ e c.1))
    (pick (eqb name type_name) _ _ e q)
  where
    named : (n : ℕ) → eqb name n ≡ true → Said before n is e → Said before name is e
    named n t said = subst (λ k. Said before k is e) (sym (eqb-true name n t)) said

-- ---- and the other way round

row_so : (fits : Bool) (s : ℕ) {words other : List ℕ} → fits ≡ true → words ≡ other → row_if fits s words ≡ some (row s other)
row_so true s h q = ap (λ w. some (row s w)) q
row_so false s h q = absurd (false≢true h)

type_read : (before : List Entry) (words : List ℕ) → row_fits before type_name words ≡ true → type_in before (items_of before type_name words) ≡ some (row type_name words)
unfolding type_in is_type_line items_of
type_read before words h =
    let w = get_or words 0 0 in
    let (two, more) = both (eqb (length words) 2) _ h in
    let (parent, cells) = both (ltb w (2 ^ 31) || eqb w no_parent) _ more in
    row_so (is_type_line before (count_of type_name before ∷ parent_item w ∷ get_or words 1 0 ∷ [])) type_name
    (and-true (eqb (count_of type_name before) (count_of type_name before)) _ (eq-eqb (count_of type_name before) (count_of type_name before) refl)
    (and-true (ltb (parent_item w) (2 ^ 31) || eqb (parent_item w) dash) _ (swap_fits no_parent dash w (omega arith) (omega arith) parent) cells))
    (ap (λ v. v ∷ get_or words 1 0 ∷ []) (swap_back no_parent dash w (omega arith) (omega arith) parent) ∙ sym (list_two words (eqb-true (length words) 2 two)))

relationship_read : (before : List Entry) (words : List ℕ) → count_of relationship_name before < dash → row_fits before relationship_name words ≡ true → relationship_in before (items_of before relationship_name words) ≡ some (row relationship_name words)
unfolding relationship_in is_relationship_line items_of
relationship_read before words few h =
    let n = count_of relationship_name before in
    let (two, all) = both (eqb (length words) 2) _ h in
    row_so (is_relationship_line before (n ∷ words)) relationship_name
    (and-true (eqb (length (n ∷ words)) 3) _ (eq-eqb (length (n ∷ words)) 3 (ap suc (eqb-true (length words) 2 two)))
    (and-true (eqb n n) _ (eq-eqb n n refl) (and-true (is_word n) _ (lt-ltb n dash few) all)))
    refl

-- what was padded is there again
unpadded : (width n : ℕ) (words : List ℕ) → length words ≡ width → n ≤ width → all_zero (drop n words) ≡ true → padded width (take n words) ≡ words
unpadded width n words h few z =
    let taken : length (take n words) ≡ n = length-take-le n words (omega (arith, h, few)) in
    let left : width - length (take n words) ≡ length (drop n words) = ap (λ k. width - k) taken ∙ ap (λ k. k - n) (sym h) ∙ sym (length-drop n words) in
    ap (λ k. take n words ++ replicate k 0) left
    ∙ ap (λ l. take n words ++ l) (sym (zeros_are (drop n words) z))
    ∙ take-append-drop n words

object_read : (before : List Entry) (words : List ℕ) → row_fits before object_name words ≡ true → object_in before (items_of before object_name words) ≡ some (row object_name words)
unfolding object_in is_object_line items_of
object_read before words h =
    let t = get_or words 1 0 in
    let n = 2 + cells_in before t in
    let is = take n words in
    let (ten, more) = both (eqb (length words) 10) _ h in
    let (all, more2) = both (every is_word words) _ more in
    let (known, more3) = both (ltb t (count_of type_name before)) _ more2 in
    let (few, zeros) = both (leb (cells_in before t) cell_count) _ more3 in
    let size : length words ≡ 10 = eqb-true (length words) 10 ten in
    let room : n ≤ 10 = omega (arith, leb-true (cells_in before t) cell_count few) in
    let taken : length is ≡ n = length-take-le n words (omega (arith, size, room)) in
    let same_type : t ≡ get_or is 1 0 = sym (get_or-take n words 1 0 (omega arith)) in
    row_so (is_object_line before is) object_name
    (and-true (leb 2 (length is)) _ (le-leb 2 (length is) (omega (arith, taken)))
    (and-true (every is_word is) _ (is_true (every is_word is) (every_take is_word n words (passes (every is_word words) all)))
    (subst (λ u. (ltb u (count_of type_name before) && (leb (cells_in before u) cell_count && eqb (length is) (2 + cells_in before u))) ≡ true) same_type
    (and-true (ltb t (count_of type_name before)) _ known (and-true (leb (cells_in before t) cell_count) _ few (eq-eqb (length is) n taken))))))
    (unpadded 10 n words size room zeros)

event_read : (before : List Entry) (words : List ℕ) → row_fits before event_section words ≡ true → event_in (get_or words 0 0) (items_of before event_section words) ≡ some (row event_section words)
unfolding event_in is_event_line items_of
event_read before [] h = absurd (false≢true h)
event_read before (kind ∷ ws) h =
    let n = event_fields kind in
    let is = take n ws in
    let (four, more) = both (eqb (length (kind ∷ ws)) 4) _ h in
    let (all, more2) = both (every is_word (kind ∷ ws)) _ more in
    let (known, zeros) = both (ltb kind 7) _ more2 in
    let size : length ws ≡ 3 = omega (arith, eqb-true (length (kind ∷ ws)) 4 four) in
    let taken : length is ≡ n = length-take-le n ws (omega (arith, size, fields_few kind)) in
    row_so (is_event_line kind is) event_section
    (and-true (ltb kind 7) _ known
    (and-true (eqb (length is) n) _ (eq-eqb (length is) n taken)
    (is_true (every is_word is) (every_take is_word n ws (passes (every is_word ws) (both (is_word kind) _ all).1)))))
    (ap (λ l. kind ∷ l) (unpadded 3 n ws size (fields_few kind) zeros))

-- ---- rules

pub end_is : (ts : List Token) → only_end ts ≡ true → ts ≡ end ∷ []
end_is [] h = absurd (false≢true h)
end_is (begin k ∷ ts) h = absurd (false≢true h)
end_is (item v ∷ ts) h = absurd (false≢true h)
end_is (end ∷ []) h = refl
end_is (end ∷ t ∷ ts) h = absurd (false≢true h)

-- an entry that a bracket says, and that it is the one that says it
pub record Spelled (before : List Entry) (b : Bracket) (e : Entry) : Type 0 where
  pub bracket : bracket_of before e ≡ b
  pub fits : sayable before e ≡ true

pub rule_if : (b : Bool) (t : ℕ) (w : Written) (e : Entry) → cond b (some (rule t w)) none ≡ some e → (b ≡ true) × (rule t w ≡ e)
rule_if true t w e q = (refl, cc)
rule_if false t w e q = absurd (none-ne-some e q)

rule_spelled : (before : List Entry) (ts : List Token) (e : Entry) → rule_in before ts ≡ some e → Spelled before (record { name = rule_name; tokens = ts }) e
unfolding rule_in body_in bracket_of sayable
rule_spelled before [] e q = absurd (none-ne-some e q)
rule_spelled before (begin k ∷ ts) e q = absurd (none-ne-some e q)
rule_spelled before (end ∷ ts) e q = absurd (none-ne-some e q)
rule_spelled before (item n ∷ []) e q = absurd (none-ne-some e q)
rule_spelled before (item n ∷ begin k ∷ ts) e q = absurd (none-ne-some e q)
rule_spelled before (item n ∷ end ∷ ts) e q = absurd (none-ne-some e q)
rule_spelled before (item n ∷ item t ∷ ts) e q =
    ⊎_elim (λ c. step c.0 c.1) (λ c. absurd (none-ne-some e c.1)) (pick (eqb n (count_of rule_name before) && is_word t) (body_in t ts) none e q)
  where
    step : (eqb n (count_of rule_name before) && is_word t) ≡ true → body_in t ts ≡ some e → Spelled before (record { name = rule_name; tokens = item n ∷ item t ∷ ts }) e
    step h r =
        let (counted, word) = both (eqb n (count_of rule_name before)) (is_word t) h in
        let (f, formed, rest) = bind_some (form_in (length ts) ts) (λ f. cond (only_end f.rest) (some (rule t f.form)) none) e r in
        let (ended, same) = rule_if (only_end f.rest) t f.form e rest in
        let (split, well) = form_spelled (length ts) ts f formed in
        subst (λ e. Spelled before (record { name = rule_name; tokens = item n ∷ item t ∷ ts }) e) same
        (record {
          bracket = ap₂ (λ m l. record { name = rule_name; tokens = item m ∷ item t ∷ l }) (sym (eqb-true n (count_of rule_name before) counted)) (ap (λ l. tokens_of f.form ++ l) (sym (end_is f.rest ended)) ∙ sym split);
          fits = and-true (is_word t) (well_written f.form) word well;
        })

rule_read : (before : List Entry) (t : ℕ) (body : Written) → (is_word t && well_written body) ≡ true → rule_in before (bracket_of before (rule t body)).tokens ≡ some (rule t body)
unfolding rule_in body_in bracket_of bind
rule_read before t body h =
    let n = count_of rule_name before in
    let ts = tokens_of body ++ end ∷ [] in
    let (word, well) = both (is_word t) (well_written body) h in
    let long : length (tokens_of body) ≤ length ts = omega (arith, length-append (tokens_of body) (end ∷ [])) in
    let opened : (eqb n n && is_word t) ≡ true = and-true (eqb n n) (is_word t) (eq-eqb n n refl) word in
    ap (λ b. cond b (body_in t ts) none) opened
    ∙ ap (λ o. bind o (λ f. cond (only_end f.rest) (some (rule t f.form)) none)) (form_read body (end ∷ []) (length ts) well long)

-- ---- brackets

inside_spelled : (before : List Entry) (b : Bracket) (e : Entry) → inside_in before b ≡ some e → Spelled before b e
unfolding inside_in bracket_of sayable
inside_spelled before b e q =
    ⊎_elim (λ c. subst (λ k. Spelled before (record { name = k; tokens = b.tokens }) e) (sym (eqb-true b.name rule_name c.0)) (rule_spelled before b.tokens e c.1))
    (λ c. flat c.1)
    (pick (eqb b.name rule_name) _ _ e q)
  where
    flat : bind (items_in b.tokens) (λ is. row_in before b.name is) ≡ some e → Spelled before b e
    flat r =
        let (is, found, rowed) = bind_some (items_in b.tokens) (λ is. row_in before b.name is) e r in
        let said = row_spelled before b.name is e rowed in
        subst (λ e. Spelled before b e) said.is_row
        (record {
          bracket = ap₂ (λ k ts. record { name = k; tokens = ts }) said.named (ap closing said.items ∙ sym (items_spelled b.tokens is found));
          fits = said.fits;
        })

-- what holds of every row that fits: by its section
module _ (before : List Entry) (s : ℕ) (words : List ℕ) (P : ℕ → Type 0)
    (types : type_words words ≡ true → P type_name)
    (floors : plain_words 2 words ≡ true → P floor_name)
    (relationships : plain_words 2 words ≡ true → P relationship_name)
    (objects : object_words before words ≡ true → P object_name)
    (links : plain_words 3 words ≡ true → P link_name)
    (events : event_words words ≡ true → P event_section) where
  branch : (n : ℕ) (x y : Bool) → cond (eqb s n) x y ≡ true → (x ≡ true → P n) → (y ≡ true → P s) → P s
  branch n x y h here on = step (eqb s n) refl h
    where
      step : (b : Bool) → eqb s n ≡ b → cond b x y ≡ true → P s
      step true q h = subst P (sym (eqb-true s n q)) (here h)
      step false q h = on h

  pub by_section_lem : row_fits before s words ≡ true → P s
  by_section_lem h =
      branch type_name (type_words words) _ h types
      (λ h. branch floor_name (plain_words 2 words) _ h floors
      (λ h. branch relationship_name (plain_words 2 words) _ h relationships
      (λ h. branch object_name (object_words before words) _ h objects
      (λ h. branch link_name (plain_words 3 words) _ h links
      (λ h. let (q, w) = both (eqb s event_section) (event_words words) h in subst P (sym (eqb-true s event_section q)) (events w))))))

counts_few : (before : List Entry) → length before < dash → (s : ℕ) → count_of s before < dash
unfolding count_of
counts_few before h s = omega (arith, h, length_keep (is_of s) before)

-- the bracket of an entry that fits: it can be spelled, and it says the entry
pub record Sayable (before : List Entry) (e : Entry) : Type 0 where
  pub named : (bracket_of before e).name < name_count
  pub valid : every valid_token (bracket_of before e).tokens ≡ true
  pub says : inside_in before (bracket_of before e) ≡ some e

module _ (before : List Entry) (few : (s : ℕ) → count_of s before < dash) where
  flat_says : (s : ℕ) (words : List ℕ) → eqb (name_for s words) rule_name ≡ false → row_in before (name_for s words) (items_of before s words) ≡ some (row s words) → inside_in before (bracket_of before (row s words)) ≡ some (row s words)
  unfolding inside_in bracket_of bind
  flat_says s words other r =
      ap (λ b. cond b (rule_in before (closing (items_of before s words))) (bind (items_in (closing (items_of before s words))) (λ is. row_in before (name_for s words) is))) other
      ∙ ap (λ o. bind o (λ is. row_in before (name_for s words) is)) (items_read (items_of before s words))
      ∙ r

  some_words : (n : ℕ) (words : List ℕ) → every is_word words ≡ true → every is_word (take n words) ≡ true
  some_words n words h = is_true (every is_word (take n words)) (every_take is_word n words (passes (every is_word words) h))

  counted : (s : ℕ) → leb (count_of s before) dash ≡ true
  counted s = le-leb (count_of s before) dash (omega (arith, few s))

  swapped_small : (w : ℕ) → (ltb (parent_item w) (2 ^ 31) || eqb (parent_item w) dash) ≡ true → leb (parent_item w) dash ≡ true
  swapped_small w h =
      ⊎_elim (λ t. le-leb (parent_item w) dash (omega (arith, ltb-true (parent_item w) (2 ^ 31) t)))
      (λ t. le-leb (parent_item w) dash (omega (arith, eqb-true (parent_item w) dash t)))
      (or_cases (ltb (parent_item w) (2 ^ 31)) (eqb (parent_item w) dash) h)

  type_sayable : (words : List ℕ) → type_words words ≡ true → Sayable before (row type_name words)
  unfolding bracket_of name_for items_of row_in
  type_sayable words h =
      let w = get_or words 0 0 in
      let (parent, cells) = both (ltb w (2 ^ 31) || eqb w no_parent) (is_word (get_or words 1 0)) (both (eqb (length words) 2) _ h).1 in
      record {
        named = omega arith;
        valid = and-true (leb (count_of type_name before) dash) _ (counted type_name)
            (and-true (leb (parent_item w) dash) _ (swapped_small w (swap_fits no_parent dash w (omega arith) (omega arith) parent))
            (close_valid (get_or words 1 0 ∷ []) (and-true (is_word (get_or words 1 0)) true cells refl)));
        says = flat_says type_name words refl (type_read before words h);
      }

  event_sayable : (words : List ℕ) → event_words words ≡ true → Sayable before (row event_section words)
  unfolding bracket_of name_for items_of row_in
  event_sayable [] h = absurd (false≢true h)
  event_sayable (kind ∷ ws) h =
      let (all, more) = both (every is_word (kind ∷ ws)) _ (both (eqb (length (kind ∷ ws)) 4) _ h).1 in
      let known = ltb-true kind 7 (both (ltb kind 7) _ more).0 in
      let name = event_section + kind in
      let other : (n : ℕ) → n < event_section → eqb name n ≡ false = λ n l. ne_eqb name n (λ q. omega (arith, l, q)) in
      record {
        named = omega (arith, known);
        valid = close_valid (take (event_fields kind) ws) (some_words (event_fields kind) ws (both (is_word kind) _ all).1);
        says = flat_says event_section (kind ∷ ws) (other rule_name (omega arith)) (by_name name (items_of before event_section (kind ∷ ws)) other (le-leb first_event name (omega arith)) ∙ ap (λ k. event_in k (items_of before event_section (kind ∷ ws))) (omega arith) ∙ event_read before (kind ∷ ws) h);
      }
    where
      by_name : (name : ℕ) (is : List ℕ) → ((n : ℕ) → n < event_section → eqb name n ≡ false) → leb first_event name ≡ true → row_in before name is ≡ event_in (name - first_event) is
      by_name name is other l = rw (other type_name (omega arith), other floor_name (omega arith), other relationship_name (omega arith), other object_name (omega arith), other link_name (omega arith), l)

  row_sayable : (s : ℕ) (words : List ℕ) → row_fits before s words ≡ true → Sayable before (row s words)
  unfolding bracket_of name_for items_of row_in plain_in is_plain_line
  row_sayable s words h =
      by_section_lem before s words (λ s. Sayable before (row s words))
      (type_sayable words)
      (λ h. record { named = omega arith; valid = close_valid words (both (eqb (length words) 2) _ h).1; says = flat_says floor_name words refl (row_so (is_plain_line floor_table words) floor_name h refl) })
      (λ h. record { named = omega arith; valid = and-true (leb (count_of relationship_name before) dash) _ (counted relationship_name) (close_valid words (both (eqb (length words) 2) _ h).1); says = flat_says relationship_name words refl (relationship_read before words (few relationship_name) h) })
      (λ h. record { named = omega arith; valid = close_valid (items_of before object_name words) (some_words (2 + cells_in before (get_or words 1 0)) words (both (every is_word words) _ (both (eqb (length words) 10) _ h).1).0); says = flat_says object_name words refl (object_read before words h) })
      (λ h. record { named = omega arith; valid = close_valid words (both (eqb (length words) 3) _ h).1; says = flat_says link_name words refl (row_so (is_plain_line link_table words) link_name h refl) })
      (event_sayable words)
      h

  pub entry_sayable : (e : Entry) → sayable before e ≡ true → Sayable before e
  unfolding sayable bracket_of inside_in
  entry_sayable (row s words) h = row_sayable s words h
  entry_sayable (rule t body) h =
      let (word, well) = both (is_word t) (well_written body) h in
      record {
        named = omega arith;
        valid = and-true (leb (count_of rule_name before) dash) _ (counted rule_name)
            (and-true (leb t dash) _ (le-leb t dash (omega (arith, ltb-true t dash word)))
            (is_true (every valid_token (tokens_of body ++ end ∷ [])) (every_append valid_token (tokens_of body) (end ∷ []) (passes (every valid_token (tokens_of body)) (tokens_valid body well)) tt)));
        says = rule_read before t body h;
      }

-- ---- lines

order_so : (before : List Entry) (e : Entry) → leb (last_section 0 before) (section_of e) ≡ true → in_order before e ≡ some e
unfolding in_order
order_so before e h = ap (λ b. cond b (some e) none) h

order_if : (before : List Entry) (e f : Entry) → in_order before e ≡ some f → (leb (last_section 0 before) (section_of e) ≡ true) × (e ≡ f)
unfolding in_order
order_if before e f q = step (leb (last_section 0 before) (section_of e)) q
  where
    step : (b : Bool) → cond b (some e) none ≡ some f → (b ≡ true) × (e ≡ f)
    step true q = (refl, cc)
    step false q = absurd (none-ne-some f q)

-- a line is read as the entry that it spells
pub entry_read : (before : List Entry) (e : Entry) → length before < dash → leb (last_section 0 before) (section_of e) ≡ true → sayable before e ≡ true → entry_in before (spell_entry before e) ≡ some e
unfolding entry_in spell_entry bind
entry_read before e few ordered fits =
    let s = entry_sayable before (counts_few before few) e fits in
    ap (λ o. bind (bind o (inside_in before)) (in_order before)) (bracket_read (bracket_of before e) s.named s.valid)
    ∙ ap (λ o. bind o (in_order before)) s.says
    ∙ order_so before e ordered

-- a line that is read is the spelling of its entry, and of no other
pub record ReadFrom (before : List Entry) (line : List ℕ) (e : Entry) : Type 0 where
  pub spelling : spell_entry before e ≡ line
  pub fits : sayable before e ≡ true
  pub ordered : leb (last_section 0 before) (section_of e) ≡ true

pub entry_spelled : (before : List Entry) (line : List ℕ) (e : Entry) → entry_in before line ≡ some e → ReadFrom before line e
unfolding entry_in spell_entry
entry_spelled before line e q =
    let (f, inside, ordered) = bind_some (bind (bracket_in line) (inside_in before)) (in_order before) e q in
    let (b, found, said) = bind_some (bracket_in line) (inside_in before) f inside in
    let (order, same) = order_if before f e ordered in
    let s = inside_spelled before b f said in
    subst (λ e. ReadFrom before line e) same
    (record { spelling = ap spell_bracket s.bracket ∙ (bracket_spelled line b found).0; fits = s.fits; ordered = order })

-- a spelled line has no byte 10 in it
pub entry_inner : (before : List Entry) (e : Entry) → length before < dash → sayable before e ≡ true → every is_inner (spell_entry before e) ≡ true
unfolding spell_entry
entry_inner before e few fits = let s = entry_sayable before (counts_few before few) e fits in bracket_inner (bracket_of before e) s.named s.valid
