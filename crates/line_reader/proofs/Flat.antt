-- The row that the code holds of a line without an inner bracket is the row that the line says.
use Prim.Native.Nat.{ℕ, zero, suc, ◌+◌, ◌-◌, ◌^◌, ◌≤◌, ◌<◌}
use mathlib.Core.Path.{◌≡◌, refl, sym, ap, ap₂, ◌∙◌}
use mathlib.Core.Bool.{Bool, true, false, ◌&&◌, ◌||◌, cond}
use mathlib.Core.List.{List, [], ◌∷◌, ◌++◌}
use mathlib.Core.Option.{Option as Maybe, none, some, bind}
use Rattle.std.specs.Prelude.{Option, Some, None}
use Rattle.std.proofs.lemmas.Option.{none-some, same_Some}
use native.Mathlib.Omega.{arith}
use lib.Dec.{ltb, leb, eqb}
use lib.ListN.{length, get_or, drop, replicate}
use borrow.Author.Tests.{ltb-true, leb-true, leb-false, eqb-true, le-leb, ne_eqb}
use Rattle.meaning.specs.Lists.{every}
use Rattle.meaning.specs.Limits.{cell_count}
use Rattle.lexical.proofs.Runs.{both}
use Rattle.tables.specs.Layouts.{Layout, floor_table, link_table}
use Rattle.text.specs.Names.{type_name, floor_name, relationship_name, object_name, link_name, first_event}
use Rattle.text.specs.Tokens.{dash, is_word}
use Rattle.text.specs.Bodies.{padded}
use Rattle.text.specs.Entries.{Entry, section_of, entry_words, count_of, cells_in, event_section, parent_word, event_fields, row_if, is_type_line, type_in, is_relationship_line, relationship_in, is_object_line, object_in, is_plain_line, plain_in, is_event_line, event_in, row_in}
use Rattle.text.proofs.Entries.{fields_few, padded_length}
use Rattle.tokens.specs.Tokens.{max_items, items_held}
use Rattle.tokens.specs.declared.ItemsFound.{ItemsFound}
use Rattle.line_reader.specs.declared.line.Row.{Row}
use Rattle.line_reader.specs.Rows.{row_held, value_at, row_when, type_held, relationship_held, object_held, plain_held, event_held, flat_held, Follows}
use Rattle.line_reader.proofs.Rows.{padded_all}

and_left : (a b : Bool) → a ≡ false → (a && b) ≡ false
and_left a b h = ap (λ x. x && b) h

and_right : (a b : Bool) → b ≡ false → (a && b) ≡ false
and_right true b h = h
and_right false b h = refl

held_if : (fits : Bool) (s : ℕ) (words : List ℕ) → row_held (row_if fits s words) ≡ row_when fits s words
unfolding row_held section_of entry_words
held_if true s words = refl
held_if false s words = refl

when_same : (a b : Bool) (s : ℕ) (v w : List ℕ) → a ≡ b → (b ≡ true → v ≡ w) → row_when a s v ≡ row_when b s w
when_same a true s v w e h = ap₂ (λ c l. row_when c s l) e (h refl)
when_same a false s v w e h = ap (λ c. row_when c s v) e

pub value_padded : (is : List ℕ) (n k : ℕ) → get_or (is ++ replicate n 0) k 0 ≡ get_or is k 0
value_padded [] zero k = refl
value_padded [] (suc n) zero = refl
value_padded [] (suc n) (suc k) = value_padded [] n k
value_padded (x ∷ is) n zero = refl
value_padded (x ∷ is) n (suc k) = value_padded is n k

words_padded : (is : List ℕ) (n : ℕ) → every is_word (is ++ replicate n 0) ≡ every is_word is
words_padded [] zero = refl
words_padded [] (suc n) = words_padded [] n
words_padded (x ∷ is) n = ap (λ b. is_word x && b) (words_padded is n)

three_words : (is : List ℕ) → length is ≤ 3 → padded 3 is ≡ get_or is 0 0 ∷ get_or is 1 0 ∷ get_or is 2 0 ∷ []
three_words [] h = refl
three_words (a ∷ []) h = refl
three_words (a ∷ b ∷ []) h = refl
three_words (a ∷ b ∷ c ∷ []) h = refl
three_words (a ∷ b ∷ c ∷ d ∷ is) h = absurd (omega (arith, h))

just_three : (is : List ℕ) → length is ≡ 3 → is ≡ get_or is 0 0 ∷ get_or is 1 0 ∷ get_or is 2 0 ∷ []
just_three [] h = absurd (omega (arith, h))
just_three (a ∷ []) h = absurd (omega (arith, h))
just_three (a ∷ b ∷ []) h = absurd (omega (arith, h))
just_three (a ∷ b ∷ c ∷ []) h = refl
just_three (a ∷ b ∷ c ∷ d ∷ is) h = absurd (omega (arith, h))

-- ---- items that are held

abbrev held : List ℕ → ItemsFound
held is = record { count = length is; values = padded max_items is }

module _ (is : List ℕ) where
  value : (k : ℕ) → value_at (held is) k ≡ get_or is k 0
  value k = value_padded is (max_items - length is) k

  all_words : every is_word (padded max_items is) ≡ every is_word is
  all_words = words_padded is (max_items - length is)

  type_same : (before : List Entry) → type_held (held is) (count_of type_name before) ≡ row_held (type_in before is)
  unfolding type_held type_in is_type_line
  type_same before =
      when_same _ (is_type_line before is) type_name _ _
      (ap₂ (λ a r. eqb (length is) 3 && (eqb a (count_of type_name before) && r)) (value 0) (ap₂ (λ b c. (ltb b (2 ^ 31) || eqb b dash) && is_word c) (value 1) (value 2)))
      (λ h. ap₂ (λ b c. parent_word b ∷ c ∷ []) (value 1) (value 2))
      ∙ sym (held_if (is_type_line before is) type_name (parent_word (get_or is 1 0) ∷ get_or is 2 0 ∷ []))

  relationship_same : (before : List Entry) → relationship_held (held is) (count_of relationship_name before) ≡ row_held (relationship_in before is)
  unfolding relationship_held relationship_in is_relationship_line
  relationship_same before =
      when_same _ (is_relationship_line before is) relationship_name _ _
      (ap₂ (λ a r. eqb (length is) 3 && (eqb a (count_of relationship_name before) && r)) (value 0) all_words)
      (λ h. ap₂ (λ b c. b ∷ c ∷ []) (value 1) (value 2) ∙ sym (ap (drop 1) (just_three is (eqb-true (length is) 3 (both (eqb (length is) 3) _ h).0))))
      ∙ sym (held_if (is_relationship_line before is) relationship_name (drop 1 is))

  plain_same : (l : Layout) → l.width ≤ max_items → plain_held (held is) l.section l.width ≡ row_held (plain_in l is)
  unfolding plain_held plain_in is_plain_line
  plain_same l few =
      ap (λ r. row_when (eqb (length is) l.width && r) l.section (padded max_items is)) all_words
      ∙ once (is_plain_line l is) refl
      ∙ sym (held_if (is_plain_line l is) l.section is)
    where
      once : (b : Bool) → is_plain_line l is ≡ b → row_when b l.section (padded max_items is) ≡ row_when b l.section is
      once true h =
          let sized = eqb-true (length is) l.width (both (eqb (length is) l.width) _ h).0 in
          ap (λ words. Some (record { section = l.section; words = words })) (padded_all (padded max_items is) (padded_length max_items is (omega (arith, sized, few))))
      once false h = refl

  event_same : (kind : ℕ) → event_held (held is) kind ≡ row_held (event_in kind is)
  unfolding event_held event_in is_event_line
  event_same kind =
      when_same _ (is_event_line kind is) event_section _ _
      (ap (λ r. ltb kind 7 && (eqb (length is) (event_fields kind) && r)) all_words)
      (λ h. ap₂ (λ a r. kind ∷ a ∷ r) (value 0) (ap₂ (λ b c. b ∷ c ∷ []) (value 1) (value 2)) ∙ ap (λ l. kind ∷ l) (sym (three_words is (few h))))
      ∙ sym (held_if (is_event_line kind is) event_section (kind ∷ padded 3 is))
    where
      few : is_event_line kind is ≡ true → length is ≤ 3
      few h = let sized = eqb-true (length is) (event_fields kind) (both (eqb (length is) (event_fields kind)) _ (both (ltb kind 7) _ h).1).0 in omega (arith, sized, fields_few kind)

  object_same : (before : List Entry) (types : ℕ) (cells : List ℕ) → types ≡ count_of type_name before → ((t : ℕ) → t < types → get_or cells t 0 ≡ cells_in before t) → object_held (held is) types cells ≡ row_held (object_in before is)
  unfolding object_held object_in is_object_line
  object_same before types cells counted same =
      when_same _ (is_object_line before is) object_name (padded 10 is) (padded 10 is)
      (ap₂ (λ a r. leb 2 (length is) && (a && r)) all_words
      (ap (λ t. ltb t types && (leb (get_or cells t 0) cell_count && eqb (length is) (2 + get_or cells t 0))) (value 1)
      ∙ by_type (get_or is 1 0) (ltb (get_or is 1 0) types) refl
      ∙ ap (λ n. ltb (get_or is 1 0) n && (leb (cells_in before (get_or is 1 0)) cell_count && eqb (length is) (2 + cells_in before (get_or is 1 0)))) counted))
      (λ h. refl)
      ∙ sym (held_if (is_object_line before is) object_name (padded 10 is))
    where
      by_type : (t : ℕ) (b : Bool) → ltb t types ≡ b → (ltb t types && (leb (get_or cells t 0) cell_count && eqb (length is) (2 + get_or cells t 0))) ≡ (ltb t types && (leb (cells_in before t) cell_count && eqb (length is) (2 + cells_in before t)))
      by_type t true e = ap (λ n. ltb t types && (leb n cell_count && eqb (length is) (2 + n))) (same t (ltb-true t types e))
      by_type t false e = and_left (ltb t types) _ e ∙ sym (and_left (ltb t types) _ e)

-- ---- a line of too many items

either : {A : Type 0} {x y z : A} (b : Bool) → x ≡ z → y ≡ z → cond b x y ≡ z
either true p q = p
either false p q = q

too_many : (n : ℕ) (is : List ℕ) → 10 < length is → n ≤ 10 → eqb (length is) n ≡ false
too_many n is long few = ne_eqb (length is) n (λ q. omega (arith, long, few, q))

row_none : {fits : Bool} (s : ℕ) (words : List ℕ) → fits ≡ false → row_if fits s words ≡ none
row_none s words h = ap (λ b. row_if b s words) h

module _ (before : List Entry) (is : List ℕ) (long : 10 < length is) where
  type_long : type_in before is ≡ none
  unfolding type_in is_type_line
  type_long = row_none type_name _ (and_left (eqb (length is) 3) _ (too_many 3 is long (omega arith)))

  relationship_long : relationship_in before is ≡ none
  unfolding relationship_in is_relationship_line
  relationship_long = row_none relationship_name _ (and_left (eqb (length is) 3) _ (too_many 3 is long (omega arith)))

  plain_long : (l : Layout) → l.width ≤ 10 → plain_in l is ≡ none
  unfolding plain_in is_plain_line
  plain_long l few = row_none l.section _ (and_left (eqb (length is) l.width) _ (too_many l.width is long few))

  event_long : (kind : ℕ) → event_in kind is ≡ none
  unfolding event_in is_event_line
  event_long kind = row_none event_section _ (and_right (ltb kind 7) _ (and_left (eqb (length is) (event_fields kind)) _ (too_many (event_fields kind) is long (omega (arith, fields_few kind)))))

  object_long : object_in before is ≡ none
  unfolding object_in is_object_line
  object_long = row_none object_name _ (and_right (leb 2 (length is)) _ (and_right (every is_word is) _ (and_right (ltb (get_or is 1 0) (count_of type_name before)) _ (sized (cells_in before (get_or is 1 0))))))
    where
      sized : (n : ℕ) → (leb n cell_count && eqb (length is) (2 + n)) ≡ false
      sized n = step (leb n cell_count) refl
        where
          step : (b : Bool) → leb n cell_count ≡ b → (b && eqb (length is) (2 + n)) ≡ false
          step true e = too_many (2 + n) is long (omega (arith, leb-true n cell_count e))
          step false e = refl

  row_long : (name : ℕ) → row_in before name is ≡ none
  unfolding row_in
  row_long name =
      either (eqb name type_name) type_long
      (either (eqb name floor_name) (plain_long floor_table (omega arith))
      (either (eqb name relationship_name) relationship_long
      (either (eqb name object_name) object_long
      (either (eqb name link_name) (plain_long link_table (omega arith))
      (either (leb first_event name) (event_long (name - first_event)) refl)))))

-- ---- the row of a line

pub flat_event : (items : ItemsFound) (name types relationships : ℕ) (cells : List ℕ) → first_event ≤ name → event_held items (name - first_event) ≡ flat_held items name types relationships cells
unfolding flat_held
flat_event items name types relationships cells h =
    let other : (n : ℕ) → n < first_event → eqb name n ≡ false = λ n l. ne_eqb name n (λ q. omega (arith, h, l, q)) in
    rw (other type_name (omega arith), other floor_name (omega arith), other relationship_name (omega arith), other object_name (omega arith), other link_name (omega arith), le-leb first_event name h)

cond_held : (b : Bool) {x y : Option Row} (o p : Maybe Entry) → x ≡ row_held o → y ≡ row_held p → cond b x y ≡ row_held (cond b o p)
cond_held true o p h g = h
cond_held false o p h g = g

-- the items of a line, where they are not as many as may be held
pub says_none : (before : List Entry) (o : Maybe (List ℕ)) (name : ℕ) → None ≡ items_held o → None ≡ row_held (bind o (row_in before name))
unfolding items_held row_held bind
says_none before none name h = refl
says_none before (some is) name h = step (leb (length is) max_items) refl h
  where
    step : (b : Bool) → leb (length is) max_items ≡ b → None ≡ cond b (Some (held is)) None → None ≡ row_held (row_in before name is)
    step true e h = absurd (none-some _ h)
    step false e h = ap row_held (sym (row_long before is (leb-false (length is) max_items e) name))

-- and where they are
pub says_items : {before : List Entry} {types relationships rules : ℕ} {cells : List ℕ} {section : ℕ} → Follows before types relationships rules cells section → (o : Maybe (List ℕ)) (name : ℕ) (items : ItemsFound) → Some items ≡ items_held o
    → flat_held items name types relationships cells ≡ row_held (bind o (row_in before name))
unfolding items_held row_held bind flat_held row_in
says_items f none name items h = absurd (none-some items (sym h))
says_items {before} {types} {relationships} {rules} {cells} f (some is) name items h = step (leb (length is) max_items) h
  where
    by_name : flat_held (held is) name types relationships cells ≡ row_held (row_in before name is)
    by_name =
        cond_held (eqb name type_name) _ _ (ap (type_held (held is)) f.types_are ∙ type_same is before)
        (cond_held (eqb name floor_name) _ _ (plain_same is floor_table (omega arith))
        (cond_held (eqb name relationship_name) _ _ (ap (relationship_held (held is)) f.relationships_are ∙ relationship_same is before)
        (cond_held (eqb name object_name) _ _ (object_same is before types cells f.types_are f.cells_are)
        (cond_held (eqb name link_name) _ _ (plain_same is link_table (omega arith))
        (cond_held (leb first_event name) _ _ (event_same is (name - first_event)) refl)))))

    step : (b : Bool) → Some items ≡ cond b (Some (held is)) None → flat_held items name types relationships cells ≡ row_held (row_in before name is)
    step true h = ap (λ i. flat_held i name types relationships cells) (same_Some items (held is) h) ∙ by_name
    step false h = absurd (none-some items (sym h))
