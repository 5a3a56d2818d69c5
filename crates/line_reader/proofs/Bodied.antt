-- The body of a rule's line: where it stands, and that it is whole.
use Prim.Native.Nat.{ℕ, ◌+◌, ◌-◌, ◌≤◌}
use mathlib.Core.Path.{◌≡◌, refl, sym, ap, subst, ◌∙◌}
use mathlib.Core.Bool.{Bool, true, false, ◌&&◌, cond, false≢true}
use mathlib.Core.List.{List, [], ◌∷◌}
use Rattle.std.specs.Prelude.{Option, Some, None}
use Rattle.std.proofs.lemmas.Option.{none-some}
use mathlib.Core.Option.{Option as Maybe, none, some, bind, none-ne-some}
use native.Mathlib.Omega.{arith}
use lib.Dec.{eqb, leb}
use lib.ListN.{length, get_or, drop}
use borrow.Author.Tests.{eqb-true, eqb-false}
use Rattle.meaning.specs.Limits.{max_forms, cell_count}
use Rattle.tables.specs.Layouts.{floor_table, link_table}
use Rattle.text.specs.Names.{rule_name, type_name, floor_name, relationship_name, object_name, link_name, first_event, letters_in, place_of}
use Rattle.text.specs.Tokens.{Token, begin, item, end, is_word, token_in, tokens_in, bracket_in}
use Rattle.text.specs.Bodies.{Written, forms_in, padded, form_in}
use Rattle.text.specs.Entries.{Entry, row, rule, section_of, count_of, last_section, items_in, row_if, event_section, parent_word, is_type_line, is_relationship_line, is_object_line, is_plain_line, is_event_line, type_in, relationship_in, object_in, plain_in, event_in, row_in, only_end, body_in, rule_in, inside_in, in_order, entry_in}
use Rattle.tokens.specs.Tokens.{found_at}
use Rattle.brackets.specs.Whole.{WholeBody}
use Rattle.line_reader.specs.declared.line.ItemAt.{ItemAt}
use Rattle.line_reader.specs.Rows.{row_held, item_of, next_of, next_after, body_place}
use Rattle.line_reader.proofs.Lines.{bind_nothing, not_item, is_item, says_empty, says_other, named}

bind_some : {A B : Type 0} (o : Maybe A) (f : A → Maybe B) (b : B) → bind o f ≡ some b → (a : A) × (o ≡ some a) × (f a ≡ some b)
unfolding bind
bind_some none f b e = absurd (none-ne-some b e)
bind_some (some a) f b e = (a, refl, e)

not_none : {A : Type 0} (a : A) {o : Maybe A} → o ≡ none → o ≡ some a → ⊥
not_none a p q = none-ne-some a (sym p ∙ q)

order_same : (before : List Entry) (e f : Entry) → in_order before e ≡ some f → e ≡ f
unfolding in_order
order_same before e f q = step (leb (last_section 0 before) (section_of e)) q
  where
    step : (b : Bool) → cond b (some e) none ≡ some f → e ≡ f
    step true q = cc
    step false q = absurd (none-ne-some f q)

-- ---- a row is no rule

module _ (t : ℕ) (w : Written) where
  abbrev is_row : Maybe Entry → Bool
  is_row none = true
  is_row (some (row s words)) = true
  is_row (some (rule c b)) = false

  if_no : (b : Bool) (s : ℕ) (words : List ℕ) → is_row (row_if b s words) ≡ true
  if_no true s words = refl
  if_no false s words = refl

  one_of : (b : Bool) (x y : Maybe Entry) → is_row x ≡ true → is_row y ≡ true → is_row (cond b x y) ≡ true
  one_of true x y p q = p
  one_of false x y p q = q

  rows_only : (before : List Entry) (name : ℕ) (is : List ℕ) → is_row (row_in before name is) ≡ true
  unfolding row_in type_in relationship_in object_in plain_in event_in
  rows_only before name is =
      one_of (eqb name type_name) (type_in before is) _ (if_no (is_type_line before is) type_name (parent_word (get_or is 1 0) ∷ get_or is 2 0 ∷ []))
      (one_of (eqb name floor_name) (plain_in floor_table is) _ (if_no (is_plain_line floor_table is) floor_name is)
      (one_of (eqb name relationship_name) (relationship_in before is) _ (if_no (is_relationship_line before is) relationship_name (drop 1 is))
      (one_of (eqb name object_name) (object_in before is) _ (if_no (is_object_line before is) object_name (padded (2 + cell_count) is))
      (one_of (eqb name link_name) (plain_in link_table is) _ (if_no (is_plain_line link_table is) link_name is)
      (one_of (leb first_event name) (event_in (name - first_event) is) none (if_no (is_event_line (name - first_event) is) event_section ((name - first_event) ∷ padded 3 is)) refl)))))

  row_no_rule : (before : List Entry) (name : ℕ) (is : List ℕ) → row_in before name is ≡ some (rule t w) → ⊥
  row_no_rule before name is q = false≢true (sym (ap is_row q) ∙ rows_only before name is)

-- ---- the body

body_context : (c : ℕ) (ts : List Token) (t : ℕ) (w : Written) → body_in c ts ≡ some (rule t w) → c ≡ t
unfolding body_in
body_context c ts t w q =
    let (f, formed, ended) = bind_some (form_in (length ts) ts) (λ f. cond (only_end f.rest) (some (rule c f.form)) none) (rule t w) q in
    step (only_end f.rest) f.form ended
  where
    step : (b : Bool) (form : Written) → cond b (some (rule c form)) none ≡ some (rule t w) → c ≡ t
    step true form q = cc
    step false form q = absurd (none-ne-some (rule t w) q)

module _ (before : List Entry) (line : List ℕ) (t : ℕ) (w : Written) where
  -- an item stands where nothing is said of other tokens
  item_there : (at : ℕ) (says : List Token → Maybe Entry) → bind (tokens_in (drop at line)) says ≡ some (rule t w) → says [] ≡ none → ((k : ℕ) (ts : List Token) → says (begin k ∷ ts) ≡ none) → ((ts : List Token) → says (end ∷ ts) ≡ none)
      → (i : ItemAt) × (item_of (found_at at (token_in (drop at line))) ≡ Some i) × (bind (tokens_in (drop i.next line)) (λ ts. says (item i.value ∷ ts)) ≡ some (rule t w))
  item_there at says q empty begins ends = step (item_of (found_at at (token_in (drop at line)))) refl
    where
      step : (o : Option ItemAt) → item_of (found_at at (token_in (drop at line))) ≡ o
          → (i : ItemAt) × (item_of (found_at at (token_in (drop at line))) ≡ Some i) × (bind (tokens_in (drop i.next line)) (λ ts. says (item i.value ∷ ts)) ≡ some (rule t w))
      step None h = absurd (not_none (rule t w) (not_item line at says h empty begins ends) q)
      step (Some i) h = (i, h, sym (is_item line at says i h) ∙ q)

  -- a rule's body, after its number and its context
  pub body_read : (at : ℕ) → bind (tokens_in (drop at line)) (rule_in before) ≡ some (rule t w) → bind (tokens_in (drop (next_after line (next_after line at)) line)) (body_in t) ≡ some (rule t w)
  unfolding rule_in
  body_read at q =
      let (number, n_is, at_context) = item_there at (rule_in before) q refl (λ k ts. refl) (λ ts. refl) in
      let (context, c_is, at_body) = item_there number.next (λ ts. rule_in before (item number.value ∷ ts)) at_context refl (λ k ts. refl) (λ ts. refl) in
      let first : next_after line at ≡ number.next = ap next_of n_is in
      let second : next_after line number.next ≡ context.next = ap next_of c_is in
      let body = in_context context (eqb number.value (count_of rule_name before) && is_word context.value) at_body in
      let (ts, found, said) = bind_some (tokens_in (drop context.next line)) (body_in context.value) (rule t w) body in
      rw (first, second) (subst (λ c. bind (tokens_in (drop context.next line)) (body_in c) ≡ some (rule t w)) (body_context context.value ts t w said) body)
    where
      in_context : (context : ItemAt) (b : Bool) → bind (tokens_in (drop context.next line)) (λ ts. cond b (body_in context.value ts) none) ≡ some (rule t w) → bind (tokens_in (drop context.next line)) (body_in context.value) ≡ some (rule t w)
      in_context context true r = r
      in_context context false r = absurd (not_none (rule t w) (bind_nothing (tokens_in (drop context.next line)) (λ ts. none) (λ ts. refl)) r)

  module _ (q : bind (bracket_in line) (inside_in before) ≡ some (rule t w)) where
    no_row_lem : None ≡ row_held (bind (bracket_in line) (inside_in before)) → ⊥
    unfolding row_held
    no_row_lem r = none-some _ (r ∙ ap row_held q)

    long : 1 ≤ length line
    long = step line refl
      where
        step : (l : List ℕ) → line ≡ l → 1 ≤ length line
        step [] e = absurd (no_row_lem (says_empty before line (omega (arith, ap length e))))
        step (b ∷ l) e = omega (arith, ap length e)

    opened : get_or line 0 0 ≡ 40
    opened = step (eqb (get_or line 0 0) 40) refl
      where
        step : (b : Bool) → eqb (get_or line 0 0) 40 ≡ b → get_or line 0 0 ≡ 40
        step true e = eqb-true (get_or line 0 0) 40 e
        step false e = absurd (no_row_lem (says_other before line long (eqb-false (get_or line 0 0) 40 e)))

    abbrev after : ℕ
    after = 1 + length (letters_in (drop 1 line))

    at_rule : bind (tokens_in (drop after line)) (rule_in before) ≡ some (rule t w)
    unfolding inside_in
    at_rule =
        let (k, place, said) = bind_some (place_of (letters_in (drop 1 line))) (λ k. bind (tokens_in (drop after line)) (λ ts. inside_in before (record { name = k; tokens = ts }))) (rule t w) (sym (named before line long opened) ∙ q) in
        step k (eqb k rule_name) said
      where
        step : (k : ℕ) (b : Bool) → bind (tokens_in (drop after line)) (λ ts. cond b (rule_in before ts) (bind (items_in ts) (λ is. row_in before k is))) ≡ some (rule t w) → bind (tokens_in (drop after line)) (rule_in before) ≡ some (rule t w)
        step k true r = r
        step k false r =
            let (ts, found, said) = bind_some (tokens_in (drop after line)) (λ ts. bind (items_in ts) (λ is. row_in before k is)) (rule t w) r in
            let (is, items, row_is) = bind_some (items_in ts) (λ is. row_in before k is) (rule t w) said in
            absurd (row_no_rule t w before k is row_is)

  pub whole_body_lem : entry_in before line ≡ some (rule t w) → forms_in w ≤ max_forms → WholeBody (drop (body_place line) line) t w
  unfolding entry_in body_place
  whole_body_lem q few =
      let (f, inside, ordered) = bind_some (bind (bracket_in line) (inside_in before)) (in_order before) (rule t w) q in
      record { read = body_read (1 + length (letters_in (drop 1 line))) (at_rule (inside ∙ ap some (order_same before f (rule t w) ordered))); few = few }
