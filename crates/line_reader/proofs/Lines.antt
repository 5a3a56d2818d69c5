-- What a line says, by the code's steps: its bracket, a rule's number, context and body, and the order of sections.
use Prim.Native.Nat.{ℕ, suc, ◌+◌, ◌≤◌, ◌<◌}
use mathlib.Core.Path.{◌≡◌, refl, sym, ap, ap₂, subst, ◌∙◌}
use mathlib.Core.Bool.{Bool, true, false, ◌&&◌, cond}
use mathlib.Core.List.{List, [], ◌∷◌}
use mathlib.Core.Option.{Option as Maybe, none, some, bind, map}
use Rattle.std.specs.Prelude.{Option, Some, None, option_map}
use Rattle.std.proofs.lemmas.Option.{none-some, same_Some}
use native.Mathlib.Omega.{arith}
use lib.Dec.{eqb}
use lib.ListN.{length, get_or, drop}
use lib.Seq.{drop-drop}
use borrow.Author.Tests.{lt-leb, le-leb, eq-eqb, ne_eqb}
use Rattle.text.specs.Names.{rule_name, letters_in, place_of}
use Rattle.text.specs.Tokens.{Token, begin, item, end, is_word, Lexed, token_in, tokens_in, bracket_in}
use Rattle.text.specs.Bodies.{Formed, form_in}
use Rattle.text.specs.Entries.{Entry, rule, section_of, entry_words, count_of, last_section, items_in, row_in, only_end, body_in, rule_in, inside_in, in_order}
use Rattle.text.proofs.Tokens.{tokens_none, tokens_step}
use Rattle.tokens.specs.declared.ItemsFound.{ItemsFound}
use Rattle.tokens.specs.Tokens.{place_found, token_at, found_at, items_at}
use Rattle.brackets.specs.Steps.{body_held, body_at}
use Rattle.line_reader.specs.declared.line.ItemAt.{ItemAt}
use Rattle.line_reader.specs.declared.line.Row.{Row}
use Rattle.line_reader.specs.Rows.{row_with, row_held, item_of, flat_held, Follows}
use Rattle.line_reader.proofs.Flat.{says_none, says_items}

-- ---- the order of sections

pub order_none : (o : Maybe Entry) (before : List Entry) → None ≡ row_held o → None ≡ row_held (bind o (in_order before))
unfolding bind row_held
order_none none before h = refl
order_none (some e) before h = absurd (none-some _ h)

module _ (o : Maybe Entry) (before : List Entry) {held : Row} {section : ℕ} (is : Some held ≡ row_held o) (last : section ≡ last_section 0 before) where
  pub order_no : held.section < section → None ≡ row_held (bind o (in_order before))
  unfolding bind in_order row_held
  order_no h = step o is
    where
      step : (o : Maybe Entry) → Some held ≡ row_held o → None ≡ row_held (bind o (in_order before))
      step none q = refl
      step (some e) q = ap (λ b. row_held (cond b (some e) none)) (sym (lt-leb (last_section 0 before) (section_of e) (omega (arith, h, last, ap (λ (r : Row). r.section) (same_Some held _ q)))))

  pub order_is : section ≤ held.section → Some held ≡ row_held (bind o (in_order before))
  unfolding bind in_order row_held
  order_is h = step o is
    where
      step : (o : Maybe Entry) → Some held ≡ row_held o → Some held ≡ row_held (bind o (in_order before))
      step none q = q
      step (some e) q = q ∙ ap (λ b. row_held (cond b (some e) none)) (sym (le-leb (last_section 0 before) (section_of e) (omega (arith, h, last, ap (λ (r : Row). r.section) (same_Some held _ q)))))

-- ---- tokens one after the other

bind_map : {A B C : Type 0} (f : A → B) (g : B → Maybe C) (o : Maybe A) → bind (map f o) g ≡ bind o (λ a. g (f a))
unfolding bind
bind_map f g none = refl
bind_map f g (some a) = refl

bind_none : {A B : Type 0} (o : Maybe A) → bind {B = B} o (λ a. none) ≡ none
unfolding bind
bind_none none = refl
bind_none (some a) = refl

bind_bind : {A B C : Type 0} (o : Maybe A) (f : A → Maybe B) (g : B → Maybe C) → bind (bind o f) g ≡ bind o (λ a. bind (f a) g)
unfolding bind
bind_bind none f g = refl
bind_bind (some a) f g = refl

-- what the tokens of a text say, by its first token
module _ {A : Type 0} (l : List ℕ) (says : List Token → Maybe A) where
  -- where no token starts, and nothing is said of no token
  pub first_none : token_in l ≡ none → says [] ≡ none → bind (tokens_in l) says ≡ none
  unfolding bind
  first_none h e = step l h
    where
      step : (l : List ℕ) → token_in l ≡ none → bind (tokens_in l) says ≡ none
      step [] h = ap (λ o. bind o says) tokens_none ∙ e
      step (b ∷ l) h = ap (λ o. bind o says) (tokens_step (b ∷ l) (omega arith) ∙ ap (λ o. bind o (λ t. map (λ ts. t.token ∷ ts) (tokens_in (drop t.size (b ∷ l))))) h)

  pub first_some : (t : Lexed) → token_in l ≡ some t → bind (tokens_in l) says ≡ bind (tokens_in (drop t.size l)) (λ ts. says (t.token ∷ ts))
  unfolding bind token_in
  first_some t h = step l h
    where
      step : (l : List ℕ) → token_in l ≡ some t → bind (tokens_in l) says ≡ bind (tokens_in (drop t.size l)) (λ ts. says (t.token ∷ ts))
      step [] h = cc
      step (b ∷ l) h =
          ap (λ o. bind o says) (tokens_step (b ∷ l) (omega arith) ∙ ap (λ o. bind o (λ t. map (λ ts. t.token ∷ ts) (tokens_in (drop t.size (b ∷ l))))) h)
          ∙ bind_map (λ ts. t.token ∷ ts) says (tokens_in (drop t.size (b ∷ l)))

-- ---- a rule's line

-- the body's entry, as it is held, in any context
body_same : (t : ℕ) (o : Maybe (List Token)) → row_held (bind o (body_in t)) ≡ option_map (λ forms. row_with rule_name (t ∷ forms ∷ [])) (body_held (bind o (body_in 0)))
unfolding bind body_held row_held section_of entry_words body_in
body_same t none = refl
body_same t (some ts) = by_form (form_in (length ts) ts)
  where
    by_end : (f : Formed) (ended : Bool) → row_held (cond ended (some (rule t f.form)) none) ≡ option_map (λ forms. row_with rule_name (t ∷ forms ∷ [])) (body_held (cond ended (some (rule 0 f.form)) none))
    by_end f true = refl
    by_end f false = refl

    by_form : (o : Maybe Formed) → row_held (bind o (λ f. cond (only_end f.rest) (some (rule t f.form)) none))
        ≡ option_map (λ forms. row_with rule_name (t ∷ forms ∷ [])) (body_held (bind o (λ f. cond (only_end f.rest) (some (rule 0 f.form)) none)))
    by_form none = refl
    by_form (some f) = by_end f (only_end f.rest)

pub bind_nothing : {A B : Type 0} (o : Maybe A) (f : A → Maybe B) → ((a : A) → f a ≡ none) → bind o f ≡ none
unfolding bind
bind_nothing none f h = refl
bind_nothing (some a) f h = h a

-- the tokens from a place on, by the item there
module _ (line : List ℕ) (at : ℕ) (says : List Token → Maybe Entry) where
  abbrev here : Option ItemAt
  here = item_of (found_at at (token_in (drop at line)))

  pub not_item : here ≡ None → says [] ≡ none → ((k : ℕ) (ts : List Token) → says (begin k ∷ ts) ≡ none) → ((ts : List Token) → says (end ∷ ts) ≡ none) → bind (tokens_in (drop at line)) says ≡ none
  not_item h empty begins ends = step (token_in (drop at line)) refl h
    where
      by_token : (t : Lexed) (k : Token) → t.token ≡ k → token_in (drop at line) ≡ some t → item_of (Some (token_at at k t.size)) ≡ None → bind (tokens_in (drop at line)) says ≡ none
      by_token t (begin k) e q g = first_some (drop at line) says t q ∙ bind_nothing (tokens_in (drop t.size (drop at line))) (λ ts. says (t.token ∷ ts)) (λ ts. ap (λ x. says (x ∷ ts)) e ∙ begins k ts)
      by_token t (item v) e q g = absurd (none-some _ (sym g))
      by_token t end e q g = first_some (drop at line) says t q ∙ bind_nothing (tokens_in (drop t.size (drop at line))) (λ ts. says (t.token ∷ ts)) (λ ts. ap (λ x. says (x ∷ ts)) e ∙ ends ts)

      step : (o : Maybe Lexed) → token_in (drop at line) ≡ o → item_of (found_at at o) ≡ None → bind (tokens_in (drop at line)) says ≡ none
      step none q g = first_none (drop at line) says q empty
      step (some t) q g = by_token t t.token refl q g

  pub is_item : (i : ItemAt) → here ≡ Some i → bind (tokens_in (drop at line)) says ≡ bind (tokens_in (drop i.next line)) (λ ts. says (item i.value ∷ ts))
  is_item i h = step (token_in (drop at line)) refl h
    where
      Says : ItemAt → Type 0
      Says i = bind (tokens_in (drop at line)) says ≡ bind (tokens_in (drop i.next line)) (λ ts. says (item i.value ∷ ts))

      by_token : (t : Lexed) (k : Token) → t.token ≡ k → token_in (drop at line) ≡ some t → item_of (Some (token_at at k t.size)) ≡ Some i → Says i
      by_token t (begin k) e q g = absurd (none-some i g)
      by_token t (item v) e q g =
          subst Says (same_Some (record { value = v; next = at + t.size }) i g)
          (first_some (drop at line) says t q ∙ ap₂ (λ l x. bind (tokens_in l) (λ ts. says (x ∷ ts))) (drop-drop t.size at line) e)
      by_token t end e q g = absurd (none-some i g)

      step : (o : Maybe Lexed) → token_in (drop at line) ≡ o → item_of (found_at at o) ≡ Some i → Says i
      step none q g = absurd (none-some i g)
      step (some t) q g = by_token t t.token refl q g

-- a rule's number, its context and its body, one after the other
module _ (line : List ℕ) (at : ℕ) (before : List Entry) where
  abbrev rule_line : Maybe Entry
  rule_line = bind (tokens_in (drop at line)) (rule_in before)

  pub rule_no_number : None ≡ item_of (found_at at (token_in (drop at line))) → None ≡ row_held rule_line
  unfolding rule_in row_held
  rule_no_number h = sym (ap row_held (not_item line at (rule_in before) (sym h) refl (λ k ts. refl) (λ ts. refl)))

  module _ (number : ItemAt) (n_is : Some number ≡ item_of (found_at at (token_in (drop at line)))) where
    at_context : rule_line ≡ bind (tokens_in (drop number.next line)) (λ ts. rule_in before (item number.value ∷ ts))
    at_context = is_item line at (rule_in before) number (sym n_is)

    pub rule_no_context : None ≡ item_of (found_at number.next (token_in (drop number.next line))) → None ≡ row_held rule_line
    unfolding rule_in row_held
    rule_no_context h =
        sym (ap row_held (at_context ∙ not_item line number.next (λ ts. rule_in before (item number.value ∷ ts)) (sym h) refl (λ k ts. refl) (λ ts. refl)))

    module _ (context : ItemAt) (c_is : Some context ≡ item_of (found_at number.next (token_in (drop number.next line)))) where
      abbrev fits : Bool
      fits = eqb number.value (count_of rule_name before) && is_word context.value

      at_body : row_held rule_line ≡ cond fits (option_map (λ forms. row_with rule_name (context.value ∷ forms ∷ [])) (body_at (drop context.next line))) None
      unfolding rule_in body_at row_held
      at_body =
          ap row_held (at_context ∙ is_item line number.next (λ ts. rule_in before (item number.value ∷ ts)) context (sym c_is))
          ∙ by_test fits
        where
          by_test : (b : Bool) → row_held (bind (tokens_in (drop context.next line)) (λ ts. cond b (body_in context.value ts) none))
              ≡ cond b (option_map (λ forms. row_with rule_name (context.value ∷ forms ∷ [])) (body_held (bind (tokens_in (drop context.next line)) (body_in 0)))) None
          by_test true = body_same context.value (tokens_in (drop context.next line))
          by_test false = ap row_held (bind_nothing (tokens_in (drop context.next line)) (λ ts. none) (λ ts. refl))

      pub rule_no_body : None ≡ body_at (drop context.next line) → None ≡ row_held rule_line
      rule_no_body h = sym (at_body ∙ rw (← h) (by_test fits))
        where
          by_test : (b : Bool) → ◌≡◌ {A = Option Row} (cond b None None) None
          by_test true = refl
          by_test false = refl

      pub rule_unfit : fits ≡ false → None ≡ row_held rule_line
      rule_unfit h = sym (at_body ∙ rw h)

      pub rule_fit : {forms : ℕ} → Some forms ≡ body_at (drop context.next line) → fits ≡ true → Some (row_with rule_name (context.value ∷ forms ∷ [])) ≡ row_held rule_line
      rule_fit b_is h = sym (at_body ∙ rw (h, ← b_is))

-- ---- a line's bracket

place_some : (o : Maybe ℕ) (p : ℕ) → Some p ≡ place_found o → o ≡ some p
place_some none p q = absurd (none-some p (sym q))
place_some (some k) p q = ap some (sym (same_Some p k q))

place_none : (o : Maybe ℕ) → None ≡ place_found o → o ≡ none
place_none none q = refl
place_none (some k) q = absurd (none-some k q)

module _ (before : List Entry) where
  abbrev says : List ℕ → Maybe Entry
  says line = bind (bracket_in line) (inside_in before)

  pub says_empty : (line : List ℕ) → length line < 1 → None ≡ row_held (says line)
  unfolding bracket_in bind row_held
  says_empty [] h = refl
  says_empty (b ∷ l) h = absurd (omega (arith, h))

  pub says_other : (line : List ℕ) → 1 ≤ length line → (get_or line 0 0 ≡ 40 → ⊥) → None ≡ row_held (says line)
  unfolding bracket_in bind row_held
  says_other [] h q = absurd (omega (arith, h))
  says_other (b ∷ l) h q = ap (λ c. row_held (bind (cond c (bind (place_of (letters_in l)) (λ k. map (λ ts. record { name = k; tokens = ts }) (tokens_in (drop (length (letters_in l)) l)))) none) (inside_in before))) (sym (ne_eqb b 40 q))

  -- a line that starts with a bracket and a name
  module _ (line : List ℕ) (long : 1 ≤ length line) (opened : get_or line 0 0 ≡ 40) where
    pub named : says line ≡ bind (place_of (letters_in (drop 1 line))) (λ k. bind (tokens_in (drop (1 + length (letters_in (drop 1 line))) line)) (λ ts. inside_in before (record { name = k; tokens = ts })))
    unfolding bracket_in bind
    named = step line long opened
      where
        step : (line : List ℕ) → 1 ≤ length line → get_or line 0 0 ≡ 40 → says line ≡ bind (place_of (letters_in (drop 1 line))) (λ k. bind (tokens_in (drop (1 + length (letters_in (drop 1 line))) line)) (λ ts. inside_in before (record { name = k; tokens = ts })))
        step [] h q = absurd (omega (arith, h))
        step (b ∷ l) h q =
            let n = length (letters_in l) in
            let one_more : suc n ≡ 1 + n = omega arith in
            let after : drop n l ≡ drop (1 + n) (b ∷ l) = ap (λ k. drop k (b ∷ l)) one_more in
            ap (λ c. bind (cond c (bind (place_of (letters_in l)) (λ k. map (λ ts. record { name = k; tokens = ts }) (tokens_in (drop n l)))) none) (inside_in before)) (eq-eqb b 40 q)
            ∙ bind_bind (place_of (letters_in l)) (λ k. map (λ ts. record { name = k; tokens = ts }) (tokens_in (drop n l))) (inside_in before)
            ∙ by_place (place_of (letters_in l)) (tokens_in (drop n l))
            ∙ ap (λ t. bind (place_of (letters_in l)) (λ k. bind (tokens_in t) (λ ts. inside_in before (record { name = k; tokens = ts })))) after
          where
            by_place : (o : Maybe ℕ) (ts : Maybe (List Token)) → bind o (λ k. bind (map (λ ts. record { name = k; tokens = ts }) ts) (inside_in before)) ≡ bind o (λ k. bind ts (λ ts. inside_in before (record { name = k; tokens = ts })))
            by_place none ts = refl
            by_place (some k) ts = bind_map (λ ts. record { name = k; tokens = ts }) (inside_in before) ts

    pub says_unnamed : None ≡ place_found (place_of (letters_in (drop 1 line))) → None ≡ row_held (says line)
    unfolding bind row_held
    says_unnamed h = sym (ap row_held (named ∙ ap (λ o. bind o (λ k. bind (tokens_in (drop (1 + length (letters_in (drop 1 line))) line)) (λ ts. inside_in before (record { name = k; tokens = ts })))) (place_none (place_of (letters_in (drop 1 line))) h)))

    module _ {place stop : ℕ} (placed : Some place ≡ place_found (place_of (letters_in (drop 1 line)))) (ends : stop ≡ 1 + length (letters_in (drop 1 line))) where
      at_place : says line ≡ bind (tokens_in (drop stop line)) (λ ts. inside_in before (record { name = place; tokens = ts }))
      unfolding bind
      at_place =
          named
          ∙ ap (λ o. bind o (λ k. bind (tokens_in (drop (1 + length (letters_in (drop 1 line))) line)) (λ ts. inside_in before (record { name = k; tokens = ts })))) (place_some (place_of (letters_in (drop 1 line))) place placed)
          ∙ ap (λ n. bind (tokens_in (drop n line)) (λ ts. inside_in before (record { name = place; tokens = ts }))) (sym ends)

      pub says_rule : place ≡ rule_name → {r : Option Row} → r ≡ row_held (bind (tokens_in (drop stop line)) (rule_in before)) → r ≡ row_held (says line)
      unfolding inside_in
      says_rule q e = e ∙ sym (ap row_held (at_place ∙ ap (λ c. bind (tokens_in (drop stop line)) (λ ts. cond c (rule_in before ts) (bind (items_in ts) (λ is. row_in before place is)))) (eq-eqb place rule_name q)))

      module _ (other : place ≡ rule_name → ⊥) where
        at_items : row_held (says line) ≡ row_held (bind (bind (tokens_in (drop stop line)) items_in) (row_in before place))
        unfolding inside_in
        at_items =
            ap row_held (at_place ∙ ap (λ c. bind (tokens_in (drop stop line)) (λ ts. cond c (rule_in before ts) (bind (items_in ts) (λ is. row_in before place is)))) (ne_eqb place rule_name other))
            ∙ sym (ap row_held (bind_bind (tokens_in (drop stop line)) items_in (row_in before place)))

        pub says_no_items : None ≡ items_at (drop stop line) → None ≡ row_held (says line)
        unfolding items_at
        says_no_items h = says_none before (bind (tokens_in (drop stop line)) items_in) place h ∙ sym at_items

        pub says_flat : {types relationships rules : ℕ} {cells : List ℕ} {section : ℕ} → Follows before types relationships rules cells section → (items : ItemsFound) → Some items ≡ items_at (drop stop line)
            → {r : Option Row} → r ≡ flat_held items place types relationships cells → r ≡ row_held (says line)
        unfolding items_at
        says_flat f items h e = e ∙ says_items f (bind (tokens_in (drop stop line)) items_in) place items h ∙ sym at_items
