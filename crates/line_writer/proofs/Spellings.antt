-- The spelling of a line by its pieces.
use Prim.Native.Nat.{ℕ, ◌+◌, ◌^◌, ◌≤◌, ◌<◌}
use mathlib.Core.Path.{◌≡◌, refl, sym, ap, ap₂, ◌∙◌}
use mathlib.Core.List.{List, [], ◌∷◌, ◌++◌, map, map-append, append_assoc, append-nil}
use native.Mathlib.Numerals.{add-one}
use native.Mathlib.Omega.{arith}
use borrow.Author.Tests.{ne_eqb}
use lib.ListN.{length, get_or, take, drop, length-drop}
use lib.Seq.{take-suc, get_or-drop}
use lib.Dec.{leb}
use mir.Facts.{leb_yes}
use Rattle.meaning.proofs.Lists.{every_get_d}
use Rattle.rows.specs.Rows.{signed}
use Rattle.lexical.specs.Decimals.{decimal_of}
use Rattle.text.specs.Names.{name_of}
use Rattle.text.specs.Tokens.{Token, item, end, spell_item, spell_token, spell_tokens, spell_bracket}
use Rattle.text.specs.Bodies.{closing}
use Rattle.text.specs.Entries.{parent_item, event_fields}
use Rattle.line_writer.specs.Lines.{spell_items, spell_closing, row_line}

pub tokens_both : (ts us : List Token) → spell_tokens (ts ++ us) ≡ spell_tokens ts ++ spell_tokens us
unfolding spell_tokens
tokens_both [] us = refl
tokens_both (t ∷ ts) us = ap (λ l. spell_token t ++ l) (tokens_both ts us) ∙ sym (append_assoc (spell_token t) (spell_tokens ts) (spell_tokens us))

pub tokens_one : (t : Token) → spell_tokens (t ∷ []) ≡ spell_token t
unfolding spell_tokens
tokens_one t = append-nil (spell_token t)

pub items_none : spell_items [] ≡ []
unfolding spell_items spell_tokens
items_none = refl

pub items_both : (is js : List ℕ) → spell_items (is ++ js) ≡ spell_items is ++ spell_items js
unfolding spell_items
items_both is js = ap spell_tokens (map-append item is js) ∙ tokens_both (map item is) (map item js)

pub items_one : (v : ℕ) → spell_items (v ∷ []) ≡ spell_token (item v)
unfolding spell_items
items_one v = tokens_one (item v)

-- a turn of the loop over the words of a table
pub items_more : (t : List ℕ) (from i : ℕ) → from + i < length t → spell_items (take i (drop from t)) ++ spell_token (item (get_or t (from + i) 0)) ≡ spell_items (take (i + 1) (drop from t))
items_more t from i h =
    let l = drop from t in
    let short : i < length l = rw length-drop (omega arith) in
    ap (λ s. spell_items (take i l) ++ s) (sym (items_one (get_or t (from + i) 0)))
    ∙ sym (items_both (take i l) (get_or t (from + i) 0 ∷ []))
    ∙ ap spell_items (rw add-one (sym (take-suc l i 0 short ∙ rw get_or-drop)))

-- items and the closed bracket
pub closing_is : (is : List ℕ) → spell_closing is ≡ spell_items is ++ 41 ∷ []
unfolding spell_closing spell_items spell_token
closing_is is = tokens_both (map item is) (end ∷ []) ∙ ap (λ s. spell_tokens (map item is) ++ s) (tokens_one end)

-- a line by its name, its items and its end
pub row_line_lem : (name : ℕ) (is : List ℕ) → ((40 ∷ name_of name) ++ spell_items is) ++ 41 ∷ 10 ∷ [] ≡ row_line name is
unfolding row_line spell_bracket spell_items spell_token
row_line_lem name is =
    append_assoc (40 ∷ name_of name) (spell_items is) (41 ∷ 10 ∷ [])
    ∙ sym (append_assoc (40 ∷ name_of name) (spell_tokens (closing is)) (10 ∷ []) ∙ ap (λ s. (40 ∷ name_of name) ++ s) (ap (λ s. s ++ 10 ∷ []) (tokens_both (map item is) (end ∷ []) ∙ ap (λ s. spell_tokens (map item is) ++ s) (tokens_one end)) ∙ append_assoc (spell_tokens (map item is)) (41 ∷ []) (10 ∷ [])))

-- ---- a number and a parent, each after a space

pub number_token : (w : ℕ) → w < 2 ^ 32 → (32 ∷ []) ++ decimal_of (signed w) ≡ spell_token (item w)
unfolding spell_token spell_item
number_token w h = rw (ne_eqb w (2 ^ 32) (λ e. omega arith))

pub no_parent_lem : (w : ℕ) → w ≡ 4294967295 → 32 ∷ 45 ∷ [] ≡ spell_token (item (parent_item w))
unfolding spell_token spell_item
no_parent_lem w e = rw e

pub some_parent : (w : ℕ) → (w ≡ 4294967295 → ⊥) → spell_token (item w) ≡ spell_token (item (parent_item w))
some_parent w d = rw (ne_eqb w 4294967295 d)

-- ---- a line of three items

pub three_line : (name i j k : ℕ) → ((((40 ∷ name_of name) ++ spell_token (item i)) ++ spell_token (item j)) ++ spell_token (item k)) ++ 41 ∷ 10 ∷ [] ≡ row_line name (i ∷ j ∷ k ∷ [])
three_line name i j k =
    let n : List ℕ = 40 ∷ name_of name in
    let x = spell_token (item i) in
    let y = spell_token (item j) in
    let z = spell_token (item k) in
    let all : spell_items (i ∷ j ∷ k ∷ []) ≡ x ++ (y ++ z) = items_both (i ∷ []) (j ∷ k ∷ []) ∙ ap₂ (λ s t. s ++ t) (items_one i) (items_both (j ∷ []) (k ∷ []) ∙ ap₂ (λ s t. s ++ t) (items_one j) (items_one k)) in
    ap (λ s. s ++ 41 ∷ 10 ∷ []) (append_assoc (n ++ x) y z ∙ append_assoc n x (y ++ z) ∙ ap (λ s. n ++ s) (sym all))
    ∙ row_line_lem name (i ∷ j ∷ k ∷ [])

-- ---- fields of a body's row, and the closed bracket

pub closing_none : (n x y : ℕ) → n ≡ 0 → 41 ∷ [] ≡ spell_closing (take n (x ∷ y ∷ []))
closing_none n x y e = rw e (sym (closing_is [] ∙ rw items_none))

pub closing_one : (n x y : ℕ) → n ≡ 1 → spell_token (item x) ++ 41 ∷ [] ≡ spell_closing (take n (x ∷ y ∷ []))
closing_one n x y e = rw e (sym (closing_is (x ∷ []) ∙ rw items_one))

pub closing_two : (n x y : ℕ) → n ≡ 2 → (spell_token (item x) ++ spell_token (item y)) ++ 41 ∷ [] ≡ spell_closing (take n (x ∷ y ∷ []))
closing_two n x y e =
    rw e (sym (closing_is (x ∷ y ∷ []) ∙ ap (λ s. s ++ 41 ∷ []) (items_both (x ∷ []) (y ∷ []) ∙ ap₂ (λ s t. s ++ t) (items_one x) (items_one y))))

-- an event has at most three fields
pub few_fields : (k : ℕ) → event_fields k ≤ 3
unfolding event_fields
few_fields k = leb_yes (every_get_d (λ n. leb n 3) (2 ∷ 1 ∷ 3 ∷ 3 ∷ 3 ∷ 2 ∷ 2 ∷ []) k 0 tt tt)
