-- The token at a place of a line, by its first bytes; what follows it.
use Prim.Native.Nat.{ℕ, suc, ◌+◌, ◌-◌, ◌≤◌, ◌<◌}
use mathlib.Core.Path.{◌≡◌, refl, sym, ap, ap₂, subst, ◌∙◌}
use mathlib.Core.Logic.{◌⊎◌, inl, inr}
use mathlib.Core.Bool.{Bool, true, false, cond}
use mathlib.Core.List.{List, [], ◌∷◌}
use Rattle.std.specs.Prelude.{Some, None}
use Rattle.std.proofs.lemmas.Option.{same_Some, none-some}
use mathlib.Core.Option.{Option as Maybe, none, some, bind, map, none-ne-some, some-injective, map-eq-some_iff}
use native.Mathlib.Numerals.{add-one}
use native.Mathlib.Omega.{arith}
use lib.Dec.{eqb}
use lib.ListN.{length, get_or, drop, drop_of_length-le, length-drop}
use lib.Seq.{drop-cons, drop-drop}
use Rattle.rows.specs.Rows.{word_of}
use Rattle.lexical.specs.Decimals.{Numeral, number_in, number_at}
use Rattle.lexical.specs.declared.Number.{Number}
use Rattle.lexical.proofs.Runs.{run_within}
use Rattle.text.specs.Names.{is_letter, letters_in, place_of}
use Rattle.text.specs.Tokens.{Token, begin, item, end, dash, Lexed, lexed, dash_in, item_or, after_space, token_in, tokens_in}
use Rattle.text.proofs.Tokens.{tokens_none, tokens_step}
use Rattle.tokens.specs.declared.Found.{Found}
use Rattle.tokens.specs.declared.Found.TheVariants.{Begin, Item, End}
use Rattle.tokens.specs.Tokens.{place_found, token_at, found_at}
use Rattle.tokens.proofs.Names.{name_size}

-- ---- by the first byte

module _ (t : List ℕ) (i : ℕ) (h : i < length t) where
  pub token_at_lem : token_in (drop i t) ≡ cond (eqb (get_or t i 0) 41) (some (lexed end 1)) (cond (eqb (get_or t i 0) 32) (after_space (drop (i + 1) t)) none)
  unfolding token_in
  token_at_lem = rw (add-one, drop-cons t i 0)

  pub after_at : after_space (drop i t)
      ≡ cond (eqb (get_or t i 0) 40)
      (map (λ k. lexed (begin k) (2 + length (letters_in (drop (i + 1) t)))) (place_of (letters_in (drop (i + 1) t))))
      (item_or (number_in (drop i t)) (dash_in (drop i t)))
  unfolding after_space
  after_at = rw (add-one, drop-cons t i 0)

  pub dash_at : dash_in (drop i t) ≡ cond (eqb (get_or t i 0) 45) (some (lexed (item dash) 2)) none
  unfolding dash_in
  dash_at = rw (drop-cons t i 0)

pub token_past : (t : List ℕ) (i : ℕ) → length t ≤ i → token_in (drop i t) ≡ none
unfolding token_in
token_past t i h = rw (drop_of_length-le t h)

pub after_past : (t : List ℕ) (i : ℕ) → length t ≤ i → after_space (drop i t) ≡ none
unfolding after_space
after_past t i h = rw (drop_of_length-le t h)

-- ---- a bracket's name

abbrev opening : List ℕ → Maybe ℕ → Maybe Lexed
opening l o = map (λ k. lexed (begin k) (2 + length l)) o

pub named : (l : List ℕ) (at place next : ℕ) → Some place ≡ place_found (place_of l) → next ≡ at + (2 + length l)
    → Some (Begin place next) ≡ found_at at (opening l (place_of l))
named l at place next p n = go (place_of l) p
  where
    go : (o : Maybe ℕ) → Some place ≡ place_found o → Some (Begin place next) ≡ found_at at (opening l o)
    go none q = absurd (none-some place (sym q))
    go (some k) q = ap₂ (λ (k next : ℕ). Some (Begin k next)) (same_Some place k q) n

pub unnamed : (l : List ℕ) (at : ℕ) → None ≡ place_found (place_of l) → found_at at (opening l (place_of l)) ≡ None
unnamed l at p = go (place_of l) p
  where
    go : (o : Maybe ℕ) → None ≡ place_found o → found_at at (opening l o) ≡ None
    go none q = refl
    go (some k) q = absurd (none-some k q)

-- ---- an item

pub number_read : (at : ℕ) (n : Number) (o : Maybe Numeral) (d : Maybe Lexed) → number_at (at + 1) o ≡ Some n → Some (Item n.word n.next) ≡ found_at at (item_or o d)
unfolding item_or
number_read at n none d e = absurd (none-some n e)
number_read at n (some m) d e =
    let same = same_Some _ n e in
    let word : n.word ≡ word_of m.value = ap (λ (x : Number). x.word) (sym same) in
    let next : n.next ≡ at + 1 + m.size = ap (λ (x : Number). x.next) (sym same) in
    ap₂ (λ (word next : ℕ). Some (Item word next)) word (omega arith)

pub number_unread : (at : ℕ) (o : Maybe Numeral) (d : Maybe Lexed) → number_at (at + 1) o ≡ None → item_or o d ≡ d
unfolding item_or
number_unread at none d e = refl
number_unread at (some n) d e = absurd (none-some _ (sym e))

-- ---- how many bytes a token takes

-- one at least; an open bracket and its name four, and they are there
abbrev Takes : Token → ℕ → ℕ → Type 0
Takes (begin k) n left = (4 ≤ n) × (n ≤ left)
Takes (item v) n left = 1 ≤ n
Takes end n left = 1 ≤ n

takes_some : (tok : Token) (n left : ℕ) → Takes tok n left → 1 ≤ n
takes_some (begin k) n left h = omega arith
takes_some (item v) n left h = h
takes_some end n left h = h

abbrev Fits : ℕ → Lexed → Type 0
Fits left x = Takes x.token x.size left

-- a value that is there
held : {A : Type 0} (P : A → Type 0) (x y : A) → some x ≡ some y → P x → P y
held P x y e p = subst P (some-injective x y e) p

dash_takes : (l : List ℕ) (left : ℕ) (x : Lexed) → dash_in l ≡ some x → Fits left x
unfolding dash_in
dash_takes [] left x e = absurd (none-ne-some x e)
dash_takes (b ∷ l) left x e = go (eqb b 45) e
  where
    go : (p : Bool) → cond p (some (lexed (item dash) 2)) none ≡ some x → Fits left x
    go true q = held (Fits left) (lexed (item dash) 2) x q (omega arith)
    go false q = absurd (none-ne-some x q)

item_takes : (o : Maybe Numeral) (l : List ℕ) (left : ℕ) (x : Lexed) → item_or o (dash_in l) ≡ some x → Fits left x
unfolding item_or
item_takes none l left x e = dash_takes l left x e
item_takes (some n) l left x e = held (Fits left) (lexed (item (word_of n.value)) (suc n.size)) x e (omega arith)

after_takes : (l : List ℕ) (x : Lexed) → after_space l ≡ some x → Fits (suc (length l)) x
unfolding after_space
after_takes [] x e = absurd (none-ne-some x e)
after_takes (b ∷ l) x e = go (eqb b 40) e
  where
    go : (p : Bool) → cond p (opening (letters_in l) (place_of (letters_in l))) (item_or (number_in (b ∷ l)) (dash_in (b ∷ l))) ≡ some x → Fits (suc (length (b ∷ l))) x
    go true q =
        let g = (map-eq-some_iff (λ k. lexed (begin k) (2 + length (letters_in l))) (place_of (letters_in l))).0 q in
        let s = name_size (letters_in l) g.0 g.1 in
        subst (Fits (suc (length (b ∷ l)))) g.2 (omega arith, omega (arith, run_within is_letter l 0))
    go false q = item_takes (number_in (b ∷ l)) (b ∷ l) (suc (length (b ∷ l))) x q

token_takes : (l : List ℕ) (x : Lexed) → token_in l ≡ some x → Fits (length l) x
unfolding token_in
token_takes [] x e = absurd (none-ne-some x e)
token_takes (b ∷ l) x e = go (eqb b 41) (eqb b 32) e
  where
    go : (p q : Bool) → cond p (some (lexed end 1)) (cond q (after_space l) none) ≡ some x → Fits (length (b ∷ l)) x
    go true q f = held (Fits (length (b ∷ l))) (lexed end 1) x f (omega arith)
    go false true f = after_takes l x f
    go false false f = absurd (none-ne-some x f)

-- ---- what a found token says of the line

-- the token stands at the place, the others follow from the next on
pub record Stands (t : List ℕ) (i : ℕ) (tok : Token) (next : ℕ) : Type 0 where
  pub takes : Takes tok (next - i) (length t - i)
  pub inside : i < length t
  pub further : i < next
  pub tokens : tokens_in (drop i t) ≡ map (λ ts. tok ∷ ts) (tokens_in (drop next t))

token_inside : (l : List ℕ) (x : Lexed) → token_in l ≡ some x → 0 < length l
unfolding token_in
token_inside [] x e = absurd (none-ne-some x e)
token_inside (b ∷ l) x e = omega arith

stands : (t : List ℕ) (i : ℕ) (x : Lexed) → token_in (drop i t) ≡ some x → Stands t i x.token (i + x.size)
unfolding bind
stands t i x e =
    let long : 0 < length (drop i t) = token_inside (drop i t) x e in
    let room = token_takes (drop i t) x e in
    let one = takes_some x.token x.size (length (drop i t)) room in
    let back : i + x.size - i ≡ x.size = omega arith in
    record {
      takes = rw (back, ← length-drop i t) room;
      inside = omega (arith, length-drop i t);
      further = omega arith;
      tokens = tokens_step (drop i t) long ∙ rw (e, drop-drop);
    }

abbrev token_of : Found → Token
token_of (Begin k next) = begin k
token_of (Item v next) = item v
token_of (End next) = end

abbrev next_of : Found → ℕ
next_of (Begin k next) = next
next_of (Item v next) = next
next_of (End next) = next

at_token : (i n : ℕ) (tok : Token) → (token_of (token_at i tok n) ≡ tok) × (next_of (token_at i tok n) ≡ i + n)
at_token i n (begin k) = (refl, refl)
at_token i n (item v) = (refl, refl)
at_token i n end = (refl, refl)

pub found_stands : (t : List ℕ) (i : ℕ) (f : Found) → Some f ≡ found_at i (token_in (drop i t)) → Stands t i (token_of f) (next_of f)
found_stands t i f e = go (token_in (drop i t)) refl e
  where
    go : (o : Maybe Lexed) → token_in (drop i t) ≡ o → Some f ≡ found_at i o → Stands t i (token_of f) (next_of f)
    go none h g = absurd (none-some f (sym g))
    go (some x) h g =
        let a = at_token i x.size x.token in
        let same = same_Some f (token_at i x.token x.size) g in
        let token : x.token ≡ token_of f = sym (ap token_of same ∙ a.0) in
        let next : i + x.size ≡ next_of f = sym (ap next_of same ∙ a.1) in
        subst (λ (k : Token). Stands t i k (next_of f)) token (subst (Stands t i x.token) next (stands t i x h))

-- no token stands there
pub found_bad : (t : List ℕ) (i : ℕ) → None ≡ found_at i (token_in (drop i t)) → (tokens_in (drop i t) ≡ none) ⊎ (tokens_in (drop i t) ≡ some [])
unfolding bind
found_bad t i e = go (token_in (drop i t)) refl e
  where
    go : (o : Maybe Lexed) → token_in (drop i t) ≡ o → None ≡ found_at i o → (tokens_in (drop i t) ≡ none) ⊎ (tokens_in (drop i t) ≡ some [])
    go none h q = no_token (drop i t) h
      where
        no_token : (l : List ℕ) → token_in l ≡ none → (tokens_in l ≡ none) ⊎ (tokens_in l ≡ some [])
        no_token [] r = inr tokens_none
        no_token (b ∷ l) r = inl (tokens_step (b ∷ l) (omega arith) ∙ rw r)
    go (some x) h q = absurd (none-some _ q)

pub tokens_past : (t : List ℕ) (i : ℕ) → length t ≤ i → tokens_in (drop i t) ≡ some []
tokens_past t i h = rw (drop_of_length-le t h) tokens_none

pub tokens_more : (l : List ℕ) → 0 < length l → tokens_in l ≡ some [] → ⊥
unfolding bind
tokens_more l h e = go (token_in l) (sym (tokens_step l h) ∙ e)
  where
    more : (tok : Token) (o : Maybe (List Token)) → map (λ ts. tok ∷ ts) o ≡ some [] → ⊥
    more tok none q = none-ne-some [] q
    more tok (some ts) q = let z : ◌≡◌ {A = ℕ} 0 1 = cc in omega arith

    go : (o : Maybe Lexed) → bind o (λ x. map (λ ts. x.token ∷ ts) (tokens_in (drop x.size l))) ≡ some [] → ⊥
    go none q = none-ne-some [] q
    go (some x) q = more x.token (tokens_in (drop x.size l)) q
