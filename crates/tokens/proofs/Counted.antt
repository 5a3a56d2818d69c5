-- The items of a line, one token after the other.
use Prim.Native.Nat.{ℕ, suc, ◌+◌, ◌-◌, ◌≤◌, ◌<◌}
use mathlib.Core.Path.{◌≡◌, refl, sym, ap, ap₂, ◌∙◌}
use mathlib.Core.Logic.{◌⊎◌, inl, inr}
use mathlib.Core.List.{List, [], ◌∷◌, ◌++◌, append_assoc, append-nil}
use Rattle.std.specs.Prelude.{Option, Some, None}
use mathlib.Core.Option.{Option as Maybe, none, some, bind, map}
use native.Mathlib.Numerals.{add-one}
use native.Mathlib.Omega.{arith}
use borrow.Author.Tests.{le-leb, lt-leb}
use lib.ListN.{length, take, drop, set, replicate, length-append, length-take, length-drop, length-set, take-append-drop}
use lib.Seq.{take-suc-set, drop-set-lt, drop-drop}
use Rattle.text.specs.Tokens.{Token, begin, item, end, token_in, tokens_in}
use Rattle.text.specs.Bodies.{padded}
use Rattle.text.specs.Entries.{items_in}
use Rattle.tokens.specs.declared.ItemsFound.{ItemsFound}
use Rattle.tokens.specs.Tokens.{found_at, max_items, items_held, items_at}
use Rattle.tokens.proofs.Tokens.{Stands, found_bad, tokens_past, tokens_more}

-- what the items so far and the tokens that follow give
unfoldable pub items_with : List ℕ → Maybe (List Token) → Option ItemsFound
items_with before o = items_held (map (λ is. before ++ is) (bind o items_in))

pub items_first : (l : List ℕ) → items_with [] (tokens_in l) ≡ items_at l
unfolding items_with items_at
items_first l = ap items_held (same (bind (tokens_in l) items_in))
  where
    same : (o : Maybe (List ℕ)) → map (λ is. [] ++ is) o ≡ o
    same none = refl
    same (some is) = refl

module _ (before : List ℕ) where
  pub items_bad : (o : Maybe (List Token)) → (o ≡ none) ⊎ (o ≡ some []) → items_with before o ≡ None
  unfolding items_with items_held items_in bind
  items_bad o (inl e) = rw e
  items_bad o (inr e) = rw e

  pub items_begin : (k : ℕ) (o : Maybe (List Token)) → items_with before (map (λ ts. begin k ∷ ts) o) ≡ None
  unfolding items_with items_held items_in bind
  items_begin k none = refl
  items_begin k (some ts) = refl

  -- nothing follows the closed bracket, or something does
  pub items_end : (t : List ℕ) (i : ℕ) → length t ≤ i → length before ≤ max_items
      → items_with before (map (λ ts. end ∷ ts) (tokens_in (drop i t))) ≡ Some (record { count = length before; values = padded max_items before })
  unfolding items_with items_held items_in bind
  items_end t i h k = rw (tokens_past t i h, append-nil before, le-leb (length before) max_items k)

  pub items_more : (l : List ℕ) → 0 < length l → items_with before (map (λ ts. end ∷ ts) (tokens_in l)) ≡ None
  unfolding items_with items_held items_in bind
  items_more l h = go (tokens_in l) (tokens_more l h)
    where
      go : (o : Maybe (List Token)) → (o ≡ some [] → ⊥) → items_with before (map (λ ts. end ∷ ts) o) ≡ None
      go none q = refl
      go (some []) q = absurd (q refl)
      go (some (t ∷ ts)) q = refl

  -- one item more
  pub items_item : (v : ℕ) (o : Maybe (List Token)) → items_with before (map (λ ts. item v ∷ ts) o) ≡ items_with (before ++ v ∷ []) o
  unfolding items_with items_in bind
  items_item v none = refl
  items_item v (some ts) = go (items_in ts)
    where
      go : (o : Maybe (List ℕ)) → items_held (map (λ is. before ++ is) (map (λ vs. v ∷ vs) o)) ≡ items_held (map (λ is. (before ++ v ∷ []) ++ is) o)
      go none = refl
      go (some is) = ap (λ l. items_held (some l)) (sym (append_assoc before (v ∷ []) is))

  -- there are too many
  pub items_many : (o : Maybe (List Token)) → max_items < length before → items_with before o ≡ None
  unfolding items_with items_held bind
  items_many none h = refl
  items_many (some ts) h = go (items_in ts)
    where
      go : (o : Maybe (List ℕ)) → items_held (map (λ is. before ++ is) o) ≡ None
      go none = refl
      go (some is) = rw (lt-leb (length (before ++ is)) max_items (omega (arith, length-append before is)))

-- ---- the items in their array

-- the values from a count on are zeros
pub record Filled (values : List ℕ) (count : ℕ) : Type 0 where
  pub size : length values ≡ max_items
  pub few : count ≤ max_items
  pub rest : drop count values ≡ replicate (max_items - count) 0

pub filled_count : (values : List ℕ) (count : ℕ) → Filled values count → length (take count values) ≡ count
filled_count values count f = omega (arith, length-take count values)

pub filled_padded : (values : List ℕ) (count : ℕ) → Filled values count → padded max_items (take count values) ≡ values
filled_padded values count f = rw (filled_count values count f, ← f.rest) (take-append-drop count values)

pub filled_more : (values : List ℕ) (count v : ℕ) → Filled values count → count < max_items → Filled (set values count v) (count + 1)
filled_more values count v f h =
    let n : max_items - count ≡ suc (max_items - (count + 1)) = omega arith in
    record {
      size = rw length-set f.size;
      few = omega arith;
      rest = drop-set-lt (count + 1) values count v (omega arith) ∙ sym (drop-drop 1 count values) ∙ ap (drop 1) (f.rest ∙ ap (λ m. replicate m 0) n);
    }

pub filled_take : (values : List ℕ) (count v : ℕ) → Filled values count → count < max_items → take (count + 1) (set values count v) ≡ take count values ++ v ∷ []
filled_take values count v f h = rw add-one (take-suc-set values count v (omega arith))

-- ---- the steps of the loop

-- the answer is that of the items in the array and the tokens from i on
pub record Reading (t : List ℕ) (i : ℕ) (values : List ℕ) (count : ℕ) (answer : Option ItemsFound) : Type 0 where
  pub filled : Filled values count
  pub gives : items_with (take count values) (tokens_in (drop i t)) ≡ answer

pub reading_first : (t : List ℕ) (at : ℕ) → Reading t at (replicate max_items 0) 0 (items_at (drop at t))
reading_first t at = record { filled = record { size = refl; few = omega arith; rest = refl }; gives = items_first (drop at t) }

module _ (t : List ℕ) (i : ℕ) (values : List ℕ) (count : ℕ) (answer : Option ItemsFound) (r : Reading t i values count answer) where
  pub reading_bad : None ≡ found_at i (token_in (drop i t)) → answer ≡ None
  reading_bad e = sym r.gives ∙ items_bad (take count values) (tokens_in (drop i t)) (found_bad t i e)

  pub reading_begin : (k next : ℕ) → Stands t i (begin k) next → answer ≡ None
  reading_begin k next s = sym r.gives ∙ rw s.tokens (items_begin (take count values) k (tokens_in (drop next t)))

  pub reading_end : (next : ℕ) → Stands t i end next → length t ≤ next → answer ≡ Some (record { count = count; values = values })
  reading_end next s h =
      let n = filled_count values count r.filled in
      let v = filled_padded values count r.filled in
      sym r.gives ∙ rw s.tokens (items_end (take count values) t next h (omega arith)) ∙ ap₂ (λ (c : ℕ) (w : List ℕ). Some (record { count = c; values = w })) n v

  pub reading_more : (next : ℕ) → Stands t i end next → next < length t → answer ≡ None
  reading_more next s h = sym r.gives ∙ rw s.tokens (items_more (take count values) (drop next t) (omega (arith, length-drop next t)))

  pub reading_many : (v next : ℕ) → Stands t i (item v) next → max_items ≤ count → answer ≡ None
  reading_many v next s h =
      let n = filled_count values count r.filled in
      sym r.gives
      ∙ rw s.tokens (items_item (take count values) v (tokens_in (drop next t)))
      ∙ items_many (take count values ++ v ∷ []) (tokens_in (drop next t)) (omega (arith, length-append (take count values) (v ∷ [])))

  pub reading_item : (v next : ℕ) → Stands t i (item v) next → count < max_items → Reading t next (set values count v) (count + 1) answer
  reading_item v next s h =
      record {
        filled = filled_more values count v r.filled h;
        gives =
            rw (filled_take values count v r.filled h)
            (sym (items_item (take count values) v (tokens_in (drop next t))) ∙ ap (items_with (take count values)) (sym s.tokens) ∙ r.gives);
      }
