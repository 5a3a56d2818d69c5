-- The reader of a body as a machine over tokens: the open forms, the innermost first, each by what it lacks.
use Prim.Native.Nat.{ℕ, zero, suc, ◌+◌, ◌-◌, ◌*◌, ◌≤◌, ◌<◌}
use mathlib.Core.Path.{◌≡◌, refl, sym, ap, ◌∙◌}
use Rattle.std.specs.Prelude.{Option, Some, None, option_and_then}
use mathlib.Core.Bool.{Bool, true, false, ◌&&◌, cond}
use mathlib.Core.List.{List, [], ◌∷◌, map}
use mathlib.Core.Option.{Option as Maybe, none, some, bind, map as map_maybe, none-ne-some}
use native.Mathlib.Nat.{le_refl}
use native.Mathlib.Omega.{arith}
use borrow.Author.Tests.{lt-ltb, le-ltb, le-leb, lt-leb, leb-true, leb-false, eqb-true, eqb-false}
use lib.Dec.{eqb, leb}
use lib.ListN.{length, get_or, get_elem?, length-append}
use Rattle.meaning.specs.Lists.{holds}
use Rattle.tables.specs.Codes.{operators, operator_of, shape_of}
use Rattle.lexical.proofs.Runs.{both as halves}
use Rattle.text.specs.Names.{first_operator, name_count}
use Rattle.text.specs.Tokens.{Token, begin, item, end, dash, is_word, tokens_in}
use Rattle.text.specs.Bodies.{Written, leaf, over, both, Need, need_of, need, forms_in, tokens_of, Closed, close_in, Formed, formed_by, parts_in, need_named, opened_in, form_in}
use Rattle.text.specs.Entries.{rule, only_end, body_in}
use Rattle.text.proofs.Bodies.{form_spelled}
use Rattle.brackets.specs.Steps.{lacks_of, lack_of, opened_by, filled_by, closed_by, body_held, body_at}

unfoldable pub run : List Token → List ℕ → ℕ → Option ℕ
run [] [] n = Some n
run [] (w ∷ s) n = None
run (begin k ∷ ts) [] n = None
run (begin k ∷ ts) (w ∷ s) n = option_and_then (λ a. run ts (a ∷ (w - 4) ∷ s) (n + 1)) (opened_by w k)
run (item v ∷ ts) [] n = None
run (item v ∷ ts) (w ∷ s) n = option_and_then (λ a. run ts (a ∷ s) n) (filled_by w v)
run (end ∷ ts) [] n = None
run (end ∷ ts) (w ∷ s) n = option_and_then (λ a. run ts s n) (closed_by w)

-- ---- what operators lack

unfoldable pub lack_words : List ℕ
lack_words = map (λ o. lacks_of (need_of (shape_of o))) operators

module _ {A : Type 0} where
  mapped : {B : Type 0} (f : A → B) (l : List A) (d : ℕ) (k : ℕ) (g : B → ℕ) (x : Maybe B → Option ℕ) → ((b : B) → x (some b) ≡ Some (g b)) → k < length l → Some (get_or (map (λ a. g (f a)) l) k d) ≡ x (map_maybe f (get_elem? l k))
  mapped f [] d k g x e h = absurd (omega arith)
  mapped f (a ∷ l) d zero g x e h = sym (e (f a))
  mapped f (a ∷ l) d (suc k) g x e h = mapped f l d k g x e (omega arith)

  beyond : (l : List A) (k : ℕ) → length l ≤ k → get_elem? l k ≡ none
  beyond [] k h = refl
  beyond (x ∷ xs) zero h = absurd (omega arith)
  beyond (x ∷ xs) (suc k) h = beyond xs k (omega arith)

pub lack_word : (k : ℕ) → k < 23 → Some (get_or lack_words k 0) ≡ lack_of (need k)
unfolding lack_words need operator_of operators
lack_word k h = mapped (λ o. need_of (shape_of o)) operators 0 k lacks_of lack_of (λ b. refl) h

pub need_none : (k : ℕ) → 23 ≤ k → need k ≡ none
unfolding need operator_of operators
need_none k h = ap (map_maybe (λ o. need_of (shape_of o))) (beyond operators k h)

abbrev small : ℕ → Bool
small k = holds (λ m. leb m.parts 2 && leb m.fields 2) (need k)

all_small : ℕ → Bool
all_small zero = true
all_small (suc n) = small n && all_small n

tested : all_small 23 ≡ true
unfolding all_small need operator_of operators shape_of
tested = refl

below : (n k : ℕ) → all_small n ≡ true → k < n → small k ≡ true
unfolding all_small
below zero k e h = absurd (omega arith)
below (suc n) k e h = go (halves (small n) (all_small n) e) (λ q. below n k q) (eqb k n) refl
  where
    go : (small n ≡ true) × (all_small n ≡ true) → (all_small n ≡ true → k < n → small k ≡ true) → (b : Bool) → eqb k n ≡ b → small k ≡ true
    go f before true q = ap small (eqb-true k n q) ∙ f.0
    go f before false q = before f.1 (omega (arith, eqb-false k n q))

pub need_few : (k : ℕ) (m : Need) → need k ≡ some m → (m.parts ≤ 2) × (m.fields ≤ 2)
need_few k m e = go (leb 23 k) refl
  where
    go : (b : Bool) → leb 23 k ≡ b → (m.parts ≤ 2) × (m.fields ≤ 2)
    go true q = absurd (none-ne-some m (sym (need_none k (leb-true 23 k q)) ∙ e))
    go false q =
        let h = halves (leb m.parts 2) (leb m.fields 2) (rw e at (below 23 k tested (leb-false 23 k q))) in
        (leb-true m.parts 2 h.0, leb-true m.fields 2 h.1)

named_few : (name : ℕ) (m : Need) → need_named name ≡ some m → (m.parts ≤ 2) × (m.fields ≤ 2)
unfolding need_named
named_few name m e = go (leb first_operator name) e
  where
    go : (b : Bool) → cond b (need (name - first_operator)) none ≡ some m → (m.parts ≤ 2) × (m.fields ≤ 2)
    go true q = need_few (name - first_operator) m q
    go false q = absurd (none-ne-some m q)

-- ---- a token at an open form

either : (b : Bool) → ◌≡◌ {A = Option ℕ} (cond b None None) None
either true = refl
either false = refl

-- no form in one that lacks no part, no field in one that lacks a part or no field, no end of one that lacks anything
pub open_not : (w k : ℕ) → w < 4 → opened_by w k ≡ None
unfolding opened_by
open_not w k h = rw (lt-leb 4 w h)

pub open_is : (w k : ℕ) → 4 ≤ w → opened_by w k ≡ lack_of (need_named k)
unfolding opened_by
open_is w k h = rw (le-leb 4 w h)

pub fill_not : (w v : ℕ) → 4 ≤ w → filled_by w v ≡ None
unfolding filled_by
fill_not w v h = rw (lt-leb w 3 (omega arith))

pub fill_none : (v : ℕ) → filled_by 0 v ≡ None
unfolding filled_by
fill_none v = either (is_word v)

pub fill_is : (n v : ℕ) → n ≤ 2 → filled_by (suc n) v ≡ cond (is_word v) (Some n) None
unfolding filled_by
fill_is n v h = rw (le-leb (suc n) 3 (omega arith))

pub close_not : (w : ℕ) → 1 ≤ w → closed_by w ≡ None
close_not zero h = absurd (omega arith)
close_not (suc n) h = refl

-- by an operator's name, or another
pub open_below : (w name : ℕ) → name < first_operator → opened_by w name ≡ None
unfolding opened_by need_named
open_below w name h = rw (lt-leb first_operator name h) (either (leb 4 w))

pub open_above : (w name : ℕ) → name_count ≤ name → opened_by w name ≡ None
unfolding opened_by need_named
open_above w name h = rw (le-leb first_operator name (omega arith), need_none (name - first_operator) (omega arith)) (either (leb 4 w))

pub open_word : (w name : ℕ) → 4 ≤ w → first_operator ≤ name → name < name_count → Some (get_or lack_words (name - first_operator) 0) ≡ opened_by w name
unfolding opened_by need_named
open_word w name h k l = rw (le-leb 4 w h, le-leb first_operator name k) (lack_word (name - first_operator) (omega arith))

pub fill_large : (w v : ℕ) → dash ≤ v → filled_by w v ≡ None
unfolding filled_by
fill_large w v h = rw (le-ltb v dash h) (either (leb w 3))

pub fill_word : (w v : ℕ) → 1 ≤ w → w ≤ 3 → v < dash → Some (w - 1) ≡ filled_by w v
fill_word zero v h k l = absurd (omega arith)
fill_word (suc n) v h k l = let q : suc n - 1 ≡ n = omega arith in ap Some q ∙ sym (fill_is n v (omega arith) ∙ rw (lt-ltb v dash l))

-- ---- fields and the closed bracket

abbrev after_close : Maybe Closed → List ℕ → ℕ → Option ℕ
after_close none s n = None
after_close (some c) s n = run c.rest s n

close_run : (f : ℕ) (ts : List Token) (s : List ℕ) (n : ℕ) → f ≤ 3 → run ts (f ∷ s) n ≡ after_close (close_in f ts) s n
unfolding run close_in
close_run zero [] s n h = refl
close_run zero (begin k ∷ ts) s n h = rw (open_not 0 k (omega arith))
close_run zero (item v ∷ ts) s n h = rw (fill_none v)
close_run zero (end ∷ ts) s n h = refl
close_run (suc f) [] s n h = refl
close_run (suc f) (begin k ∷ ts) s n h = rw (open_not (suc f) k (omega arith))
close_run (suc f) (end ∷ ts) s n h = refl
close_run (suc f) (item v ∷ ts) s n h = rw (fill_is f v (omega arith)) (go (is_word v) (close_run f ts s n (omega arith)))
  where
    same : (o : Maybe Closed) → after_close o s n ≡ after_close (map_maybe (λ c. record { fields = v ∷ c.fields; rest = c.rest }) o) s n
    same none = refl
    same (some c) = refl

    go : (b : Bool) → run ts (f ∷ s) n ≡ after_close (close_in f ts) s n → option_and_then (λ a. run ts (a ∷ s) n) (cond b (Some f) None)
        ≡ after_close (cond b (map_maybe (λ c. record { fields = v ∷ c.fields; rest = c.rest }) (close_in f ts)) none) s n
    go true e = e ∙ same (close_in f ts)
    go false e = refl

-- ---- a whole form

abbrev after_form : Maybe Formed → List ℕ → ℕ → Option ℕ
after_form none s n = None
after_form (some f) s n = run f.rest s (n + forms_in f.form)

formed_run : (form : List ℕ → Written) (x f : ℕ) (ts : List Token) (s : List ℕ) (n : ℕ) → ((fs : List ℕ) → forms_in (form fs) ≡ x) → f ≤ 3
    → run ts (f ∷ s) (n + x) ≡ after_form (formed_by form f ts) s n
unfolding formed_by
formed_run form x f ts s n e h = close_run f ts s (n + x) h ∙ go (close_in f ts)
  where
    go : (o : Maybe Closed) → after_close o s (n + x) ≡ after_form (map_maybe (λ c. record { form = form c.fields; rest = c.rest }) o) s n
    go none = refl
    go (some c) = ap (λ m. run c.rest s (n + m)) (sym (e c.fields))

-- by a part's reading that is right of so many tokens
module _ (part : List Token → Maybe Formed) (fuel : ℕ)
    (right : (ts : List Token) (w : ℕ) (s : List ℕ) (n : ℕ) → length ts ≤ fuel → 4 ≤ w → run ts (w ∷ s) n ≡ after_form (part ts) ((w - 4) ∷ s) n)
    (shorter : (ts : List Token) (f : Formed) → part ts ≡ some f → length f.rest ≤ length ts) (k : ℕ) where
  parts_run : (p f : ℕ) (ts : List Token) (s : List ℕ) (n : ℕ) → p ≤ 2 → f ≤ 2 → length ts ≤ fuel → run ts ((4 * p + f) ∷ s) (n + 1) ≡ after_form (parts_in part k p f ts) s n
  unfolding parts_in bind forms_in
  parts_run zero f ts s n hp hf h =
      let q : 4 * 0 + f ≡ f = omega arith in
      rw q (formed_run (leaf k) 1 f ts s n (λ fs. refl) (omega arith))
  parts_run (suc zero) f ts s n hp hf h =
      let q : 4 * 1 + f - 4 ≡ f = omega arith in
      right ts (4 * 1 + f) s (n + 1) h (omega arith) ∙ rw q (go (part ts))
    where
      go : (o : Maybe Formed) → after_form o (f ∷ s) (n + 1) ≡ after_form (bind o (λ a. formed_by (over k a.form) f a.rest)) s n
      go none = refl
      go (some a) =
          let m : n + 1 + forms_in a.form ≡ n + suc (forms_in a.form) = omega arith in
          rw m (formed_run (over k a.form) (suc (forms_in a.form)) f a.rest s n (λ fs. refl) (omega arith))
  parts_run (suc (suc zero)) f ts s n hp hf h =
      let q : 4 * 2 + f - 4 ≡ 4 + f = omega arith in
      right ts (4 * 2 + f) s (n + 1) h (omega arith) ∙ rw q (first (part ts) refl)
    where
      second : (a : Formed) (o : Maybe Formed) → after_form o (f ∷ s) (n + 1 + forms_in a.form) ≡ after_form (bind o (λ b. formed_by (both k a.form b.form) f b.rest)) s n
      second a none = refl
      second a (some b) =
          let m : n + 1 + forms_in a.form + forms_in b.form ≡ n + suc (forms_in a.form + forms_in b.form) = omega arith in
          rw m (formed_run (both k a.form b.form) (suc (forms_in a.form + forms_in b.form)) f b.rest s n (λ fs. refl) (omega arith))

      first : (o : Maybe Formed) → part ts ≡ o → after_form o ((4 + f) ∷ s) (n + 1) ≡ after_form (bind o (λ a. bind (part a.rest) (λ b. formed_by (both k a.form b.form) f b.rest))) s n
      first none e = refl
      first (some a) e =
          let q : 4 + f - 4 ≡ f = omega arith in
          right a.rest (4 + f) s (n + 1 + forms_in a.form) (omega (arith, shorter ts a e)) (omega arith) ∙ rw q (second a (part a.rest))
  parts_run (suc (suc (suc p))) f ts s n hp hf h = absurd (omega arith)

rest_short : (fuel : ℕ) (ts : List Token) (f : Formed) → form_in fuel ts ≡ some f → length f.rest ≤ length ts
rest_short fuel ts f e = let q = ap length (form_spelled fuel ts f e).0 ∙ length-append (tokens_of f.form) f.rest in omega arith

form_run : (fuel : ℕ) (ts : List Token) (w : ℕ) (s : List ℕ) (n : ℕ) → length ts ≤ fuel → 4 ≤ w → run ts (w ∷ s) n ≡ after_form (form_in fuel ts) ((w - 4) ∷ s) n
unfolding run form_in opened_in bind
form_run zero [] w s n h k = refl
form_run zero (t ∷ ts) w s n h k = absurd (omega arith)
form_run (suc fuel) [] w s n h k = refl
form_run (suc fuel) (item v ∷ ts) w s n h k = rw (fill_not w v k)
form_run (suc fuel) (end ∷ ts) w s n h k = rw (close_not w (omega arith))
form_run (suc fuel) (begin name ∷ ts) w s n h k = rw (open_is w name k) (go (λ l. form_run fuel l) (need_named name) refl)
  where
    go : ((l : List Token) (w : ℕ) (s : List ℕ) (n : ℕ) → length l ≤ fuel → 4 ≤ w → run l (w ∷ s) n ≡ after_form (form_in fuel l) ((w - 4) ∷ s) n)
        → (o : Maybe Need) → need_named name ≡ o → option_and_then (λ a. run ts (a ∷ (w - 4) ∷ s) (n + 1)) (lack_of o)
        ≡ after_form (bind o (λ m. parts_in (λ rest. form_in fuel rest) (name - first_operator) m.parts m.fields ts)) ((w - 4) ∷ s) n
    go right none e = refl
    go right (some m) e =
        let few = named_few name m e in
        parts_run (λ rest. form_in fuel rest) fuel right (rest_short fuel) (name - first_operator) m.parts m.fields ts ((w - 4) ∷ s) n few.0 few.1 (omega arith)

-- ---- a body

abbrev pub run_on : Maybe (List Token) → List ℕ → ℕ → Option ℕ
run_on none s n = None
run_on (some ts) s n = run ts s n

-- nothing but the rule's own closed bracket follows its form
only_run : (ts : List Token) (body : Written) → run ts (0 ∷ []) (0 + forms_in body) ≡ body_held (cond (only_end ts) (some (rule 0 body)) none)
unfolding run body_held
only_run [] body = refl
only_run (begin k ∷ ts) body = rw (open_not 0 k (omega arith))
only_run (item v ∷ ts) body = rw (fill_none v)
only_run (end ∷ []) body = ap Some (omega arith)
only_run (end ∷ begin k ∷ ts) body = refl
only_run (end ∷ item v ∷ ts) body = refl
only_run (end ∷ end ∷ ts) body = refl

pub body_run : (l : List ℕ) → run_on (tokens_in l) (4 ∷ []) 0 ≡ body_at l
unfolding body_at body_in body_held bind
body_run l = go (tokens_in l)
  where
    form : (o : Maybe Formed) → after_form o (0 ∷ []) 0 ≡ body_held (bind o (λ f. cond (only_end f.rest) (some (rule 0 f.form)) none))
    form none = refl
    form (some f) = only_run f.rest f.form

    go : (o : Maybe (List Token)) → run_on o (4 ∷ []) 0 ≡ body_held (bind o (body_in 0))
    go none = refl
    go (some ts) = form_run (length ts) ts 4 [] 0 (le_refl (length ts)) (omega arith) ∙ form (form_in (length ts) ts)
