-- A body's forms: their tokens are read as what was written, and written as what was read; their rows determine them.
use Prim.Native.Nat.{ℕ, zero, suc, ◌+◌, ◌-◌, ◌*◌, ◌≤◌, ◌<◌}
use mathlib.Core.Path.{◌≡◌, refl, sym, ap, ap₂, subst, ◌∙◌}
use mathlib.Core.Bool.{Bool, true, false, ◌&&◌, cond, false≢true, and_assoc}
use mathlib.Core.List.{List, [], ◌∷◌, ◌++◌, map, append_assoc, append-nil}
use mathlib.Core.Option
use mathlib.Core.Option.{Option, none, some, bind, none-ne-some, some-injective, map-eq-some_iff, bind-eq-some_iff}
use native.Mathlib.Nat.{le_refl, not-suc-le-zero}
use native.Mathlib.Omega.{arith}
use borrow.Author.Tests.{lt-ltb, ltb-true, le-leb, leb-true, eq-eqb, eqb-true}
use lib.Dec.{ltb, leb, eqb}
use lib.ListN.{length, take, drop, replicate, take-append-drop, length-append, length-replicate}
use lib.Seq.{length-take-le, take-append_seam}
use mir.Facts.{and_yes, ltb_yes, leb_yes}
use Rattle.meaning.specs.Lists.{every, holds}
use Rattle.meaning.proofs.Lists.{every_at, element_in}
use Rattle.meaning.specs.Forms.{Sort, Form, compare, negate, connect, quantify, kind, num, cell, size, sum, combine, role, all, select, form_count}
use Rattle.rows.specs.Rows.{word_of}
use Rattle.tables.specs.Codes.{Operator, comparing, negating, connecting, quantifying, kind_of, literal, cell_of, size_of, sum_of, combining, role_of, all_of, selecting, operators, operator_of, code_of, shape_of}
use Rattle.tables.specs.Bodies.{row_words, write_form}
use Rattle.tables.proofs.Readings.{code_of_lem, operator_of_lem}
use Rattle.lexical.proofs.Runs.{both as halves}
use Rattle.text.specs.Names.{first_operator, name_count}
use Rattle.text.specs.Tokens.{Token, begin, item, end, dash, is_word}
use Rattle.text.proofs.Tokens.{valid_token}
use Rattle.text.specs.Bodies.{Written, leaf, over, both, Need, need_of, need, meets, well_written, forms_in, padded, row_of, rows_of, closing, tokens_of, Closed, close_in, Formed, formed_by, parts_in, need_named, opened_in, form_in, written_of}

joined : {a b : Bool} → a ≡ true → b ≡ true → (a && b) ≡ true
joined p q = ap₂ (λ a b. a && b) p q

-- a test of every element, by parts of the list
module _ {A : Type 0} (p : A → Bool) where
  every_both : (l m : List A) → every p (l ++ m) ≡ (every p l && every p m)
  every_both [] m = refl
  every_both (x ∷ l) m = ap (λ b. p x && b) (every_both l m) ∙ sym (and_assoc (p x) (every p l) (every p m))

  every_append : (l m : List A) → every p l ≡ true → every p m ≡ true → every p (l ++ m) ≡ true
  every_append l m e f = every_both l m ∙ joined e f

  every_parts : (l m : List A) → every p (l ++ m) ≡ true → (every p l ≡ true) × (every p m ≡ true)
  every_parts l m e = halves (every p l) (every p m) (sym (every_both l m) ∙ e)

-- ---- what the form of a code needs

abbrev needs : ℕ → ℕ → Need
needs parts fields = record { parts = parts; fields = fields }

pub meets_need : (k p : ℕ) (fs : List ℕ) → meets k p fs ≡ true → (need k ≡ some (needs p (length fs))) × (every is_word fs ≡ true)
unfolding meets
meets_need k p fs e = let h = halves _ (every is_word fs) e in (step (need k) h.0, h.1)
  where
    step : (o : Option Need) → holds (λ n. eqb n.parts p && eqb n.fields (length fs)) o ≡ true → o ≡ some (needs p (length fs))
    step none q = absurd (false≢true q)
    step (some n) q =
        let h = halves (eqb n.parts p) (eqb n.fields (length fs)) q in
        ap₂ (λ x y. some (needs x y)) (eqb-true n.parts p h.0) (eqb-true n.fields (length fs) h.1)

need_meets : (k p : ℕ) (fs : List ℕ) → need k ≡ some (needs p (length fs)) → every is_word fs ≡ true → meets k p fs ≡ true
unfolding meets
need_meets k p fs e w = rw (e, eq-eqb p p refl, eq-eqb (length fs) (length fs) refl, w)

-- what a well written form of two parts is
pub well_both : (k : ℕ) (a b : Written) (fs : List ℕ) → well_written (both k a b fs) ≡ true → (meets k 2 fs ≡ true) × (well_written a ≡ true) × (well_written b ≡ true)
unfolding well_written
well_both k a b fs e =
    let g = halves (meets k 2 fs) (well_written a && well_written b) e in
    let w = halves (well_written a) (well_written b) g.1 in
    (g.0, w.0, w.1)

-- an operator has at most two parts and two fields, and its code is a name's
record Small (k : ℕ) (n : Need) : Type 0 where
  code : first_operator + k < name_count
  parts : n.parts ≤ 2
  fields : n.fields ≤ 2

abbrev is_small : Operator → Bool
is_small o = ltb (first_operator + code_of o) name_count && (leb (need_of (shape_of o)).parts 2 && leb (need_of (shape_of o)).fields 2)

need_small : (k : ℕ) (n : Need) → need k ≡ some n → Small k n
unfolding need operator_of operators code_of shape_of
need_small k n e =
    let r = (map-eq-some_iff (λ o. need_of (shape_of o)) (operator_of k)).0 e in
    let o = r.0 in
    let a = and_yes (ltb (first_operator + code_of o) name_count) _ (every_at is_small {l = operators} tt (element_in operators k r.1)) in
    let b = and_yes (leb (need_of (shape_of o)).parts 2) (leb (need_of (shape_of o)).fields 2) a.1 in
    let small : Small (code_of o) (need_of (shape_of o)) = record { code = ltb_yes a.0; parts = leb_yes b.0; fields = leb_yes b.1 } in
    subst (λ (t : Type 0). t) (ap₂ Small (code_of_lem k o r.1) r.2) small

-- ---- read after write

close_read : (fs : List ℕ) (rest : List Token) → every is_word fs ≡ true → close_in (length fs) (closing fs ++ rest) ≡ some (record { fields = fs; rest = rest })
unfolding close_in
close_read [] rest e = refl
close_read (v ∷ fs) rest e = let h = halves (is_word v) (every is_word fs) e in rw (h.0, close_read fs rest h.1)

formed_read : (form : List ℕ → Written) (fs : List ℕ) (rest : List Token) → every is_word fs ≡ true → formed_by form (length fs) (closing fs ++ rest) ≡ some (record { form = form fs; rest = rest })
unfolding formed_by
formed_read form fs rest e = rw (close_read fs rest e)

open_read : (part : List Token → Option Formed) (k : ℕ) (n : Need) (ts : List Token) → need k ≡ some n → opened_in part (begin (first_operator + k) ∷ ts) ≡ parts_in part k n.parts n.fields ts
unfolding opened_in need_named bind
open_read part k n ts e =
    let back : first_operator + k - first_operator ≡ k = omega arith in
    rw (le-leb first_operator (first_operator + k) (omega arith), back, e)

pub form_read : (w : Written) (rest : List Token) (fuel : ℕ) → well_written w ≡ true → length (tokens_of w) ≤ fuel → form_in fuel (tokens_of w ++ rest) ≡ some (record { form = w; rest = rest })
unfolding well_written tokens_of form_in parts_in bind
form_read (leaf k fs) rest zero e h = absurd (not-suc-le-zero h)
form_read (leaf k fs) rest (suc fuel) e h =
    let m = meets_need k 0 fs e in
    open_read (form_in fuel) k (needs 0 (length fs)) (closing fs ++ rest) m.0 ∙ formed_read (leaf k) fs rest m.1
form_read (over k a fs) rest zero e h = absurd (not-suc-le-zero h)
form_read (over k a fs) rest (suc fuel) e h =
    let g = halves (meets k 1 fs) (well_written a) e in
    let m = meets_need k 1 fs g.0 in
    let l = length-append (tokens_of a) (closing fs) in
    open_read (form_in fuel) k (needs 1 (length fs)) (tokens_of a ++ closing fs ++ rest) m.0
    ∙ rw (append_assoc (tokens_of a) (closing fs) rest, form_read a (closing fs ++ rest) fuel g.1 (omega arith)) (formed_read (over k a) fs rest m.1)
form_read (both k a b fs) rest zero e h = absurd (not-suc-le-zero h)
form_read (both k a b fs) rest (suc fuel) e h =
    let w = well_both k a b fs e in
    let m = meets_need k 2 fs w.0 in
    let l = length-append (tokens_of a ++ tokens_of b) (closing fs) in
    let n = length-append (tokens_of a) (tokens_of b) in
    open_read (form_in fuel) k (needs 2 (length fs)) (tokens_of a ++ tokens_of b ++ closing fs ++ rest) m.0
    ∙ rw (append_assoc (tokens_of a ++ tokens_of b) (closing fs) rest, append_assoc (tokens_of a) (tokens_of b) (closing fs ++ rest), form_read a (tokens_of b ++ (closing fs ++ rest)) fuel w.1 (omega arith), form_read b (closing fs ++ rest) fuel w.2 (omega arith))
    (formed_read (both k a b) fs rest m.1)

-- ---- write after read

-- fields that were read, before the rest
record Fields (n : ℕ) (ts : List Token) (fs : List ℕ) (rest : List Token) : Type 0 where
  spelled : ts ≡ closing fs ++ rest
  count : length fs ≡ n
  words : every is_word fs ≡ true

chosen : {A : Type 0} (b : Bool) (o : Option A) {x : A} → cond b o none ≡ some x → (b ≡ true) × (o ≡ some x)
chosen true o e = (refl, e)
chosen false o {x} e = absurd (none-ne-some x e)

close_spelled : (n : ℕ) (ts : List Token) (c : Closed) → close_in n ts ≡ some c → Fields n ts c.fields c.rest
unfolding close_in
close_spelled zero [] c e = absurd (none-ne-some c e)
close_spelled zero (begin k ∷ ts) c e = absurd (none-ne-some c e)
close_spelled zero (item v ∷ ts) c e = absurd (none-ne-some c e)
close_spelled zero (end ∷ ts) c e = subst (λ (d : Closed). Fields zero (end ∷ ts) d.fields d.rest) (some-injective _ c e) (record { spelled = refl; count = refl; words = refl })
close_spelled (suc n) [] c e = absurd (none-ne-some c e)
close_spelled (suc n) (begin k ∷ ts) c e = absurd (none-ne-some c e)
close_spelled (suc n) (end ∷ ts) c e = absurd (none-ne-some c e)
close_spelled (suc n) (item v ∷ ts) c e =
    let q = chosen (is_word v) _ e in
    let r = (map-eq-some_iff {B = Closed} (λ (d : Closed). record { fields = v ∷ d.fields; rest = d.rest }) (close_in n ts)).0 q.1 in
    let d = close_spelled n ts r.0 r.1 in
    subst (λ (d : Closed). Fields (suc n) (item v ∷ ts) d.fields d.rest) r.2
    (record { spelled = ap (λ (l : List Token). item v ∷ l) d.spelled; count = ap suc d.count; words = joined q.0 d.words })

formed_spelled : (form : List ℕ → Written) (n : ℕ) (ts : List Token) (f : Formed) → formed_by form n ts ≡ some f → (fs : List ℕ) × Fields n ts fs f.rest × (form fs ≡ f.form)
unfolding formed_by
formed_spelled form n ts f e =
    let r = (map-eq-some_iff {B = Formed} (λ (c : Closed). record { form = form c.fields; rest = c.rest }) (close_in n ts)).0 e in
    let c = r.0 in
    (c.fields, subst (Fields n ts c.fields) (ap (λ (g : Formed). g.rest) r.2) (close_spelled n ts c r.1), ap (λ (g : Formed). g.form) r.2)

-- a form that was read, before the rest
abbrev Spelled : List Token → Written → List Token → Type 0
Spelled ts w rest = (ts ≡ tokens_of w ++ rest) × (well_written w ≡ true)

-- when the parts have been read, whose tokens are u
closed_spelled : (k p n : ℕ) (form : List ℕ → Written) (u : List Token) → need k ≡ some (needs p n) → ((fs : List ℕ) → meets k p fs ≡ true → Spelled (begin (first_operator + k) ∷ u ++ closing fs) (form fs) [])
    → (ts : List Token) (f : Formed) → formed_by form n ts ≡ some f → Spelled (begin (first_operator + k) ∷ u ++ ts) f.form f.rest
closed_spelled k p n form u h spell ts f e =
    let r = formed_spelled form n ts f e in
    let fs = r.0 in
    let s = r.1 in
    let w = spell fs (need_meets k p fs (h ∙ ap (λ x. some (needs p x)) (sym s.count)) s.words) in
    subst (λ x. Spelled (begin (first_operator + k) ∷ u ++ ts) x f.rest) r.2 (
      ap (λ l. begin (first_operator + k) ∷ u ++ l) s.spelled ∙ sym (append_assoc (begin (first_operator + k) ∷ u) (closing fs) f.rest) ∙ ap (λ l. l ++ f.rest) (w.0 ∙ append-nil (tokens_of (form fs))),
      w.1,
    )

module _ (part : List Token → Option Formed) (spells : (ts : List Token) (f : Formed) → part ts ≡ some f → Spelled ts f.form f.rest) (k : ℕ) where
  parts_spelled : (p n : ℕ) (ts : List Token) (f : Formed) → need k ≡ some (needs p n) → parts_in part k p n ts ≡ some f → Spelled (begin (first_operator + k) ∷ ts) f.form f.rest
  unfolding parts_in tokens_of well_written
  parts_spelled zero n ts f h e = closed_spelled k 0 n (leaf k) [] h (λ fs m. (sym (append-nil _), m)) ts f e
  parts_spelled (suc zero) n ts f h e =
      let q = (bind-eq-some_iff (part ts) (λ a. formed_by (over k a.form) n a.rest)).0 e in
      let a = q.0 in
      let c = spells ts a q.1 in
      subst (λ l. Spelled (begin (first_operator + k) ∷ l) f.form f.rest) (sym c.0)
      (closed_spelled k 1 n (over k a.form) (tokens_of a.form) h (λ fs m. (sym (append-nil _), joined m c.1)) a.rest f q.2)
  parts_spelled (suc (suc zero)) n ts f h e =
      let q = (bind-eq-some_iff (part ts) (λ a. bind (part a.rest) (λ b. formed_by (both k a.form b.form) n b.rest))).0 e in
      let a = q.0 in
      let r = (bind-eq-some_iff (part a.rest) (λ b. formed_by (both k a.form b.form) n b.rest)).0 q.2 in
      let b = r.0 in
      let c = spells ts a q.1 in
      let d = spells a.rest b r.1 in
      subst (λ l. Spelled (begin (first_operator + k) ∷ l) f.form f.rest) (append_assoc (tokens_of a.form) (tokens_of b.form) b.rest ∙ ap (λ l. tokens_of a.form ++ l) (sym d.0) ∙ sym c.0)
      (closed_spelled k 2 n (both k a.form b.form) (tokens_of a.form ++ tokens_of b.form) h (λ fs m. (sym (append-nil _), joined m (joined c.1 d.1))) b.rest f r.2)
  parts_spelled (suc (suc (suc p))) n ts f h e = let few = (need_small k _ h).parts in absurd (omega arith)

pub form_spelled : (fuel : ℕ) (ts : List Token) (f : Formed) → form_in fuel ts ≡ some f → (ts ≡ tokens_of f.form ++ f.rest) × (well_written f.form ≡ true)
unfolding form_in opened_in need_named
form_spelled zero ts f e = absurd (none-ne-some f e)
form_spelled (suc fuel) [] f e = absurd (none-ne-some f e)
form_spelled (suc fuel) (item v ∷ ts) f e = absurd (none-ne-some f e)
form_spelled (suc fuel) (end ∷ ts) f e = absurd (none-ne-some f e)
form_spelled (suc fuel) (begin name ∷ ts) f e =
    let k = name - first_operator in
    let q = (bind-eq-some_iff (need_named name) (λ n. parts_in (λ rest. form_in fuel rest) k n.parts n.fields ts)).0 e in
    let n = q.0 in
    let c = chosen (leb first_operator name) (need k) q.1 in
    let above = leb-true first_operator name c.0 in
    let same : first_operator + k ≡ name = omega arith in
    rw same at (parts_spelled (λ rest. form_in fuel rest) (λ l g. form_spelled fuel l g) k n.parts n.fields ts f c.1 q.2)

-- ---- fuel

bind_same : {A B : Type 0} (o : Option A) (f g : A → Option B) → ((x : A) → o ≡ some x → f x ≡ g x) → bind o f ≡ bind o g
unfolding bind
bind_same none f g h = refl
bind_same (some x) f g h = h x refl

-- the parts by two readings that are the same of tokens no more than those
module _ (part other : List Token → Option Formed) (k n : ℕ) (ts : List Token) (same : (l : List Token) → length l ≤ length ts → part l ≡ other l) (shorter : (l : List Token) (f : Formed) → other l ≡ some f → length f.rest ≤ length l) where
  parts_same : (p : ℕ) → parts_in part k p n ts ≡ parts_in other k p n ts
  unfolding parts_in
  parts_same zero = refl
  parts_same (suc zero) = rw (same ts (le_refl (length ts)))
  parts_same (suc (suc p)) =
      rw (same ts (le_refl (length ts)))
      (bind_same (other ts) _ _ (λ a e. rw (same a.rest (shorter ts a e))))

fuels : (n m : ℕ) (ts : List Token) → length ts ≤ n → length ts ≤ m → form_in n ts ≡ form_in m ts
unfolding form_in opened_in
fuels zero zero ts h k = refl
fuels zero (suc m) [] h k = refl
fuels zero (suc m) (t ∷ ts) h k = absurd (not-suc-le-zero h)
fuels (suc n) zero [] h k = refl
fuels (suc n) zero (t ∷ ts) h k = absurd (not-suc-le-zero k)
fuels (suc n) (suc m) [] h k = refl
fuels (suc n) (suc m) (item v ∷ ts) h k = refl
fuels (suc n) (suc m) (end ∷ ts) h k = refl
fuels (suc n) (suc m) (begin name ∷ ts) h k =
    bind_same (need_named name) _ _ (λ q e. parts_same (λ l. form_in n l) (λ l. form_in m l) (name - first_operator) q.fields ts
    (λ l s. fuels n m l (omega arith) (omega arith))
    (λ l f s. let c = ap length (form_spelled m l f s).0 ∙ length-append (tokens_of f.form) f.rest in omega arith) q.parts)

pub form_fuel : (fuel : ℕ) (ts : List Token) → length ts ≤ fuel → form_in fuel ts ≡ form_in (length ts) ts
form_fuel fuel ts h = fuels fuel (length ts) ts h (le_refl (length ts))

-- ---- rows

row_length : (k p : ℕ) (fs : List ℕ) → meets k p fs ≡ true → length (row_of k fs) ≡ 4
unfolding row_of
row_length k p fs e =
    let few = (need_small k _ (meets_need k p fs e).0).fields in
    simp (length-append, length-replicate) (omega arith)

pub rows_length : (w : Written) → well_written w ≡ true → length (rows_of w) ≡ 4 * forms_in w
unfolding well_written rows_of forms_in
rows_length (leaf k fs) e = row_length k 0 fs e
rows_length (over k a fs) e =
    let g = halves (meets k 1 fs) (well_written a) e in
    omega (arith, length-append (rows_of a) (row_of k fs), row_length k 1 fs g.0, rows_length a g.1)
rows_length (both k a b fs) e =
    let w = well_both k a b fs e in
    omega (arith, length-append (rows_of a ++ rows_of b) (row_of k fs), length-append (rows_of a) (rows_of b), row_length k 2 fs w.0, rows_length a w.1, rows_length b w.2)

-- the forms on a stack, the last first, after one more of so many parts
abbrev put : ℕ → ℕ → List ℕ → List Written → List Written
put zero k fs s = leaf k fs ∷ s
put (suc zero) k fs [] = []
put (suc zero) k fs (a ∷ s) = over k a fs ∷ s
put (suc (suc p)) k fs [] = []
put (suc (suc p)) k fs (b ∷ []) = []
put (suc (suc p)) k fs (b ∷ a ∷ s) = both k a b fs ∷ s

-- after a row of a code and its words
abbrev row_put : Option Need → ℕ → List ℕ → List Written → List Written
row_put none k l s = []
row_put (some n) k l s = put n.parts k (take n.fields l) s

-- after the words of rows
abbrev stacked : List ℕ → List Written → List Written
stacked [] s = s
stacked (k ∷ []) s = []
stacked (k ∷ x ∷ []) s = []
stacked (k ∷ x ∷ y ∷ []) s = []
stacked (k ∷ x ∷ y ∷ z ∷ l) s = stacked l (row_put (need k) k (x ∷ y ∷ z ∷ []) s)

row_stacked : (k : ℕ) (fs l : List ℕ) (s : List Written) → length fs ≤ 2 → stacked (row_of k fs ++ l) s ≡ stacked l (row_put (need k) k (padded 3 fs) s)
unfolding row_of
row_stacked k [] l s h = refl
row_stacked k (x ∷ []) l s h = refl
row_stacked k (x ∷ y ∷ []) l s h = refl
row_stacked k (x ∷ y ∷ z ∷ fs) l s h = absurd (omega arith)

meets_stacked : (k p : ℕ) (fs l : List ℕ) (s : List Written) → meets k p fs ≡ true → stacked (row_of k fs ++ l) s ≡ stacked l (put p k fs s)
meets_stacked k p fs l s e =
    let n = (meets_need k p fs e).0 in
    row_stacked k fs l s (need_small k _ n).fields
    ∙ ap (λ o. stacked l (row_put o k (padded 3 fs) s)) n
    ∙ ap (λ gs. stacked l (put p k gs s)) (take-append_seam fs (replicate (3 - length fs) 0))

-- the rows of a form put it on the stack
rows_stacked : (w : Written) (l : List ℕ) (s : List Written) → well_written w ≡ true → stacked (rows_of w ++ l) s ≡ stacked l (w ∷ s)
unfolding well_written rows_of
rows_stacked (leaf k fs) l s e = meets_stacked k 0 fs l s e
rows_stacked (over k a fs) l s e =
    let g = halves (meets k 1 fs) (well_written a) e in
    ap (λ x. stacked x s) (append_assoc (rows_of a) (row_of k fs) l)
    ∙ rows_stacked a (row_of k fs ++ l) s g.1
    ∙ meets_stacked k 1 fs l (a ∷ s) g.0
rows_stacked (both k a b fs) l s e =
    let w = well_both k a b fs e in
    ap (λ x. stacked x s) (append_assoc (rows_of a ++ rows_of b) (row_of k fs) l ∙ append_assoc (rows_of a) (rows_of b) (row_of k fs ++ l))
    ∙ rows_stacked a (rows_of b ++ (row_of k fs ++ l)) s w.1
    ∙ rows_stacked b (row_of k fs ++ l) (a ∷ s) w.2
    ∙ meets_stacked k 2 fs l (b ∷ a ∷ s) w.0

pub rows_determine : (a b : Written) → well_written a ≡ true → well_written b ≡ true → rows_of a ≡ rows_of b → a ≡ b
rows_determine a b e f q =
    let top : a ∷ [] ≡ b ∷ [] = sym (rows_stacked a [] [] e) ∙ ap (λ l. stacked (l ++ []) []) q ∙ rows_stacked b [] [] f in
    cc

-- ---- tokens

pub close_valid : (fs : List ℕ) → every is_word fs ≡ true → every valid_token (closing fs) ≡ true
close_valid [] e = refl
close_valid (v ∷ fs) e =
    let h = halves (is_word v) (every is_word fs) e in
    let low = ltb-true v dash h.0 in
    joined (le-leb v dash (omega arith)) (close_valid fs h.1)

-- a form's tokens, by those of its parts
meets_valid : (k p : ℕ) (fs : List ℕ) (u : List Token) → meets k p fs ≡ true → every valid_token u ≡ true → every valid_token (begin (first_operator + k) ∷ u ++ closing fs) ≡ true
meets_valid k p fs u e f =
    let m = meets_need k p fs e in
    joined (lt-ltb (first_operator + k) name_count (need_small k _ m.0).code) (every_append valid_token u (closing fs) f (close_valid fs m.1))

pub tokens_valid : (w : Written) → well_written w ≡ true → every valid_token (tokens_of w) ≡ true
unfolding well_written tokens_of
tokens_valid (leaf k fs) e = meets_valid k 0 fs [] e refl
tokens_valid (over k a fs) e =
    let g = halves (meets k 1 fs) (well_written a) e in
    meets_valid k 1 fs (tokens_of a) g.0 (tokens_valid a g.1)
tokens_valid (both k a b fs) e =
    let w = well_both k a b fs e in
    meets_valid k 2 fs (tokens_of a ++ tokens_of b) w.0 (every_append valid_token (tokens_of a) (tokens_of b) (tokens_valid a w.1) (tokens_valid b w.2))

pub forms_length : (w : Written) → 2 * forms_in w ≤ length (tokens_of w)
unfolding forms_in tokens_of
forms_length (leaf k fs) = omega (arith, length-append (map item fs) (end ∷ []))
forms_length (over k a fs) = omega (arith, length-append (tokens_of a) (closing fs), length-append (map item fs) (end ∷ []), forms_length a)
forms_length (both k a b fs) =
    omega (arith, length-append (tokens_of a ++ tokens_of b) (closing fs), length-append (tokens_of a) (tokens_of b), length-append (map item fs) (end ∷ []), forms_length a, forms_length b)

-- ---- the forms of a body

pub written_rows : {s : Sort} (f : Form s) → rows_of (written_of f) ≡ write_form f
unfolding rows_of row_of written_of write_form
written_rows (compare o a b) = rw (written_rows a, written_rows b)
written_rows (negate a) = rw (written_rows a)
written_rows (connect o a b) = rw (written_rows a, written_rows b)
written_rows (quantify q c b) = rw (written_rows c, written_rows b)
written_rows (kind v t) = refl
written_rows (num n) = refl
written_rows (cell v k) = refl
written_rows (size c) = rw (written_rows c)
written_rows (sum c k) = rw (written_rows c)
written_rows (combine o a b) = rw (written_rows a, written_rows b)
written_rows (role v r) = refl
written_rows (all t) = refl
written_rows (select c b) = rw (written_rows c, written_rows b)

pub written_count : {s : Sort} (f : Form s) → forms_in (written_of f) ≡ form_count f
unfolding forms_in written_of form_count
written_count (compare o a b) = rw (written_count a, written_count b)
written_count (negate a) = rw (written_count a)
written_count (connect o a b) = rw (written_count a, written_count b)
written_count (quantify q c b) = rw (written_count c, written_count b)
written_count (kind v t) = refl
written_count (num n) = refl
written_count (cell v k) = refl
written_count (size c) = rw (written_count c)
written_count (sum c k) = rw (written_count c)
written_count (combine o a b) = rw (written_count a, written_count b)
written_count (role v r) = refl
written_count (all t) = refl
written_count (select c b) = rw (written_count c, written_count b)

-- a row of words meets its operator's need
row_meets : (o : Operator) (x y : ℕ) → every is_word (row_words o x y) ≡ true → meets (code_of o) (length (shape_of o).parts) (take (shape_of o).fields (x ∷ y ∷ [])) ≡ true
unfolding need
row_meets o x y e =
    let n = (shape_of o).fields in
    let known : need (code_of o) ≡ some (need_of (shape_of o)) = ap (Option.map (λ p. need_of (shape_of p))) (operator_of_lem o) in
    let count : length (take n (x ∷ y ∷ [])) ≡ n = length-take-le n (x ∷ y ∷ []) (need_small (code_of o) _ known).fields in
    let words : every is_word (x ∷ y ∷ []) ≡ true = (every_parts is_word (x ∷ y ∷ []) (0 ∷ []) (halves (is_word (code_of o)) _ e).1).0 in
    need_meets (code_of o) _ _ (known ∙ ap (λ m. some (needs (length (shape_of o).parts) m)) (sym count))
    (every_parts is_word (take n (x ∷ y ∷ [])) (drop n (x ∷ y ∷ [])) (ap (every is_word) (take-append-drop n (x ∷ y ∷ [])) ∙ words)).0

only_well : (o : Operator) (x y : ℕ) (w : List ℕ) (a : Written) → (every is_word w ≡ true → well_written a ≡ true) → every is_word (w ++ row_words o x y) ≡ true → (meets (code_of o) (length (shape_of o).parts) (take (shape_of o).fields (x ∷ y ∷ [])) && well_written a) ≡ true
only_well o x y w a h e = let r = every_parts is_word w (row_words o x y) e in joined (row_meets o x y r.1) (h r.0)

both_well : (o : Operator) (v w : List ℕ) (a b : Written) → (every is_word v ≡ true → well_written a ≡ true) → (every is_word w ≡ true → well_written b ≡ true) → every is_word (v ++ w ++ row_words o 0 0) ≡ true
    → (meets (code_of o) (length (shape_of o).parts) (take (shape_of o).fields (0 ∷ 0 ∷ [])) && (well_written a && well_written b)) ≡ true
both_well o v w a b h k e =
    let r = every_parts is_word (v ++ w) (row_words o 0 0) e in
    let q = every_parts is_word v w r.0 in
    joined (row_meets o 0 0 r.1) (joined (h q.0) (k q.1))

pub written_well : {s : Sort} (f : Form s) → every is_word (write_form f) ≡ true → well_written (written_of f) ≡ true
unfolding well_written written_of write_form shape_of
written_well (compare o a b) = both_well (comparing o) (write_form a) (write_form b) (written_of a) (written_of b) (written_well a) (written_well b)
written_well (negate a) = only_well negating 0 0 (write_form a) (written_of a) (written_well a)
written_well (connect o a b) = both_well (connecting o) (write_form a) (write_form b) (written_of a) (written_of b) (written_well a) (written_well b)
written_well (quantify q c b) = both_well (quantifying q) (write_form c) (write_form b) (written_of c) (written_of b) (written_well c) (written_well b)
written_well (kind v t) = row_meets kind_of v t
written_well (num n) = row_meets literal (word_of n) 0
written_well (cell v k) = row_meets cell_of v k
written_well (size c) = only_well size_of 0 0 (write_form c) (written_of c) (written_well c)
written_well (sum c k) = only_well sum_of k 0 (write_form c) (written_of c) (written_well c)
written_well (combine o a b) = both_well (combining o) (write_form a) (write_form b) (written_of a) (written_of b) (written_well a) (written_well b)
written_well (role v r) = row_meets role_of v r
written_well (all t) = row_meets all_of t 0
written_well (select c b) = both_well selecting (write_form c) (write_form b) (written_of c) (written_of b) (written_well c) (written_well b)
