-- What is marked of a rule's rows one after the other, and of rules one after the other.
use Prim.Native.Nat.{ℕ, zero, suc, ◌+◌, ◌<◌}
use mathlib.Core.Path.{◌≡◌, refl, sym, ap, ap₂, subst, ◌∙◌}
use mathlib.Core.Bool.{Bool, true, false, ◌&&◌, ◌||◌, cond, or-false, or_assoc}
use mathlib.Core.List.{List, [], ◌∷◌, ◌++◌, map, append_assoc, flat_map}
use native.Mathlib.Nat.{zero-add, suc-add, add-suc}
use native.Mathlib.Numerals.{add-one}
use native.Mathlib.Omega.{arith}
use borrow.Author.Tests.{lt-ltb, le-ltb, ltb-true, ltb-false, eqb-true, eqb-false}
use lib.Dec.{ltb, eqb}
use lib.ListN.{length, length-append, length-map}
use Rattle.meaning.specs.Lists.{any, keep}
use Rattle.meaning.specs.Limits.{max_objects}
use Rattle.meaning.specs.Reach.{pair_of}
use Rattle.rows.specs.Rows.{rows_from, read_rows}
use Rattle.walks.specs.Site.{id_in}
use Rattle.pair_marks.specs.Marks.{marked}
use Rattle.pair_list.specs.Pairs.{pairs_where}
use Rattle.selection.specs.Selected.{Added}

-- ---- lists

pub rows_snoc : {A : Type 0} (read : ℕ → A) (j n : ℕ) → rows_from read j (suc n) ≡ rows_from read j n ++ read (j + n) ∷ []
rows_snoc read j zero = ap (λ k. read k ∷ []) (omega arith)
rows_snoc read j (suc n) = ap (λ l. read j ∷ l) (rows_snoc read (suc j) n ∙ ap (λ k. rows_from read (suc j) n ++ read k ∷ []) (suc-add j n ∙ sym (add-suc j n)))

-- one number more
pub one_more : (m : ℕ) → read_rows (λ x. x) (m + 1) ≡ read_rows (λ x. x) m ++ m ∷ []
one_more m = ap (read_rows (λ x. x)) (add-one m) ∙ rows_snoc (λ x. x) 0 m ∙ ap (λ k. read_rows (λ x. x) m ++ k ∷ []) (zero-add m)

keep_snoc : (p : ℕ → Bool) (l : List ℕ) (x : ℕ) {b : Bool} → p x ≡ b → keep p (l ++ x ∷ []) ≡ keep p l ++ cond b (x ∷ []) []
keep_snoc p [] x e = rw e
keep_snoc p (y ∷ l) x {b} e = step (p y) (keep_snoc p l x e)
  where
    step : (q : Bool) → keep p (l ++ x ∷ []) ≡ keep p l ++ cond b (x ∷ []) [] → cond q (y ∷ keep p (l ++ x ∷ [])) (keep p (l ++ x ∷ [])) ≡ cond q (y ∷ keep p l) (keep p l) ++ cond b (x ∷ []) []
    step true rest = ap (λ m. y ∷ m) rest
    step false rest = rest

any_append : (p : ℕ → Bool) (l k : List ℕ) → any p (l ++ k) ≡ (any p l || any p k)
any_append p [] k = refl
any_append p (x ∷ l) k = ap (λ b. p x || b) (any_append p l k) ∙ sym (or_assoc (p x) (any p l) (any p k))

module _ (objects : List ℕ) (test : ℕ → ℕ → Bool) (m : ℕ) where
  pairs_append : (l k : List ℕ) → pairs_where objects test m (l ++ k) ≡ pairs_where objects test m l ++ pairs_where objects test m k
  unfolding pairs_where flat_map
  pairs_append [] k = refl
  pairs_append (i ∷ l) k =
      let one = map (λ row. pair_of i (id_in objects row)) (keep (test i) (read_rows (λ row. row) m)) in
      ap (λ ps. one ++ ps) (pairs_append l k) ∙ sym (append_assoc one (pairs_where objects test m l) (pairs_where objects test m k))

  -- as many as the rule's rows at which the test holds
  one_rule_lem : (rule : ℕ) → length (pairs_where objects test m (rule ∷ [])) ≡ length (keep (test rule) (read_rows (λ row. row) m))
  unfolding pairs_where flat_map
  one_rule_lem rule =
      let rows = keep (test rule) (read_rows (λ row. row) m) in
      omega (arith, length-append (map (λ row. pair_of rule (id_in objects row)) rows) [], length-map rows (λ row. pair_of rule (id_in objects row)))

-- ---- tests

below_next : (j row : ℕ) → ltb j (row + 1) ≡ (ltb j row || eqb j row)
below_next j row = step (ltb j row) (eqb j row) refl refl
  where
    step : (a b : Bool) → ltb j row ≡ a → eqb j row ≡ b → ltb j (row + 1) ≡ (a || b)
    step true b p q = lt-ltb j (row + 1) (omega (arith, ltb-true j row p))
    step false true p q = lt-ltb j (row + 1) (omega (arith, eqb-true j row q))
    step false false p q =
        let past = ltb-false j row p in
        let other = eqb-false j row q in
        le-ltb j (row + 1) (omega arith)

-- the rule's rows below one, and that row
row_more : (x a low here t b : Bool) → (a ≡ true → here ≡ true → b ≡ t)
    → ((x || ((a || false) && (low && t))) || (a && (here && b))) ≡ (x || ((a || false) && ((low || here) && t)))
row_more true a low here t b h = refl
row_more false false low here t b h = refl
row_more false true true true t b h = ap (λ c. t || c) (h refl refl) ∙ same t
  where
    same : (t : Bool) → (t || t) ≡ t
    same true = refl
    same false = refl
row_more false true true false t b h = or-false t
row_more false true false true t b h = h refl refl
row_more false true false false t b h = refl

-- some rules' rows, and others'
rules_more : (x p q w : Bool) → ((x || (p && w)) || (q && w)) ≡ (x || ((p || q) && w))
rules_more true p q w = refl
rules_more false false q w = refl
rules_more false true true true = refl
rules_more false true true false = refl
rules_more false true false true = refl
rules_more false true false false = refl

and-true : (b : Bool) → (b && true) ≡ b
and-true true = refl
and-true false = refl

and-false : (a b : Bool) → (a && (b && false)) ≡ false
and-false true true = refl
and-false true false = refl
and-false false b = refl

-- the same of equal rows, rules and marks
pub added_to : {objects : List ℕ} {test : ℕ → ℕ → Bool} {m m' : ℕ} {rules rules' before after after' : List ℕ} {count : ℕ} → m ≡ m' → rules ≡ rules' → after' ≡ after
    → Added objects test m rules before after count → Added objects test m' rules' before after' count
added_to {objects} {test} {m} {m'} {rules} {rules'} {before} {after} {after'} {count} p q r w =
    subst (λ k. Added objects test k rules' before after' count) p
    (subst (λ l. Added objects test m l before after' count) q (subst (λ l. Added objects test m rules before l count) (sym r) w))

-- ---- rows of a rule

-- no row is looked at yet
pub rows_start : (objects : List ℕ) (test : ℕ → ℕ → Bool) (rule : ℕ) (marks : List ℕ) → Added objects test 0 (rule ∷ []) marks marks 0
rows_start objects test rule marks =
    record {
      each = λ i row h.
          sym (ap (λ b. marked marks i row || ((eqb i rule || false) && (b && test i row))) (le-ltb row 0 (omega arith)) ∙ ap (λ b. marked marks i row || b) (none (eqb i rule || false)) ∙ or-false (marked marks i row));
      number = sym (one_rule_lem objects test 0 rule);
    }
  where
    none : (b : Bool) → (b && false) ≡ false
    none true = refl
    none false = refl

module _ {objects : List ℕ} {test : ℕ → ℕ → Bool} {rule row : ℕ} {before after : List ℕ} {count : ℕ} (was : Added objects test row (rule ∷ []) before after count)
    {after' : List ℕ} {count' : ℕ} where
  row_on : {b : Bool} → b ≡ test rule row → ((i j : ℕ) → j < max_objects → marked after' i j ≡ (marked after i j || (eqb i rule && (eqb j row && b))))
      → count' ≡ count + length (cond b (row ∷ []) []) → Added objects test (row + 1) (rule ∷ []) before after' count'
  row_on {b} e put on =
      record {
        each = λ i j h.
            put i j h
            ∙ ap (λ x. x || (eqb i rule && (eqb j row && b))) (was.each i j h)
            ∙ row_more (marked before i j) (eqb i rule) (ltb j row) (eqb j row) (test i j) b (λ p q. e ∙ sym (ap₂ test (eqb-true i rule p) (eqb-true j row q)))
            ∙ ap (λ x. marked before i j || ((eqb i rule || false) && (x && test i j))) (sym (below_next j row));
        number =
            let more = ap (keep (test rule)) (one_more row) ∙ keep_snoc (test rule) (read_rows (λ x. x) row) row (sym e) in
            omega (arith, was.number, one_rule_lem objects test row rule, one_rule_lem objects test (row + 1) rule, ap length more, length-append (keep (test rule) (read_rows (λ x. x) row)) (cond b (row ∷ []) []));
      }

  pub row_marked : true ≡ test rule row → ((i j : ℕ) → j < max_objects → marked after' i j ≡ (marked after i j || (eqb i rule && eqb j row))) → count' ≡ count + 1
      → Added objects test (row + 1) (rule ∷ []) before after' count'
  row_marked e put on = row_on e (λ i j h. put i j h ∙ ap (λ b. marked after i j || (eqb i rule && b)) (sym (and-true (eqb j row)))) on

  pub row_passed : false ≡ test rule row → after' ≡ after → count' ≡ count → Added objects test (row + 1) (rule ∷ []) before after' count'
  row_passed e same on =
      row_on e (λ i j h. ap (λ l. marked l i j) same ∙ sym (ap (λ b. marked after i j || b) (and-false (eqb i rule) (eqb j row)) ∙ or-false (marked after i j))) (omega arith)

-- ---- rules

module _ {objects : List ℕ} {test : ℕ → ℕ → Bool} {m : ℕ} where
  -- no rule is taken yet
  pub rules_start : (marks : List ℕ) → Added objects test m [] marks marks 0
  unfolding pairs_where flat_map
  rules_start marks = record { each = λ i row h. sym (or-false (marked marks i row)); number = refl }

  -- with the rows of other rules
  pub rules_on : {l k a b c : List ℕ} {x y : ℕ} → Added objects test m l a b x → Added objects test m k b c y → Added objects test m (l ++ k) a c (x + y)
  rules_on {l} {k} {a} one two =
      record {
        each = λ i row h.
            two.each i row h
            ∙ ap (λ v. v || (any (eqb i) k && (ltb row m && test i row))) (one.each i row h)
            ∙ rules_more (marked a i row) (any (eqb i) l) (any (eqb i) k) (ltb row m && test i row)
            ∙ ap (λ v. marked a i row || (v && (ltb row m && test i row))) (sym (any_append (eqb i) l k));
        number =
            omega (arith, one.number, two.number, ap length (pairs_append objects test m l k), length-append (pairs_where objects test m l) (pairs_where objects test m k));
      }
