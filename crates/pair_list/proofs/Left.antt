-- The marked pairs that are left from a rule on, and from a row of a rule on.
use Prim.Native.Nat.{ℕ, zero, suc, ◌+◌, ◌-◌, ◌≤◌, ◌<◌}
use mathlib.Core.Path.{◌≡◌, refl, sym, ap, ◌∙◌}
use mathlib.Core.Logic.{⊎_elim}
use mathlib.Core.Bool.{Bool, true, false, cond, ◌||◌, false≢true}
use mathlib.Core.List.{List, [], ◌∷◌, ◌++◌, map, flat_map}
use native.Mathlib.Nat.{sub-zero, eq-or-lt_of_le}
use native.Mathlib.Numerals.{add-one}
use native.Mathlib.Omega.{arith}
use Rattle.meaning.specs.Lists.{any, keep}
use Rattle.meaning.specs.Limits.{max_objects}
use Rattle.meaning.specs.Reach.{Pair, pair_of}
use Rattle.rows.specs.Rows.{rows_from, read_rows}
use Rattle.tables.specs.declared.Counts.{Counts}
use Rattle.walks.specs.Site.{id_in}
use Rattle.pair_marks.specs.Marks.{marked, has_mark, Next}
use Rattle.pair_list.specs.Pairs.{pairs_where, marked_pairs}

-- ---- numbers that add nothing

-- numbers that add nothing to a list made of them may be passed over
skipped : {B : Type 0} (made : List ℕ → List B) (m x d : ℕ) → ((y : ℕ) → x ≤ y → y < x + d → (l : List ℕ) → made (y ∷ l) ≡ made l)
    → made (rows_from (λ y. y) x (m - x)) ≡ made (rows_from (λ y. y) (x + d) (m - (x + d)))
skipped made m x zero none = ap (λ k. made (rows_from (λ y. y) k (m - k))) (omega arith)
skipped made m x (suc d) none =
    let same : suc x + d ≡ x + suc d = omega arith in
    one (m - x) refl ∙ skipped made m (suc x) d (λ y low less. none y (omega arith) (omega arith)) ∙ ap (λ k. made (rows_from (λ y. y) k (m - k))) same
  where
    one : (k : ℕ) → m - x ≡ k → made (rows_from (λ y. y) x k) ≡ made (rows_from (λ y. y) (suc x) (m - suc x))
    one zero e = let past : 0 ≡ m - suc x = omega arith in ap (λ k. made (rows_from (λ y. y) (suc x) k)) past
    one (suc k) e = let rest : k ≡ m - suc x = omega arith in none x (omega arith) (omega arith) (rows_from (λ y. y) (suc x) k) ∙ ap (λ k. made (rows_from (λ y. y) (suc x) k)) rest

passed_over : {B : Type 0} (made : List ℕ → List B) (m : ℕ) {test : ℕ → Bool} {limit from next : ℕ} → Next test limit from next
    → ((y : ℕ) → test y ≡ false → (l : List ℕ) → made (y ∷ l) ≡ made l) → made (rows_from (λ y. y) from (m - from)) ≡ made (rows_from (λ y. y) next (m - next))
passed_over made m {from = from} {next = next} found none =
    let on : from + (next - from) ≡ next = omega (arith, found.on) in
    skipped made m from (next - from) (λ y low less. none y (found.passed y low (omega arith)))
    ∙ ap (λ k. made (rows_from (λ y. y) k (m - k))) on

-- a rule without a mark has none at any row
none_of : (p : ℕ → Bool) (j k x : ℕ) → any p (rows_from (λ y. y) j k) ≡ false → j ≤ x → x < j + k → p x ≡ false
none_of p j zero x e low less = absurd (omega arith)
none_of p j (suc k) x e low less = step (p j) refl e (λ r on. none_of p (suc j) k x r on (omega arith))
  where
    step : (b : Bool) → p j ≡ b → (b || any p (rows_from (λ y. y) (suc j) k)) ≡ false → (any p (rows_from (λ y. y) (suc j) k) ≡ false → suc j ≤ x → p x ≡ false) → p x ≡ false
    step true q r below = absurd (false≢true (sym r))
    step false q r below = ⊎_elim (λ (same : j ≡ x). ap p (sym same) ∙ q) (λ (on : j < x). below r on) (eq-or-lt_of_le low)

keep_none : (p : ℕ → Bool) (j k : ℕ) → ((x : ℕ) → j ≤ x → x < j + k → p x ≡ false) → keep p (rows_from (λ y. y) j k) ≡ []
keep_none p j zero none = refl
keep_none p j (suc k) none = rw (none j (omega arith) (omega arith)) (keep_none p (suc j) k (λ x low less. none x (omega arith) (omega arith)))

-- ---- what is left

module _ (n : Counts) (objects marks : List ℕ) where
  -- the pairs from a rule on, and from a row of a rule on
  pub from_rule : ℕ → List Pair
  from_rule rule = pairs_where objects (marked marks) n.objects (rows_from (λ i. i) rule (n.rules - rule))

  abbrev of_rule : ℕ → List ℕ → List Pair
  of_rule rule rows = map (λ row. pair_of rule (id_in objects row)) (keep (marked marks rule) rows)

  pub from_row : ℕ → ℕ → List Pair
  from_row rule row = of_rule rule (rows_from (λ j. j) row (n.objects - row)) ++ from_rule (suc rule)

  pub all_left : marked_pairs n objects marks ≡ from_rule 0
  unfolding from_rule
  all_left = ap (λ k. pairs_where objects (marked marks) n.objects (read_rows (λ i. i) k)) (sym (sub-zero n.rules))

  pub none_left : {rule : ℕ} → n.rules ≤ rule → from_rule rule ≡ []
  unfolding from_rule pairs_where flat_map
  none_left {rule} h = let none : n.rules - rule ≡ 0 = omega arith in ap (λ k. pairs_where objects (marked marks) n.objects (rows_from (λ i. i) rule k)) none

  pub rule_starts : {rule : ℕ} → rule < n.rules → from_rule rule ≡ from_row rule 0
  unfolding from_rule from_row pairs_where flat_map
  rule_starts {rule} h =
      let more : n.rules - rule ≡ suc (n.rules - suc rule) = omega arith in
      ap (λ k. pairs_where objects (marked marks) n.objects (rows_from (λ i. i) rule k)) more
      ∙ ap (λ k. of_rule rule (read_rows (λ j. j) k) ++ from_rule (suc rule)) (sym (sub-zero n.objects))

  pub rule_ends : (rule : ℕ) {row : ℕ} → n.objects ≤ row → from_row rule row ≡ from_rule (rule + 1)
  unfolding from_row
  rule_ends rule {row} h =
      let none : n.objects - row ≡ 0 = omega arith in
      ap (λ k. of_rule rule (rows_from (λ j. j) row k) ++ from_rule (suc rule)) none ∙ ap from_rule (sym (add-one rule))

  pub row_taken : {rule row : ℕ} → row < n.objects → marked marks rule row ≡ true → from_row rule row ≡ pair_of rule (id_in objects row) ∷ from_row rule (row + 1)
  unfolding from_row
  row_taken {rule} {row} h e =
      let more : n.objects - row ≡ suc (n.objects - suc row) = omega arith in
      ap (λ k. of_rule rule (rows_from (λ j. j) row k) ++ from_rule (suc rule)) more
      ∙ ap (λ b. map (λ j. pair_of rule (id_in objects j)) (cond b (row ∷ keep (marked marks rule) (rows_from (λ j. j) (suc row) (n.objects - suc row))) (keep (marked marks rule) (rows_from (λ j. j) (suc row) (n.objects - suc row)))) ++ from_rule (suc rule)) e
      ∙ ap (λ k. pair_of rule (id_in objects row) ∷ (of_rule rule (rows_from (λ j. j) k (n.objects - k)) ++ from_rule (suc rule))) (sym (add-one row))

  pub rows_passed : (rule : ℕ) {from next : ℕ} → Next (marked marks rule) max_objects from next → from_row rule from ≡ from_row rule next
  unfolding from_row
  rows_passed rule found =
      ap (λ l. map (λ row. pair_of rule (id_in objects row)) l ++ from_rule (suc rule))
      (passed_over (keep (marked marks rule)) n.objects found (λ y e l. ap (λ b. cond b (y ∷ keep (marked marks rule) l) (keep (marked marks rule) l)) e))

  pub rules_passed : n.objects ≤ max_objects → {limit from next : ℕ} → Next (has_mark marks) limit from next → from_rule from ≡ from_rule next
  unfolding from_rule pairs_where flat_map
  rules_passed few found =
      passed_over (pairs_where objects (marked marks) n.objects) n.rules found
      (λ y e l. ap (λ rows. map (λ row. pair_of y (id_in objects row)) rows ++ pairs_where objects (marked marks) n.objects l)
      (keep_none (marked marks y) 0 n.objects (λ x low less. none_of (marked marks y) 0 max_objects x e low (omega arith))))
