-- The pairs of the rules and of the rows at which they are selected are the selected pairs, in their order.
use Prim.Native.Nat.{ℕ, zero, suc, ◌+◌, ◌<◌}
use mathlib.Core.Path.{◌≡◌, refl, sym, ap, ap₂, subst, ◌∙◌}
use mathlib.Core.Bool.{Bool, true, false, ◌&&◌, cond, false≢true}
use mathlib.Core.List.{List, [], ◌∷◌, ◌++◌, map, flat_map}
use native.Mathlib.Numerals.{add-one}
use native.Mathlib.Omega.{arith}
use mir.Facts.{not_T}
use lib.Dec.{T}
use lib.ListN.{get_elem?}
use Rattle.meaning.specs.Lists.{keep, holds}
use Rattle.meaning.specs.Schema.{ObjectType, under}
use Rattle.meaning.specs.Register.{is_under, instances}
use Rattle.meaning.specs.Forms.{Rule, Book}
use Rattle.meaning.specs.Reach.{Change, selected, Pair, pair_of, pairs_from, context_pairs, of_rule, pair_selected, selected_pairs}
use Rattle.meaning.proofs.Lists.{so_false}
use Rattle.meaning.proofs.Pairs.{selected_under}
use Rattle.rows.specs.Rows.{rows_from, read_rows}
use Rattle.schema.proofs.Rows.{row_there}
use Rattle.tables.specs.Columns.{object_row, rule_row, rules_of, register_of}
use Rattle.register.specs.Tables.{ObjectsAscend}
use Rattle.walks.specs.Site.{id_in}
use Rattle.walks.specs.Walks.{instances_from}
use Rattle.walks.proofs.Objects.{under_in, from_start, one_row, none_left}
use Rattle.pair_list.specs.Pairs.{pairs_where}

-- ---- lists

-- tests that agree on the numbers keep the same
keep_rows : (p q : ℕ → Bool) (j k : ℕ) → ((x : ℕ) → x < j + k → p x ≡ q x) → keep p (rows_from (λ x. x) j k) ≡ keep q (rows_from (λ x. x) j k)
keep_rows p q j zero same = refl
keep_rows p q j (suc k) same = ap₂ (λ b l. cond b (j ∷ l) l) (same j (omega arith)) (keep_rows p q (suc j) k (λ x h. same x (omega arith)))

keep_append : {A : Type 0} (p : A → Bool) (l k : List A) → keep p (l ++ k) ≡ keep p l ++ keep p k
keep_append p [] k = refl
keep_append p (x ∷ l) k = step (p x) (keep_append p l k)
  where
    step : (b : Bool) → keep p (l ++ k) ≡ keep p l ++ keep p k → cond b (x ∷ keep p (l ++ k)) (keep p (l ++ k)) ≡ cond b (x ∷ keep p l) (keep p l) ++ keep p k
    step true rest = ap (λ m. x ∷ m) rest
    step false rest = rest

-- a test that nothing passes keeps nothing
keep_nothing : (l : List ℕ) → keep (λ x. false) l ≡ []
keep_nothing [] = refl
keep_nothing (x ∷ l) = keep_nothing l

module _ (objects : List ℕ) (m : ℕ) where
  -- tests that agree at the rules and the rows that are there have the same pairs
  pub pairs_same : (p q : ℕ → ℕ → Bool) (i k : ℕ) → ((x row : ℕ) → x < i + k → row < m → p x row ≡ q x row)
      → pairs_where objects p m (rows_from (λ x. x) i k) ≡ pairs_where objects q m (rows_from (λ x. x) i k)
  unfolding pairs_where flat_map
  pairs_same p q i zero same = refl
  pairs_same p q i (suc k) same =
      ap₂ (λ rows more. map (λ row. pair_of i (id_in objects row)) rows ++ more)
      (keep_rows (p i) (q i) 0 m (λ row h. same i row (omega arith) (omega arith)))
      (pairs_same p q (suc i) k (λ x row h. same x row (omega arith)))

  -- to take some of the rules is to ask that of each
  pub pairs_kept : (test : ℕ → ℕ → Bool) (may : ℕ → Bool) (i k : ℕ)
      → pairs_where objects test m (keep may (rows_from (λ x. x) i k)) ≡ pairs_where objects (λ x row. may x && test x row) m (rows_from (λ x. x) i k)
  unfolding pairs_where flat_map
  pairs_kept test may i zero = refl
  pairs_kept test may i (suc k) = step (may i) (pairs_kept test may (suc i) k)
    where
      step : (b : Bool)
          → pairs_where objects test m (keep may (rows_from (λ x. x) (suc i) k)) ≡ pairs_where objects (λ x row. may x && test x row) m (rows_from (λ x. x) (suc i) k)
          → pairs_where objects test m (cond b (i ∷ keep may (rows_from (λ x. x) (suc i) k)) (keep may (rows_from (λ x. x) (suc i) k)))
          ≡ map (λ row. pair_of i (id_in objects row)) (keep (λ row. b && test i row) (read_rows (λ row. row) m)) ++ pairs_where objects (λ x row. may x && test x row) m (rows_from (λ x. x) (suc i) k)
      step true rest = ap (λ ps. map (λ row. pair_of i (id_in objects row)) (keep (test i) (read_rows (λ row. row) m)) ++ ps) rest
      step false rest =
          rest
          ∙ sym (ap (λ rows. map (λ row. pair_of i (id_in objects row)) rows ++ pairs_where objects (λ x row. may x && test x row) m (rows_from (λ x. x) (suc i) k)) (keep_nothing (read_rows (λ row. row) m)))

-- ---- a rule's pairs

module _ (c : Change) (objects : List ℕ) (m : ℕ) (links : List ℕ) (n : ℕ) (end_is : c.end ≡ register_of m objects n links) (ascend : ObjectsAscend m objects) where
  abbrev types : List ObjectType
  types = c.schema.types

  pub at_end : (r : Rule) (row : ℕ) → row < m → is_under types c.end (id_in objects row) r.context ≡ under types (object_row objects row).type r.context
  at_end r row h = rw (end_is, under_in m objects n links ascend row h types r.context)

  module _ (i : ℕ) (r : Rule) where
    abbrev chosen : ℕ → Bool
    chosen row = selected c r (id_in objects row)

    -- a row whose object is not under the context type is not chosen
    off : (row : ℕ) → row < m → under types (object_row objects row).type r.context ≡ false → chosen row ≡ false
    off row h e = so_false (chosen row) (not_T (chosen row) (λ t. subst T (at_end r row h ∙ e) (selected_under c r (id_in objects row) t)))

    abbrev picked : Pair → Bool
    picked p = selected c r p.id

    abbrev pairs : List ℕ → List Pair
    pairs rows = map (λ row. pair_of i (id_in objects row)) rows

    one_more : (row : ℕ) → row < m → (b u : Bool) → chosen row ≡ b → under types (object_row objects row).type r.context ≡ u → (rows ids : List ℕ)
        → pairs rows ≡ keep picked (map (pair_of i) ids) → pairs (cond b (row ∷ rows) rows) ≡ keep picked (map (pair_of i) (cond u (id_in objects row ∷ ids) ids))
    one_more row h true true is at rows ids rest = ap (λ ps. pair_of i (id_in objects row) ∷ ps) rest ∙ sym (rw is)
    one_more row h true false is at rows ids rest = absurd (false≢true (sym (off row h at) ∙ is))
    one_more row h false true is at rows ids rest = rest ∙ sym (rw is)
    one_more row h false false is at rows ids rest = rest

    rows_from_lem : (row k : ℕ) → row + k ≡ m → pairs (keep chosen (rows_from (λ x. x) row k)) ≡ keep picked (map (pair_of i) (instances_from types objects m r.context row))
    rows_from_lem row zero e = sym (rw (none_left types objects m r.context row (omega arith)))
    rows_from_lem row (suc k) e =
        let h : row < m = omega arith in
        let u = under types (object_row objects row).type r.context in
        let rest = rows_from_lem (suc row) k (omega arith) in
        one_more row h (chosen row) u refl refl (keep chosen (rows_from (λ x. x) (suc row) k)) (instances_from types objects m r.context (suc row)) rest
        ∙ ap (λ l. keep picked (map (pair_of i) l)) (ap (λ j. cond u (id_in objects row ∷ instances_from types objects m r.context j) (instances_from types objects m r.context j)) (sym (add-one row)) ∙ sym (one_row types objects m r.context row h refl refl))

    rule_pairs : pairs (keep chosen (read_rows (λ x. x) m)) ≡ keep picked (map (pair_of i) (instances types c.end r.context))
    rule_pairs = rows_from_lem 0 m (omega arith) ∙ ap (λ l. keep picked (map (pair_of i) l)) (from_start types objects m r.context n links ∙ ap (λ g. instances types g r.context) (sym end_is))

  -- ---- all rules

  -- tests that agree on what is looked at keep the same
  keep_same : (p q : Pair → Bool) (i : ℕ) (ids : List ℕ) → ((id : ℕ) → p (pair_of i id) ≡ q (pair_of i id)) → keep p (map (pair_of i) ids) ≡ keep q (map (pair_of i) ids)
  keep_same p q i [] same = refl
  keep_same p q i (id ∷ ids) same = ap₂ (λ b l. cond b (pair_of i id ∷ l) l) (same id) (keep_same p q i ids same)

  module _ (k : Book) (count : ℕ) (rules bodies : List ℕ) (rules_are : k.rules ≡ rules_of count rules bodies) (types_are : k.schema.types ≡ types) where
    abbrev test : ℕ → ℕ → Bool
    test i row = selected c (rule_row rules bodies i) (id_in objects row)

    of_rule_lem : (i : ℕ) → i < count → (id : ℕ) → selected c (rule_row rules bodies i) id ≡ pair_selected k c (pair_of i id)
    unfolding of_rule
    of_rule_lem i h id = sym (ap (λ l. holds (λ r. selected c r id) (get_elem? l i)) rules_are ∙ ap (holds (λ r. selected c r id)) (row_there (rule_row rules bodies) count i h))

    rules_from : (i q : ℕ) → i + q ≡ count
        → pairs_where objects test m (rows_from (λ x. x) i q) ≡ keep (pair_selected k c) (pairs_from types c.end i (rows_from (rule_row rules bodies) i q))
    unfolding pairs_where flat_map pairs_from
    rules_from i zero e = refl
    rules_from i (suc q) e =
        let r = rule_row rules bodies i in
        let ids = instances types c.end r.context in
        ap₂ ◌++◌ (rule_pairs i r ∙ keep_same (λ p. selected c r p.id) (pair_selected k c) i ids (of_rule_lem i (omega arith))) (rules_from (suc i) q (omega arith))
        ∙ sym (keep_append (pair_selected k c) (map (pair_of i) ids) (pairs_from types c.end (suc i) (rows_from (rule_row rules bodies) (suc i) q)))

    pub every_rule : pairs_where objects test m (read_rows (λ x. x) count) ≡ selected_pairs k c
    unfolding selected_pairs context_pairs
    every_rule = rules_from 0 count (omega arith) ∙ ap₂ (λ ts rs. keep (pair_selected k c) (pairs_from ts c.end 0 rs)) (sym types_are) (sym rules_are)
