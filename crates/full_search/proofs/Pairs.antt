-- The search of the full check: the pairs that are left after a rule and a row, and the first of them that is broken.
use Prim.Native.Nat.{ℕ, suc, ◌+◌, ◌-◌, ◌≤◌, ◌<◌}
use mathlib.Core.Path.{◌≡◌, refl, sym, ap, ap₂, subst, ◌∙◌}
use mathlib.Core.Bool.{Bool, true, false, ◌&&◌, not, cond}
use mathlib.Core.List.{List, [], ◌∷◌, ◌++◌, map}
use mathlib.Core.Option.{Option, none, some}
use native.Mathlib.Nat.{sub-zero}
use native.Mathlib.Numerals.{add-one}
use native.Mathlib.Omega.{arith}
use Rattle.meaning.specs.Lists.{first, holds}
use Rattle.meaning.specs.Schema.{ObjectType, under}
use Rattle.meaning.specs.Register.{Register, is_under}
use Rattle.meaning.specs.Forms.{Book}
use Rattle.meaning.specs.Meaning.{meaning, broken}
use Rattle.meaning.specs.Reach.{Pair, pair_of, pairs_from, context_pairs, of_rule}
use Rattle.meaning.specs.Answers.{found_answer, first_broken}
use Rattle.rows.specs.Rows.{word_at, rows_from}
use Rattle.tables.specs.Layouts.{Sheet}
use Rattle.tables.specs.Columns.{rule_row, object_row, book_of, register_in}
use Rattle.tables.specs.declared.Counts.{Counts}
use Rattle.register.specs.Tables.{object_place}
use Rattle.register.proofs.Searches.{under_missing}
use Rattle.register.proofs.Rows.{place_row_lem}
use Rattle.walks.specs.Site.{Site, site_of, types_at, id_in}
use Rattle.walks.specs.Values.{truth_of}
use Rattle.walks.specs.Walks.{instances_from}
use Rattle.walks.proofs.Objects.{under_in, from_start, one_row, none_left}
use Rattle.ocl.proofs.Bodies.{body_is}
use Rattle.tables.specs.Answers.{answer_of}
use Rattle.full_search.specs.Search.{found, broken_in, broken_row, Clear}
use Rattle.tables.specs.declared.Answer.TheVariants.{Accepted, Broken}
use Rattle.full_search.proofs.Given.{rule_there, typed}

-- the pairs of a rule from a row on, and those of the rules after it
first_pair : (test : Pair → Bool) (rule x : ℕ) (u held : Bool) (rest : List ℕ) (more : List Pair) → (u ≡ true → test (pair_of rule x) ≡ not held) →
    first test (map (pair_of rule) (cond u (x ∷ rest) rest) ++ more) ≡ cond (u && not held) (some (pair_of rule x)) (first test (map (pair_of rule) rest ++ more))
first_pair test rule x true held rest more e = ap (λ b. cond b (some (pair_of rule x)) (first test (map (pair_of rule) rest ++ more))) (e refl)
first_pair test rule x false held rest more e = refl

-- ---- the pairs that are left

module _ (n : Counts) (s : Sheet) where
  abbrev test : Pair → Bool
  test p = of_rule (book_of n s) (λ r. broken (book_of n s).schema.types (register_in n s) r p.id) p.rule

  abbrev after_rule : ℕ → List Pair
  after_rule i = pairs_from (book_of n s).schema.types (register_in n s) i (rows_from (rule_row s.rules s.bodies) i (n.rules - i))

  abbrev from_row_lem : ℕ → ℕ → List ℕ
  from_row_lem i row = instances_from (book_of n s).schema.types s.objects n.objects (word_at s.rules 2 i 0) row

  -- the first broken pair is the first of those that are left from a rule on, or from a row of a rule on
  pub record Searching (i : ℕ) : Type 0 where
    pub same : first test (context_pairs (book_of n s) (register_in n s)) ≡ first test (after_rule i)

  pub record Within (i row : ℕ) : Type 0 where
    pub same : first test (context_pairs (book_of n s) (register_in n s)) ≡ first test (map (pair_of i) (from_row_lem i row) ++ after_rule (suc i))

module _ {n : Counts} {s : Sheet} {index : List ℕ} (c : Clear n s index) where
  abbrev k : Book
  k = book_of n s

  abbrev g : Register
  g = register_in n s

  abbrev site : ℕ → Site
  site rule = site_of n s.types s.objects s.links index s.bodies rule

  -- ---- one pair

  module _ {rule size : ℕ} (h : rule < n.rules) (sized : size ≡ word_at s.rules 2 rule 1) where
    -- the body at the object of a row, by its id
    body_holds : (row : ℕ) → truth_of (site rule) size (row ∷ []) 1 ≡ meaning k.schema.types g (rule_row s.rules s.bodies rule).body (id_in s.objects row ∷ [])
    unfolding rule_row
    body_holds row = ap (λ e. truth_of (site rule) e (row ∷ []) 1) sized ∙ body_is k.schema (site rule) (word_at s.rules 2 rule 1) (word_at s.rules 2 rule 0) (typed c h refl) row

    pair_is : (id : ℕ) → (test n s) (pair_of rule id) ≡ is_under k.schema.types g id (word_at s.rules 2 rule 0) && not (meaning k.schema.types g (rule_row s.rules s.bodies rule).body (id ∷ []))
    unfolding of_rule broken rule_row
    pair_is id = ap (holds (λ r. broken k.schema.types g r id)) (rule_there n s c.given rule h)

    pub pair_row : (row : ℕ) → row < n.objects → broken_row (site rule) (word_at s.rules 2 rule 0) size row ≡ (test n s) (pair_of rule (id_in s.objects row))
    unfolding broken_row
    pair_row row there =
        ap₂ (λ a b. a && not b)
        (sym (under_in n.objects s.objects n.links s.links c.indexed.objects_ascend row there k.schema.types (word_at s.rules 2 rule 0)))
        (body_holds row)
        ∙ sym (pair_is (id_in s.objects row))

    -- what the code finds of an id
    pub found_row : (id : ℕ) {context row : ℕ} {r : Bool} → object_place n.objects s.objects id ≡ some row → context ≡ word_at s.rules 2 rule 0 → r ≡ broken_row (site rule) context size row → r ≡ broken_in n s rule id
    unfolding broken_in
    found_row id {context} {row} place q z =
        let at = place_row_lem n.objects s.objects id place in
        z ∙ ap (λ j. broken_row (site rule) j size row) q ∙ pair_row row at.0 ∙ ap (λ x. (test n s) (pair_of rule x)) at.1

    pub found_none : (id : ℕ) → object_place n.objects s.objects id ≡ none → false ≡ broken_in n s rule id
    unfolding broken_in
    found_none id e =
        sym (pair_is id ∙ ap (λ b. b && not (meaning k.schema.types g (rule_row s.rules s.bodies rule).body (id ∷ []))) (under_missing k.schema.types n.objects s.objects g.links id (word_at s.rules 2 rule 0) e))

  -- ---- the pairs that are left

  pub search_starts : Searching n s 0
  unfolding context_pairs
  search_starts = record { same = ap (λ m. first (test n s) (pairs_from k.schema.types g 0 (rows_from (rule_row s.rules s.bodies) 0 m))) (sym (sub-zero n.rules)) }

  pub within_starts : {i : ℕ} → i < n.rules → Searching n s i → Within n s i 0
  unfolding pairs_from rule_row
  within_starts {i} h was =
      let left : n.rules - i ≡ suc (n.rules - suc i) = omega arith in
      record {
        same = was.same
            ∙ ap (λ m. first (test n s) (pairs_from k.schema.types g i (rows_from (rule_row s.rules s.bodies) i m))) left
            ∙ ap (λ l. first (test n s) (map (pair_of i) l ++ after_rule n s (suc i))) (sym (from_start k.schema.types s.objects n.objects (word_at s.rules 2 i 0) n.links s.links));
      }

  pub within_ends : {i row : ℕ} → n.objects ≤ row → Within n s i row → Searching n s (i + 1)
  within_ends {i} {row} h w =
      record {
        same = w.same
            ∙ ap (λ l. first (test n s) (map (pair_of i) l ++ after_rule n s (suc i))) (none_left k.schema.types s.objects n.objects (word_at s.rules 2 i 0) row h)
            ∙ ap (λ j. first (test n s) (after_rule n s j)) (sym (add-one i));
      }

  pub search_ends : {i : ℕ} → n.rules ≤ i → Searching n s i → Accepted ≡ answer_of (found n s)
  unfolding found first_broken found_answer pairs_from
  search_ends {i} h was =
      let none_after : n.rules - i ≡ 0 = omega arith in
      sym (ap (λ o. answer_of (found_answer o)) (was.same ∙ ap (λ m. first (test n s) (pairs_from k.schema.types g i (rows_from (rule_row s.rules s.bodies) i m))) none_after))

  -- one row more: what the code finds there
  module _ {i row size context : ℕ} {broke : Bool} (h : i < n.rules) (there : row < n.objects) (sized : size ≡ word_at s.rules 2 i 1) (in_type : context ≡ word_at s.rules 2 i 0) (is : broke ≡ broken_row (site i) context size row) (w : Within n s i row) where
    abbrev x : ℕ
    x = id_in s.objects row

    next_pair : first (test n s) (context_pairs k g) ≡ cond broke (some (pair_of i x)) (first (test n s) (map (pair_of i) (from_row_lem n s i (row + 1)) ++ after_rule n s (suc i)))
    unfolding broken_row
    next_pair =
        let u = under k.schema.types (object_row s.objects row).type (word_at s.rules 2 i 0) in
        let held = truth_of (site i) size (row ∷ []) 1 in
        let row_is = pair_row h sized row there in
        w.same
        ∙ ap (λ l. first (test n s) (map (pair_of i) l ++ after_rule n s (suc i))) (one_row k.schema.types s.objects n.objects (word_at s.rules 2 i 0) row there refl refl)
        ∙ first_pair (test n s) i x u held (from_row_lem n s i (row + 1)) (after_rule n s (suc i)) (λ e. sym row_is ∙ ap (λ b. b && not held) e)
        ∙ ap (λ b. cond b (some (pair_of i x)) (first (test n s) (map (pair_of i) (from_row_lem n s i (row + 1)) ++ after_rule n s (suc i)))) (sym (is ∙ ap (λ j. broken_row (site i) j size row) in_type))

    pub row_broken : {id : ℕ} → id ≡ x → broke ≡ true → Broken i id ≡ answer_of (found n s)
    unfolding found first_broken found_answer
    row_broken q e =
        ap (Broken i) q
        ∙ sym (ap (λ o. answer_of (found_answer o)) (next_pair ∙ ap (λ b. cond b (some (pair_of i x)) (first (test n s) (map (pair_of i) (from_row_lem n s i (row + 1)) ++ after_rule n s (suc i)))) e))

    pub row_passed : broke ≡ false → Within n s i (row + 1)
    row_passed e = record { same = next_pair ∙ ap (λ b. cond b (some (pair_of i x)) (first (test n s) (map (pair_of i) (from_row_lem n s i (row + 1)) ++ after_rule n s (suc i)))) e }
