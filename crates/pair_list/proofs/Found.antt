-- The first broken pair of those that are marked is the first among the pairs that are left.
use Prim.Native.Nat.{ℕ, ◌<◌}
use mathlib.Core.Path.{◌≡◌, refl, sym, ap, ◌∙◌}
use mathlib.Core.Bool.{Bool, true, false, cond}
use mathlib.Core.List.{List, [], ◌∷◌}
use mathlib.Core.Option.{some}
use Rattle.meaning.specs.Lists.{first}
use Rattle.meaning.specs.Reach.{Pair, pair_of}
use Rattle.meaning.specs.Answers.{pair_broken, found_answer, first_broken}
use Rattle.rows.specs.Rows.{word_at}
use Rattle.tables.specs.Layouts.{Sheet}
use Rattle.tables.specs.Columns.{book_of, register_in}
use Rattle.tables.specs.Answers.{answer_of}
use Rattle.tables.specs.declared.Counts.{Counts}
use Rattle.tables.specs.declared.Answer.TheVariants.{Accepted, Broken}
use Rattle.walks.specs.Site.{site_of, id_in}
use Rattle.full_search.specs.Search.{broken_row, Clear}
use Rattle.full_search.proofs.Pairs.{pair_row}

module _ (n : Counts) (s : Sheet) (all : List Pair) where
  abbrev test : Pair → Bool
  test = pair_broken (book_of n s) (register_in n s)

  -- none before those that are left is broken
  pub record Searching (left : List Pair) : Type 0 where
    pub same : first test all ≡ first test left

  pub search_starts : Searching all
  search_starts = record { same = refl }

  pub search_on : {left left' : List Pair} → left ≡ left' → Searching left → Searching left'
  search_on e w = record { same = w.same ∙ ap (first test) e }

  pub search_ends : Searching [] → Accepted ≡ answer_of (first_broken (book_of n s) (register_in n s) all)
  unfolding first_broken found_answer
  search_ends w = sym (ap (λ o. answer_of (found_answer o)) w.same)

  -- one pair more: what the code finds of it
  module _ {index : List ℕ} (c : Clear n s index) {rule row context size : ℕ} {broke : Bool} (h : rule < n.rules) (there : row < n.objects)
      (sized : size ≡ word_at s.rules 2 rule 1) (in_type : context ≡ word_at s.rules 2 rule 0)
      (is : broke ≡ broken_row (site_of n s.types s.objects s.links index s.bodies rule) context size row)
      {left : List Pair} (w : Searching (pair_of rule (id_in s.objects row) ∷ left)) where
    abbrev pair : Pair
    pair = pair_of rule (id_in s.objects row)

    next_pair : {b : Bool} → broke ≡ b → first test all ≡ cond b (some pair) (first test left)
    next_pair e =
        let judged : test pair ≡ broke =
        sym (is ∙ ap (λ j. broken_row (site_of n s.types s.objects s.links index s.bodies rule) j size row) in_type ∙ pair_row c h sized row there) in
        w.same ∙ ap (λ b. cond b (some pair) (first test left)) (judged ∙ e)

    pub pair_broken_lem : {id : ℕ} → id ≡ id_in s.objects row → broke ≡ true → Broken rule id ≡ answer_of (first_broken (book_of n s) (register_in n s) all)
    unfolding first_broken found_answer
    pair_broken_lem q e = ap (Broken rule) q ∙ sym (ap (λ o. answer_of (found_answer o)) (next_pair e))

    pub pair_passed : broke ≡ false → Searching left
    pair_passed e = record { same = next_pair e }
