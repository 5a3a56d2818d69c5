-- What a rule lists: its body and its context, whatever the order in which the list is put.
use Prim.Native.Nat.{ℕ}
use mathlib.Core.Path.{◌≡◌, refl, sym, ap, ap₂, subst, ◌∙◌}
use mathlib.Core.Logic.{⊎_elim}
use mathlib.Core.Bool.{Bool, true, false, ◌||◌, cond, or_comm, or_assoc, or_self}
use mathlib.Core.List.{List, [], ◌∷◌, ◌++◌, foldr}
use lib.Dec.{T}
use lib.ListN.{length}
use Rattle.meaning.specs.Lists.{any, before, same_list, put_in_order}
use Rattle.meaning.specs.Schema.{Schema}
use Rattle.meaning.specs.Forms.{Rule}
use Rattle.meaning.specs.Reach.{down, quiet_insert, quiet_special}
use Rattle.meaning.specs.EventList.{EventType, event_type_words, lists, context_lists, event_list}
use Rattle.meaning.proofs.Order.{before_total}
use Rattle.meaning.proofs.Touched.{three_words}
use Rattle.tables.specs.Bodies.{Part, as_truth, read_body, whole_body, ending, BodyRow}
use Rattle.tables.specs.Columns.{rule_row}
use Rattle.tables.proofs.Readings.{is_truth_lem}
use Rattle.tables.proofs.Forms.{whole_body_lem, body_ending}
use Rattle.body_rows.specs.Marks.{body_of}
use Rattle.type_marks.specs.Marks.{words_at, marked}
use Rattle.quietness.specs.declared.quiet.Still.{Still}
use Rattle.quietness.specs.Quiet.{still_of}
use Rattle.type_marks.specs.Lists.{part_lists, part_marks, entry_lists}
use Rattle.form_marks.proofs.Nodes.{marked_append}

-- ---- an order changes no mark

or_swap : (a b c : Bool) → (a || (b || c)) ≡ (b || (a || c))
or_swap true b c = sym (or_comm b true)
or_swap false b c = refl

-- a test of keys holds of what is put in, or of something that is there
module _ {A : Type 0} (key : A → List ℕ) (width : ℕ) (one_Width : (x : A) → length (key x) ≡ width) (test : List ℕ → Bool) where
  abbrev some : List A → Bool
  some = any (λ x. test (key x))

  any_put : (x : A) (l : List A) → some (put_in_order key x l) ≡ (test (key x) || some l)
  any_put x [] = refl
  any_put x (y ∷ ys) = step (before (key x) (key y)) (before (key y) (key x)) refl refl (any_put x ys)
    where
      step : (b c : Bool) → before (key x) (key y) ≡ b → before (key y) (key x) ≡ c → some (put_in_order key x ys) ≡ (test (key x) || some ys)
          → some (cond b (x ∷ y ∷ ys) (cond c (y ∷ put_in_order key x ys) (y ∷ ys))) ≡ (test (key x) || (test (key y) || some ys))
      step true c p q below = refl
      step false true p q below = ap (λ b. test (key y) || b) below ∙ or_swap (test (key y)) (test (key x)) (some ys)
      step false false p q below =
          let e : key x ≡ key y = ⊎_elim (λ t. absurd (subst T p t)) (⊎_elim (λ e. e) (λ t. absurd (subst T q t))) (before_total (key x) (key y) (one_Width x ∙ sym (one_Width y))) in
          ap (λ b. b || some ys) (sym (or_self (test (key y)))) ∙ or_assoc (test (key y)) (test (key y)) (some ys) ∙ ap (λ k. test k || (test (key y) || some ys)) (sym e)

  any_placed : (l : List A) → some (foldr (put_in_order key) [] l) ≡ some l
  any_placed [] = refl
  any_placed (x ∷ xs) = any_put x (foldr (put_in_order key) [] xs) ∙ ap (λ b. test (key x) || b) (any_placed xs)

-- ---- the parts of the list

-- what brings an object into the rule's context type and is listed
abbrev entries : Schema → Rule → List EventType
entries S r = entry_lists S (still_of S.relationships r.context r.body) r.context

context_lists_lem : (S : Schema) (r : Rule) → context_lists S r ≡ entries S r
unfolding context_lists quiet_insert quiet_special
context_lists_lem S r = refl

module _ (S : Schema) (r : Rule) (place : ℕ) where
  list_marked : marked (event_list S r) place ≡ (marked (lists S r.body (r.context ∷ []) down) place || marked (entries S r) place)
  unfolding event_list
  list_marked =
      let body = lists S r.body (r.context ∷ []) down in
      any_placed event_type_words 3 three_words (λ k. same_list k (words_at place)) (body ++ context_lists S r)
      ∙ marked_append place body (context_lists S r)
      ∙ ap (λ l. marked body place || marked l place) (context_lists_lem S r)

-- ---- a rule of lent tables

module _ (S : Schema) (rules bodies : List ℕ) (rule : ℕ) (context end : ℕ) (still : Still) where
  abbrev rows : ℕ → BodyRow
  rows = body_of bodies rule

  abbrev form : Part
  form = (ending rows end).form

  -- what the code marks of the body, and of the context
  pub rule_marked : T (whole_body rows end) → rule_row rules bodies rule ≡ record { context = context; body = read_body rows end } → still ≡ still_of S.relationships context (as_truth form) → (place : ℕ)
      → (part_marks S form (context ∷ []) 2 place || marked (entry_lists S still context) place) ≡ marked (event_list S (rule_row rules bodies rule)) place
  unfolding part_lists
  rule_marked whole is q place =
      let w = whole_body_lem rows end whole in
      let body : read_body rows end ≡ as_truth form = body_ending rows end whole in
      let r : Rule = record { context = context; body = as_truth form } in
      ap₂ ◌||◌ (ap (λ p. part_marks S p (context ∷ []) 2 place) (is_truth_lem form w.is_truth))
      (ap (λ b. marked (entry_lists S b context) place) q)
      ∙ sym (list_marked S r place)
      ∙ ap (λ (k : Rule). marked (event_list S k) place) (sym (is ∙ (λ j. record { context = context; body = body j })))
