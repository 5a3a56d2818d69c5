-- What a form lists, by its row and its parts.
use Prim.Native.Nat.{ℕ, suc, ◌+◌, ◌*◌, ◌<◌}
use mathlib.Core.Path.{◌≡◌, refl, sym, ap, ap₂, ◌∙◌}
use mathlib.Core.Bool.{Bool, false, ◌||◌, cond, or_comm, or_assoc}
use mathlib.Core.List.{List, [], ◌∷◌, ◌++◌}
use mathlib.Core.Option.{some}
use lib.Dec.{T, eqb}
use lib.ListN.{get_or}
use borrow.Author.Tests.{eq-eqb, ne_eqb}
use Rattle.meaning.specs.Lists.{same_list}
use Rattle.meaning.specs.Schema.{Schema}
use Rattle.meaning.specs.Forms.{Sort, truth, collection, Form, bind, member_type}
use Rattle.meaning.specs.Reach.{Direction, up, down, Passing, same, reversed, either, through, left_of, right_of, negated, first_truth, second_truth, source_of, at_member, counted, chosen_from, first_term, second_term, sum_source, floored_sum}
use Rattle.meaning.specs.EventList.{EventType, set_of, event_type_words, lists}
use Rattle.tables.specs.Codes.{Operator, comparing, negating, connecting, quantifying, kind_of, literal, cell_of, size_of, sum_of, combining, role_of, all_of, selecting, code_of, shape_of}
use Rattle.tables.specs.Bodies.{BodyRow, Part, part, as_truth, as_number, as_collection, form_of, ending, first_part, second_part}
use Rattle.tables.proofs.Readings.{node, code_of_lem, sorted, sorted_parts, is_truth_lem, is_number, is_collection}
use Rattle.directions.specs.Sets.{passed}
use Rattle.direction_table.specs.Entries.{first_passing, second_passing}
use Rattle.directions.specs.Passes.{pass_row}
use Rattle.directions.proofs.Sets.{through_some, some_or, some_same}
use Rattle.directions.proofs.Passes.{first_passed, second_passed}
use Rattle.body_rows.specs.Marks.{first_sort, second_sort}
use Rattle.typing.specs.Types.{member_of, floored_at}
use Rattle.typing.proofs.Types.{operator_here, parts_here}
use Rattle.type_marks.specs.Marks.{words_at, marked}
use Rattle.type_marks.specs.Lists.{part_lists, marked_by, part_marks, leaf_lists, sum_marks}

module _ (place : ℕ) where
  abbrev hit : EventType → Bool
  hit e = same_list (event_type_words e) (words_at place)

  pub marked_append : (xs ys : List EventType) → marked (xs ++ ys) place ≡ (marked xs place || marked ys place)
  marked_append [] ys = refl
  marked_append (x ∷ xs) ys = ap (λ b. hit x || b) (marked_append xs ys) ∙ sym (or_assoc (hit x) (marked xs place) (marked ys place))

  marked_through : (p : Passing) (listed : Direction → List EventType) (d : Direction) → marked (through ◌++◌ p listed d) place ≡ through ◌||◌ p (λ e. marked (listed e) place) d
  marked_through same listed d = refl
  marked_through reversed listed d = refl
  marked_through either listed d = marked_append (listed up) (listed down)

  module _ (set : ℕ) (small : set < 4) where
    -- what a part lists, passed to its form
    by_part : (p : Passing) (listed : Direction → List EventType) → marked_by (passed p set) listed place ≡ marked_by set (through ◌++◌ p listed) place
    by_part p listed =
        sym (some_same set (λ d. marked (through ◌++◌ p listed d) place) (through ◌||◌ p (λ e. marked (listed e) place)) (marked_through p listed)
        ∙ through_some (λ e. marked (listed e) place) p set small)

    -- two lists in each direction
    by_two : (listed others : Direction → List EventType) → (marked_by set listed place || marked_by set others place) ≡ marked_by set (λ d. listed d ++ others d) place
    by_two listed others =
        sym (some_same set (λ d. marked (listed d ++ others d) place) (λ d. marked (listed d) place || marked (others d) place) (λ d. marked_append (listed d) (others d))
        ∙ some_or (λ d. marked (listed d) place) (λ d. marked (others d) place) set small)

    -- two parts
    by_parts : (p q : Passing) (listed others : Direction → List EventType) → (marked_by (passed p set) listed place || marked_by (passed q set) others place) ≡ marked_by set (λ d. through ◌++◌ p listed d ++ through ◌++◌ q others d) place
    by_parts p q listed others = ap₂ ◌||◌ (by_part p listed) (by_part q others) ∙ by_two (through ◌++◌ p listed) (through ◌++◌ q others)

-- the variables' types in the second part, with one more where the first is a collection
abbrev pub inner : Schema → List ℕ → ℕ → Part → List ℕ
inner S ts first a = cond (eqb first 2) (bind ts (member_of S.relationships a)) ts

-- the directions of an operator's part, by the set of its form's; a sum is over a floored cell or not
abbrev pub pass_to : Bool → ℕ → Operator → ℕ → ℕ
pass_to floored set o which = get_or (pass_row floored o) (which * 4 + set) 0

-- of an operator's row, whether it is a sum over a floored cell
abbrev pub floors : Schema → Operator → BodyRow → Part → Bool
floors S o r b = floored_at S (code_of o) r.x b

-- the directions of the second part
abbrev pub to_second : Schema → ℕ → Operator → ℕ → BodyRow → Part → ℕ
to_second S set o code r b = pass_to (floored_at S code r.x b) set o 1

module _ (S : Schema) (ts : List ℕ) (set place : ℕ) where
  abbrev pub node_marks : List Sort → Operator → ℕ → BodyRow → Part → Part → Bool
  node_marks parts o code r a b =
      cond (eqb (second_sort parts) 3) (marked_by set (leaf_lists S ts code r.x r.y) place)
      (cond (eqb (first_sort parts) 3) (sum_marks S.relationships set place code r.x b || part_marks S b ts (to_second S set o code r b) place)
      (part_marks S a ts (pass_to false set o 0) place || part_marks S b (inner S ts (first_sort parts) a) (to_second S set o code r b) place))

  module _ (small : set < 4) where
    second : {s : Sort} (floored : Bool) (o : Operator) (p : Passing) (us : List ℕ) (b : Part) (f : Form s) → second_passing floored o ≡ some p → b ≡ part s f → part_marks S b us (pass_to floored set o 1) place ≡ marked_by (passed p set) (lists S f us) place
    unfolding part_lists
    second floored o p us b f e q = ap₂ (λ x k. part_marks S x us k place) q (second_passed floored o set small p e)

    first : {s : Sort} (o : Operator) (p : Passing) (a : Part) (f : Form s) → first_passing o ≡ some p → a ≡ part s f → part_marks S a ts (pass_to false set o 0) place ≡ marked_by (passed p set) (lists S f ts) place
    unfolding part_lists
    first o p a f e q = ap₂ (λ x k. part_marks S x ts k place) q (first_passed false o set small p e)

    -- two parts, the second with its own variables
    two : {s u : Sort} (floored : Bool) (o : Operator) (p q : Passing) (us : List ℕ) (a b : Part) (f : Form s) (g : Form u) → first_passing o ≡ some p → second_passing floored o ≡ some q → a ≡ part s f → b ≡ part u g
        → (part_marks S a ts (pass_to false set o 0) place || part_marks S b us (pass_to floored set o 1) place) ≡ marked_by set (λ d. through ◌++◌ p (lists S f ts) d ++ through ◌++◌ q (lists S g us) d) place
    two floored o p q us a b f g e h x y = ap₂ ◌||◌ (first o p a f e x) (second floored o q us b g h y) ∙ by_parts place set small p q (lists S f ts) (lists S g us)

    -- a collection, and a truth with one variable more
    over : (floored : Bool) (o : Operator) (p : Passing) (a b : Part) (f : Form collection) (g : Form truth) → first_passing o ≡ some p → second_passing floored o ≡ some at_member → a ≡ part collection f → b ≡ part truth g
        → (part_marks S a ts (pass_to false set o 0) place || part_marks S b (bind ts (member_of S.relationships a)) (pass_to floored set o 1) place)
        ≡ marked_by set (λ d. through ◌++◌ p (lists S f ts) d ++ lists S g (bind ts (member_type S.relationships f)) d) place
    unfolding member_of as_collection
    over floored o p a b f g e h x y =
        ap (λ c. part_marks S a ts (pass_to false set o 0) place || part_marks S b (bind ts (member_of S.relationships c)) (pass_to floored set o 1) place) x
        ∙ two floored o p at_member (bind ts (member_type S.relationships f)) a b f g e h x y

    node_marks_lem : (o : Operator) (r : BodyRow) (a b : Part) → sorted (shape_of o).parts a b → node_marks (shape_of o).parts o (code_of o) r a b ≡ part_marks S (form_of o r a b) ts set place
    unfolding shape_of code_of form_of part_lists leaf_lists member_of lists first_passing second_passing
    node_marks_lem (comparing o) r a b t = two (floors S (comparing o) r b) (comparing o) (left_of o) (right_of o) ts a b (as_number a) (as_number b) refl refl (is_number a t.0) (is_number b t.1)
    node_marks_lem negating r a b t = second (floors S negating r b) negating negated ts b (as_truth b) refl (is_truth_lem b t) ∙ by_part place set small negated (lists S (as_truth b) ts)
    node_marks_lem (connecting o) r a b t = two (floors S (connecting o) r b) (connecting o) (first_truth o) (second_truth o) ts a b (as_truth a) (as_truth b) refl refl (is_truth_lem a t.0) (is_truth_lem b t.1)
    node_marks_lem (quantifying q) r a b t = over (floors S (quantifying q) r b) (quantifying q) (source_of q) a b (as_collection a) (as_truth b) refl refl (is_collection a t.0) (is_truth_lem b t.1)
    node_marks_lem kind_of r a b t = refl
    node_marks_lem literal r a b t = refl
    node_marks_lem cell_of r a b t = refl
    node_marks_lem size_of r a b t = second (floors S size_of r b) size_of counted ts b (as_collection b) refl (is_collection b t) ∙ by_part place set small counted (lists S (as_collection b) ts)
    node_marks_lem sum_of r a b t =
        let members = as_collection b in
        let cell : Direction → List EventType = λ d. set_of (member_type S.relationships members) r.x ∷ [] in
        let floored = floored_sum S members r.x in
        let p = sum_source floored in
        or_comm (marked_by set cell place) (part_marks S b ts (pass_to floored set sum_of 1) place)
        ∙ ap (λ x. x || marked_by set cell place) (second floored sum_of p ts b members refl (is_collection b t) ∙ by_part place set small p (lists S members ts))
        ∙ by_two place set small (through ◌++◌ p (lists S members ts)) cell
    node_marks_lem (combining o) r a b t = two (floors S (combining o) r b) (combining o) (first_term o) (second_term o) ts a b (as_number a) (as_number b) refl refl (is_number a t.0) (is_number b t.1)
    node_marks_lem role_of r a b t = refl
    node_marks_lem all_of r a b t = refl
    node_marks_lem selecting r a b t = over (floors S selecting r b) selecting chosen_from a b (as_collection a) (as_truth b) refl refl (is_collection a t.0) (is_truth_lem b t.1)

-- ---- the form that ends with a row, by what the code reads of the row

module _ (rows : ℕ → BodyRow) (i : ℕ) (sound : T (ending rows (suc i)).sound) (S : Schema) (ts : List ℕ) (set : ℕ) (small : set < 4) (place : ℕ) where
  abbrev a : Part
  a = (first_part rows i).form

  abbrev b : Part
  b = (second_part rows i).form

  abbrev op : Operator
  op = operator_here rows i sound

  abbrev sorts : List Sort
  sorts = parts_here rows i sound

  marks_here : node_marks S ts set place sorts op (rows i).code (rows i) a b ≡ part_marks S (ending rows (suc i)).form ts set place
  marks_here =
      let d = node rows i sound in
      ap (λ k. node_marks S ts set place sorts op k (rows i) a b) (sym (code_of_lem (rows i).code op d.coded))
      ∙ node_marks_lem S ts set place small op (rows i) a b (sorted_parts sorts i (first_part rows i) (second_part rows i) d.parts)
      ∙ ap (λ f. part_marks S f ts set place) (sym d.form)

  pub leaf_here : second_sort sorts ≡ 3 → marked_by set (leaf_lists S ts (rows i).code (rows i).x (rows i).y) place ≡ part_marks S (ending rows (suc i)).form ts set place
  leaf_here e = simp (eq-eqb (second_sort sorts) 3 e) at marks_here

  module _ (n : second_sort sorts ≡ 3 → ⊥) where
    pub one_here : first_sort sorts ≡ 3 → (sum_marks S.relationships set place (rows i).code (rows i).x b || part_marks S b ts (to_second S set op (rows i).code (rows i) b) place) ≡ part_marks S (ending rows (suc i)).form ts set place
    one_here e = simp (ne_eqb (second_sort sorts) 3 n, eq-eqb (first_sort sorts) 3 e) at marks_here

    pub two_here : (first_sort sorts ≡ 3 → ⊥) → (part_marks S a ts (pass_to false set op 0) place || part_marks S b (inner S ts (first_sort sorts) a) (to_second S set op (rows i).code (rows i) b) place) ≡ part_marks S (ending rows (suc i)).form ts set place
    two_here m = simp (ne_eqb (second_sort sorts) 3 n, ne_eqb (first_sort sorts) 3 m) at marks_here
