-- What is reached from a form, by its row and its parts.
use Prim.Native.Nat.{ℕ, suc, ◌<◌}
use mathlib.Core.Path.{◌≡◌, refl, sym, ap, ap₂, ◌∙◌}
use mathlib.Core.Bool.{Bool, true, false, ◌&&◌, ◌||◌, cond, or-false}
use mathlib.Core.List.{List, []}
use mathlib.Core.Option.{some}
use lib.Dec.{T, eqb}
use borrow.Author.Tests.{eq-eqb, ne_eqb}
use Rattle.meaning.specs.Lists.{any}
use Rattle.meaning.specs.Register.{instances, far_ends}
use Rattle.meaning.specs.Forms.{Sort, truth, collection, Form, role, all, select}
use Rattle.meaning.specs.Reach.{Change, Direction, Passing, through, left_of, right_of, negated, first_truth, second_truth, source_of, at_member, counted, chosen_from, first_term, second_term, sum_source, floored_sum, cell_moves}
use Rattle.tables.specs.Codes.{Operator, comparing, negating, connecting, quantifying, kind_of, literal, cell_of, size_of, sum_of, combining, role_of, all_of, selecting, code_of, shape_of}
use Rattle.tables.specs.Bodies.{BodyRow, Part, part, as_truth, as_number, as_collection, form_of, ending, first_part, second_part}
use Rattle.tables.proofs.Readings.{node, code_of_lem, sorted, sorted_parts, is_truth_lem, is_number, is_collection}
use Rattle.directions.specs.Sets.{some_of}
use Rattle.direction_table.specs.Entries.{first_passing, second_passing}
use Rattle.directions.proofs.Sets.{through_some, some_or}
use Rattle.directions.proofs.Passes.{first_passed, second_passed}
use Rattle.body_rows.specs.Marks.{first_sort, second_sort}
use Rattle.typing.specs.Types.{member_of}
use Rattle.typing.proofs.Types.{operator_here, parts_here}
use Rattle.form_marks.proofs.Nodes.{pass_to, floors, to_second}
use Rattle.reach.proofs.Nodes.{any_some, always}
use Rattle.going_back.specs.Back.{leads_into, through_members, reached, part_reached, reached_by, leaf_reached}

module _ (c : Change) (set : ℕ) (small : set < 4) where
  -- a test, and a movement in some direction
  pub some_and : (b : Bool) (m : Direction → Bool) → some_of set (λ d. b && m d) ≡ (b && some_of set m)
  some_and true m = refl
  some_and false m = any_some set small (λ x. m) []

  -- a collection leads to what is reached from a movement in some direction
  leads_some : (k : Form collection) (m : ℕ → Direction → Bool) (v u : ℕ) → some_of set (λ d. leads_into c k (λ x. m x d) v u) ≡ leads_into c k (λ x. some_of set (m x)) v u
  unfolding leads_into
  leads_some (role w r) m v u =
      some_and (eqb v w) (λ d. any (λ x. m x d) (far_ends c.end r u)) ∙ ap (λ b. eqb v w && b) (any_some set small m (far_ends c.end r u))
  leads_some (all t) m v u = any_some set small m (instances c.schema.types c.end t)
  leads_some (select k b) m v u = leads_some k m v u

-- ---- a form by its parts

module _ (c : Change) (n set v u : ℕ) where
  -- a sum leads on from the members whose cell was set; what is no sum does not
  abbrev pub sum_reached : ℕ → ℕ → Part → Bool
  sum_reached code x b = cond (eqb code 17) (leads_into c (as_collection b) (λ y. cell_moves c y x) v u) false

  abbrev pub second_reached : ℕ → ℕ → Part → Part → Bool
  second_reached first dirs a b = cond (eqb first 2) (through_members c (as_collection a) n (reached_by c b (suc n) dirs) v u) (reached_by c b n dirs v u)

  abbrev pub node_reached : List Sort → Operator → ℕ → BodyRow → Part → Part → Bool
  node_reached parts o code r a b =
      cond (eqb (second_sort parts) 3) (some_of set (leaf_reached c code r.x r.y v u))
      (cond (eqb (first_sort parts) 3) (reached_by c b n (to_second c.schema set o code r b) v u || sum_reached code r.x b)
      (reached_by c a n (pass_to false set o 0) v u || second_reached (first_sort parts) (to_second c.schema set o code r b) a b))

  module _ (some_set : 0 < set) (small : set < 4) where
    -- a part of whichever depth, at whichever variable and id
    second : {s : Sort} (floored : Bool) (o : Operator) (p : Passing) (m w x : ℕ) (b : Part) (f : Form s) → second_passing floored o ≡ some p → b ≡ part s f → reached_by c b m (pass_to floored set o 1) w x ≡ some_of set (through ◌||◌ p (reached c f m w x))
    unfolding part_reached
    second floored o p m w x b f e q = ap₂ (λ y k. reached_by c y m k w x) q (second_passed floored o set small p e) ∙ sym (through_some (reached c f m w x) p set small)

    first : {s : Sort} (o : Operator) (p : Passing) (a : Part) (f : Form s) → first_passing o ≡ some p → a ≡ part s f → reached_by c a n (pass_to false set o 0) v u ≡ some_of set (through ◌||◌ p (reached c f n v u))
    unfolding part_reached
    first o p a f e q = ap₂ (λ y k. reached_by c y n k v u) q (first_passed false o set small p e) ∙ sym (through_some (reached c f n v u) p set small)

    two : {s t : Sort} (floored : Bool) (o : Operator) (p q : Passing) (a b : Part) (f : Form s) (g : Form t) → first_passing o ≡ some p → second_passing floored o ≡ some q → a ≡ part s f → b ≡ part t g
        → (reached_by c a n (pass_to false set o 0) v u || reached_by c b n (pass_to floored set o 1) v u) ≡ some_of set (λ d. through ◌||◌ p (reached c f n v u) d || through ◌||◌ q (reached c g n v u) d)
    two floored o p q a b f g e h x y = ap₂ ◌||◌ (first o p a f e x) (second floored o q n v u b g h y) ∙ sym (some_or (through ◌||◌ p (reached c f n v u)) (through ◌||◌ q (reached c g n v u)) set small)

    -- a collection, and a truth at its members
    over : (floored : Bool) (o : Operator) (p : Passing) (a b : Part) (f : Form collection) (g : Form truth) → first_passing o ≡ some p → second_passing floored o ≡ some at_member → a ≡ part collection f → b ≡ part truth g
        → (reached_by c a n (pass_to false set o 0) v u || through_members c (as_collection a) n (reached_by c b (suc n) (pass_to floored set o 1)) v u)
        ≡ some_of set (λ d. through ◌||◌ p (reached c f n v u) d || through_members c f n (λ w x. reached c g (suc n) w x d) v u)
    unfolding as_collection
    over floored o p a b f g e h x y =
        let body : Direction → ℕ → ℕ → Bool = λ d w z. reached c g (suc n) w z d in
        ap₂ ◌||◌ (first o p a f e x)
        (ap₂ (λ k r. through_members c k n r v u) (ap as_collection x) (λ i w z. second floored o at_member (suc n) w z b g h y i)
        ∙ ap (λ k. some_of set (reached c g (suc n) v u) || k) (sym (leads_some c set small f (λ z d. body d n z) v u))
        ∙ sym (some_or (λ d. body d v u) (λ d. leads_into c f (body d n) v u) set small))
        ∙ sym (some_or (through ◌||◌ p (reached c f n v u)) (λ d. through_members c f n (body d) v u) set small)

    node_reached_lem : (o : Operator) (r : BodyRow) (a b : Part) → sorted (shape_of o).parts a b → node_reached (shape_of o).parts o (code_of o) r a b ≡ reached_by c (form_of o r a b) n set v u
    unfolding shape_of code_of form_of member_of part_reached leaf_reached reached first_passing second_passing
    node_reached_lem (comparing o) r a b t = two (floors c.schema (comparing o) r b) (comparing o) (left_of o) (right_of o) a b (as_number a) (as_number b) refl refl (is_number a t.0) (is_number b t.1)
    node_reached_lem negating r a b t = or-false _ ∙ second (floors c.schema negating r b) negating negated n v u b (as_truth b) refl (is_truth_lem b t)
    node_reached_lem (connecting o) r a b t = two (floors c.schema (connecting o) r b) (connecting o) (first_truth o) (second_truth o) a b (as_truth a) (as_truth b) refl refl (is_truth_lem a t.0) (is_truth_lem b t.1)
    node_reached_lem (quantifying q) r a b t = over (floors c.schema (quantifying q) r b) (quantifying q) (source_of q) a b (as_collection a) (as_truth b) refl refl (is_collection a t.0) (is_truth_lem b t.1)
    node_reached_lem kind_of r a b t = refl
    node_reached_lem literal r a b t = refl
    node_reached_lem cell_of r a b t = refl
    node_reached_lem size_of r a b t = or-false _ ∙ second (floors c.schema size_of r b) size_of counted n v u b (as_collection b) refl (is_collection b t)
    node_reached_lem sum_of r a b t =
        let f = as_collection b in
        let floored = floored_sum c.schema f r.x in
        let cells = leads_into c f (λ y. cell_moves c y r.x) v u in
        ap₂ ◌||◌ (second floored sum_of (sum_source floored) n v u b f refl (is_collection b t)) (sym (always set cells some_set small))
        ∙ sym (some_or (through ◌||◌ (sum_source floored) (reached c f n v u)) (λ d. cells) set small)
    node_reached_lem (combining o) r a b t = two (floors c.schema (combining o) r b) (combining o) (first_term o) (second_term o) a b (as_number a) (as_number b) refl refl (is_number a t.0) (is_number b t.1)
    node_reached_lem role_of r a b t = refl
    node_reached_lem all_of r a b t = refl
    node_reached_lem selecting r a b t = over (floors c.schema selecting r b) selecting chosen_from a b (as_collection a) (as_truth b) refl refl (is_collection a t.0) (is_truth_lem b t.1)

-- ---- the form that ends with a row, by what the code reads of the row

module _ (rows : ℕ → BodyRow) (i : ℕ) (sound : T (ending rows (suc i)).sound) (c : Change) (n set : ℕ) (some_set : 0 < set) (small : set < 4) (v u : ℕ) where
  abbrev a : Part
  a = (first_part rows i).form

  abbrev b : Part
  b = (second_part rows i).form

  abbrev op : Operator
  op = operator_here rows i sound

  abbrev sorts : List Sort
  sorts = parts_here rows i sound

  abbrev whole : Bool
  whole = reached_by c (ending rows (suc i)).form n set v u

  reached_here : node_reached c n set v u sorts op (rows i).code (rows i) a b ≡ whole
  reached_here =
      let d = node rows i sound in
      ap (λ k. node_reached c n set v u sorts op k (rows i) a b) (sym (code_of_lem (rows i).code op d.coded))
      ∙ node_reached_lem c n set v u some_set small op (rows i) a b (sorted_parts sorts i (first_part rows i) (second_part rows i) d.parts)
      ∙ ap (λ f. reached_by c f n set v u) (sym d.form)

  pub leaf_here : second_sort sorts ≡ 3 → some_of set (leaf_reached c (rows i).code (rows i).x (rows i).y v u) ≡ whole
  leaf_here e = simp (eq-eqb (second_sort sorts) 3 e) at reached_here

  module _ (m : second_sort sorts ≡ 3 → ⊥) where
    pub one_here : first_sort sorts ≡ 3 → (reached_by c b n (to_second c.schema set op (rows i).code (rows i) b) v u || sum_reached c n set v u (rows i).code (rows i).x b) ≡ whole
    one_here e = simp (ne_eqb (second_sort sorts) 3 m, eq-eqb (first_sort sorts) 3 e) at reached_here

    pub two_here : (first_sort sorts ≡ 3 → ⊥) → (reached_by c a n (pass_to false set op 0) v u || second_reached c n set v u (first_sort sorts) (to_second c.schema set op (rows i).code (rows i) b) a b) ≡ whole
    two_here k = simp (ne_eqb (second_sort sorts) 3 m, ne_eqb (first_sort sorts) 3 k) at reached_here
