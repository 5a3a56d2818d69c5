-- Whether a form moves, by its row and its parts.
use Prim.Native.Nat.{ℕ, zero, suc, ◌<◌}
use mathlib.Core.Path.{◌≡◌, refl, sym, ap, ap₂, ◌∙◌}
use mathlib.Core.Bool.{Bool, false, ◌||◌, cond, or-false, or_self}
use mathlib.Core.List.{List, [], ◌∷◌}
use mathlib.Core.Option.{some}
use native.Mathlib.Omega.{arith}
use lib.Dec.{T, eqb}
use borrow.Author.Tests.{eq-eqb, ne_eqb}
use Rattle.meaning.specs.Lists.{any}
use Rattle.meaning.specs.Forms.{Sort, truth, collection, Form, bind}
use Rattle.meaning.specs.Meaning.{meaning}
use Rattle.meaning.specs.Reach.{Change, Direction, Passing, through, left_of, right_of, negated, first_truth, second_truth, source_of, at_member, counted, chosen_from, first_term, second_term, sum_source, floored_sum, cell_moves, moves}
use Rattle.tables.specs.Codes.{Operator, comparing, negating, connecting, quantifying, kind_of, literal, cell_of, size_of, sum_of, combining, role_of, all_of, selecting, code_of, shape_of}
use Rattle.tables.specs.Bodies.{BodyRow, Part, part, as_truth, as_number, as_collection, form_of, ending, first_part, second_part}
use Rattle.tables.proofs.Readings.{node, code_of_lem, sorted, sorted_parts, is_truth_lem, is_number, is_collection}
use Rattle.directions.specs.Sets.{some_of}
use Rattle.direction_table.specs.Entries.{first_passing, second_passing}
use Rattle.directions.proofs.Sets.{through_some, some_or}
use Rattle.directions.proofs.Passes.{first_passed, second_passed}
use Rattle.body_rows.specs.Marks.{first_sort, second_sort}
use Rattle.typing.specs.Types.{member_of}
use Rattle.typing.proofs.Types.{operator_here, parts_here}
use Rattle.form_marks.proofs.Nodes.{pass_to, floors, to_second}
use Rattle.reach.specs.Moves.{part_moves, moved_by, leaf_moves}

-- ---- a set of directions, at members

-- nothing moves over nothing
none_moves : (set : ℕ) → set < 4 → some_of set (λ d. false) ≡ false
none_moves zero h = refl
none_moves (suc zero) h = refl
none_moves (suc (suc zero)) h = refl
none_moves (suc (suc (suc zero))) h = refl
none_moves (suc (suc (suc (suc set)))) h = absurd (omega arith)

pub any_some : (set : ℕ) → set < 4 → (m : ℕ → Direction → Bool) (l : List ℕ) → some_of set (λ d. any (λ x. m x d) l) ≡ any (λ x. some_of set (m x)) l
any_some set h m [] = none_moves set h
any_some set h m (x ∷ l) = some_or (m x) (λ d. any (λ y. m y d) l) set h ∙ ap (λ b. some_of set (m x) || b) (any_some set h m l)

-- what moves whichever way is asked
pub always : (set : ℕ) (b : Bool) → 0 < set → set < 4 → some_of set (λ d. b) ≡ b
always zero b p h = absurd (omega arith)
always (suc zero) b p h = or-false b
always (suc (suc zero)) b p h = refl
always (suc (suc (suc zero))) b p h = or_self b
always (suc (suc (suc (suc set)))) b p h = absurd (omega arith)

-- ---- a form by its parts

module _ (c : Change) (ids : List ℕ) (set : ℕ) where
  abbrev pub members_in : Part → List ℕ
  members_in a = meaning c.schema.types c.end (as_collection a) ids

  -- a sum moves by a set of its cell at a member besides; what is no sum does not
  abbrev pub sum_moves : ℕ → ℕ → Part → Bool
  sum_moves code x b = cond (eqb code 17) (any (λ m. cell_moves c m x) (members_in b)) false

  abbrev pub second_moves : ℕ → ℕ → Part → Part → Bool
  second_moves first dirs a b = cond (eqb first 2) (any (λ m. moved_by c b (bind ids m) dirs) (members_in a)) (moved_by c b ids dirs)

  abbrev pub node_moves : List Sort → Operator → ℕ → BodyRow → Part → Part → Bool
  node_moves parts o code r a b =
      cond (eqb (second_sort parts) 3) (some_of set (leaf_moves c ids code r.x r.y))
      (cond (eqb (first_sort parts) 3) (moved_by c b ids (to_second c.schema set o code r b) || sum_moves code r.x b)
      (moved_by c a ids (pass_to false set o 0) || second_moves (first_sort parts) (to_second c.schema set o code r b) a b))

  module _ (some_set : 0 < set) (small : set < 4) where
    second : {s : Sort} (floored : Bool) (o : Operator) (p : Passing) (vs : List ℕ) (b : Part) (f : Form s) → second_passing floored o ≡ some p → b ≡ part s f → moved_by c b vs (pass_to floored set o 1) ≡ some_of set (through ◌||◌ p (moves c f vs))
    unfolding part_moves
    second floored o p vs b f e q = ap₂ (λ x k. moved_by c x vs k) q (second_passed floored o set small p e) ∙ sym (through_some (moves c f vs) p set small)

    first : {s : Sort} (o : Operator) (p : Passing) (a : Part) (f : Form s) → first_passing o ≡ some p → a ≡ part s f → moved_by c a ids (pass_to false set o 0) ≡ some_of set (through ◌||◌ p (moves c f ids))
    unfolding part_moves
    first o p a f e q = ap₂ (λ x k. moved_by c x ids k) q (first_passed false o set small p e) ∙ sym (through_some (moves c f ids) p set small)

    two : {s u : Sort} (floored : Bool) (o : Operator) (p q : Passing) (a b : Part) (f : Form s) (g : Form u) → first_passing o ≡ some p → second_passing floored o ≡ some q → a ≡ part s f → b ≡ part u g
        → (moved_by c a ids (pass_to false set o 0) || moved_by c b ids (pass_to floored set o 1)) ≡ some_of set (λ d. through ◌||◌ p (moves c f ids) d || through ◌||◌ q (moves c g ids) d)
    two floored o p q a b f g e h x y = ap₂ ◌||◌ (first o p a f e x) (second floored o q ids b g h y) ∙ sym (some_or (through ◌||◌ p (moves c f ids)) (through ◌||◌ q (moves c g ids)) set small)

    -- a collection, and a truth at its members
    over : (floored : Bool) (o : Operator) (p : Passing) (a b : Part) (f : Form collection) (g : Form truth) → first_passing o ≡ some p → second_passing floored o ≡ some at_member → a ≡ part collection f → b ≡ part truth g
        → (moved_by c a ids (pass_to false set o 0) || any (λ m. moved_by c b (bind ids m) (pass_to floored set o 1)) (members_in a))
        ≡ some_of set (λ d. through ◌||◌ p (moves c f ids) d || any (λ m. moves c g (bind ids m) d) (meaning c.schema.types c.end f ids))
    unfolding as_collection
    over floored o p a b f g e h x y =
        ap₂ ◌||◌ (first o p a f e x)
        (ap (λ k. any (λ m. moved_by c b (bind ids m) (pass_to floored set o 1)) (members_in k)) x
        ∙ any_same (λ m. moved_by c b (bind ids m) (pass_to floored set o 1)) (λ m. some_of set (moves c g (bind ids m))) (λ m. second floored o at_member (bind ids m) b g h y) (meaning c.schema.types c.end f ids)
        ∙ sym (any_some set small (λ m. moves c g (bind ids m)) (meaning c.schema.types c.end f ids)))
        ∙ sym (some_or (through ◌||◌ p (moves c f ids)) (λ d. any (λ m. moves c g (bind ids m) d) (meaning c.schema.types c.end f ids)) set small)
      where
        any_same : (p q : ℕ → Bool) → ((x : ℕ) → p x ≡ q x) → (l : List ℕ) → any p l ≡ any q l
        any_same p q h [] = refl
        any_same p q h (x ∷ l) = ap₂ ◌||◌ (h x) (any_same p q h l)

    node_moves_lem : (o : Operator) (r : BodyRow) (a b : Part) → sorted (shape_of o).parts a b → node_moves (shape_of o).parts o (code_of o) r a b ≡ moved_by c (form_of o r a b) ids set
    unfolding shape_of code_of form_of member_of part_moves leaf_moves moves first_passing second_passing
    node_moves_lem (comparing o) r a b t = two (floors c.schema (comparing o) r b) (comparing o) (left_of o) (right_of o) a b (as_number a) (as_number b) refl refl (is_number a t.0) (is_number b t.1)
    node_moves_lem negating r a b t = or-false _ ∙ second (floors c.schema negating r b) negating negated ids b (as_truth b) refl (is_truth_lem b t)
    node_moves_lem (connecting o) r a b t = two (floors c.schema (connecting o) r b) (connecting o) (first_truth o) (second_truth o) a b (as_truth a) (as_truth b) refl refl (is_truth_lem a t.0) (is_truth_lem b t.1)
    node_moves_lem (quantifying q) r a b t = over (floors c.schema (quantifying q) r b) (quantifying q) (source_of q) a b (as_collection a) (as_truth b) refl refl (is_collection a t.0) (is_truth_lem b t.1)
    node_moves_lem kind_of r a b t = refl
    node_moves_lem literal r a b t = refl
    node_moves_lem cell_of r a b t = refl
    node_moves_lem size_of r a b t = or-false _ ∙ second (floors c.schema size_of r b) size_of counted ids b (as_collection b) refl (is_collection b t)
    node_moves_lem sum_of r a b t =
        let f = as_collection b in
        let floored = floored_sum c.schema f r.x in
        let cells = any (λ m. cell_moves c m r.x) (meaning c.schema.types c.end f ids) in
        ap₂ ◌||◌ (second floored sum_of (sum_source floored) ids b f refl (is_collection b t)) (sym (always set cells some_set small))
        ∙ sym (some_or (through ◌||◌ (sum_source floored) (moves c f ids)) (λ d. cells) set small)
    node_moves_lem (combining o) r a b t = two (floors c.schema (combining o) r b) (combining o) (first_term o) (second_term o) a b (as_number a) (as_number b) refl refl (is_number a t.0) (is_number b t.1)
    node_moves_lem role_of r a b t = refl
    node_moves_lem all_of r a b t = refl
    node_moves_lem selecting r a b t = over (floors c.schema selecting r b) selecting chosen_from a b (as_collection a) (as_truth b) refl refl (is_collection a t.0) (is_truth_lem b t.1)

-- ---- the form that ends with a row, by what the code reads of the row

module _ (rows : ℕ → BodyRow) (i : ℕ) (sound : T (ending rows (suc i)).sound) (c : Change) (ids : List ℕ) (set : ℕ) (some_set : 0 < set) (small : set < 4) where
  abbrev a : Part
  a = (first_part rows i).form

  abbrev b : Part
  b = (second_part rows i).form

  abbrev op : Operator
  op = operator_here rows i sound

  abbrev sorts : List Sort
  sorts = parts_here rows i sound

  abbrev moved : Bool
  moved = moved_by c (ending rows (suc i)).form ids set

  moves_here : node_moves c ids set sorts op (rows i).code (rows i) a b ≡ moved
  moves_here =
      let d = node rows i sound in
      ap (λ k. node_moves c ids set sorts op k (rows i) a b) (sym (code_of_lem (rows i).code op d.coded))
      ∙ node_moves_lem c ids set some_set small op (rows i) a b (sorted_parts sorts i (first_part rows i) (second_part rows i) d.parts)
      ∙ ap (λ f. moved_by c f ids set) (sym d.form)

  pub leaf_here : second_sort sorts ≡ 3 → some_of set (leaf_moves c ids (rows i).code (rows i).x (rows i).y) ≡ moved
  leaf_here e = simp (eq-eqb (second_sort sorts) 3 e) at moves_here

  module _ (n : second_sort sorts ≡ 3 → ⊥) where
    pub one_here : first_sort sorts ≡ 3 → (moved_by c b ids (to_second c.schema set op (rows i).code (rows i) b) || sum_moves c ids set (rows i).code (rows i).x b) ≡ moved
    one_here e = simp (ne_eqb (second_sort sorts) 3 n, eq-eqb (first_sort sorts) 3 e) at moves_here

    pub two_here : (first_sort sorts ≡ 3 → ⊥) → (moved_by c a ids (pass_to false set op 0) || second_moves c ids set (first_sort sorts) (to_second c.schema set op (rows i).code (rows i) b) a b) ≡ moved
    two_here m = simp (ne_eqb (second_sort sorts) 3 n, ne_eqb (first_sort sorts) 3 m) at moves_here
