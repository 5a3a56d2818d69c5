-- Whether a form is well typed, by its row and its parts.
use Prim.Native.Nat.{ℕ, zero, suc, ◌+◌, ◌-◌, ◌/◌, ◌^◌, ◌≤◌, ◌<◌}
use mathlib.Core.Path.{◌≡◌, refl, sym, ap, ap₂, subst, ◌∙◌}
use mathlib.Core.Bool.{Bool, true, false, ◌&&◌, cond}
use mathlib.Core.List.{List, [], ◌∷◌}
use mathlib.Core.Option.{some, some-injective}
use native.Mathlib.Nat.{le_refl}
use native.Mathlib.Numerals.{add-one}
use native.Mathlib.Omega.{arith}
use lib.Dec.{T, ltb, leb, eqb}
use lib.ListN.{length, get_or, take, set}
use lib.Signed.{mag}
use lib.Seq.{length-take-le, get_or-take, take-take, take-suc-set, take-set-le}
use mir.Facts.{and_yes}
use borrow.Author.Tests.{lt-ltb, le-ltb, leb-true, leb-false, eqb-false, eq-eqb, ne_eqb}
use Rattle.meaning.specs.Limits.{fits_word}
use Rattle.meaning.specs.Schema.{Relationship, Schema, known_type, known_role, cells_of, under, near_type, far_type}
use Rattle.meaning.specs.Forms.{Sort, truth, number, collection, Form, bind, variable, member_type, well_typed}
use Rattle.rows.specs.Rows.{signed}
use Rattle.rows.proofs.Words.{signed_fits}
use Rattle.tables.specs.Codes.{Operator, comparing, negating, connecting, quantifying, kind_of, literal, cell_of, size_of, sum_of, combining, role_of, all_of, selecting, operators, operator_of, code_of, shape_of}
use Rattle.tables.specs.Bodies.{BodyRow, Part, part, sort_of, same_sort, as_truth, as_number, as_collection, form_of, reads, parts_fit, ending, first_part, second_part}
use Rattle.tables.specs.Columns.{schema_of}
use Rattle.tables.proofs.Readings.{ending_start, node, only_fits, both_fit, code_of_lem, sorted, sorted_parts, is_truth_lem, is_number, is_collection}
use Rattle.schema.proofs.Types.{type_known, relationship_known}
use Rattle.body_rows.specs.Marks.{first_sort, second_sort}
use Rattle.typing.specs.Types.{typed_part, member_of, summed, typed_leaf}
use Rattle.body_rows.proofs.Shapes.{coded_below}
use Rattle.body_rows.proofs.Marks.{result_sort}

-- ---- a row without parts, in lent tables

module _ (type_count : ℕ) (types : List ℕ) (relationship_count : ℕ) (relationships : List ℕ) where
  abbrev pub lent : Schema
  lent = schema_of type_count types [] relationship_count relationships

  module _ (depth : ℕ) (env : List ℕ) (long : depth ≤ length env) (code x y : ℕ) where
    abbrev pub leaf_words : Bool
    leaf_words =
        cond (eqb code 14) true
        (cond (eqb code 21) (ltb x type_count)
        (cond (leb depth x) false
        (cond (eqb code 13) (ltb y type_count)
        (cond (eqb code 15) (ltb y (cells_of lent.types (get_or env x 0)))
        (ltb (y / 2) relationship_count && under lent.types (get_or env x 0) (near_type lent.relationships y))))))

    pub leaf_words_lem : leaf_words ≡ typed_leaf lent (take depth env) code x y
    unfolding typed_leaf known_role
    leaf_words_lem =
        ap₂ (λ a b. cond (eqb code 14) true (cond (eqb code 21) a b)) (sym (type_known type_count types x))
        (ap (λ n. cond (leb n x) false (rest (get_or env x 0) (ltb y type_count) (ltb (y / 2) relationship_count))) (sym size)
        ∙ guarded (leb (length (take depth env)) x) refl)
      where
        size : length (take depth env) ≡ depth
        size = length-take-le depth env long

        rest : ℕ → Bool → Bool → Bool
        rest t known role = cond (eqb code 13) known (cond (eqb code 15) (ltb y (cells_of lent.types t)) (role && under lent.types t (near_type lent.relationships y)))

        -- a variable below the depth is that of the array
        guarded : (b : Bool) → leb (length (take depth env)) x ≡ b → cond b false (rest (get_or env x 0) (ltb y type_count) (ltb (y / 2) relationship_count)) ≡ cond b false (rest (variable (take depth env) x) (known_type lent.types y) (known_role lent.relationships y))
        guarded true e = refl
        guarded false e =
            let inside : x < depth = omega (arith, leb-false (length (take depth env)) x e, size) in
            λ j.
            rest (sym (get_or-take depth env x 0 inside) j) (sym (type_known type_count types y) j)
            (sym (relationship_known relationship_count relationships (y / 2)) j)

-- ---- the members of a collection

-- by the code: a select's are those of its first part, an all's of its type, and a role's of the type to which it leads
abbrev member_test : List Relationship → ℕ → BodyRow → Part → ℕ
member_test relationships code r a = cond (eqb code 22) (member_of relationships a) (cond (eqb code 21) r.x (far_type relationships r.y))

member_node : (relationships : List Relationship) (o : Operator) (r : BodyRow) (a b : Part) → T (same_sort collection (shape_of o).result) → member_test relationships (code_of o) r a ≡ member_of relationships (form_of o r a b)
unfolding shape_of code_of form_of member_of member_type as_collection
member_node relationships (comparing o) r a b t = absurd t
member_node relationships negating r a b t = absurd t
member_node relationships (connecting o) r a b t = absurd t
member_node relationships (quantifying q) r a b t = absurd t
member_node relationships kind_of r a b t = absurd t
member_node relationships literal r a b t = absurd t
member_node relationships cell_of r a b t = absurd t
member_node relationships size_of r a b t = absurd t
member_node relationships sum_of r a b t = absurd t
member_node relationships (combining o) r a b t = absurd t
member_node relationships role_of r a b t = refl
member_node relationships all_of r a b t = refl
member_node relationships selecting r a b t = refl

module _ (rows : ℕ → BodyRow) (i : ℕ) (reading : T (reads collection (ending rows (suc i)))) where
  is_sound : T (ending rows (suc i)).sound
  is_sound = (and_yes (ending rows (suc i)).sound (same_sort collection (sort_of (ending rows (suc i)).form)) reading).0

  pub member_row : (relationships : List Relationship) → member_test relationships (rows i).code (rows i) (first_part rows i).form ≡ member_of relationships (ending rows (suc i)).form
  member_row relationships =
      let d = node rows i is_sound in
      let f = (first_part rows i).form in
      let s = (second_part rows i).form in
      let sort : sort_of (ending rows (suc i)).form ≡ (shape_of d.operator).result = ap sort_of d.form ∙ result_sort d.operator (rows i) f s in
      ap (λ k. member_test relationships k (rows i) f) (sym (code_of_lem (rows i).code d.operator d.coded))
      ∙ member_node relationships d.operator (rows i) f s
      (subst (λ q. T (same_sort collection q)) sort (and_yes (ending rows (suc i)).sound (same_sort collection (sort_of (ending rows (suc i)).form)) reading).1)
      ∙ ap (member_of relationships) (sym d.form)

  -- the first part of a select is a collection
  pub select_row : (rows i).code ≡ 22 → (0 < (ending rows i).start) × T (reads collection (first_part rows i))
  unfolding operator_of operators shape_of
  select_row e =
      let d = node rows i is_sound in
      let o : d.operator ≡ selecting = sym (some-injective selecting d.operator (sym (ap operator_of e) ∙ d.coded)) in
      let r = both_fit collection truth [] i (first_part rows i) (second_part rows i) (subst (λ (o : Operator). T (parts_fit (shape_of o).parts i (first_part rows i) (second_part rows i))) o d.parts) in
      (r.2, r.3)

-- the way down through selects: the collection that ends with a row has the members of the one that ends before row e
pub record Members (rows : ℕ → BodyRow) (e row : ℕ) : Type 0 where
  pub below : row < e
  pub reading : T (reads collection (ending rows (suc row)))
  pub same : (relationships : List Relationship) → member_of relationships (ending rows (suc row)).form ≡ member_of relationships (ending rows e).form

pub members_none : (rows : ℕ → BodyRow) (e : ℕ) → T (reads collection (ending rows e)) → (0 < e) × Members rows e (e - 1)
unfolding ending
members_none rows zero t = absurd t
members_none rows (suc i) t =
    let row : suc i - 1 ≡ i = omega arith in
    (omega arith, subst (Members rows (suc i)) (sym row) (record { below = le_refl (suc i); reading = t; same = λ relationships. refl }))

pub members_more : {rows : ℕ → BodyRow} {e row : ℕ} → Members rows e row → (rows row).code ≡ 22 → (m : ℕ) → m ≡ (ending rows row).start → (0 < m) × (m ≤ row) × Members rows e (m - 1)
members_more {rows} {e} {row} k code zero q = let h = (select_row rows row k.reading code).0 in absurd (omega arith)
members_more {rows} {e} {row} k code (suc m) q =
    let h = select_row rows row k.reading code in
    let low : suc m ≤ row = subst (λ n. n ≤ row) (sym q) (ending_start rows row) in
    let last : suc m - 1 ≡ m = omega arith in
    let below = k.below in (
      omega arith,
      low,
      subst (Members rows e) (sym last) (
          record {
            below = omega arith;
            reading = subst (λ n. T (reads collection (ending rows n))) (sym q) h.1;
            same =
                λ relationships.
                ap (λ n. member_of relationships (ending rows n).form) q
                ∙ ap (λ c. member_test relationships c (rows row) (first_part rows row).form) (sym code)
                ∙ member_row rows row k.reading relationships
                ∙ k.same relationships;
          }
          ),
    )

module _ {rows : ℕ → BodyRow} {e row : ℕ} (k : Members rows e row) (relationships : List Relationship) where
  pub members_all : (rows row).code ≡ 21 → (rows row).x ≡ member_of relationships (ending rows e).form
  members_all code =
      ap (λ c. member_test relationships c (rows row) (first_part rows row).form) (sym code) ∙ member_row rows row k.reading relationships ∙ k.same relationships

  pub members_role : ((rows row).code ≡ 22 → ⊥) → ((rows row).code ≡ 21 → ⊥) → far_type relationships (rows row).y ≡ member_of relationships (ending rows e).form
  members_role a b =
      sym (simp (ne_eqb (rows row).code 22 a, ne_eqb (rows row).code 21 b) at (sym (member_row rows row k.reading relationships))) ∙ k.same relationships

-- ---- a form by its parts

cond_and : (a b : Bool) → cond a b false ≡ (a && b)
cond_and true b = refl
cond_and false b = refl

cond_below : (n x : ℕ) (b : Bool) → cond (leb n x) false b ≡ (ltb x n && b)
cond_below n x b = step (leb n x) refl
  where
    step : (t : Bool) → leb n x ≡ t → cond t false b ≡ (ltb x n && b)
    step true e = rw (le-ltb x n (leb-true n x e))
    step false e = rw (lt-ltb x n (leb-false n x e))

and_swap : (a b : Bool) → (a && b) ≡ (b && a)
and_swap true true = refl
and_swap true false = refl
and_swap false true = refl
and_swap false false = refl

and_assoc : (a b c : Bool) → (a && (b && c)) ≡ (a && b && c)
and_assoc true b c = refl
and_assoc false b c = refl

module _ (S : Schema) (vs : List ℕ) where
  -- test by test: a leaf; a form with one part, of which only a sum asks more; a form with two, of which the second has a variable
  -- more where the first is a collection
  abbrev one_part : ℕ → ℕ → Part → Bool
  one_part code x b = cond (summed S code x b) (typed_part S vs b) false

  abbrev two_parts : ℕ → Part → Part → Bool
  two_parts first a b = cond (typed_part S vs a) (cond (eqb first 2) (typed_part S (bind vs (member_of S.relationships a)) b) (typed_part S vs b)) false

  abbrev pub node_test : List Sort → ℕ → BodyRow → Part → Part → Bool
  node_test parts code r a b =
      cond (eqb (second_sort parts) 3) (typed_leaf S vs code r.x r.y)
      (cond (eqb (first_sort parts) 3) (one_part code r.x b) (two_parts (first_sort parts) a b))

  -- two parts of the same scope
  plain : {s t : Sort} (a b : Part) (f : Form s) (g : Form t) → a ≡ part s f → b ≡ part t g → cond (typed_part S vs a) (typed_part S vs b) false ≡ (well_typed S vs f && well_typed S vs g)
  unfolding typed_part
  plain a b f g p q = ap₂ (λ x y. cond (typed_part S vs x) (typed_part S vs y) false) p q ∙ cond_and (well_typed S vs f) (well_typed S vs g)

  -- a collection, and a truth with one variable more
  bound : (a b : Part) (f : Form collection) (g : Form truth) → a ≡ part collection f → b ≡ part truth g → cond (typed_part S vs a) (typed_part S (bind vs (member_of S.relationships a)) b) false ≡ (well_typed S vs f && well_typed S (bind vs (member_type S.relationships f)) g)
  unfolding typed_part member_of as_collection
  bound a b f g p q =
      ap₂ (λ x y. cond (typed_part S vs x) (typed_part S (bind vs (member_of S.relationships x)) y) false) p q
      ∙ cond_and (well_typed S vs f) (well_typed S (bind vs (member_type S.relationships f)) g)

  node_typed : (o : Operator) (r : BodyRow) (a b : Part) → sorted (shape_of o).parts a b → node_test (shape_of o).parts (code_of o) r a b ≡ typed_part S vs (form_of o r a b)
  unfolding shape_of code_of form_of typed_part typed_leaf member_of well_typed fits_word
  node_typed (comparing o) r a b t = plain a b (as_number a) (as_number b) (is_number a t.0) (is_number b t.1)
  node_typed negating r a b t = ap (typed_part S vs) (is_truth_lem b t)
  node_typed (connecting o) r a b t = plain a b (as_truth a) (as_truth b) (is_truth_lem a t.0) (is_truth_lem b t.1)
  node_typed (quantifying q) r a b t = bound a b (as_collection a) (as_truth b) (is_collection a t.0) (is_truth_lem b t.1)
  node_typed kind_of r a b t = cond_below (length vs) r.x (known_type S.types r.y)
  node_typed literal r a b t = sym (lt-ltb (mag (signed r.x)) (2 ^ 31) (signed_fits r.x))
  node_typed cell_of r a b t = cond_below (length vs) r.x (ltb r.y (cells_of S.types (variable vs r.x)))
  node_typed size_of r a b t = ap (typed_part S vs) (is_collection b t)
  node_typed sum_of r a b t =
      let cells = cells_of S.types (member_of S.relationships b) in
      cond_and (ltb r.x cells) (typed_part S vs b)
      ∙ and_swap (ltb r.x cells) (typed_part S vs b)
      ∙ ap (λ p. typed_part S vs p && ltb r.x cells) (is_collection b t)
  node_typed (combining o) r a b t = plain a b (as_number a) (as_number b) (is_number a t.0) (is_number b t.1)
  node_typed role_of r a b t =
      cond_below (length vs) r.x (known_role S.relationships r.y && under S.types (variable vs r.x) (near_type S.relationships r.y))
      ∙ and_assoc (ltb r.x (length vs)) (known_role S.relationships r.y) (under S.types (variable vs r.x) (near_type S.relationships r.y))
  node_typed all_of r a b t = refl
  node_typed selecting r a b t = bound a b (as_collection a) (as_truth b) (is_collection a t.0) (is_truth_lem b t.1)

-- ---- the form that ends with a row, by what the code reads of the row

module _ (rows : ℕ → BodyRow) (i : ℕ) (sound : T (ending rows (suc i)).sound) where
  abbrev pub operator_here : Operator
  operator_here = (node rows i sound).operator

  abbrev pub parts_here : List Sort
  parts_here = (shape_of operator_here).parts

  pub coded_here : operator_of (rows i).code ≡ some operator_here
  coded_here = (node rows i sound).coded

  pub code_here : (rows i).code < 23
  code_here = coded_below (rows i).code operator_here coded_here

  pub typed_here : (S : Schema) (vs : List ℕ) → node_test S vs parts_here (rows i).code (rows i) (first_part rows i).form (second_part rows i).form ≡ typed_part S vs (ending rows (suc i)).form
  typed_here S vs =
      let d = node rows i sound in
      let f = (first_part rows i).form in
      let s = (second_part rows i).form in
      ap (λ k. node_test S vs parts_here k (rows i) f s) (sym (code_of_lem (rows i).code d.operator d.coded))
      ∙ node_typed S vs d.operator (rows i) f s (sorted_parts parts_here i (first_part rows i) (second_part rows i) d.parts)
      ∙ ap (typed_part S vs) (sym d.form)

  -- the parts that the operator wants are there
  pub second_here : (second_sort parts_here ≡ 3 → ⊥) → T (second_part rows i).sound
  second_here = by_parts parts_here (node rows i sound).parts
    where
      by_parts : (parts : List Sort) → T (parts_fit parts i (first_part rows i) (second_part rows i)) → (second_sort parts ≡ 3 → ⊥) → T (second_part rows i).sound
      by_parts [] t n = absurd (n refl)
      by_parts (p ∷ []) t n = (and_yes (second_part rows i).sound _ (only_fits p i (first_part rows i) (second_part rows i) t).1).0
      by_parts (p ∷ q ∷ more) t n = (and_yes (second_part rows i).sound _ (both_fit p q more i (first_part rows i) (second_part rows i) t).1).0

  pub first_here : (first_sort parts_here ≡ 3 → ⊥) → T (first_part rows i).sound
  first_here = by_parts parts_here (node rows i sound).parts
    where
      by_parts : (parts : List Sort) → T (parts_fit parts i (first_part rows i) (second_part rows i)) → (first_sort parts ≡ 3 → ⊥) → T (first_part rows i).sound
      by_parts [] t n = absurd (n refl)
      by_parts (p ∷ []) t n = absurd (n refl)
      by_parts (p ∷ q ∷ more) t n = (and_yes (first_part rows i).sound _ (both_fit p q more i (first_part rows i) (second_part rows i) t).3).0

  pub binds_here : first_sort parts_here ≡ 2 → T (reads collection (first_part rows i))
  binds_here = by_parts parts_here (node rows i sound).parts
    where
      by_parts : (parts : List Sort) → T (parts_fit parts i (first_part rows i) (second_part rows i)) → first_sort parts ≡ 2 → T (reads collection (first_part rows i))
      by_parts [] t e = absurd (eqb-false 3 2 refl e)
      by_parts (p ∷ []) t e = absurd (eqb-false 3 2 refl e)
      by_parts (truth ∷ q ∷ more) t e = absurd (eqb-false 0 2 refl e)
      by_parts (number ∷ q ∷ more) t e = absurd (eqb-false 1 2 refl e)
      by_parts (collection ∷ q ∷ more) t e = (both_fit collection q more i (first_part rows i) (second_part rows i) t).3

  pub sums_here : (rows i).code ≡ 17 → T (reads collection (second_part rows i))
  unfolding operator_of operators shape_of
  sums_here e =
      let o : operator_here ≡ sum_of = sym (some-injective sum_of operator_here (sym (ap operator_of e) ∙ coded_here)) in
      (only_fits collection i (first_part rows i) (second_part rows i) (subst (λ (o : Operator). T (parts_fit (shape_of o).parts i (first_part rows i) (second_part rows i))) o (node rows i sound).parts)).1

  -- the same, test by test
  module _ (S : Schema) (vs : List ℕ) where
    pub leaf_here : second_sort parts_here ≡ 3 → typed_leaf S vs (rows i).code (rows i).x (rows i).y ≡ typed_part S vs (ending rows (suc i)).form
    leaf_here e = simp (eq-eqb (second_sort parts_here) 3 e) at (typed_here S vs)

    pub one_here : (second_sort parts_here ≡ 3 → ⊥) → first_sort parts_here ≡ 3 → cond (summed S (rows i).code (rows i).x (second_part rows i).form) (typed_part S vs (second_part rows i).form) false ≡ typed_part S vs (ending rows (suc i)).form
    one_here n e = simp (ne_eqb (second_sort parts_here) 3 n, eq-eqb (first_sort parts_here) 3 e) at (typed_here S vs)

    module _ (n : second_sort parts_here ≡ 3 → ⊥) (m : first_sort parts_here ≡ 3 → ⊥) where
      two_here : two_parts S vs (first_sort parts_here) (first_part rows i).form (second_part rows i).form ≡ typed_part S vs (ending rows (suc i)).form
      two_here = simp (ne_eqb (second_sort parts_here) 3 n, ne_eqb (first_sort parts_here) 3 m) at (typed_here S vs)

      pub plain_here : (first_sort parts_here ≡ 2 → ⊥) → cond (typed_part S vs (first_part rows i).form) (typed_part S vs (second_part rows i).form) false ≡ typed_part S vs (ending rows (suc i)).form
      plain_here k = simp (ne_eqb (first_sort parts_here) 2 k) at two_here

      pub bound_here : first_sort parts_here ≡ 2 → cond (typed_part S vs (first_part rows i).form) (typed_part S (bind vs (member_of S.relationships (first_part rows i).form)) (second_part rows i).form) false ≡ typed_part S vs (ending rows (suc i)).form
      bound_here e = simp (eq-eqb (first_sort parts_here) 2 e) at two_here

      -- a first part that is not well typed
      pub fails_here : typed_part S vs (first_part rows i).form ≡ false → false ≡ typed_part S vs (ending rows (suc i)).form
      fails_here e = simp e at two_here

-- a variable more
pub bind_take : (env : List ℕ) (depth t : ℕ) → depth < length env → take (depth + 1) (set env depth t) ≡ bind (take depth env) t
bind_take env depth t h = ap (λ n. take n (set env depth t)) (add-one depth) ∙ take-suc-set env depth t h

-- what is left of the types of the variables by whoever was lent one more
pub scope_kept : (env left : List ℕ) (depth t : ℕ) → take (depth + 1) left ≡ take (depth + 1) (set env depth t) → take depth left ≡ take depth env
scope_kept env left depth t h =
    sym (take-take depth (depth + 1) left (omega arith))
    ∙ ap (take depth) h
    ∙ take-take depth (depth + 1) (set env depth t) (omega arith)
    ∙ take-set-le depth env depth t (le_refl depth)
