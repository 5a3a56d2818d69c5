-- The parts of a form are ready where the form is, and its meaning is made of theirs.
use Prim.Native.Nat.{ℕ, suc, ◌+◌, ◌-◌, ◌≤◌, ◌<◌}
use mathlib.Core.Path.{◌≡◌, refl, sym, ap, subst, ◌∙◌}
use mathlib.Core.Logic.{⊎_elim}
use mathlib.Core.Bool.{Bool, true, false, ◌&&◌, not}
use mathlib.Core.List.{List, [], ◌∷◌, map}
use mathlib.Core.Option.{some}
use native.Mathlib.Nat.{eq-or-lt_of_le}
use native.Mathlib.Numerals.{add-one}
use native.Mathlib.Omega.{arith}
use lib.Dec.{T, ltb, eqb}
use lib.ListN.{get_or, set, length-set}
use lib.Seq.{get_or-set_same, get_or-set_other}
use lib.IntN.{ℤ}
use mir.Facts.{and_yes, ltb_yes}
use borrow.Author.Tests.{eqb-true, eqb-false}
use Rattle.meaning.specs.Register.{is_under, cell_at}
use Rattle.meaning.specs.Forms.{Sort, truth, number, collection, role, all, select, bind, variable}
use Rattle.meaning.specs.Meaning.{compared, connected, quantified, combined, total, meaning}
use Rattle.rows.specs.Rows.{signed}
use Rattle.tables.specs.Codes.{Operator, comparing, negating, connecting, quantifying, kind_of, literal, cell_of, size_of, sum_of, combining, role_of, all_of, selecting, operators, operator_of, shape_of}
use Rattle.tables.specs.Bodies.{BodyRow, Part, as_truth, as_number, as_collection, form_of, reads, ending}
use Rattle.tables.proofs.Readings.{sound_pos}
use Rattle.signed.specs.Comparing.{comparison_of}
use Rattle.walks.specs.Site.{Site, types_at, register_at, rows_at, form_at, code_at, id_in, ids_of}
use Rattle.operators.specs.Operators.{connective_of, quantifier_of, arithmetic_of}
use Rattle.walks.specs.Values.{truth_of, number_of, members_of}
use Rattle.walks.specs.Walks.{collection_at}
use Rattle.ocl.specs.Ready.{scoped, scoped_as, Ready}
use Rattle.ocl.proofs.Variables.{bound_at, one_more}
use Rattle.ocl.proofs.Loops.{weighed, ones}
use Rattle.body_rows.proofs.Nodes.{Made, made, truth_code, number_code, collection_code, read_sound, Two, two, one}
use Rattle.ocl.proofs.Codes.{comparing_at, connecting_at, quantifying_at, combining_at}

module _ {w : Site} {starts : List ℕ} {e : ℕ} {vars : List ℕ} {depth : ℕ} {s : Sort} (ready : Ready w starts e vars depth s) where
  sound : T (ending (rows_at w) e).sound
  sound = read_sound (rows_at w) e s ready.read

  pub positive : 0 < e
  positive = sound_pos (rows_at w) e sound

  pub shallow : depth ≤ 64
  shallow = let h = positive in omega (arith, ready.room)

  -- where the first part ends
  abbrev start : ℕ
  start = get_or starts (e - 1) 0

  -- a part, with the same variables
  ready_at : (k : ℕ) (u : Sort) → k ≤ e → T (reads u (ending (rows_at w) k)) → T (scoped_as u depth (form_at w k)) → Ready w starts k vars depth u
  ready_at k u h t sc =
      record {
        steady = ready.steady;
        indexed = ready.indexed;
        words = ready.words;
        few = omega (arith, ready.few);
        room = omega (arith, ready.room);
        held = ready.held;
        there = ready.there;
        right = λ j l. ready.right j (omega arith);
        read = t;
        in_scope = sc;
      }

  -- the rows of the variables, with one more
  bound_there : {row : ℕ} → depth < 64 → row < w.counts.objects → (v : ℕ) → v < depth + 1 → get_or (set vars depth row) v 0 < w.counts.objects
  bound_there {row} d h v l =
      let held = ready.held in
      let below : v ≤ depth = omega arith in
      ⊎_elim
      (λ (q : v ≡ depth). subst (λ k. get_or (set vars depth row) k 0 < w.counts.objects) (sym q) (rw (get_or-set_same vars depth row 0 (omega arith)) h))
      (λ (q : v < depth). rw (get_or-set_other vars depth v row 0 (λ z. omega arith)) (ready.there v q))
      (eq-or-lt_of_le below)

  -- a part under one more variable
  ready_under : (k : ℕ) (u : Sort) → k < e → depth < 64 → T (reads u (ending (rows_at w) k)) → T (scoped_as u (suc depth) (form_at w k)) → (row : ℕ) → row < w.counts.objects → Ready w starts k (set vars depth row) (depth + 1) u
  ready_under k u h d t sc row there =
      record {
        steady = ready.steady;
        indexed = ready.indexed;
        words = ready.words;
        few = omega (arith, ready.few);
        room = omega (arith, ready.room);
        held = length-set vars depth row ∙ ready.held;
        there = bound_there d there;
        right = λ j l. ready.right j (omega arith);
        read = t;
        in_scope = subst (λ k'. T (scoped_as u k' (form_at w k))) (sym (add-one depth)) sc;
      }

  -- the form by its operator
  module _ (o : Operator) (coded : operator_of (code_at w e) ≡ some o) where
    make : Made (rows_at w) e o
    make = made (rows_at w) e sound o coded

    form_is : form_at w e ≡ form_of o (rows_at w (e - 1)) (form_at w start) (form_at w (e - 1))
    form_is =
        make.form
        ∙ ap (λ k. form_of o (rows_at w (e - 1)) (form_at w k) (form_at w (e - 1))) (sym (ready.right (e - 1) (omega arith)))

    scope_is : T (scoped_as s depth (form_of o (rows_at w (e - 1)) (form_at w start) (form_at w (e - 1))))
    scope_is = subst (λ p. T (scoped_as s depth p)) form_is ready.in_scope

    only_ready : (u : Sort) → (shape_of o).parts ≡ u ∷ [] → T (scoped_as u depth (form_at w (e - 1))) → Ready w starts (e - 1) vars depth u
    only_ready u h sc = ready_at (e - 1) u (omega arith) (one (rows_at w) e o make u h) sc

    module _ (u v : Sort) (h : (shape_of o).parts ≡ u ∷ v ∷ []) where
      parts : Two (rows_at w) e u v
      parts = two (rows_at w) e o make u v h

      first_low : start ≤ e - 1
      first_low = rw (ready.right (e - 1) (omega arith)) parts.start

      first_ready : T (scoped_as u depth (form_at w start)) → Ready w starts start vars depth u
      first_ready sc =
          let low = first_low in
          ready_at start u (omega arith)
          (subst (λ k. T (reads u (ending (rows_at w) k))) (sym (ready.right (e - 1) (omega arith))) parts.first) sc

      second_ready : T (scoped_as v depth (form_at w (e - 1))) → Ready w starts (e - 1) vars depth v
      second_ready sc = ready_at (e - 1) v (omega arith) parts.second sc

      second_deep : depth < 64
      second_deep = let p = sound_pos (rows_at w) (e - 1) (read_sound (rows_at w) (e - 1) v parts.second) in omega (arith, ready.room)

      inner_ready : T (scoped_as v (suc depth) (form_at w (e - 1))) → (row : ℕ) → row < w.counts.objects → Ready w starts (e - 1) (set vars depth row) (depth + 1) v
      inner_ready sc row there = let p = positive in ready_under (e - 1) v (omega arith) second_deep parts.second sc row there

-- ---- forms of two parts, and of one, by their codes

-- two parts with the same variables; the first ends before the start of the second
pub record Both (w : Site) (starts : List ℕ) (e : ℕ) (vars : List ℕ) (depth : ℕ) (u : Sort) : Type 0 where
  pub first : {k : ℕ} → k ≡ get_or starts (e - 1) 0 → (k < e) × Ready w starts k vars depth u
  pub second : Ready w starts (e - 1) vars depth u

-- a collection, and a truth with one more variable
pub record Binder (w : Site) (starts : List ℕ) (e : ℕ) (vars : List ℕ) (depth : ℕ) : Type 0 where
  pub first : {k : ℕ} → k ≡ get_or starts (e - 1) 0 → (k < e) × Ready w starts k vars depth collection
  pub inner : (row : ℕ) (l : List ℕ) → l ≡ set vars depth row → row < w.counts.objects → Ready w starts (e - 1) l (depth + 1) truth
  pub deep : depth < 64

module _ {w : Site} {starts : List ℕ} {e : ℕ} {vars : List ℕ} {depth : ℕ} where
  module _ {s : Sort} (ready : Ready w starts e vars depth s) (o : Operator) (coded : operator_of (code_at w e) ≡ some o) where
    first_part_lem : (u v : Sort) → (shape_of o).parts ≡ u ∷ v ∷ [] → T (scoped_as u depth (form_at w (get_or starts (e - 1) 0))) → {k : ℕ} → k ≡ get_or starts (e - 1) 0 → (k < e) × Ready w starts k vars depth u
    first_part_lem u v h sc q =
        let low = first_low ready o coded u v h in
        let past = positive ready in
        (omega arith, subst (λ j. Ready w starts j vars depth u) (sym q) (first_ready ready o coded u v h sc))

    both : (u : Sort) → (shape_of o).parts ≡ u ∷ u ∷ [] → T (scoped_as u depth (form_at w (get_or starts (e - 1) 0)) && scoped_as u depth (form_at w (e - 1))) → Both w starts e vars depth u
    both u h t =
        let sc = and_yes (scoped_as u depth (form_at w (get_or starts (e - 1) 0))) (scoped_as u depth (form_at w (e - 1))) t in
        record { first = first_part_lem u u h sc.0; second = second_ready ready o coded u u h sc.1 }

    binder : (shape_of o).parts ≡ collection ∷ truth ∷ [] → T (scoped_as collection depth (form_at w (get_or starts (e - 1) 0)) && scoped_as truth (suc depth) (form_at w (e - 1))) → Binder w starts e vars depth
    binder h t =
        let sc = and_yes (scoped_as collection depth (form_at w (get_or starts (e - 1) 0))) (scoped_as truth (suc depth) (form_at w (e - 1))) t in
        record {
          first = first_part_lem collection truth h sc.0;
          inner = λ row l q there. subst (λ k. Ready w starts (e - 1) k (depth + 1) truth) (sym q) (inner_ready ready o coded collection truth h sc.1 row there);
          deep = second_deep ready o coded collection truth h;
        }

  module _ (ready : Ready w starts e vars depth truth) where
    pub compare_parts : {k : ℕ} → k ≡ code_at w e → k < 6 → Both w starts e vars depth number
    unfolding shape_of form_of as_truth scoped
    compare_parts q h =
        let o = comparing (comparison_of (code_at w e)) in
        let c = comparing_at (code_at w e) (omega arith) in
        both ready o c number refl (scope_is ready o c)

    pub connect_parts : {k : ℕ} → k ≡ code_at w e → 7 ≤ k → k < 11 → Both w starts e vars depth truth
    unfolding shape_of form_of as_truth scoped
    connect_parts q h l =
        let o = connecting (connective_of (code_at w e)) in
        let c = connecting_at (code_at w e) (omega arith) (omega arith) in
        both ready o c truth refl (scope_is ready o c)

    pub quantify_parts : {k : ℕ} → k ≡ code_at w e → 11 ≤ k → k < 13 → Binder w starts e vars depth
    unfolding shape_of form_of as_truth scoped
    quantify_parts q h l =
        let o = quantifying (quantifier_of (code_at w e)) in
        let c = quantifying_at (code_at w e) (omega arith) (omega arith) in
        binder ready o c refl (scope_is ready o c)

    pub negate_part : code_at w e ≡ 6 → Ready w starts (e - 1) vars depth truth
    unfolding shape_of operator_of operators form_of as_truth scoped
    negate_part h = let c = ap operator_of h in only_ready ready negating c truth refl (scope_is ready negating c)

    pub kind_code : 13 ≤ code_at w e → code_at w e ≡ 13
    kind_code h = omega (arith, truth_code (rows_at w) e ready.read)

    pub kind_scope : code_at w e ≡ 13 → (rows_at w (e - 1)).x < depth
    unfolding operator_of operators form_of as_truth scoped
    kind_scope h = ltb_yes (scope_is ready kind_of (ap operator_of h))

  module _ (ready : Ready w starts e vars depth number) where
    pub number_codes : (14 ≤ code_at w e) × (code_at w e < 20)
    number_codes = number_code (rows_at w) e ready.read

    pub combine_parts : {k : ℕ} → k ≡ code_at w e → 18 ≤ k → Both w starts e vars depth number
    unfolding shape_of form_of as_number scoped
    combine_parts q h =
        let o = combining (arithmetic_of (code_at w e)) in
        let c = combining_at (code_at w e) (omega arith) number_codes.1 in
        both ready o c number refl (scope_is ready o c)

    pub total_part : {k : ℕ} → k ≡ code_at w e → 16 ≤ k → k < 18 → Ready w starts (e - 1) vars depth collection
    unfolding shape_of operator_of operators form_of as_number scoped
    total_part {k} q h l = step (eqb k 16) refl
      where
        step : (b : Bool) → eqb k 16 ≡ b → Ready w starts (e - 1) vars depth collection
        step true p =
            let c = ap operator_of (sym q ∙ eqb-true k 16 p) in
            only_ready ready size_of c collection refl (scope_is ready size_of c)
        step false p =
            let d = eqb-false k 16 p in
            let is_sum : code_at w e ≡ 17 = omega arith in
            let c = ap operator_of is_sum in
            only_ready ready sum_of c collection refl (scope_is ready sum_of c)

    pub cell_scope : code_at w e ≡ 15 → (rows_at w (e - 1)).x < depth
    unfolding operator_of operators form_of as_number scoped
    cell_scope h = ltb_yes (scope_is ready cell_of (ap operator_of h))

  module _ (ready : Ready w starts e vars depth collection) where
    collection_codes : (20 ≤ code_at w e) × (code_at w e < 23)
    collection_codes = collection_code (rows_at w) e ready.read

    -- what is neither a role nor all objects of a type is a select
    pub is_select : {k : ℕ} → k ≡ code_at w e → (k ≡ 20 → ⊥) → (k ≡ 21 → ⊥) → code_at w e ≡ 22
    is_select q a b = let r = collection_codes in omega arith

    pub select_parts : code_at w e ≡ 22 → Binder w starts e vars depth
    unfolding shape_of operator_of operators form_of as_collection scoped
    select_parts h = let c = ap operator_of h in binder ready selecting c refl (scope_is ready selecting c)

    pub role_scope : code_at w e ≡ 20 → ((rows_at w (e - 1)).x < depth) × ((rows_at w (e - 1)).y < 64)
    unfolding operator_of operators form_of as_collection scoped
    role_scope h =
        let t = and_yes (ltb (rows_at w (e - 1)).x depth) (ltb (rows_at w (e - 1)).y 64) (scope_is ready role_of (ap operator_of h)) in
        (ltb_yes t.0, ltb_yes t.1)

-- ---- the meaning of a form by its code

-- the truth that ends before row k, with an id for one more variable
abbrev pub under_one : Site → ℕ → List ℕ → ℕ → ℕ → Bool
under_one w k vars depth x = meaning (types_at w) (register_at w) (as_truth (form_at w k)) (bind (ids_of w depth vars) x)

module _ {w : Site} {starts : List ℕ} {e : ℕ} {vars : List ℕ} {depth : ℕ} {s : Sort} (ready : Ready w starts e vars depth s) where
  abbrev truth_at : ℕ → Bool
  truth_at k = truth_of w k vars depth

  abbrev number_at : ℕ → ℤ
  number_at k = number_of w k vars depth

  abbrev code : ℕ
  code = code_at w e

  abbrev row : BodyRow
  row = rows_at w (e - 1)

  abbrev truth_in : Part → Bool
  truth_in f = meaning (types_at w) (register_at w) (as_truth f) (ids_of w depth vars)

  abbrev number_in : Part → ℤ
  number_in f = meaning (types_at w) (register_at w) (as_number f) (ids_of w depth vars)

  -- the id that a bound variable stands for
  pub variable_is : {v : ℕ} → v < depth → variable (ids_of w depth vars) v ≡ id_in w.objects (get_or vars v 0)
  variable_is {v} h = let d = shallow ready in bound_at (id_in w.objects) depth vars v h (omega (arith, ready.held))

  -- the same truth, by the row of one more variable
  pub under_row : depth < 64 → (x : ℕ) → truth_of w (e - 1) (set vars depth x) (depth + 1) ≡ under_one w (e - 1) vars depth (id_in w.objects x)
  unfolding truth_of
  under_row h x = ap (meaning (types_at w) (register_at w) (as_truth (form_at w (e - 1)))) (one_more (id_in w.objects) depth vars x (omega (arith, ready.held)))

  pub truth_compare : code < 6 → truth_at e ≡ compared (comparison_of code) (number_at (get_or starts (e - 1) 0)) (number_at (e - 1))
  unfolding truth_of number_of meaning as_truth form_of
  truth_compare h = ap truth_in (form_is ready (comparing (comparison_of code)) (comparing_at code h))

  pub truth_negate : code ≡ 6 → truth_at e ≡ not (truth_at (e - 1))
  unfolding truth_of meaning as_truth form_of operator_of operators
  truth_negate h = ap truth_in (form_is ready negating (ap operator_of h))

  pub truth_connect : 7 ≤ code → code < 11 → truth_at e ≡ connected (connective_of code) (truth_at (get_or starts (e - 1) 0)) (truth_at (e - 1))
  unfolding truth_of meaning as_truth form_of
  truth_connect h l = ap truth_in (form_is ready (connecting (connective_of code)) (connecting_at code h l))

  pub truth_quantify : 11 ≤ code → code < 13 → truth_at e ≡ quantified (quantifier_of code) (under_one w (e - 1) vars depth) (members_of w (get_or starts (e - 1) 0) vars depth)
  unfolding truth_of members_of meaning as_truth form_of
  truth_quantify h l = ap truth_in (form_is ready (quantifying (quantifier_of code)) (quantifying_at code h l))

  pub truth_kind : code ≡ 13 → truth_at e ≡ is_under (types_at w) (register_at w) (variable (ids_of w depth vars) row.x) row.y
  unfolding truth_of meaning as_truth form_of operator_of operators
  truth_kind h = ap truth_in (form_is ready kind_of (ap operator_of h))

  pub number_literal : code ≡ 14 → number_at e ≡ signed row.x
  unfolding number_of meaning as_number form_of operator_of operators
  number_literal h = ap number_in (form_is ready literal (ap operator_of h))

  pub number_cell : code ≡ 15 → number_at e ≡ cell_at (register_at w) (variable (ids_of w depth vars) row.x) row.y
  unfolding number_of meaning as_number form_of operator_of operators
  number_cell h = ap number_in (form_is ready cell_of (ap operator_of h))

  pub number_combine : 18 ≤ code → code < 20 → number_at e ≡ combined (arithmetic_of code) (number_at (get_or starts (e - 1) 0)) (number_at (e - 1))
  unfolding number_of meaning as_number form_of
  number_combine h l = ap number_in (form_is ready (combining (arithmetic_of code)) (combining_at code h l))

  number_size : code ≡ 16 → number_at e ≡ total (map (weighed code (register_at w) row.x) (members_of w (e - 1) vars depth))
  unfolding number_of members_of meaning as_number form_of operator_of operators
  number_size h = ap number_in (form_is ready size_of (ap operator_of h)) ∙ ones (weighed code (register_at w) row.x) (λ x. ap (λ k. weighed k (register_at w) row.x x) h) (members_of w (e - 1) vars depth)

  number_sum : code ≡ 17 → number_at e ≡ total (map (weighed code (register_at w) row.x) (members_of w (e - 1) vars depth))
  unfolding number_of members_of meaning as_number form_of operator_of operators
  number_sum h = ap number_in (form_is ready sum_of (ap operator_of h)) ∙ ap (λ k. total (map (weighed k (register_at w) row.x) (members_of w (e - 1) vars depth))) (sym h)

  pub number_total : 16 ≤ code → code < 18 → number_at e ≡ total (map (weighed code (register_at w) row.x) (members_of w (e - 1) vars depth))
  number_total h l = step (eqb code 16) refl
    where
      apart : (k : ℕ) → 16 ≤ k → k < 18 → (k ≡ 16 → ⊥) → k ≡ 17
      apart k a b d = omega arith

      step : (b : Bool) → eqb code 16 ≡ b → number_at e ≡ total (map (weighed code (register_at w) row.x) (members_of w (e - 1) vars depth))
      step true q = number_size (eqb-true code 16 q)
      step false q = let d = eqb-false code 16 q in number_sum (apart code h l d)

  -- ---- collections

  pub role_is : code ≡ 20 → collection_at w e ≡ role row.x row.y
  unfolding as_collection form_of operator_of operators
  role_is h = ap as_collection (form_is ready role_of (ap operator_of h))

  pub all_is : code ≡ 21 → collection_at w e ≡ all row.x
  unfolding as_collection form_of operator_of operators
  all_is h = ap as_collection (form_is ready all_of (ap operator_of h))

  pub select_is : code ≡ 22 → collection_at w e ≡ select (collection_at w (get_or starts (e - 1) 0)) (as_truth (form_at w (e - 1)))
  unfolding as_collection form_of operator_of operators
  select_is h = ap as_collection (form_is ready selecting (ap operator_of h))
