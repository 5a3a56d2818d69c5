-- What each evaluator answers is the meaning of its form, by what it is told of the parts.
use Prim.Native.Nat.{ℕ, ◌+◌, ◌-◌, ◌*◌, ◌^◌, ◌≤◌, ◌<◌}
use mathlib.Core.Path.{◌≡◌, sym, ap, ap₂, subst, ◌∙◌}
use mathlib.Core.Bool.{Bool, true, false, not, cond}
use mathlib.Core.List.{List, [], ◌∷◌, map}
use native.Mathlib.Omega.{arith}
use lib.Dec.{eqb, lit≤}
use lib.ListN.{length, get_or, set}
use lib.IntN.{ℤ, pos, nat_abs, ◌+ℤ◌, ◌-ℤ◌, +ℤ_assoc, +ℤ_idl, +ℤ_idr}
use borrow.Author.Tests.{ne_eqb}
use Rattle.meaning.specs.Schema.{under}
use Rattle.meaning.specs.Register.{is_under, cell_at}
use Rattle.meaning.specs.Lists.{keep}
use Rattle.meaning.specs.Forms.{truth, number, collection, role, select, variable}
use Rattle.meaning.specs.Meaning.{compared, connected, quantified, combined, total}
use Rattle.meaning.proofs.Integers.{nat_abs_add}
use Rattle.rows.specs.Rows.{signed}
use Rattle.tables.specs.Bodies.{BodyRow, as_truth}
use Rattle.tables.specs.Columns.{object_row}
use Rattle.signed.specs.Comparing.{comparison_of}
use Rattle.walks.specs.Site.{Site, types_at, register_at, rows_at, form_at, code_at, id_in, ids_of}
use Rattle.operators.specs.Operators.{connective_of, quantifier_of, arithmetic_of, stopping}
use Rattle.walks.specs.Values.{truth_of, number_of, members_of, cell_in, weight_of}
use Rattle.walks.specs.Walks.{Went, BegunIn, WalkedIn, Stepped, Anywhere, instances_from, far_step, left_in, StandsIn, collection_at, left_at, Stands, Begun, Walked}
use Rattle.ocl.specs.Ready.{Ready}
use Rattle.std.specs.Prelude as Std
use Rattle.walks.specs.declared.Member.{Member}
use Rattle.walks.proofs.Objects.{under_in, cell_in_lem}
use Rattle.ocl.proofs.Loops.{quantified_none, quantified_stop, quantified_on, weighed, total_none, total_more}
use Rattle.ocl.proofs.Nums.{members_few, number_within}
use Rattle.walks.proofs.Steps.{one_fewer}
use Rattle.walks.proofs.Walks.{role_begun, role_walked, word_low, all_begun, all_walked, select_left, select_begun, select_went, select_passed}
use Rattle.ocl.proofs.Parts.{under_one, variable_is, under_row, truth_compare, truth_negate, truth_connect, truth_quantify, truth_kind, number_literal, number_cell, number_combine, number_total, role_is, all_is, select_is, role_scope, kind_scope, cell_scope}

-- ---- truths

module _ {w : Site} {starts : List ℕ} {e : ℕ} {vars : List ℕ} {depth : ℕ} (ready : Ready w starts e vars depth truth) where
  abbrev truth_at : ℕ → Bool
  truth_at k = truth_of w k vars depth

  abbrev row : BodyRow
  row = rows_at w (e - 1)

  pub compare_made : {first k : ℕ} {a b : ℤ} {r : Bool} → first ≡ get_or starts (e - 1) 0 → k ≡ code_at w e → k < 6 → a ≡ number_of w first vars depth → b ≡ number_of w (e - 1) vars depth → r ≡ compared (comparison_of k) a b → r ≡ truth_at e
  compare_made {first} {k} {a} {b} {r} at q h x y z = let m = truth_compare ready (subst (λ j. j < 6) q h) in cc

  pub negate_made : {a : Bool} → code_at w e ≡ 6 → a ≡ truth_at (e - 1) → not a ≡ truth_at e
  negate_made {a} h x = ap not x ∙ sym (truth_negate ready h)

  pub connect_early : {first k : ℕ} {a r : Bool} → first ≡ get_or starts (e - 1) 0 → k ≡ code_at w e → 7 ≤ k → k < 11 → a ≡ truth_at first → (r ≡ true → (b : Bool) → connected (connective_of k) a b ≡ not (eqb k 7)) → r ≡ true → not (eqb k 7) ≡ truth_at e
  connect_early {first} {k} {a} {r} at q h l x d t =
      let m = truth_connect ready (subst (λ j. 7 ≤ j) q h) (subst (λ j. j < 11) q l) in
      let z = d t (truth_at (e - 1)) in
      cc

  pub connect_made : {first k : ℕ} {a b r : Bool} → first ≡ get_or starts (e - 1) 0 → k ≡ code_at w e → 7 ≤ k → k < 11 → a ≡ truth_at first → b ≡ truth_at (e - 1) → r ≡ connected (connective_of k) a b → r ≡ truth_at e
  connect_made {first} {k} {a} {b} {r} at q h l x y z = let m = truth_connect ready (subst (λ j. 7 ≤ j) q h) (subst (λ j. j < 11) q l) in cc

  pub kind_made : {x y v t : ℕ} {r : Bool} → code_at w e ≡ 13 → x ≡ row.x → y ≡ row.y → v ≡ get_or vars x 0 → t ≡ (object_row w.objects v).type → r ≡ under (types_at w) t y → r ≡ truth_at e
  kind_made {x} {y} {v} {t} {r} h p q u z k =
      let bound = kind_scope ready h in
      let near : v ≡ get_or vars row.x 0 = u ∙ ap (λ j. get_or vars j 0) p in
      let there = ready.there row.x bound in
      k
      ∙ ap₂ (under (types_at w)) (z ∙ ap (λ j. (object_row w.objects j).type) near) q
      ∙ sym (under_in w.counts.objects w.objects w.counts.links w.links ready.indexed.objects_ascend (get_or vars row.x 0) there (types_at w) row.y)
      ∙ ap (λ i. is_under (types_at w) (register_at w) i row.y) (sym (variable_is ready bound))
      ∙ sym (truth_kind ready h)

  -- a quantifier: what is decided by the members that a walk over its collection has left
  abbrev Quantifying : ℕ → ℕ → ℕ → Type 0
  Quantifying k first word = truth_at e ≡ quantified (quantifier_of k) (under_one w (e - 1) vars depth) (left_at w first vars depth word)

  pub quantify_starts : {first k word : ℕ} → first ≡ get_or starts (e - 1) 0 → k ≡ code_at w e → 11 ≤ k → k < 13 → Begun w first vars depth word → Quantifying k first word
  unfolding members_of
  quantify_starts {first} {k} at q h l begun =
      truth_quantify ready (subst (λ j. 11 ≤ j) q h) (subst (λ j. j < 13) q l)
      ∙ ap₂ (λ j f. quantified (quantifier_of j) (under_one w (e - 1) vars depth) (members_of w f vars depth)) (sym q) (sym at)
      ∙ ap (quantified (quantifier_of k) (under_one w (e - 1) vars depth)) (sym begun.all_left)

  pub quantify_ends : (k first word : ℕ) → Quantifying k first word → left_at w first vars depth word ≡ [] → eqb k 11 ≡ truth_at e
  quantify_ends k first word inv none_left = sym (inv ∙ ap (quantified (quantifier_of k) (under_one w (e - 1) vars depth)) none_left ∙ quantified_none k (under_one w (e - 1) vars depth))

  -- a member at which the inner truth is evaluated
  module _ (k first word : ℕ) {object on : ℕ} {inner : List ℕ} {holds stop : Bool} (deep : depth < 64)
      (inv : Quantifying k first word)
      (went : Went w.objects w.counts.objects (left_at w first vars depth) (Stands w first vars) word object on)
      (bound : inner ≡ set vars depth object) (held : holds ≡ truth_of w (e - 1) inner (depth + 1)) (stopped : stop ≡ stopping (quantifier_of k) holds) where
    at_member_lem : stop ≡ stopping (quantifier_of k) (under_one w (e - 1) vars depth (id_in w.objects object))
    at_member_lem = stopped ∙ ap (stopping (quantifier_of k)) (held ∙ ap (λ l. truth_of w (e - 1) l (depth + 1)) bound ∙ under_row ready deep object)

    one_more : truth_at e ≡ quantified (quantifier_of k) (under_one w (e - 1) vars depth) (id_in w.objects object ∷ left_at w first vars depth on)
    one_more = inv ∙ ap (quantified (quantifier_of k) (under_one w (e - 1) vars depth)) went.member

    pub quantify_stops : stop ≡ true → not (eqb k 11) ≡ truth_at e
    quantify_stops t = sym (one_more ∙ quantified_stop k (under_one w (e - 1) vars depth) (id_in w.objects object) (left_at w first vars depth on) (sym at_member_lem ∙ t))

    pub quantify_goes_on : stop ≡ false → Quantifying k first on
    quantify_goes_on t = one_more ∙ quantified_on k (under_one w (e - 1) vars depth) (id_in w.objects object) (left_at w first vars depth on) (sym at_member_lem ∙ t)

-- ---- collections

module _ {w : Site} {starts : List ℕ} {e : ℕ} {vars : List ℕ} {depth : ℕ} (ready : Ready w starts e vars depth collection) where
  abbrev fields : BodyRow
  fields = rows_at w (e - 1)

  module _ (h : code_at w e ≡ 20) where
    near_there : get_or vars fields.x 0 < w.counts.objects
    near_there = ready.there fields.x (role_scope ready h).0

    near_is : variable (ids_of w depth vars) fields.x ≡ id_in w.objects (get_or vars fields.x 0)
    near_is = variable_is ready (role_scope ready h).0

    pub role_began : {word x y v : ℕ} → x ≡ fields.x → y ≡ fields.y → v ≡ get_or vars x 0 → word ≡ get_or w.index (16384 + (y * 1024 + v)) 0 → Begun w e vars depth word
    role_began {word} {x} {y} {v} p q u z =
        subst (λ f. BegunIn w f vars depth word) (sym (role_is ready h))
        (role_begun w ready.indexed fields.x fields.y vars depth near_there near_is (ready.steady.far_ascend fields.y _)
        (z ∙ ap₂ (λ a b. get_or w.index (16384 + (a * 1024 + b)) 0) q (u ∙ ap (λ j. get_or vars j 0) p)))

    pub role_stepped : {word : ℕ} {s : Std.Option Member} → Stands w e vars word → s ≡ far_step w.index word → Walked w e vars depth word s
    role_stepped {word} {s} stands z =
        subst (λ f. WalkedIn w f vars depth word s) (sym (role_is ready h))
        (subst (λ s'. WalkedIn w (role fields.x fields.y) vars depth word s') (sym z)
        (role_walked w ready.indexed fields.x fields.y vars depth near_there near_is (ready.steady.far_ascend fields.y _) word
        (subst (λ f. StandsIn w f vars word) (role_is ready h) stands)))

    pub role_low : {word : ℕ} → Stands w e vars word → word ≤ 8192
    role_low {word} stands =
        word_low w ready.indexed fields.x fields.y vars depth near_there near_is (ready.steady.far_ascend fields.y _) word
        (subst (λ f. StandsIn w f vars word) (role_is ready h) stands)

  module _ (h : code_at w e ≡ 21) where
    pub all_began : Begun w e vars depth 0
    all_began = subst (λ f. BegunIn w f vars depth 0) (sym (all_is ready h)) (all_begun w ready.indexed fields.x vars depth)

    pub all_stepped : {word t : ℕ} {s : Std.Option Member} → t ≡ fields.x → Stepped w.objects w.counts.objects (instances_from (types_at w) w.objects w.counts.objects t) Anywhere word s → Walked w e vars depth word s
    all_stepped {word} {t} {s} q stepped =
        subst (λ f. WalkedIn w f vars depth word s) (sym (all_is ready h))
        (all_walked w ready.indexed fields.x vars depth
        (subst (λ k. Stepped w.objects w.counts.objects (instances_from (types_at w) w.objects w.counts.objects k) Anywhere word s) q stepped))

  -- what is left of a select, by what is left of its collection
  abbrev Selecting : ℕ → ℕ → ℕ → Type 0
  Selecting first word last = left_at w e vars depth word ≡ keep (under_one w (e - 1) vars depth) (left_at w first vars depth last)

  module _ {first : ℕ} (at : first ≡ get_or starts (e - 1) 0) (h : code_at w e ≡ 22) where
    form_is : collection_at w e ≡ select (collection_at w first) (as_truth (form_at w (e - 1)))
    form_is = select_is ready h ∙ ap (λ k. select (collection_at w k) (as_truth (form_at w (e - 1)))) (sym at)

    pub select_began : {word : ℕ} → Begun w first vars depth word → Begun w e vars depth word
    select_began {word} begun =
        subst (λ f. BegunIn w f vars depth word) (sym (form_is)) (select_begun w (collection_at w first) (as_truth (form_at w (e - 1))) vars depth begun)

    pub select_stands : (word : ℕ) → Stands w e vars word → Stands w first vars word
    unfolding StandsIn
    select_stands word stands = subst (λ f. StandsIn w f vars word) (form_is) stands

    pub select_starts : (word : ℕ) → Selecting first word word
    select_starts word =
        ap (λ f. left_in w f (ids_of w depth vars) word) (form_is) ∙ select_left w (collection_at w first) (as_truth (form_at w (e - 1))) vars depth word

    pub select_ends : (word last : ℕ) → Selecting first word last → left_at w first vars depth last ≡ [] → left_at w e vars depth word ≡ []
    select_ends word last inv none_left = inv ∙ ap (keep (under_one w (e - 1) vars depth)) none_left

    module _ (word last : ℕ) {object on : ℕ} {inner : List ℕ} {holds : Bool} (deep : depth < 64) (inv : Selecting first word last) (went : Went w.objects w.counts.objects (left_at w first vars depth) (Stands w first vars) last object on) (bound : inner ≡ set vars depth object) (held : holds ≡ truth_of w (e - 1) inner (depth + 1)) where
      at_chosen : holds ≡ under_one w (e - 1) vars depth (id_in w.objects object)
      at_chosen = held ∙ ap (λ l. truth_of w (e - 1) l (depth + 1)) bound ∙ under_row ready deep object

      by_form : left_in w (select (collection_at w first) (as_truth (form_at w (e - 1)))) (ids_of w depth vars) word ≡ keep (under_one w (e - 1) vars depth) (left_at w first vars depth last)
      by_form = ap (λ f. left_in w f (ids_of w depth vars) word) (sym (form_is)) ∙ inv

      pub select_stops : holds ≡ true → Went w.objects w.counts.objects (left_at w e vars depth) (Stands w e vars) word object on
      select_stops t =
          subst (λ f. Went w.objects w.counts.objects (left_in w f (ids_of w depth vars)) (StandsIn w f vars) word object on) (sym (form_is))
          (select_went w (collection_at w first) (as_truth (form_at w (e - 1))) vars depth word by_form went (sym at_chosen ∙ t))

      pub select_goes_on : holds ≡ false → Selecting first word on
      select_goes_on t =
          ap (λ f. left_in w f (ids_of w depth vars) word) (form_is)
          ∙ select_passed w (collection_at w first) (as_truth (form_at w (e - 1))) vars depth word by_form went (sym at_chosen ∙ t)

-- ---- numbers

-- A size or a sum: what is added up so far, and the members that are left.
pub record Summed (w : Site) (e : ℕ) (vars : List ℕ) (depth k : ℕ) (so_far : ℤ) (word : ℕ) : Type 0 where
  pub is : number_of w e vars depth ≡ so_far +ℤ total (map (weighed k (register_at w) (rows_at w (e - 1)).x) (left_at w (e - 1) vars depth word))
  pub small : nat_abs so_far + length (left_at w (e - 1) vars depth word) * 2 ^ 31 ≤ 2 ^ 41

module _ {w : Site} {starts : List ℕ} {e : ℕ} {vars : List ℕ} {depth : ℕ} (ready : Ready w starts e vars depth number) where
  abbrev number_at : ℕ → ℤ
  number_at k = number_of w k vars depth

  abbrev parts_row : BodyRow
  parts_row = rows_at w (e - 1)

  pub literal_made : {x : ℕ} {r : ℤ} → code_at w e ≡ 14 → x ≡ parts_row.x → r ≡ signed x → r ≡ number_at e
  literal_made h p z = z ∙ ap signed p ∙ sym (number_literal ready h)

  pub cell_made : {x y v : ℕ} {r : ℤ} → code_at w e ≡ 15 → x ≡ parts_row.x → y ≡ parts_row.y → v ≡ get_or vars x 0 → r ≡ cell_in w.objects v y → r ≡ number_at e
  cell_made {x} {y} {v} {r} h p q u z =
      let bound = cell_scope ready h in
      z
      ∙ ap₂ (cell_in w.objects) (u ∙ ap (λ j. get_or vars j 0) p) q
      ∙ sym (cell_in_lem w.counts.objects w.objects w.counts.links w.links ready.indexed.objects_ascend (get_or vars parts_row.x 0) (ready.there parts_row.x bound) parts_row.y)
      ∙ ap (λ i. cell_at (register_at w) i parts_row.y) (sym (variable_is ready bound))
      ∙ sym (number_cell ready h)

  combine_made : {first k : ℕ} {a b r : ℤ} → first ≡ get_or starts (e - 1) 0 → k ≡ code_at w e → 18 ≤ k → k < 20 → a ≡ number_at first → b ≡ number_at (e - 1) → r ≡ combined (arithmetic_of k) a b → r ≡ number_at e
  combine_made {first} {k} {a} {b} {r} at q h l x y z = let m = number_combine ready (subst (λ j. 18 ≤ j) q h) (subst (λ j. j < 20) q l) in cc

  pub add_made : {first k : ℕ} {a b r : ℤ} → first ≡ get_or starts (e - 1) 0 → k ≡ code_at w e → 18 ≤ k → k < 20 → a ≡ number_at first → b ≡ number_at (e - 1) → k ≡ 18 → r ≡ a +ℤ b → r ≡ number_at e
  unfolding arithmetic_of combined
  add_made {first} {k} {a} {b} at q h l x y t z = combine_made at q h l x y (z ∙ ap (λ j. combined (arithmetic_of j) a b) (sym t))

  pub subtract_made : {first k : ℕ} {a b r : ℤ} → first ≡ get_or starts (e - 1) 0 → k ≡ code_at w e → 18 ≤ k → k < 20 → a ≡ number_at first → b ≡ number_at (e - 1) → (k ≡ 18 → ⊥) → r ≡ a -ℤ b → r ≡ number_at e
  unfolding arithmetic_of combined
  subtract_made {first} {k} {a} {b} at q h l x y t z = combine_made at q h l x y (rw (ne_eqb k 18 t) z)

  abbrev weights : ℕ → ℕ → ℤ
  weights k x = weighed k (register_at w) parts_row.x x

  weight_small : (k x : ℕ) → nat_abs (weights k x) ≤ 2 ^ 31
  weight_small k x = step (eqb k 16)
    where
      step : (b : Bool) → nat_abs (cond b (pos 1) (cell_at (register_at w) x parts_row.x)) ≤ 2 ^ 31
      step true = lit≤ tt
      step false = ready.steady.cells x parts_row.x

  pub sum_starts : {k word : ℕ} → k ≡ code_at w e → 16 ≤ k → k < 18 → Begun w (e - 1) vars depth word → Summed w e vars depth k (pos 0) word
  unfolding members_of
  sum_starts {k} {word} q h l begun =
      let few = members_few ready (e - 1) in
      record {
        is = number_total ready (subst (λ j. 16 ≤ j) q h) (subst (λ j. j < 18) q l)
            ∙ ap₂ (λ j m. total (map (weights j) m)) (sym q) (sym begun.all_left)
            ∙ sym (+ℤ_idl (total (map (weights k) (left_at w (e - 1) vars depth word))));
        small = rw begun.all_left (omega arith);
      }

  module _ {k word : ℕ} {so_far : ℤ} (inv : Summed w e vars depth k so_far word) where
    pub sum_ends : left_at w (e - 1) vars depth word ≡ [] → so_far ≡ number_at e
    sum_ends none_left = sym (inv.is ∙ ap (λ z. so_far +ℤ z) (total_none (weights k) none_left) ∙ +ℤ_idr so_far)

    pub sum_fits : nat_abs so_far ≤ 2 ^ 61
    sum_fits = omega (arith, inv.small)

    module _ {object on cell : ℕ} {v : ℤ} (went : Went w.objects w.counts.objects (left_at w (e - 1) vars depth) (Stands w (e - 1) vars) word object on) (field : cell ≡ parts_row.x) (weighs : v ≡ weight_of k w.objects cell object) where
      weight_is : v ≡ weights k (id_in w.objects object)
      unfolding weight_of
      weight_is =
          weighs
          ∙ ap (λ c. cond (eqb k 16) (pos 1) (cell_in w.objects object c)) field
          ∙ ap (cond (eqb k 16) (pos 1)) (sym (cell_in_lem w.counts.objects w.objects w.counts.links w.links ready.indexed.objects_ascend object went.there parts_row.x))

      pub weight_fits : nat_abs v ≤ 2 ^ 61
      weight_fits = rw weight_is (omega (arith, weight_small k (id_in w.objects object)))

      pub sum_goes_on : {r : ℤ} → r ≡ so_far +ℤ v → Summed w e vars depth k r on
      sum_goes_on {r} z =
          let x = id_in w.objects object in
          let rest = left_at w (e - 1) vars depth on in
          let sum : r ≡ so_far +ℤ weights k x = z ∙ ap (λ y. so_far +ℤ y) weight_is in
          let few = one_fewer went in
          let size = weight_small k x in
          record {
            is = inv.is
                ∙ ap (λ y. so_far +ℤ y) (total_more (weights k) went.member)
                ∙ sym (+ℤ_assoc so_far (weights k x) (total (map (weights k) rest)))
                ∙ ap (λ y. y +ℤ total (map (weights k) rest)) (sym sum);
            small = rw sum (omega (arith, nat_abs_add so_far (weights k x), inv.small));
          }

-- a number that an evaluator gave
pub value_fits : {w : Site} {starts : List ℕ} {e : ℕ} {vars : List ℕ} {depth : ℕ} → Ready w starts e vars depth number → {a : ℤ} → a ≡ number_of w e vars depth → nat_abs a ≤ 2 ^ 61
value_fits ready h = rw h (omega (arith, number_within ready))
