-- `form_marks::mark_form` meets its contract, by the laws of Nodes: what the code marks in turn is what the form lists.
use Prim.Native.Nat.{ℕ, suc, ◌-◌, ◌+◌, ◌≤◌, ◌<◌}
use mathlib.Core.Path.{◌≡◌, sym, ap, ap₂, subst, ◌∙◌}
use mathlib.Core.Bool.{Bool, false, ◌||◌}
use mathlib.Core.List.{List, []}
use mathlib.Core.Option.{some}
use native.Mathlib.Omega.{arith}
use lib.Dec.{T}
use lib.ListN.{length, get_or, take, set, length-set}
use borrow.Author.Tests.{eq-eqb, ne_eqb}
use Rattle.meaning.specs.Schema.{Floor, Schema}
use Rattle.meaning.specs.Forms.{Sort, collection, bind}
use Rattle.tables.specs.Codes.{Operator, operator_of}
use Rattle.tables.specs.Bodies.{BodyRow, reads, ending, first_part, second_part}
use Rattle.tables.specs.Columns.{schema_of}
use Rattle.tables.proofs.Readings.{ending_start, sound_pos}
use Rattle.directions.proofs.Passes.{pass_small}
use Rattle.body_rows.specs.Marks.{body_of, first_sort, second_sort, Starts}
use Rattle.typing.specs.Types.{member_of, FlooredRows}
use Rattle.body_rows.proofs.Kept.{starts_less}
use Rattle.typing.proofs.Types.{operator_here, parts_here, coded_here, code_here, second_here, first_here, binds_here, sums_here, bind_take}
use Rattle.typing.proofs.Floors.{rows_less}
use Rattle.type_marks.specs.Marks.{places}
use Rattle.type_marks.specs.Lists.{marked_by, part_marks, leaf_lists, sum_marks}
use Rattle.type_marks.proofs.Marks.{added_as, added_then}
use Rattle.form_marks.proofs.Nodes.{pass_to, to_second, inner, leaf_here, one_here, two_here}
use Rattle.form_marks.proofs.+mark_form.Goals as goal

module _ {rows : ℕ → BodyRow} {starts : List ℕ} {e : ℕ} (r : Starts rows starts e) (ok : T (ending rows e).sound) where
  -- ---- the row, and what is read of it

  positive : 0 < e
  positive = sound_pos rows e ok

  whole : suc (e - 1) ≡ e
  whole = let h = positive in omega arith

  sound : T (ending rows (suc (e - 1))).sound
  sound = subst (λ n. T (ending rows n).sound) (sym whole) ok

  abbrev op : Operator
  op = operator_here rows (e - 1) sound

  abbrev sorts : List Sort
  sorts = parts_here rows (e - 1) sound

  low : {code : ℕ} → code ≡ (rows (e - 1)).code → code < 23
  low f = subst (λ k. k < 23) (sym f) (code_here rows (e - 1) sound)

  coded : {code : ℕ} → code ≡ (rows (e - 1)).code → operator_of code ≡ some op
  coded f = ap operator_of f ∙ coded_here rows (e - 1) sound

  -- the directions of the second part, by what its row's mark says, and those of the first
  abbrev second_dirs : Schema → ℕ → ℕ
  second_dirs S set = to_second S set op (rows (e - 1)).code (rows (e - 1)) (second_part rows (e - 1)).form

  to_second_lem : (S : Schema) (set : ℕ) (floored : List Bool) {dirs : ℕ} → dirs ≡ pass_to (get_or floored (e - 1) false) set op 1 → FlooredRows S rows e floored → dirs ≡ second_dirs S set
  to_second_lem S set floored d f =
      let h = positive in
      d ∙ ap (λ b. pass_to b set op 1) (f.each (e - 1) (omega arith))

  second_set : (set : ℕ) (b : Bool) {dirs : ℕ} → dirs ≡ pass_to b set op 1 → dirs < 4
  second_set set b d = subst (λ k. k < 4) (sym d) (pass_small b op 1 set)

  -- an answer of the form that ends with the row is one of the form at the place
  at_end : (S : Schema) (ts : List ℕ) (set : ℕ) (f : ℕ → Bool) → ((place : ℕ) → f place ≡ part_marks S (ending rows (suc (e - 1))).form ts set place) → (place : ℕ) → place < places → f place ≡ part_marks S (ending rows e).form ts set place
  at_end S ts set f p place h = p place ∙ ap (λ n. part_marks S (ending rows n).form ts set place) whole

  -- ---- the second part, which ends before the row

  second_sound : (second_sort sorts ≡ 3 → ⊥) → T (ending rows (e - 1)).sound
  second_sound n = second_here rows (e - 1) sound n

  -- what a call asks, with one more variable or none
  second_asks : {t : ℕ} (env : List ℕ) (depth dirs size : ℕ)
      → e ≡ t
      → (second_sort sorts ≡ 3 → ⊥)
      → length env ≡ 64
      → depth + (e - 1) ≤ 65
      → size ≡ places
      → dirs < 4
      → ((e - 1) < t)
      × ((Starts rows starts (e - 1)) × T (ending rows (e - 1)).sound × (length env ≡ 64) × (depth + (e - 1) ≤ 65) × (size ≡ places) × (dirs < 4))
  second_asks env depth dirs size m n l h s d =
      let k = positive in
      (omega arith, (starts_less r (e - 1) (omega arith), second_sound n, l, h, s, d))

  part_floored : (S : Schema) (floored : List Bool) → FlooredRows S rows e floored → FlooredRows S rows (e - 1) floored
  part_floored S floored f = rows_less (omega arith) f

  -- ---- the first part, which ends before the start of the second

  middle_is : get_or starts (e - 1) 0 ≡ (ending rows (e - 1)).start
  middle_is = r.right (e - 1) (omega arith)

  middle_low : get_or starts (e - 1) 0 ≤ e - 1
  middle_low = subst (λ n. n ≤ e - 1) (sym middle_is) (ending_start rows (e - 1))

  first_floored : (S : Schema) (floored : List Bool) → FlooredRows S rows e floored → FlooredRows S rows (get_or starts (e - 1) 0) floored
  first_floored S floored f = let below = middle_low in rows_less (omega arith) f

  -- where a variable is bound there is room for it
  room : (depth : ℕ) → depth + e ≤ 65 → (second_sort sorts ≡ 3 → ⊥) → depth < 64
  room depth h n = let k = sound_pos rows (e - 1) (second_sound n) in let p = positive in omega arith

  -- the variables' types in the second part
  abbrev inner_scope : Schema → List ℕ → List ℕ
  inner_scope S ts = inner S ts (first_sort sorts) (first_part rows (e - 1)).form

  plain : (S : Schema) (ts : List ℕ) → (first_sort sorts ≡ 2 → ⊥) → inner_scope S ts ≡ ts
  plain S ts n = rw (ne_eqb (first_sort sorts) 2 n)

  binding : (S : Schema) (ts : List ℕ) → first_sort sorts ≡ 2 → inner_scope S ts ≡ bind ts (member_of S.relationships (first_part rows (e - 1)).form)
  binding S ts f = rw (eq-eqb (first_sort sorts) 2 f)

  -- what is marked of two parts
  both_marked : (S : Schema) (ts us : List ℕ) (set : ℕ) (small : set < 4) {first_dirs dirs : ℕ}
      → first_dirs ≡ pass_to false set op 0
      → dirs ≡ second_dirs S set
      → us ≡ inner_scope S ts
      → (second_sort sorts ≡ 3 → ⊥)
      → (first_sort sorts ≡ 3 → ⊥)
      → (place : ℕ)
      → (part_marks S (ending rows (get_or starts (e - 1) 0)).form ts first_dirs place || part_marks S (ending rows (e - 1)).form us dirs place)
      ≡ part_marks S (ending rows (suc (e - 1))).form ts set place
  both_marked S ts us set small f d s n m place =
      ap₂ ◌||◌ (ap₂ (λ n dirs. part_marks S (ending rows n).form ts dirs place) middle_is f) (ap₂ (λ us dirs. part_marks S (ending rows (e - 1)).form us dirs place) s d)
      ∙ two_here rows (e - 1) sound S ts set small place n m

-- ---- the needs, in the order of the code

pub overflow_sub-row : goal.overflow_sub-row
overflow_sub-row t c = positive c.requires.0 c.requires.1

pub shape-requires : goal.shape-requires
shape-requires t c = (low c.requires.0 c.requires.1 c.field-code.ensures, omega arith)

pub put_leaf-requires : goal.put_leaf-requires
put_leaf-requires t c =
    let h = positive c.requires.0 c.requires.1 in
    let k = c.requires.3 in
    (c.requires.4, c.requires.2, omega arith, c.requires.5)

pub returns-then-shape-eq-NONE : goal.returns-then-shape-eq-NONE
returns-then-shape-eq-NONE t c =
    let a = c.args in
    let rows = body_of a.bodies.now a.at.rule in
    let row = a.at.end - 1 in
    let r = c.requires.0 in
    let ok = c.requires.1 in
    let S : List Floor → Schema = λ fs. schema_of a.at.types a.types.now fs a.at.relationships a.relationships.now in
    let ts = take a.at.depth a.env.now in
    let code = c.field-code.ensures in
    let x = c.field-x.ensures in
    let y = c.field-y.ensures in
    let second = c.shape.ensures (op r ok) (coded r ok code) in (
      (c.put_leaf.ensures []).long ∙ c.requires.4,
      λ fs floored.
          added_as (c.put_leaf.ensures fs)
          (at_end r ok (S fs) ts a.set _
          (λ place.
          (λ j. marked_by a.set (leaf_lists (S fs) ts (code j) (x j) (y j)) place)
          ∙ leaf_here rows row (sound r ok) (S fs) ts a.set c.requires.5 place (sym second ∙ c.if-shape-eq-NONE.true))),
    )

pub pass-to_second-requires : goal.pass-to_second-requires
pass-to_second-requires t c = (low c.requires.0 c.requires.1 c.field-code.ensures, omega arith, c.requires.5)

pub shape-requires-2 : goal.shape-requires-2
shape-requires-2 t c = (low c.requires.0 c.requires.1 c.field-code.ensures, omega arith)

pub mark_sum-requires : goal.mark_sum-requires
mark_sum-requires t c =
    let a = c.args in
    let r = c.requires.0 in
    let ok = c.requires.1 in
    (starts_less r (a.at.end - 1) (omega arith), (λ q. sums_here (body_of a.bodies.now a.at.rule) (a.at.end - 1) (sound r ok) (sym c.field-code.ensures ∙ q)), c.requires.4, c.requires.5)

pub mark_form-requires : goal.mark_form-requires
mark_form-requires t c =
    let a = c.args in
    let r = c.requires.0 in
    let ok = c.requires.1 in
    let coded_op = coded r ok c.field-code.ensures in
    let second = c.shape.ensures (op r ok) coded_op in
    let h = c.requires.3 in
    second_asks r ok a.env.now a.at.depth _ _ c.decreases (λ q. c.if-shape-eq-NONE.false (second ∙ q)) c.requires.2 (omega arith) (c.mark_sum.ensures.long ∙ c.requires.4)
    (second_set r ok a.set _ (c.pass-to_second.ensures (op r ok) coded_op))

pub returns-then-shape-eq-NONE-2 : goal.returns-then-shape-eq-NONE-2
returns-then-shape-eq-NONE-2 t c =
    let a = c.args in
    let rows = body_of a.bodies.now a.at.rule in
    let row = a.at.end - 1 in
    let r = c.requires.0 in
    let ok = c.requires.1 in
    let S : List Floor → Schema = λ fs. schema_of a.at.types a.types.now fs a.at.relationships a.relationships.now in
    let ts = take a.at.depth a.env.now in
    let code = c.field-code.ensures in
    let x = c.field-x.ensures in
    let coded_op = coded r ok code in
    let second = c.shape.ensures (op r ok) coded_op in
    let first = c.shape-2.ensures (op r ok) coded_op in
    let passed = c.pass-to_second.ensures (op r ok) coded_op in (
      c.mark_form.ensures.0,
      λ fs floored.
          added_as (added_then c.mark_sum.ensures (c.mark_form.ensures.1 fs (part_floored r ok (S fs) a.floored.now floored)))
          (at_end r ok (S fs) ts a.set _
          (λ place.
          (λ j. sum_marks (S fs).relationships a.set place (code j) (x j) (second_part rows row).form || part_marks (S fs) (ending rows row).form ts (to_second_lem r ok (S fs) a.set a.floored.now passed floored j) place)
          ∙ one_here rows row (sound r ok) (S fs) ts a.set c.requires.5 place (λ q. c.if-shape-eq-NONE.false (second ∙ q)) (sym first ∙ c.if-shape-eq-NONE-2.true))),
    )

pub pass-to_first-requires : goal.pass-to_first-requires
pass-to_first-requires t c = (low c.requires.0 c.requires.1 c.field-code.ensures, omega arith, c.requires.5)

pub mark_form-requires-2 : goal.mark_form-requires-2
mark_form-requires-2 t c =
    let a = c.args in
    let rows = body_of a.bodies.now a.at.rule in
    let row = a.at.end - 1 in
    let r = c.requires.0 in
    let ok = c.requires.1 in
    let coded_op = coded r ok c.field-code.ensures in
    let first = c.shape-2.ensures (op r ok) coded_op in
    let passed = c.pass-to_first.ensures (op r ok) coded_op in
    let below = middle_low r ok in
    let k = positive r ok in
    let h = c.requires.3 in
    let m = c.decreases in (
      omega arith,
      (
        starts_less r (get_or a.starts.now row 0) (omega arith),
        subst (λ n. T (ending rows n).sound) (sym (middle_is r ok)) (first_here rows row (sound r ok) (λ q. c.if-shape-eq-NONE-2.false (first ∙ q))),
        c.requires.2,
        omega arith,
        c.requires.4,
        subst (λ k. k < 4) (sym passed) (pass_small false (op r ok) 0 a.set),
      ),
    )

pub shape-requires-3 : goal.shape-requires-3
shape-requires-3 t c = (low c.requires.0 c.requires.1 c.field-code.ensures, omega arith)

pub mark_form-requires-then-shape-ne-COLLECTION : goal.mark_form-requires-then-shape-ne-COLLECTION
mark_form-requires-then-shape-ne-COLLECTION t c =
    let a = c.args in
    let r = c.requires.0 in
    let ok = c.requires.1 in
    let coded_op = coded r ok c.field-code.ensures in
    let second = c.shape.ensures (op r ok) coded_op in
    let h = c.requires.3 in
    second_asks r ok a.env.now a.at.depth _ _ c.decreases (λ q. c.if-shape-eq-NONE.false (second ∙ q)) c.requires.2 (omega arith) c.mark_form-2.ensures.0
    (second_set r ok a.set _ (c.pass-to_second.ensures (op r ok) coded_op))

pub returns-then-shape-ne-COLLECTION : goal.returns-then-shape-ne-COLLECTION
returns-then-shape-ne-COLLECTION t c =
    let a = c.args in
    let r = c.requires.0 in
    let ok = c.requires.1 in
    let S : List Floor → Schema = λ fs. schema_of a.at.types a.types.now fs a.at.relationships a.relationships.now in
    let ts = take a.at.depth a.env.now in
    let coded_op = coded r ok c.field-code.ensures in
    let second = c.shape.ensures (op r ok) coded_op in
    let first = c.shape-2.ensures (op r ok) coded_op in
    let binds = c.shape-3.ensures (op r ok) coded_op in
    let to_first = c.pass-to_first.ensures (op r ok) coded_op in
    let passed = c.pass-to_second.ensures (op r ok) coded_op in
    let part = c.mark_form-then-shape-ne-COLLECTION.ensures in (
      part.0,
      λ fs floored.
          added_as (added_then (c.mark_form-2.ensures.1 fs (first_floored r ok (S fs) a.floored.now floored)) (part.1 fs (part_floored r ok (S fs) a.floored.now floored)))
          (at_end r ok (S fs) ts a.set _
          (both_marked r ok (S fs) ts ts a.set c.requires.5 to_first (to_second_lem r ok (S fs) a.set a.floored.now passed floored)
          (sym (plain r ok (S fs) ts (λ q. c.if-shape-ne-COLLECTION.true (binds ∙ q)))) (λ q. c.if-shape-eq-NONE.false (second ∙ q)) (λ q. c.if-shape-eq-NONE-2.false (first ∙ q)))),
    )

pub member_type-requires : goal.member_type-requires
member_type-requires t c =
    let a = c.args in
    let rows = body_of a.bodies.now a.at.rule in
    let row = a.at.end - 1 in
    let r = c.requires.0 in
    let ok = c.requires.1 in
    let binds = c.shape-3.ensures (op r ok) (coded r ok c.field-code.ensures) in
    let below = middle_low r ok in (
      starts_less r (get_or a.starts.now row 0) (omega arith),
      subst (λ n. T (reads collection (ending rows n))) (sym (middle_is r ok)) (binds_here rows row (sound r ok) (sym binds ∙ c.if-shape-ne-COLLECTION.false)),
    )

pub bounds-inner-new : goal.bounds-inner-new
bounds-inner-new t c =
    let r = c.requires.0 in
    let ok = c.requires.1 in
    let second = c.shape.ensures (op r ok) (coded r ok c.field-code.ensures) in
    room r ok c.args.at.depth c.requires.3 (λ q. c.if-shape-eq-NONE.false (second ∙ q))

pub mark_form-requires-3 : goal.mark_form-requires-3
mark_form-requires-3 t c =
    let a = c.args in
    let r = c.requires.0 in
    let ok = c.requires.1 in
    let coded_op = coded r ok c.field-code.ensures in
    let second = c.shape.ensures (op r ok) coded_op in
    let h = c.requires.3 in
    let k = positive r ok in
    let m = c.member_type.result in
    second_asks r ok (set a.env.now a.at.depth m) (a.at.depth + 1) _ _ c.decreases (λ q. c.if-shape-eq-NONE.false (second ∙ q))
    (length-set a.env.now a.at.depth m ∙ c.requires.2) (omega arith) c.mark_form-2.ensures.0
    (second_set r ok a.set _ (c.pass-to_second.ensures (op r ok) coded_op))

pub returns : goal.returns
returns t c =
    let a = c.args in
    let rows = body_of a.bodies.now a.at.rule in
    let row = a.at.end - 1 in
    let depth = a.at.depth in
    let env = a.env.now in
    let r = c.requires.0 in
    let ok = c.requires.1 in
    let S : List Floor → Schema = λ fs. schema_of a.at.types a.types.now fs a.at.relationships a.relationships.now in
    let ts = take depth env in
    let coded_op = coded r ok c.field-code.ensures in
    let second = c.shape.ensures (op r ok) coded_op in
    let first = c.shape-2.ensures (op r ok) coded_op in
    let binds = c.shape-3.ensures (op r ok) coded_op in
    let to_first = c.pass-to_first.ensures (op r ok) coded_op in
    let passed = c.pass-to_second.ensures (op r ok) coded_op in
    let l = c.requires.2 in
    let k = room r ok depth c.requires.3 (λ q. c.if-shape-eq-NONE.false (second ∙ q)) in
    let m = c.member_type.result in
    let p = (first_part rows row).form in
    let member_is : m ≡ member_of (S []).relationships p =
    c.member_type.ensures ∙ ap (λ n. member_of (S []).relationships (ending rows n).form) (middle_is r ok) in
    let scope_is : (fs : List Floor) → take (depth + 1) (set env depth m) ≡ inner_scope r ok (S fs) ts =
    λ fs. bind_take env depth m (omega arith) ∙ ap (bind ts) member_is ∙ sym (binding r ok (S fs) ts (sym binds ∙ c.if-shape-ne-COLLECTION.false)) in
    let part = c.mark_form-3.ensures in (
      part.0,
      λ fs floored.
          added_as (added_then (c.mark_form-2.ensures.1 fs (first_floored r ok (S fs) a.floored.now floored)) (part.1 fs (part_floored r ok (S fs) a.floored.now floored)))
          (at_end r ok (S fs) ts a.set _
          (both_marked r ok (S fs) ts (take (depth + 1) (set env depth m)) a.set c.requires.5 to_first (to_second_lem r ok (S fs) a.set a.floored.now passed floored)
          (scope_is fs) (λ q. c.if-shape-eq-NONE.false (second ∙ q)) (λ q. c.if-shape-eq-NONE-2.false (first ∙ q)))),
    )
