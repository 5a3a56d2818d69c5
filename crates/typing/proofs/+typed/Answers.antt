-- `typing::typed` meets its contract, by the laws of Types: the tests that the code makes in turn are those of the form.
use Prim.Native.Nat.{ℕ, suc, ◌-◌, ◌+◌, ◌≤◌, ◌<◌}
use mathlib.Core.Path.{◌≡◌, refl, sym, ap, subst, ◌∙◌}
use mathlib.Core.Bool.{Bool}
use mathlib.Core.List.{List}
use mathlib.Core.Option.{some}
use native.Mathlib.Omega.{arith}
use lib.Dec.{T}
use lib.ListN.{length, get_or, take, set, length-set}
use Rattle.meaning.specs.Schema.{Schema}
use Rattle.meaning.specs.Forms.{Sort, collection, bind}
use Rattle.tables.specs.Codes.{Operator, operator_of}
use Rattle.tables.specs.Bodies.{BodyRow, reads, ending, first_part, second_part}
use Rattle.tables.proofs.Readings.{ending_start, sound_pos}
use Rattle.body_rows.specs.Marks.{body_of, second_sort, Starts}
use Rattle.typing.specs.Types.{typed_part, member_of, summed, typed_leaf}
use Rattle.body_rows.proofs.Kept.{starts_less}
use Rattle.typing.proofs.Types.{lent, operator_here, parts_here, coded_here, code_here, second_here, first_here, binds_here, sums_here, leaf_here, one_here, plain_here, bound_here, fails_here, bind_take, scope_kept}
use Rattle.typing.proofs.+typed.Goals as goal

module _ {rows : ℕ → BodyRow} {starts : List ℕ} {e : ℕ} (r : Starts rows starts e) (ok : T (ending rows e).sound) where
  -- ---- the row, and what is read of it

  positive : 0 < e
  positive = sound_pos rows e ok

  whole : suc (e - 1) ≡ e
  whole = let h = positive in omega arith

  sound : T (ending rows (suc (e - 1))).sound
  sound = subst (λ n. T (ending rows n).sound) (sym whole) ok

  inside : e - 1 < 64
  inside = let h = positive in let k = r.few in omega arith

  abbrev operator : Operator
  operator = operator_here rows (e - 1) sound

  abbrev parts : List Sort
  parts = parts_here rows (e - 1) sound

  low : {code : ℕ} → code ≡ (rows (e - 1)).code → code < 23
  low f = subst (λ k. k < 23) (sym f) (code_here rows (e - 1) sound)

  coded : {code : ℕ} → code ≡ (rows (e - 1)).code → operator_of code ≡ some operator
  coded f = ap operator_of f ∙ coded_here rows (e - 1) sound

  -- an answer of the form that ends with the row is one of the form at the place
  answer : (S : Schema) (vs : List ℕ) {b : Bool} → b ≡ typed_part S vs (ending rows (suc (e - 1))).form → b ≡ typed_part S vs (ending rows e).form
  answer S vs p = p ∙ ap (λ n. typed_part S vs (ending rows n).form) whole

  -- ---- the second part, which ends before the row

  second_sound : (second_sort parts ≡ 3 → ⊥) → T (ending rows (e - 1)).sound
  second_sound n = second_here rows (e - 1) sound n

  -- what a call asks, with one more variable or none
  second_asks : {t : ℕ} (env : List ℕ) (depth : ℕ)
      → e ≡ t
      → (second_sort parts ≡ 3 → ⊥)
      → length env ≡ 64
      → depth + (e - 1) ≤ 65
      → ((e - 1) < t) × ((Starts rows starts (e - 1)) × T (ending rows (e - 1)).sound × (length env ≡ 64) × (depth + (e - 1) ≤ 65))
  second_asks env depth m n l h =
      let k = positive in
      (omega arith, (starts_less r (e - 1) (omega arith), second_sound n, l, h))

  -- ---- a form with two parts: the first ends before the start of the second

  middle_is : get_or starts (e - 1) 0 ≡ (ending rows (e - 1)).start
  middle_is = r.right (e - 1) (omega arith)

  middle_low : get_or starts (e - 1) 0 ≤ e - 1
  middle_low = subst (λ n. n ≤ e - 1) (sym middle_is) (ending_start rows (e - 1))

  first_typed : (S : Schema) (vs : List ℕ) {b : Bool} → b ≡ typed_part S vs (ending rows (get_or starts (e - 1) 0)).form → typed_part S vs (first_part rows (e - 1)).form ≡ b
  first_typed S vs p = ap (λ n. typed_part S vs (ending rows n).form) (sym middle_is) ∙ sym p

  -- where a variable is bound there is room for it
  room : (depth : ℕ) → depth + e ≤ 65 → (second_sort parts ≡ 3 → ⊥) → depth < 64
  room depth h n = let k = sound_pos rows (e - 1) (second_sound n) in let p = positive in omega arith

-- ---- the needs, in the order of the code

pub overflow_sub-row : goal.overflow_sub-row
overflow_sub-row t c = positive c.requires.0 c.requires.1

pub shape-requires : goal.shape-requires
shape-requires t c = (low c.requires.0 c.requires.1 c.field-code.ensures, omega arith)

pub leaf-requires : goal.leaf-requires
leaf-requires t c = let h = positive c.requires.0 c.requires.1 in (c.requires.2, omega (arith, c.requires.3))

pub returns-then-shape-eq-NONE : goal.returns-then-shape-eq-NONE
returns-then-shape-eq-NONE t c =
    let a = c.args in
    let rows = body_of a.bodies.now a.at.rule in
    let row = a.at.end - 1 in
    let r = c.requires.0 in
    let ok = c.requires.1 in
    let S = lent a.at.types a.types.now a.at.relationships a.relationships.now in
    let vs = take a.at.depth a.env.now in
    let code = c.field-code.ensures in
    let x = c.field-x.ensures in
    let y = c.field-y.ensures in
    let second = c.shape.ensures (operator r ok) (coded r ok code) in
    let is = answer r ok S vs (c.leaf.ensures
    ∙ (λ j. typed_leaf S vs (code j) (x j) (y j))
    ∙ leaf_here rows row (sound r ok) S vs (sym second ∙ c.if-shape-eq-NONE.true)) in
    (is, c.requires.2, refl)

pub shape-requires-2 : goal.shape-requires-2
shape-requires-2 t c = (low c.requires.0 c.requires.1 c.field-code.ensures, omega arith)

pub summable-requires : goal.summable-requires
summable-requires t c =
    let a = c.args in
    let r = c.requires.0 in
    let ok = c.requires.1 in
    (starts_less r (a.at.end - 1) (omega arith), λ q. sums_here (body_of a.bodies.now a.at.rule) (a.at.end - 1) (sound r ok) (sym c.field-code.ensures ∙ q))

-- a form with one part
pub returns-then-not-summable : goal.returns-then-not-summable
returns-then-not-summable t c =
    let a = c.args in
    let rows = body_of a.bodies.now a.at.rule in
    let row = a.at.end - 1 in
    let r = c.requires.0 in
    let ok = c.requires.1 in
    let S = lent a.at.types a.types.now a.at.relationships a.relationships.now in
    let vs = take a.at.depth a.env.now in
    let code = c.field-code.ensures in
    let x = c.field-x.ensures in
    let second = c.shape.ensures (operator r ok) (coded r ok code) in
    let first = c.shape-2.ensures (operator r ok) (coded r ok code) in
    let one = one_here rows row (sound r ok) S vs (λ q. c.if-shape-eq-NONE.false (second ∙ q)) (sym first ∙ c.if-shape-eq-NONE-2.true) in
    let sum : summed S (rows row).code (rows row).x (second_part rows row).form ≡ c.summable.result =
    (λ j. summed S (sym code j) (sym x j) (second_part rows row).form) ∙ sym c.summable.ensures in
    (answer r ok S vs (simp (sum ∙ c.if-not-summable.true) at one), c.requires.2, refl)

pub typed-requires : goal.typed-requires
typed-requires t c =
    let a = c.args in
    let r = c.requires.0 in
    let ok = c.requires.1 in
    let second = c.shape.ensures (operator r ok) (coded r ok c.field-code.ensures) in
    let h = c.requires.3 in
    second_asks r ok a.env.now a.at.depth c.decreases (λ q. c.if-shape-eq-NONE.false (second ∙ q)) c.requires.2 (omega arith)

pub returns-then-shape-eq-NONE-2 : goal.returns-then-shape-eq-NONE-2
returns-then-shape-eq-NONE-2 t c =
    let a = c.args in
    let rows = body_of a.bodies.now a.at.rule in
    let row = a.at.end - 1 in
    let r = c.requires.0 in
    let ok = c.requires.1 in
    let S = lent a.at.types a.types.now a.at.relationships a.relationships.now in
    let vs = take a.at.depth a.env.now in
    let code = c.field-code.ensures in
    let x = c.field-x.ensures in
    let second = c.shape.ensures (operator r ok) (coded r ok code) in
    let first = c.shape-2.ensures (operator r ok) (coded r ok code) in
    let one = one_here rows row (sound r ok) S vs (λ q. c.if-shape-eq-NONE.false (second ∙ q)) (sym first ∙ c.if-shape-eq-NONE-2.true) in
    let sum : summed S (rows row).code (rows row).x (second_part rows row).form ≡ c.summable.result =
    (λ j. summed S (sym code j) (sym x j) (second_part rows row).form) ∙ sym c.summable.ensures in
    let part = c.typed.ensures in
    (answer r ok S vs (part.0 ∙ simp (sum ∙ c.if-not-summable.false) at one), part.1, part.2)

pub typed-requires-2 : goal.typed-requires-2
typed-requires-2 t c =
    let a = c.args in
    let rows = body_of a.bodies.now a.at.rule in
    let row = a.at.end - 1 in
    let r = c.requires.0 in
    let ok = c.requires.1 in
    let first = c.shape-2.ensures (operator r ok) (coded r ok c.field-code.ensures) in
    let low = middle_low r ok in
    let k = positive r ok in
    let h = c.requires.3 in
    let m = c.decreases in (
      omega arith,
      (
        starts_less r (get_or a.starts.now row 0) (omega arith),
        subst (λ n. T (ending rows n).sound) (sym (middle_is r ok)) (first_here rows row (sound r ok) (λ q. c.if-shape-eq-NONE-2.false (first ∙ q))),
        c.requires.2,
        omega arith,
      ),
    )

pub returns-then-not-typed : goal.returns-then-not-typed
returns-then-not-typed t c =
    let a = c.args in
    let rows = body_of a.bodies.now a.at.rule in
    let row = a.at.end - 1 in
    let r = c.requires.0 in
    let ok = c.requires.1 in
    let S = lent a.at.types a.types.now a.at.relationships a.relationships.now in
    let vs = take a.at.depth a.env.now in
    let second = c.shape.ensures (operator r ok) (coded r ok c.field-code.ensures) in
    let first = c.shape-2.ensures (operator r ok) (coded r ok c.field-code.ensures) in
    let part = c.typed-2.ensures in
    let no = first_typed r ok S vs part.0 ∙ c.if-not-typed.true in
    (answer r ok S vs (fails_here rows row (sound r ok) S vs (λ q. c.if-shape-eq-NONE.false (second ∙ q)) (λ q. c.if-shape-eq-NONE-2.false (first ∙ q)) no), part.1, part.2)

pub shape-requires-3 : goal.shape-requires-3
shape-requires-3 t c = (low c.requires.0 c.requires.1 c.field-code.ensures, omega arith)

pub typed-requires-then-shape-ne-COLLECTION : goal.typed-requires-then-shape-ne-COLLECTION
typed-requires-then-shape-ne-COLLECTION t c =
    let a = c.args in
    let r = c.requires.0 in
    let ok = c.requires.1 in
    let second = c.shape.ensures (operator r ok) (coded r ok c.field-code.ensures) in
    let h = c.requires.3 in
    second_asks r ok c.typed-2.new.env a.at.depth c.decreases (λ q. c.if-shape-eq-NONE.false (second ∙ q)) c.typed-2.ensures.1 (omega arith)

pub returns-then-shape-ne-COLLECTION : goal.returns-then-shape-ne-COLLECTION
returns-then-shape-ne-COLLECTION t c =
    let a = c.args in
    let rows = body_of a.bodies.now a.at.rule in
    let row = a.at.end - 1 in
    let r = c.requires.0 in
    let ok = c.requires.1 in
    let S = lent a.at.types a.types.now a.at.relationships a.relationships.now in
    let vs = take a.at.depth a.env.now in
    let second = c.shape.ensures (operator r ok) (coded r ok c.field-code.ensures) in
    let first = c.shape-2.ensures (operator r ok) (coded r ok c.field-code.ensures) in
    let binds = c.shape-3.ensures (operator r ok) (coded r ok c.field-code.ensures) in
    let yes = first_typed r ok S vs c.typed-2.ensures.0 ∙ c.if-not-typed.false in
    let kept = c.typed-2.ensures.2 in
    let plain = simp yes at (plain_here rows row (sound r ok) S vs (λ q. c.if-shape-eq-NONE.false (second ∙ q)) (λ q. c.if-shape-eq-NONE-2.false (first ∙ q)) (λ q. c.if-shape-ne-COLLECTION.true (binds ∙ q))) in
    let part = c.typed-then-shape-ne-COLLECTION.ensures in (
      answer r ok S vs (part.0 ∙ ap (λ vs. typed_part S vs (second_part rows row).form) kept ∙ plain),
      part.1,
      part.2 ∙ kept,
    )

pub member_type-requires : goal.member_type-requires
member_type-requires t c =
    let a = c.args in
    let rows = body_of a.bodies.now a.at.rule in
    let row = a.at.end - 1 in
    let r = c.requires.0 in
    let ok = c.requires.1 in
    let binds = c.shape-3.ensures (operator r ok) (coded r ok c.field-code.ensures) in
    let low = middle_low r ok in (
      starts_less r (get_or a.starts.now row 0) (omega arith),
      subst (λ n. T (reads collection (ending rows n))) (sym (middle_is r ok)) (binds_here rows row (sound r ok) (sym binds ∙ c.if-shape-ne-COLLECTION.false)),
    )

pub bounds-env-new : goal.bounds-env-new
bounds-env-new t c =
    let r = c.requires.0 in
    let ok = c.requires.1 in
    let second = c.shape.ensures (operator r ok) (coded r ok c.field-code.ensures) in
    room r ok c.args.at.depth c.requires.3 (λ q. c.if-shape-eq-NONE.false (second ∙ q))

pub typed-requires-3 : goal.typed-requires-3
typed-requires-3 t c =
    let a = c.args in
    let r = c.requires.0 in
    let ok = c.requires.1 in
    let second = c.shape.ensures (operator r ok) (coded r ok c.field-code.ensures) in
    let m = c.member_type.result in
    let h = c.requires.3 in
    let k = positive r ok in
    second_asks r ok (set c.typed-2.new.env a.at.depth m) (a.at.depth + 1) c.decreases (λ q. c.if-shape-eq-NONE.false (second ∙ q))
    (length-set c.typed-2.new.env a.at.depth m ∙ c.typed-2.ensures.1) (omega arith)

pub returns : goal.returns
returns t c =
    let a = c.args in
    let rows = body_of a.bodies.now a.at.rule in
    let row = a.at.end - 1 in
    let depth = a.at.depth in
    let r = c.requires.0 in
    let ok = c.requires.1 in
    let S = lent a.at.types a.types.now a.at.relationships a.relationships.now in
    let vs = take depth a.env.now in
    let second = c.shape.ensures (operator r ok) (coded r ok c.field-code.ensures) in
    let first = c.shape-2.ensures (operator r ok) (coded r ok c.field-code.ensures) in
    let binds = c.shape-3.ensures (operator r ok) (coded r ok c.field-code.ensures) in
    let m = c.member_type.result in
    let left = c.typed-2.new.env in
    let kept = c.typed-2.ensures.2 in
    let k = room r ok depth c.requires.3 (λ q. c.if-shape-eq-NONE.false (second ∙ q)) in
    let yes = first_typed r ok S vs c.typed-2.ensures.0 ∙ c.if-not-typed.false in
    let type_of = member_of S.relationships in
    let is : m ≡ type_of (first_part rows row).form = c.member_type.ensures ∙ ap (λ n. type_of (ending rows n).form) (middle_is r ok) in
    let inner : take (depth + 1) (set left depth m) ≡ bind vs (type_of (first_part rows row).form) =
    bind_take left depth m (omega (arith, c.typed-2.ensures.1)) ∙ (λ j. bind (kept j) (is j)) in
    let bound = simp yes at (bound_here rows row (sound r ok) S vs (λ q. c.if-shape-eq-NONE.false (second ∙ q)) (λ q. c.if-shape-eq-NONE-2.false (first ∙ q)) (sym binds ∙ c.if-shape-ne-COLLECTION.false)) in
    let part = c.typed-3.ensures in (
      answer r ok S vs (part.0 ∙ ap (λ vs. typed_part S vs (second_part rows row).form) inner ∙ bound),
      part.1,
      scope_kept left c.typed-3.new.env depth m part.2 ∙ kept,
    )
