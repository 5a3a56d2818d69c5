-- `line_writer::lines::form` meets its contract: the name, the parts and the fields in turn are the form's spelling.
use Prim.Native.Nat.{ℕ, suc, ◌-◌, ◌+◌, ◌*◌, ◌^◌, ◌≤◌, ◌<◌}
use mathlib.Core.Path.{◌≡◌, sym, ap, ap₂, subst, ◌∙◌}
use mathlib.Core.List.{List, [], ◌∷◌, ◌++◌}
use mathlib.Core.Option.{some}
use native.Mathlib.Omega.{arith}
use lib.Dec.{T}
use lib.ListN.{get_or, take}
use Rattle.meaning.specs.Forms.{Sort}
use Rattle.tables.specs.Codes.{Operator, operator_of, shape_of}
use Rattle.tables.specs.Bodies.{BodyRow, ending}
use Rattle.tables.proofs.Readings.{ending_start, sound_pos}
use Rattle.body_rows.specs.Marks.{body_of, second_sort, Starts}
use Rattle.body_rows.proofs.Kept.{starts_less}
use Rattle.typing.proofs.Types.{operator_here, parts_here, coded_here, code_here, second_here, first_here}
use Rattle.text.specs.Names.{first_operator}
use Rattle.text.specs.Tokens.{begin, spell_token}
use Rattle.line_writer.specs.Lines.{spell_closing, spell_form}
use Rattle.line_writer.proofs.Puts.{put_then, put_as}
use Rattle.line_writer.proofs.Bodies.{few_fields, leaf_spelled, over_spelled, both_spelled}
use Rattle.line_writer.proofs.lines.+form.Goals as goal

module _ {rows : ℕ → BodyRow} {starts : List ℕ} {e : ℕ} (r : Starts rows starts e) (ok : T (ending rows e).sound) where
  -- ---- the row, and what is read of it

  positive : 0 < e
  positive = sound_pos rows e ok

  whole : suc (e - 1) ≡ e
  whole = let h = positive in omega arith

  sound : T (ending rows (suc (e - 1))).sound
  sound = subst (λ n. T (ending rows n).sound) (sym whole) ok

  inside : e - 1 < 64
  inside = let h = positive in let k = r.few in omega arith

  abbrev operator : Operator
  operator = operator_here rows (e - 1) sound

  abbrev parts : List Sort
  parts = parts_here rows (e - 1) sound

  low : {code : ℕ} → code ≡ (rows (e - 1)).code → code < 23
  low f = subst (λ k. k < 23) (sym f) (code_here rows (e - 1) sound)

  coded : {code : ℕ} → code ≡ (rows (e - 1)).code → operator_of code ≡ some operator
  coded f = ap operator_of f ∙ coded_here rows (e - 1) sound

  few : {n : ℕ} → n ≡ (shape_of operator).fields → n ≤ 2
  few f = subst (λ n. n ≤ 2) (sym f) (few_fields operator)

  -- a spelling of the form that ends with the row is one of the form at the place
  spelled : {l : List ℕ} → l ≡ spell_form rows (suc (e - 1)) → l ≡ spell_form rows e
  spelled p = p ∙ ap (spell_form rows) whole

  -- a form by what the code read: its name, what stands between, and its fields
  abbrev pieces : ℕ → List ℕ → ℕ → List ℕ
  pieces code inner n = (spell_token (begin (first_operator + code)) ++ inner) ++ spell_closing (take n ((rows (e - 1)).x ∷ (rows (e - 1)).y ∷ []))

  -- ---- the parts

  second_asks : {t : ℕ} → e ≡ t → (second_sort parts ≡ 3 → ⊥) → ((e - 1) < t) × ((Starts rows starts (e - 1)) × T (ending rows (e - 1)).sound)
  second_asks m n =
      let k = positive in
      (omega arith, (starts_less r (e - 1) (omega arith), second_here rows (e - 1) sound n))

  middle_is : get_or starts (e - 1) 0 ≡ (ending rows (e - 1)).start
  middle_is = r.right (e - 1) (omega arith)

  middle_low : get_or starts (e - 1) 0 ≤ e - 1
  middle_low = subst (λ n. n ≤ e - 1) (sym middle_is) (ending_start rows (e - 1))

-- ---- the goals, in the order of the code

pub overflow_sub-row : goal.overflow_sub-row
overflow_sub-row t c = positive c.requires.0 c.requires.1

pub shape-fields-requires : goal.shape-fields-requires
shape-fields-requires t c = (low c.requires.0 c.requires.1 c.field-code.ensures, omega arith)

pub overflow_add-code : goal.overflow_add-code
overflow_add-code t c = let h = low c.requires.0 c.requires.1 c.field-code.ensures in omega arith

pub open_inner-a-requires : goal.open_inner-a-requires
open_inner-a-requires t c = let h = low c.requires.0 c.requires.1 c.field-code.ensures in omega arith

pub shape-requires : goal.shape-requires
shape-requires t c = (low c.requires.0 c.requires.1 c.field-code.ensures, omega arith)

pub close-requires : goal.close-requires
close-requires t c =
    let r = c.requires.0 in
    let ok = c.requires.1 in
    (inside r ok, few r ok (c.shape-fields.ensures (operator r ok) (coded r ok c.field-code.ensures)))

pub returns-then-shape-eq-NONE : goal.returns-then-shape-eq-NONE
returns-then-shape-eq-NONE t c =
    let a = c.args in
    let rows = body_of a.bodies.now a.rule in
    let row = a.end - 1 in
    let r = c.requires.0 in
    let ok = c.requires.1 in
    let code = c.field-code.ensures in
    let count = c.shape-fields.ensures (operator r ok) (coded r ok code) in
    let second = c.shape.ensures (operator r ok) (coded r ok code) in
    let word : (rows row).x < 2 ^ 32 = omega (arith, c.type_inv.bodies ((a.rule * 64 + row) * 4 + 1)) in
    put_as (put_then c.open_inner-a.ensures c.close.ensures)
    (spelled r ok
    (ap₂ (λ k n. spell_token (begin (first_operator + k)) ++ spell_closing (take n ((rows row).x ∷ (rows row).y ∷ []))) code count
    ∙ leaf_spelled rows row (sound r ok) word (sym second ∙ c.if-shape-eq-NONE.true)))

pub shape-requires-2 : goal.shape-requires-2
shape-requires-2 t c = (low c.requires.0 c.requires.1 c.field-code.ensures, omega arith)

pub form-b-requires : goal.form-b-requires
form-b-requires t c =
    let r = c.requires.0 in
    let ok = c.requires.1 in
    let second = c.shape.ensures (operator r ok) (coded r ok c.field-code.ensures) in
    second_asks r ok c.decreases (λ q. c.if-shape-eq-NONE.false (second ∙ q))

pub close-requires-then-shape-eq-NONE-2 : goal.close-requires-then-shape-eq-NONE-2
close-requires-then-shape-eq-NONE-2 t c =
    let r = c.requires.0 in
    let ok = c.requires.1 in
    (inside r ok, few r ok (c.shape-fields.ensures (operator r ok) (coded r ok c.field-code.ensures)))

pub returns-then-shape-eq-NONE-2 : goal.returns-then-shape-eq-NONE-2
returns-then-shape-eq-NONE-2 t c =
    let a = c.args in
    let rows = body_of a.bodies.now a.rule in
    let row = a.end - 1 in
    let r = c.requires.0 in
    let ok = c.requires.1 in
    let code = c.field-code.ensures in
    let count = c.shape-fields.ensures (operator r ok) (coded r ok code) in
    let second = c.shape.ensures (operator r ok) (coded r ok code) in
    let first = c.shape-2.ensures (operator r ok) (coded r ok code) in
    let word : (rows row).x < 2 ^ 32 = omega (arith, c.type_inv.bodies ((a.rule * 64 + row) * 4 + 1)) in
    put_as (put_then (put_then c.open_inner-a.ensures c.form-b.ensures) c.close-then-shape-eq-NONE-2.ensures)
    (spelled r ok
    (ap₂ (λ k n. pieces r ok k (spell_form rows row) n) code count
    ∙ over_spelled rows row (sound r ok) word (λ q. c.if-shape-eq-NONE.false (second ∙ q)) (sym first ∙ c.if-shape-eq-NONE-2.true)))

pub bounds-starts-index : goal.bounds-starts-index
bounds-starts-index t c = let h = inside c.requires.0 c.requires.1 in omega arith

pub form-b-requires-2 : goal.form-b-requires-2
form-b-requires-2 t c =
    let a = c.args in
    let rows = body_of a.bodies.now a.rule in
    let row = a.end - 1 in
    let r = c.requires.0 in
    let ok = c.requires.1 in
    let first = c.shape-2.ensures (operator r ok) (coded r ok c.field-code.ensures) in
    let low = middle_low r ok in
    let k = positive r ok in
    let m = c.decreases in
    (omega arith, (starts_less r (get_or a.starts.now row 0) (omega arith), subst (λ n. T (ending rows n).sound) (sym (middle_is r ok)) (first_here rows row (sound r ok) (λ q. c.if-shape-eq-NONE-2.false (first ∙ q)))))

pub form-c-requires : goal.form-c-requires
form-c-requires t c =
    let r = c.requires.0 in
    let ok = c.requires.1 in
    let second = c.shape.ensures (operator r ok) (coded r ok c.field-code.ensures) in
    second_asks r ok c.decreases (λ q. c.if-shape-eq-NONE.false (second ∙ q))

pub close-requires-2 : goal.close-requires-2
close-requires-2 t c =
    let r = c.requires.0 in
    let ok = c.requires.1 in
    (inside r ok, few r ok (c.shape-fields.ensures (operator r ok) (coded r ok c.field-code.ensures)))

pub returns : goal.returns
returns t c =
    let a = c.args in
    let rows = body_of a.bodies.now a.rule in
    let row = a.end - 1 in
    let r = c.requires.0 in
    let ok = c.requires.1 in
    let code = c.field-code.ensures in
    let count = c.shape-fields.ensures (operator r ok) (coded r ok code) in
    let second = c.shape.ensures (operator r ok) (coded r ok code) in
    let first = c.shape-2.ensures (operator r ok) (coded r ok code) in
    let word : (rows row).x < 2 ^ 32 = omega (arith, c.type_inv.bodies ((a.rule * 64 + row) * 4 + 1)) in
    put_as (put_then (put_then (put_then c.open_inner-a.ensures c.form-b-2.ensures) c.form-c.ensures) c.close-2.ensures)
    (spelled r ok
    (ap₂ (λ k n. ((spell_token (begin (first_operator + k)) ++ spell_form rows (get_or a.starts.now row 0)) ++ spell_form rows row) ++ spell_closing (take n ((rows row).x ∷ (rows row).y ∷ []))) code count
    ∙ ap (λ m. ((spell_token (begin (first_operator + (rows row).code)) ++ spell_form rows m) ++ spell_form rows row) ++ spell_closing (take (shape_of (operator r ok)).fields ((rows row).x ∷ (rows row).y ∷ []))) (middle_is r ok)
    ∙ both_spelled rows row (sound r ok) word (λ q. c.if-shape-eq-NONE.false (second ∙ q)) (λ q. c.if-shape-eq-NONE-2.false (first ∙ q))))
