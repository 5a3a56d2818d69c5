-- `quietness::quiet::quietly` meets its contract, by the laws of Unlinked: what the code asks of the parts is what the form asks.
use Prim.Native.Nat.{ℕ, suc, ◌-◌, ◌≤◌, ◌<◌}
use mathlib.Core.Path.{◌≡◌, sym, ap, ap₂, subst, ◌∙◌}
use mathlib.Core.Bool.{Bool, true, false, not, ◌&&◌, ◌||◌}
use mathlib.Core.List.{List}
use native.Mathlib.Omega.{arith}
use lib.Dec.{T, eqb}
use lib.ListN.{get_or}
use borrow.Author.Tests.{eq-eqb}
use Rattle.tables.specs.Bodies.{BodyRow, ending}
use Rattle.tables.specs.Columns.{relationships_of}
use Rattle.tables.proofs.Readings.{ending_start, sound_pos}
use Rattle.body_rows.specs.Marks.{body_of, Starts}
use Rattle.body_rows.proofs.Kept.{starts_less}
use Rattle.meaning.proofs.Lists.{or_left, or_right}
use Rattle.quietness.specs.Quiet.{turn, connects, quantifies, joined, counted, quiet_part, self_part}
use Rattle.quietness.proofs.Unlinked.{first_sound, second_sound, not_here, connected_here, quantified_here, other_here}
use Rattle.quietness.proofs.quiet.+quietly.Goals as goal

module _ {rows : ℕ → BodyRow} {starts : List ℕ} {e : ℕ} (r : Starts rows starts e) (ok : T (ending rows e).sound) where
  -- ---- the row, and what is read of it

  abbrev code : ℕ
  code = (rows (e - 1)).code

  positive : 0 < e
  positive = sound_pos rows e ok

  whole : suc (e - 1) ≡ e
  whole = let h = positive in omega arith

  sound : T (ending rows (suc (e - 1))).sound
  sound = subst (λ n. T (ending rows n).sound) (sym whole) ok

  middle_is : get_or starts (e - 1) 0 ≡ (ending rows (e - 1)).start
  middle_is = r.right (e - 1) (omega arith)

  middle_low : get_or starts (e - 1) 0 ≤ e - 1
  middle_low = subst (λ n. n ≤ e - 1) (sym middle_is) (ending_start rows (e - 1))

  -- what the form that ends with the row gives is what the form at the place gives
  at_place : (counts : ℕ → Bool) (want b : Bool) → b ≡ quiet_part counts (ending rows (suc (e - 1))).form want → b ≡ quiet_part counts (ending rows e).form want
  at_place counts want b p = p ∙ ap (λ n. quiet_part counts (ending rows n).form want) whole

  -- what a call for a part asks
  part_asks : {t : ℕ} (i : ℕ) → e ≡ t → i ≤ e - 1 → T (ending rows i).sound → (i < t) × ((Starts rows starts i) × T (ending rows i).sound)
  part_asks i m h sd =
      let k = positive in
      (omega arith, (starts_less r i (omega arith), sd))

  first_is_sound : T (connects code || quantifies code) → T (ending rows (get_or starts (e - 1) 0)).sound
  first_is_sound h = subst (λ n. T (ending rows n).sound) (sym middle_is) (first_sound rows (e - 1) sound h)

yes : (b : Bool) → b ≡ true → T b
yes b e = subst T (sym e) tt

-- ---- the needs, in the order of the code

pub overflow_sub-row : goal.overflow_sub-row
overflow_sub-row t c = positive c.requires.0 c.requires.1

pub quietly-requires : goal.quietly-requires
quietly-requires t c =
    let r = c.requires.0 in
    let ok = c.requires.1 in
    let k = code r ok in
    part_asks r ok (c.args.end - 1) c.decreases (omega arith)
    (second_sound (body_of c.args.bodies.now c.args.rule) (c.args.end - 1) (sound r ok) (or_left (eqb k 6) (connects k) (yes _ (eq-eqb k 6 (sym c.field-code.ensures ∙ c.if-code-eq-NOT.true)))))

pub returns-then-code-eq-NOT : goal.returns-then-code-eq-NOT
returns-then-code-eq-NOT t c =
    let a = c.args in
    let r = c.requires.0 in
    let ok = c.requires.1 in
    let counts = counted a.roles.every (relationships_of a.roles.relationships a.relationships.now) a.roles.context in
    at_place r ok counts a.want _
    (c.quietly.ensures ∙ not_here (body_of a.bodies.now a.rule) (a.end - 1) (sound r ok) counts a.want (sym c.field-code.ensures ∙ c.if-code-eq-NOT.true))

pub quietly-a-requires : goal.quietly-a-requires
quietly-a-requires t c =
    let r = c.requires.0 in
    let ok = c.requires.1 in
    let k = code r ok in
    let here = ap connects (sym c.field-code.ensures) ∙ sym c.connective.ensures ∙ c.if-connective.true in
    part_asks r ok (get_or c.args.starts.now (c.args.end - 1) 0) c.decreases (middle_low r ok) (first_is_sound r ok (or_left (connects k) (quantifies k) (yes _ here)))

pub quietly-b-requires : goal.quietly-b-requires
quietly-b-requires t c =
    let r = c.requires.0 in
    let ok = c.requires.1 in
    let k = code r ok in
    let here = ap connects (sym c.field-code.ensures) ∙ sym c.connective.ensures ∙ c.if-connective.true in
    part_asks r ok (c.args.end - 1) c.decreases (omega arith)
    (second_sound (body_of c.args.bodies.now c.args.rule) (c.args.end - 1) (sound r ok) (or_right (eqb k 6) (connects k) (yes _ here)))

pub returns-then-connective : goal.returns-then-connective
returns-then-connective t c =
    let args = c.args in
    let rows = body_of args.bodies.now args.rule in
    let row = args.end - 1 in
    let r = c.requires.0 in
    let ok = c.requires.1 in
    let counts = counted args.roles.every (relationships_of args.roles.relationships args.relationships.now) args.roles.context in
    let w = args.want in
    let code_is = c.field-code.ensures in
    let here = ap connects (sym code_is) ∙ sym c.connective.ensures ∙ c.if-connective.true in
    let a = c.quietly-a.ensures ∙ ap₂ (λ n v. quiet_part counts (ending rows n).form v) (middle_is r ok) (c.turned-other.ensures ∙ ap (λ k. turn (eqb k 10) w) code_is) in
    let all = c.turned.ensures ∙ ap (λ k. turn (not (eqb k 7)) w) code_is in
    at_place r ok counts w _
    (c.of_two.ensures
    ∙ (λ j. joined (all j) (a j) (c.quietly-b.ensures j))
    ∙ connected_here rows row (sound r ok) counts w (λ e. c.if-code-eq-NOT.false (code_is ∙ e)) here)

pub of_self-requires : goal.of_self-requires
of_self-requires t c =
    let r = c.requires.0 in
    let ok = c.requires.1 in
    let k = code r ok in
    let here = ap quantifies (sym c.field-code.ensures) ∙ sym c.quantifier.ensures ∙ c.if-quantifier.true in
    first_is_sound r ok (or_right (connects k) (quantifies k) (yes _ here))

pub returns-then-quantifier : goal.returns-then-quantifier
returns-then-quantifier t c =
    let args = c.args in
    let rows = body_of args.bodies.now args.rule in
    let row = args.end - 1 in
    let r = c.requires.0 in
    let ok = c.requires.1 in
    let counts = counted args.roles.every (relationships_of args.roles.relationships args.relationships.now) args.roles.context in
    let w = args.want in
    let code_is = c.field-code.ensures in
    let connects_not = ap connects (sym code_is) ∙ sym c.connective.ensures ∙ c.if-connective.false in
    let quantifies_here = ap quantifies (sym code_is) ∙ sym c.quantifier.ensures ∙ c.if-quantifier.true in
    let wanted = c.turned-then-quantifier.ensures ∙ ap (λ k. turn (eqb k 12) w) code_is in
    let own = c.of_self.ensures ∙ ap (λ n. self_part counts (ending rows n).form) (middle_is r ok) in
    at_place r ok counts w _
    (ap₂ ◌&&◌ wanted own
    ∙ quantified_here rows row (sound r ok) counts w (λ e. c.if-code-eq-NOT.false (code_is ∙ e)) connects_not quantifies_here)

pub returns : goal.returns
returns t c =
    let args = c.args in
    let r = c.requires.0 in
    let ok = c.requires.1 in
    let counts = counted args.roles.every (relationships_of args.roles.relationships args.relationships.now) args.roles.context in
    let code_is = c.field-code.ensures in
    let connects_not = ap connects (sym code_is) ∙ sym c.connective.ensures ∙ c.if-connective.false in
    let quantifies_not = ap quantifies (sym code_is) ∙ sym c.quantifier.ensures ∙ c.if-quantifier.false in
    at_place r ok counts args.want false (other_here (body_of args.bodies.now args.rule) (args.end - 1) (sound r ok) counts args.want (λ e. c.if-code-eq-NOT.false (code_is ∙ e)) connects_not quantifies_not)
