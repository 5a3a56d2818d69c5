-- The evaluators meet their contracts.
use Prim.Native.Nat.{◌≤◌, ◌<◌}
use mathlib.Core.Path.{refl, sym, subst, ◌∙◌}
use native.Mathlib.Omega.{arith}
use mir.Syntax.{w64}
use mir.ValLaws.{to_z-of_z}
use lib.Seq.{set-set}
use Rattle.ocl.proofs.Codes.{above_cell}
use Rattle.walks.proofs.Steps.{stepped_at, fewer_left}
use Rattle.ocl.proofs.Parts.{positive, shallow, compare_parts, connect_parts, quantify_parts, combine_parts, select_parts, negate_part, total_part, kind_code, kind_scope, number_codes, cell_scope, is_select}
use Rattle.ocl.proofs.Answers.{compare_made, negate_made, connect_early, connect_made, kind_made, quantify_starts, quantify_ends, quantify_stops, quantify_goes_on, literal_made, cell_made, add_made, subtract_made, value_fits}
use Rattle.ocl.proofs.Answers.{role_stepped, role_low, all_stepped, select_stands, select_starts, select_stops, select_goes_on, sum_starts, sum_ends, sum_fits, weight_fits, sum_goes_on}
use Rattle.ocl.proofs.+combination_comparison_connection_next_next_selected_quantified_totalled_truth_value.Goals as goal

-- ---- comparison

pub comparison-overflow_sub-row : goal.comparison-overflow_sub-row
comparison-overflow_sub-row t c = positive c.requires.0

pub comparison-value-left-requires : goal.comparison-value-left-requires
comparison-value-left-requires t c =
    let f = (compare_parts c.requires.0 c.requires.1 c.requires.2).first c.start_of-start.ensures in
    (omega (arith, f.0, c.decreases), f.1)

pub comparison-value-right-requires : goal.comparison-value-right-requires
comparison-value-right-requires t c =
    let p = positive c.requires.0 in
    (omega (arith, c.decreases), (compare_parts c.requires.0 c.requires.1 c.requires.2).second)

pub comparison-returns : goal.comparison-returns
comparison-returns t c =
    compare_made c.requires.0 c.start_of-start.ensures c.requires.1 c.requires.2
    (to_z-of_z w64 c.value-left.result (record { sfits = c.value-left.type_inv }) ∙ c.value-left.ensures)
    (to_z-of_z w64 c.value-right.result (record { sfits = c.value-right.type_inv }) ∙ c.value-right.ensures)
    c.compare.ensures

-- ---- connection

pub connection-overflow_sub-row : goal.connection-overflow_sub-row
connection-overflow_sub-row t c = positive c.requires.0

pub connection-truth-left-requires : goal.connection-truth-left-requires
connection-truth-left-requires t c =
    let f = (connect_parts c.requires.0 c.requires.1 c.requires.2 c.requires.3).first c.start_of-start.ensures in
    (omega (arith, f.0, c.decreases), f.1)

pub connection-returns-then-decided : goal.connection-returns-then-decided
connection-returns-then-decided t c =
    connect_early c.requires.0 c.start_of-start.ensures c.requires.1 c.requires.2 c.requires.3 c.truth-left.ensures c.decided.ensures c.if-decided.true

pub connection-truth-right-requires : goal.connection-truth-right-requires
connection-truth-right-requires t c =
    let p = positive c.requires.0 in
    (omega (arith, c.decreases), (connect_parts c.requires.0 c.requires.1 c.requires.2 c.requires.3).second)

pub connection-returns : goal.connection-returns
connection-returns t c =
    connect_made c.requires.0 c.start_of-start.ensures c.requires.1 c.requires.2 c.requires.3 c.truth-left.ensures c.truth-right.ensures c.joined.ensures

-- ---- combination

pub combination-overflow_sub-row : goal.combination-overflow_sub-row
combination-overflow_sub-row t c = positive c.requires.0

pub combination-value-left-requires : goal.combination-value-left-requires
combination-value-left-requires t c =
    let f = (combine_parts c.requires.0 c.requires.1 c.requires.2).first c.start_of-start.ensures in
    (omega (arith, f.0, c.decreases), f.1)

pub combination-value-right-requires : goal.combination-value-right-requires
combination-value-right-requires t c =
    let p = positive c.requires.0 in
    (omega (arith, c.decreases), (combine_parts c.requires.0 c.requires.1 c.requires.2).second)

pub combination-add-requires : goal.combination-add-requires
combination-add-requires t c =
    let parts = combine_parts c.requires.0 c.requires.1 c.requires.2 in
    (value_fits (parts.first c.start_of-start.ensures).1 (to_z-of_z w64 c.value-left.result (record { sfits = c.value-left.type_inv }) ∙ c.value-left.ensures), value_fits parts.second (to_z-of_z w64 c.value-right.result (record { sfits = c.value-right.type_inv }) ∙ c.value-right.ensures))

pub combination-subtract-requires : goal.combination-subtract-requires
combination-subtract-requires t c =
    let parts = combine_parts c.requires.0 c.requires.1 c.requires.2 in
    (value_fits (parts.first c.start_of-start.ensures).1 (to_z-of_z w64 c.value-left.result (record { sfits = c.value-left.type_inv }) ∙ c.value-left.ensures), value_fits parts.second (to_z-of_z w64 c.value-right.result (record { sfits = c.value-right.type_inv }) ∙ c.value-right.ensures))

pub combination-returns-then-code-eq18 : goal.combination-returns-then-code-eq18
combination-returns-then-code-eq18 t c =
    let low : c.args.code < 20 = omega (arith, c.requires.1, number_codes c.requires.0) in
    to_z-of_z w64 c.add.result (record { sfits = c.add.type_inv })
    ∙ add_made c.requires.0 c.start_of-start.ensures c.requires.1 c.requires.2 low
    (to_z-of_z w64 c.value-left.result (record { sfits = c.value-left.type_inv }) ∙ c.value-left.ensures)
    (to_z-of_z w64 c.value-right.result (record { sfits = c.value-right.type_inv }) ∙ c.value-right.ensures)
    c.if-code-eq18.true c.add.ensures

pub combination-returns-else-code-eq18 : goal.combination-returns-else-code-eq18
combination-returns-else-code-eq18 t c =
    let low : c.args.code < 20 = omega (arith, c.requires.1, number_codes c.requires.0) in
    to_z-of_z w64 c.subtract.result (record { sfits = c.subtract.type_inv })
    ∙ subtract_made c.requires.0 c.start_of-start.ensures c.requires.1 c.requires.2 low
    (to_z-of_z w64 c.value-left.result (record { sfits = c.value-left.type_inv }) ∙ c.value-left.ensures)
    (to_z-of_z w64 c.value-right.result (record { sfits = c.value-right.type_inv }) ∙ c.value-right.ensures)
    c.if-code-eq18.false c.subtract.ensures

-- ---- next

pub next-overflow_sub-row : goal.next-overflow_sub-row
next-overflow_sub-row t c = positive c.requires.0

pub next-next_far-requires : goal.next-next_far-requires
next-next_far-requires t c = role_low c.requires.0 (sym c.field-code.ensures ∙ c.if-code-eq20.true) c.requires.1

pub next-returns-then-code-eq20 : goal.next-returns-then-code-eq20
next-returns-then-code-eq20 t c = role_stepped c.requires.0 (sym c.field-code.ensures ∙ c.if-code-eq20.true) c.requires.1 c.next_far.ensures

pub next-returns-then-code-eq21 : goal.next-returns-then-code-eq21
next-returns-then-code-eq21 t c = all_stepped c.requires.0 (sym c.field-code.ensures ∙ c.if-code-eq21.true) c.field-t.ensures c.next_instance.ensures

pub next-next_selected-requires : goal.next-next_selected-requires
next-next_selected-requires t c =
    (omega (arith, c.decreases), (c.requires.0, c.requires.1, is_select c.requires.0 c.field-code.ensures c.if-code-eq20.false c.if-code-eq21.false))

-- ---- next_selected

pub next_selected-overflow_sub-row : goal.next_selected-overflow_sub-row
next_selected-overflow_sub-row t c = positive c.requires.0

pub next_selected-loop-member-init : goal.next_selected-loop-member-init
next_selected-loop-member-init t c =
    (select_stands c.requires.0 c.start_of-start.ensures c.requires.2 c.args.word c.requires.1, select_starts c.requires.0 c.start_of-start.ensures c.requires.2 c.args.word, λ row. refl)

pub next_selected-next-requires : goal.next_selected-next-requires
next_selected-next-requires t c =
    let f = (select_parts c.requires.0 c.requires.2).first c.start_of-start.ensures in
    (omega (arith, f.0, c.decreases), (f.1, c.loop-member.invariant.0))

pub next_selected-bounds-inner-d : goal.next_selected-bounds-inner-d
next_selected-bounds-inner-d t c = (select_parts c.requires.0 c.requires.2).deep

pub next_selected-truth-requires : goal.next_selected-truth-requires
next_selected-truth-requires t c =
    let went = c.next.ensures.went _ c.in-Some.is in
    let past = positive c.requires.0 in
    (omega (arith, c.decreases), (select_parts c.requires.0 c.requires.2).inner _ _ (c.loop-member.invariant.2 _) went.there)

pub next_selected-returns-then-truth : goal.next_selected-returns-then-truth
next_selected-returns-then-truth t c =
    let went = c.next.ensures.went _ c.in-Some.is in
    let deep = (select_parts c.requires.0 c.requires.2).deep in
    stepped_at (select_stops c.requires.0 c.start_of-start.ensures c.requires.2 c.args.word c.loop-member.last deep c.loop-member.invariant.1 went (c.loop-member.invariant.2 _) c.truth.ensures c.if-truth.true)

pub next_selected-loop-member-smaller : goal.next_selected-loop-member-smaller
next_selected-loop-member-smaller t c = fewer_left (c.next.ensures.went _ c.in-Some.is)

pub next_selected-loop-member-preserved : goal.next_selected-loop-member-preserved
next_selected-loop-member-preserved t c =
    let went = c.next.ensures.went _ c.in-Some.is in
    let deep = (select_parts c.requires.0 c.requires.2).deep in
    let on = select_goes_on c.requires.0 c.start_of-start.ensures c.requires.2 c.args.word c.loop-member.last deep c.loop-member.invariant.1 went (c.loop-member.invariant.2 _) c.truth.ensures c.if-truth.false in
    (went.stands, on, λ row. set-set c.loop-member.inner c.args.at.2 _ row ∙ c.loop-member.invariant.2 row)

-- ---- quantified

pub quantified-overflow_sub-row : goal.quantified-overflow_sub-row
quantified-overflow_sub-row t c = positive c.requires.0

pub quantified-begin-word-requires : goal.quantified-begin-word-requires
quantified-begin-word-requires t c = ((quantify_parts c.requires.0 c.requires.1 c.requires.2 c.requires.3).first c.start_of-start.ensures).1

pub quantified-loop-member-init : goal.quantified-loop-member-init
quantified-loop-member-init t c =
    (c.begin-word.ensures.stands, quantify_starts c.requires.0 c.start_of-start.ensures c.requires.1 c.requires.2 c.requires.3 c.begin-word.ensures, λ row. refl)

pub quantified-next-requires : goal.quantified-next-requires
quantified-next-requires t c =
    let f = (quantify_parts c.requires.0 c.requires.1 c.requires.2 c.requires.3).first c.start_of-start.ensures in
    (omega (arith, f.0, c.decreases), (f.1, c.loop-member.invariant.0))

pub quantified-returns : goal.quantified-returns
quantified-returns t c =
    quantify_ends c.requires.0 c.args.code c.start_of-start.result c.loop-member.word c.loop-member.invariant.1 (c.next.ensures.done c.in_default.is)

pub quantified-bounds-inner-d : goal.quantified-bounds-inner-d
quantified-bounds-inner-d t c = (quantify_parts c.requires.0 c.requires.1 c.requires.2 c.requires.3).deep

pub quantified-truth-holds-requires : goal.quantified-truth-holds-requires
quantified-truth-holds-requires t c =
    let went = c.next.ensures.went _ c.in-Some.is in
    let past = positive c.requires.0 in
    (omega (arith, c.decreases), (quantify_parts c.requires.0 c.requires.1 c.requires.2 c.requires.3).inner _ _ (c.loop-member.invariant.2 _) went.there)

pub quantified-returns-then-stops : goal.quantified-returns-then-stops
quantified-returns-then-stops t c =
    let went = c.next.ensures.went _ c.in-Some.is in
    let deep = (quantify_parts c.requires.0 c.requires.1 c.requires.2 c.requires.3).deep in
    quantify_stops c.requires.0 c.args.code c.start_of-start.result c.loop-member.word deep c.loop-member.invariant.1 went (c.loop-member.invariant.2 _) c.truth-holds.ensures c.stops.ensures c.if-stops.true

pub quantified-loop-member-smaller : goal.quantified-loop-member-smaller
quantified-loop-member-smaller t c = fewer_left (c.next.ensures.went _ c.in-Some.is)

pub quantified-loop-member-preserved : goal.quantified-loop-member-preserved
quantified-loop-member-preserved t c =
    let went = c.next.ensures.went _ c.in-Some.is in
    let deep = (quantify_parts c.requires.0 c.requires.1 c.requires.2 c.requires.3).deep in
    let on = quantify_goes_on c.requires.0 c.args.code c.start_of-start.result c.loop-member.word deep c.loop-member.invariant.1 went (c.loop-member.invariant.2 _) c.truth-holds.ensures c.stops.ensures c.if-stops.false in
    (went.stands, on, λ row. set-set c.loop-member.inner c.args.at.2 _ row ∙ c.loop-member.invariant.2 row)

-- ---- totalled

pub totalled-overflow_sub-row : goal.totalled-overflow_sub-row
totalled-overflow_sub-row t c = positive c.requires.0

pub totalled-begin-word-requires : goal.totalled-begin-word-requires
totalled-begin-word-requires t c = total_part c.requires.0 c.requires.1 c.requires.2 c.requires.3

pub totalled-loop-member-init : goal.totalled-loop-member-init
totalled-loop-member-init t c =
    (c.begin-word.ensures.stands, sum_starts c.requires.0 c.requires.1 c.requires.2 c.requires.3 c.begin-word.ensures)

pub totalled-next-requires : goal.totalled-next-requires
totalled-next-requires t c =
    let past = positive c.requires.0 in
    (omega (arith, c.decreases), (total_part c.requires.0 c.requires.1 c.requires.2 c.requires.3, c.loop-member.invariant.0))

pub totalled-returns : goal.totalled-returns
totalled-returns t c = sum_ends c.requires.0 c.loop-member.invariant.1 (c.next.ensures.done c.in_default.is)

pub totalled-add-total-requires : goal.totalled-add-total-requires
totalled-add-total-requires t c =
    let went = c.next.ensures.went _ c.in-Some.is in
    (sum_fits c.requires.0 c.loop-member.invariant.1, weight_fits c.requires.0 c.loop-member.invariant.1 went c.field-cell.ensures (to_z-of_z w64 c.weight.result (record { sfits = c.weight.type_inv }) ∙ c.weight.ensures))

pub totalled-loop-member-smaller : goal.totalled-loop-member-smaller
totalled-loop-member-smaller t c = fewer_left (c.next.ensures.went _ c.in-Some.is)

pub totalled-loop-member-preserved : goal.totalled-loop-member-preserved
totalled-loop-member-preserved t c =
    let went = c.next.ensures.went _ c.in-Some.is in
    (went.stands, sum_goes_on c.requires.0 c.loop-member.invariant.1 went c.field-cell.ensures (to_z-of_z w64 c.weight.result (record { sfits = c.weight.type_inv }) ∙ c.weight.ensures) (to_z-of_z w64 c.add-total.result (record { sfits = c.add-total.type_inv }) ∙ c.add-total.ensures))

-- ---- truth

pub truth-overflow_sub-row : goal.truth-overflow_sub-row
truth-overflow_sub-row t c = positive c.requires

pub truth-truth-requires : goal.truth-truth-requires
truth-truth-requires t c =
    let past = positive c.requires in
    (omega (arith, c.decreases), negate_part c.requires (sym c.field-code.ensures ∙ c.if-code-eq6.true))

pub truth-returns-then-code-eq6 : goal.truth-returns-then-code-eq6
truth-returns-then-code-eq6 t c = negate_made c.requires (sym c.field-code.ensures ∙ c.if-code-eq6.true) c.truth.ensures

pub truth-variable-object-requires : goal.truth-variable-object-requires
truth-variable-object-requires t c =
    let is_kind = kind_code c.requires (subst (λ k. 13 ≤ k) c.field-code.ensures c.if-code-lt13.false) in
    let bound = kind_scope c.requires is_kind in
    let deep = shallow c.requires in
    let x = c.field.ensures in
    omega arith

pub truth-returns : goal.truth-returns
truth-returns t c =
    let is_kind = kind_code c.requires (subst (λ k. 13 ≤ k) c.field-code.ensures c.if-code-lt13.false) in
    kind_made c.requires is_kind c.field.ensures c.field-2.ensures c.variable-object.ensures c.type_of-t.ensures c.under.ensures

-- ---- value

pub value-overflow_sub-row : goal.value-overflow_sub-row
value-overflow_sub-row t c = positive c.requires

pub value-returns-then-code-eq14 : goal.value-returns-then-code-eq14
value-returns-then-code-eq14 t c =
    to_z-of_z w64 c.from_word.result (record { sfits = c.from_word.type_inv })
    ∙ literal_made c.requires (sym c.field-code.ensures ∙ c.if-code-eq14.true) c.field-x.ensures c.from_word.ensures

pub value-variable-object-requires : goal.value-variable-object-requires
value-variable-object-requires t c =
    let bound = cell_scope c.requires (sym c.field-code.ensures ∙ c.if-code-eq15.true) in
    let deep = shallow c.requires in
    let x = c.field-x.ensures in
    omega arith

pub value-returns-then-code-eq15 : goal.value-returns-then-code-eq15
value-returns-then-code-eq15 t c =
    to_z-of_z w64 c.cell_value.result (record { sfits = c.cell_value.type_inv })
    ∙ cell_made c.requires (sym c.field-code.ensures ∙ c.if-code-eq15.true) c.field-x.ensures c.field.ensures c.variable-object.ensures c.cell_value.ensures

pub value-totalled-requires : goal.value-totalled-requires
value-totalled-requires t c =
    let low : 14 ≤ c.field-code.result = subst (λ k. 14 ≤ k) (sym c.field-code.ensures) (number_codes c.requires).0 in
    (omega (arith, c.decreases), (c.requires, c.field-code.ensures, above_cell _ low c.if-code-eq14.false c.if-code-eq15.false, c.if-code-lt18.true))
