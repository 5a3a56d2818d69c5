-- `pair_list::search` meets its contract. The invariants: no broken pair stands before those of the rule, or before that of the row, which is marked.
use Prim.Native.Nat.{◌+◌, ◌-◌, ◌<◌}
use mathlib.Core.Path.{refl, ◌∙◌}
use mathlib.Core.Bool.{true}
use native.Mathlib.Omega.{arith}
use mathlib.Core.List.{[], ◌∷◌}
use Rattle.tables.specs.Layouts.{register_sheet}
use Rattle.meaning.specs.Reach.{pair_of}
use Rattle.walks.specs.Site.{id_in}
use Rattle.full_search.proofs.Given.{size_few, rule_ready}
use Rattle.pair_list.specs.Pairs.{marked_pairs}
use Rattle.pair_list.proofs.Left.{from_row, all_left, none_left, rule_starts, rule_ends, row_taken, rows_passed, rules_passed}
use Rattle.pair_list.proofs.Found.{Searching, search_starts, search_on, search_ends, pair_broken_lem, pair_passed}
use Rattle.pair_list.proofs.search.Goals as goal

pub search-init : goal.search-init
search-init c =
    let a = c.args in
    (refl, search_on _ _ _ (all_left a.n a.sheet.now.objects.now a.marks.now ∙ rules_passed a.n a.sheet.now.objects.now a.marks.now c.requires.given.few_objects c.next_rule-rule.ensures) (search_starts _ _ _))

pub scan-spans-requires : goal.scan-spans-requires
scan-spans-requires c = size_few c.requires c.search-test.true c.word-size.ensures

pub next_row-row-requires : goal.next_row-row-requires
next_row-row-requires c = (omega (arith, c.search-test.true, c.requires.given.few_rules), omega arith)

pub loop-row-init : goal.loop-row-init
loop-row-init c =
    let a = c.args in (
      c.search.invariant.0,
      c.next_row-row.ensures.found,
      search_on _ _ _ (rule_starts a.n a.sheet.now.objects.now a.marks.now c.search-test.true ∙ rows_passed a.n a.sheet.now.objects.now a.marks.now c.search.rule c.next_row-row.ensures) c.search.invariant.1,
    )

pub breaks-requires : goal.breaks-requires
breaks-requires c =
    rule_ready c.requires c.search-test.true c.word-size.ensures c.scan-spans.ensures.2 c.scan-spans.ensures.0 c.loop-row-test.true

pub overflow_add-row : goal.overflow_add-row
overflow_add-row c =
    omega (arith, c.loop-row-test.true, c.requires.given.few_objects)

pub next_row-row-requires-in-loop-row : goal.next_row-row-requires-in-loop-row
next_row-row-requires-in-loop-row c =
    let given = c.requires.given in
    (omega (arith, c.search-test.true, given.few_rules), omega (arith, c.loop-row-test.true, given.few_objects))

pub loop-row-smaller : goal.loop-row-smaller
loop-row-smaller c = omega (arith, c.loop-row-test.true, c.next_row-row-in-loop-row.ensures.on)

pub loop-row-preserved : goal.loop-row-preserved
loop-row-preserved c =
    let a = c.args in
    let rule = c.search.rule in
    let next = search_on _ _ _ (row_taken a.n a.sheet.now.objects.now a.marks.now c.loop-row-test.true (c.loop-row.invariant.1 (omega (arith, c.requires.given.few_objects)))) c.loop-row.invariant.2 in (
      c.loop-row.invariant.0,
      c.next_row-row-in-loop-row.ensures.found,
      search_on _ _ _ (rows_passed a.n a.sheet.now.objects.now a.marks.now rule c.next_row-row-in-loop-row.ensures)
          (pair_passed _ _ _ c.requires c.search-test.true c.loop-row-test.true c.word-size.ensures c.word-context.ensures c.breaks.ensures next c.if-breaks.false),
    )

pub overflow_add-rule : goal.overflow_add-rule
overflow_add-rule c = omega (arith, c.search-test.true, c.requires.given.few_rules)

pub next_rule-rule-requires-in-search : goal.next_rule-rule-requires-in-search
next_rule-rule-requires-in-search c = omega (arith, c.search-test.true, c.requires.given.few_rules)

pub search-smaller : goal.search-smaller
search-smaller c = omega (arith, c.search-test.true, c.next_rule-rule-in-search.ensures.on)

pub search-preserved : goal.search-preserved
search-preserved c =
    let a = c.args in (
      c.loop-row.invariant.0,
      search_on _ _ _ (rule_ends a.n a.sheet.now.objects.now a.marks.now c.search.rule c.loop-row-test.false
          ∙ rules_passed a.n a.sheet.now.objects.now a.marks.now c.requires.given.few_objects c.next_rule-rule-in-search.ensures) c.loop-row.invariant.2,
    )

pub returns-after-search : goal.returns-after-search
returns-after-search c =
    let a = c.args in
    c.search.invariant.0 ∙ search_ends _ _ _ (search_on _ _ _ (none_left a.n a.sheet.now.objects.now a.marks.now c.search-test.false) c.search.invariant.1)

pub returns-then-breaks : goal.returns-then-breaks
returns-then-breaks c =
    let a = c.args in
    let next = search_on _ _ _ (row_taken a.n a.sheet.now.objects.now a.marks.now c.loop-row-test.true (c.loop-row.invariant.1 (omega (arith, c.requires.given.few_objects)))) c.loop-row.invariant.2 in
    pair_broken_lem _ _ _ c.requires c.search-test.true c.loop-row-test.true c.word-size.ensures c.word-context.ensures c.breaks.ensures next
    c.id_of.ensures c.if-breaks.true
