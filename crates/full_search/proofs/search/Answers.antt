-- `full_search::search` meets its contract. The invariants: no broken pair stands before the rule, or before the row of the rule.
use Prim.Native.Nat.{◌-◌}
use mathlib.Core.Path.{refl, ◌∙◌}
use Rattle.full_search.proofs.Given.{size_few, rule_ready}
use Rattle.full_search.proofs.Pairs.{search_starts, within_starts, within_ends, search_ends, row_broken, row_passed}
use Rattle.full_search.proofs.search.Goals as goal

pub search-init : goal.search-init
search-init c =
    (refl, search_starts c.requires)

pub scan-spans-requires : goal.scan-spans-requires
scan-spans-requires c =
    size_few c.requires c.search-test.true c.word-size.ensures

pub loop-row-init : goal.loop-row-init
loop-row-init c =
    let search = c.search in
    (search.invariant.0, within_starts c.requires c.search-test.true search.invariant.1)

pub breaks-requires : goal.breaks-requires
breaks-requires c =
    rule_ready c.requires c.search-test.true c.word-size.ensures c.scan-spans.ensures.2 c.scan-spans.ensures.0 c.loop-row-test.true

pub loop-row-preserved : goal.loop-row-preserved
loop-row-preserved c =
    let loop = c.loop-row in
    let word2 = c.word-size in
    let word = c.word-context in
    let if1 = c.search-test in
    (loop.invariant.0, row_passed c.requires if1.true c.loop-row-test.true word2.ensures word.ensures c.breaks.ensures loop.invariant.1 c.if-breaks.false)

pub search-preserved : goal.search-preserved
search-preserved c =
    let loop = c.loop-row in
    (loop.invariant.0, within_ends c.requires c.loop-row-test.false loop.invariant.1)

pub returns-after-search : goal.returns-after-search
returns-after-search c =
    let search = c.search in
    search.invariant.0 ∙ search_ends c.requires c.search-test.false search.invariant.1

pub returns-then-breaks : goal.returns-then-breaks
returns-then-breaks c =
    let loop = c.loop-row in
    let word2 = c.word-size in
    let word = c.word-context in
    let if1 = c.search-test in
    row_broken c.requires if1.true c.loop-row-test.true word2.ensures word.ensures c.breaks.ensures loop.invariant.1 c.id_of.ensures c.if-breaks.true
