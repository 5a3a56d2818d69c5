-- `look::look` meets its contract: the lines before are kept, and what is left to read.
use mathlib.Core.Path.{sym, ap, ◌∙◌}
use mathlib.Core.Bool.{not}
use borrow.Author.Tests.{not-false}
use Rattle.reading.proofs.Looking.{line_read, look_starts, look_follows, look_ends, look_unended, look_bad, look_full, look_goes_on, count_small, section_fine, line_short}
use Rattle.reading.proofs.look.look.Goals as goal

pub loop-at-init : goal.loop-at-init
loop-at-init c = look_starts c.args.text.now c.args.room.now

pub returns-then-not-is_ended : goal.returns-then-not-is_ended
returns-then-not-is_ended c =
    look_unended c.loop-at.invariant c.loop-at-test.true c.requires c.is_ended.ensures (ap not c.if-not-is_ended.true)

pub read_line-row-requires : goal.read_line-row-requires
read_line-row-requires c =
    let k = c.loop-at.invariant in
    (line_short k c.loop-at-test.true c.requires c.line-line.ensures, (look_follows k).types_few)

pub returns-in_default : goal.returns-in_default
returns-in_default c =
    let k = c.loop-at.invariant in
    let ended = sym c.is_ended.ensures ∙ not-false c.is_ended.result (ap not c.if-not-is_ended.false) in
    look_bad (line_read k c.loop-at-test.true c.requires ended c.line-line.ensures (c.in_default.ensures k.before (look_follows k)))

pub is_full-requires : goal.is_full-requires
is_full-requires c =
    let k = c.loop-at.invariant in
    let ended = sym c.is_ended.ensures ∙ not-false c.is_ended.result (ap not c.if-not-is_ended.false) in
    section_fine (line_read k c.loop-at-test.true c.requires ended c.line-line.ensures (c.in-Some.ensures k.before (look_follows k)))

pub returns-then-is_full : goal.returns-then-is_full
returns-then-is_full c =
    let k = c.loop-at.invariant in
    let ended = sym c.is_ended.ensures ∙ not-false c.is_ended.result (ap not c.if-not-is_ended.false) in
    let line = line_read k c.loop-at-test.true c.requires ended c.line-line.ensures (c.in-Some.ensures k.before (look_follows k)) in
    look_full line c.is_full.ensures c.if-is_full.true

pub more_rows-counts-requires : goal.more_rows-counts-requires
more_rows-counts-requires c =
    let k = c.loop-at.invariant in
    let ended = sym c.is_ended.ensures ∙ not-false c.is_ended.result (ap not c.if-not-is_ended.false) in
    let line = line_read k c.loop-at-test.true c.requires ended c.line-line.ensures (c.in-Some.ensures k.before (look_follows k)) in
    (section_fine line, count_small line c.is_full.ensures c.if-is_full.false)

pub loop-at-preserved : goal.loop-at-preserved
loop-at-preserved c =
    let k = c.loop-at.invariant in
    let ended = sym c.is_ended.ensures ∙ not-false c.is_ended.result (ap not c.if-not-is_ended.false) in
    let line = line_read k c.loop-at-test.true c.requires ended c.line-line.ensures (c.in-Some.ensures k.before (look_follows k)) in
    look_goes_on line c.is_full.ensures c.if-is_full.false c.line_end-at.ensures c.more_rows-counts.ensures c.more_cells-cells.ensures

pub returns : goal.returns
returns c = look_ends c.loop-at.invariant c.loop-at-test.false c.requires
