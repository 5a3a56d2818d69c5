-- `fill::put_lines` meets its contract: the rows of the lines before are in the tables.
use mathlib.Core.Path.{◌≡◌, sym, ◌∙◌}
use Rattle.std.specs.Prelude.{Some}
use native.Mathlib.Omega.{arith}
use Rattle.text.specs.Entries.{entry_in}
use Rattle.line_reader.specs.Rows.{row_held}
use Rattle.reading.proofs.Looking.{look_follows, line_short, end_within}
use Rattle.filling.proofs.Filling.{fill_starts, fill_ends, fill_row, fill_section, fill_count, fill_body, fill_body_room, fill_goes_on}
use Rattle.filling.proofs.put_lines.Goals as goal

pub loop-at-init : goal.loop-at-init
loop-at-init c = fill_starts c.args.text.now c.requires.1

pub read_line-requires : goal.read_line-requires
read_line-requires c =
    let k = c.loop-at.invariant.looking in
    (line_short k c.loop-at-test.true c.requires.0 c.line-line.ensures, (look_follows k).types_few)

pub unwrap-row-requires : goal.unwrap-row-requires
unwrap-row-requires c =
    let k = c.loop-at.invariant in
    fill_row k c.requires.0 c.loop-at-test.true c.requires.2.1 c.line-line.ensures _ (c.read_line.ensures k.looking.before (look_follows k.looking))

pub put_line-requires : goal.put_line-requires
put_line-requires c =
    let k = c.loop-at.invariant in
    let row_is : Some c.unwrap-row.result ≡ row_held (entry_in k.looking.before c.line-line.result.now) = sym c.unwrap-row.ensures ∙ c.read_line.ensures k.looking.before (look_follows k.looking) in
    (fill_body k c.requires.0 c.loop-at-test.true c.requires.2.1 c.line-line.ensures row_is, fill_body_room k c.requires.0 c.loop-at-test.true c.requires.2.1 c.line-line.ensures row_is)

pub more_rows-counts-requires : goal.more_rows-counts-requires
more_rows-counts-requires c =
    let k = c.loop-at.invariant in
    let row_is : Some c.unwrap-row.result ≡ row_held (entry_in k.looking.before c.line-line.result.now) = sym c.unwrap-row.ensures ∙ c.read_line.ensures k.looking.before (look_follows k.looking) in
    (fill_section k c.requires.0 c.loop-at-test.true c.requires.2.1 c.line-line.ensures row_is, fill_count k c.requires.0 c.loop-at-test.true c.requires.2.1 c.line-line.ensures row_is)

pub overflow_add-at : goal.overflow_add-at
overflow_add-at c =
    let short = c.requires.0 in
    let small = end_within c.loop-at.invariant.looking c.loop-at-test.true short c.line_end-at.ensures in
    omega arith

pub loop-at-smaller : goal.loop-at-smaller
loop-at-smaller c = omega (arith, c.line_end-at.ensures, c.loop-at-test.true)

pub loop-at-preserved : goal.loop-at-preserved
loop-at-preserved c =
    let k = c.loop-at.invariant in
    let row_is : Some c.unwrap-row.result ≡ row_held (entry_in k.looking.before c.line-line.result.now) = sym c.unwrap-row.ensures ∙ c.read_line.ensures k.looking.before (look_follows k.looking) in
    fill_goes_on k c.requires.0 c.loop-at-test.true c.requires.2.1 c.line-line.ensures row_is c.put_line.ensures
    c.line_end-at.ensures c.more_rows-counts.ensures c.more_cells-cells.ensures

pub shape_of-types : goal.shape_of-types
shape_of-types c = c.loop-at.invariant.types_held.same

pub shape_of-floors : goal.shape_of-floors
shape_of-floors c = c.loop-at.invariant.floors_held.same

pub shape_of-relationships : goal.shape_of-relationships
shape_of-relationships c = c.loop-at.invariant.relationships_held.same

pub shape_of-rules : goal.shape_of-rules
shape_of-rules c = c.loop-at.invariant.rules_held.same

pub shape_of-bodies : goal.shape_of-bodies
shape_of-bodies c = c.loop-at.invariant.bodies_held.same

pub shape_of-objects : goal.shape_of-objects
shape_of-objects c = c.loop-at.invariant.objects_held.same

pub shape_of-links : goal.shape_of-links
shape_of-links c = c.loop-at.invariant.links_held.same

pub shape_of-events : goal.shape_of-events
shape_of-events c = c.loop-at.invariant.events_held.same

pub returns : goal.returns
returns c = fill_ends c.loop-at.invariant c.requires.0 c.loop-at-test.false
