-- `fill::fill` meets its contract: the tables are cleared, and the lines put into them.
use Rattle.tables.specs.Layouts.{Sheet, sheet_of}
use Rattle.reader.proofs.Answers.{cleared_taken, cleared_ready, filled_so}
use Rattle.reader.proofs.fill.fill.Goals as goal

pub put_lines-requires : goal.put_lines-requires
put_lines-requires c =
    let a = c.args in
    cleared_ready a.text.now (sheet_of a.types.now a.floors.now a.relationships.now a.rules.now a.bodies.now a.objects.now a.links.now a.events.now) c.requires.1 c.clear_all.ensures

pub returns : goal.returns
returns c =
    let a = c.args in
    let s : Sheet = sheet_of a.types.now a.floors.now a.relationships.now a.rules.now a.bodies.now a.objects.now a.links.now a.events.now in
    filled_so a.text.now s c.requires.1 c.clear_all.ensures
    (c.put_lines.ensures c.requires.0 (cleared_taken a.text.now s c.requires.1 c.clear_all.ensures))
