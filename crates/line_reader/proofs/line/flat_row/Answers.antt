use native.Mathlib.Omega.{arith}
use mathlib.Core.Path.{◌∙◌}
use Rattle.line_reader.specs.Rows.{flat_held}
use Rattle.line_reader.proofs.Flat.{flat_event}
use Rattle.line_reader.proofs.line.flat_row.Goals as goal

pub returns-in-0 : goal.returns-in-0
unfolding flat_held
returns-in-0 c = rw c.in-0.is c.type_row.ensures

pub returns-in-1 : goal.returns-in-1
unfolding flat_held
returns-in-1 c = rw c.in-1.is c.plain_row.ensures

pub returns-in-2 : goal.returns-in-2
unfolding flat_held
returns-in-2 c = rw c.in-2.is c.relationship_row.ensures

pub returns-in-3 : goal.returns-in-3
unfolding flat_held
returns-in-3 c = rw c.in-3.is

pub returns-in-4 : goal.returns-in-4
unfolding flat_held
returns-in-4 c = rw c.in-4.is c.object_row.ensures

pub returns-in-5 : goal.returns-in-5
unfolding flat_held
returns-in-5 c = rw c.in-5.is c.plain_row-in-5.ensures

pub returns-in_default : goal.returns-in_default
returns-in_default c =
    let a = c.args in
    c.event_row.ensures ∙ flat_event a.items a.name a.types a.relationships a.cells.now (omega arith)
