-- `writer::section_lines` meets its contract. The invariant: the lines of the rows before `row` are put.
use mathlib.Core.Path.{◌≡◌, sym, ap}
use native.Mathlib.Omega.{arith}
use Rattle.tables.specs.Layouts.{sheet_in}
use Rattle.line_writer.specs.Lines.{line_of, lines_of}
use Rattle.line_writer.proofs.Puts.{put_nothing, put_then, put_as}
use Rattle.writer.proofs.Sections.{lines_none, lines_more}
use borrow.Author.Rules.{rules}
use Rattle.writer.proofs.section_lines.Goals as goal

pub loop-row-init : goal.loop-row-init
loop-row-init c =
    (search rules, put_as (put_nothing _ _ c.requires.1) (sym (lines_none _)))

pub line-next-requires : goal.line-next-requires
line-next-requires c =
    c.requires.0 c.loop-row.row c.loop-row-test.true

pub loop-row-preserved : goal.loop-row-preserved
loop-row-preserved c =
    (search rules, put_as (put_then c.loop-row.invariant.1 c.line-next.ensures) (lines_more _ _))

pub shape_of-out : goal.shape_of-out
shape_of-out c = c.loop-row.invariant.1.size

pub returns : goal.returns
returns c =
    let past : c.loop-row.row ≡ c.args.count = omega arith in
    put_as c.loop-row.invariant.1 (ap (lines_of (line_of (sheet_in c.args.sheet.now) c.args.section)) past)
