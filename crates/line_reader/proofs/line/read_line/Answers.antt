use mathlib.Core.Path.{◌∙◌}
use mathlib.Core.Option.{bind}
use Rattle.text.specs.Tokens.{bracket_in}
use Rattle.text.specs.Entries.{inside_in, entry_in}
use Rattle.line_reader.proofs.Lines.{order_none, order_no, order_is}
use Rattle.line_reader.proofs.line.read_line.Goals as goal

pub returns-in_err-row : goal.returns-in_err-row
unfolding entry_in
returns-in_err-row c = λ before f. c.from_residual.ensures ∙ order_none (bind (bracket_in c.args.line.now) (inside_in before)) before (c.in_err-row.ensures before c.args.section f)

pub returns-then-row-section : goal.returns-then-row-section
unfolding entry_in
returns-then-row-section c = λ before f. order_no (bind (bracket_in c.args.line.now) (inside_in before)) before (c.in_ok-row.ensures before c.args.section f) f.section_is c.if-row-section.true

pub returns : goal.returns
unfolding entry_in
returns c = λ before f. order_is (bind (bracket_in c.args.line.now) (inside_in before)) before (c.in_ok-row.ensures before c.args.section f) f.section_is c.if-row-section.false
