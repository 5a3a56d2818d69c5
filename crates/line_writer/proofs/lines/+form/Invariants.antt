use Rattle.line_writer.proofs.lines.+form.Given as goal

-- where the form ends: each part ends before its form's row
abbrev pub decreases-form : goal.decreases-form
decreases-form l = l.end
