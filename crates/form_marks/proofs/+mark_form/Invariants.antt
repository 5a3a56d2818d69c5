use Rattle.form_marks.proofs.+mark_form.Given as goal

-- where the form ends: each part ends before its form's row
abbrev pub decreases-mark_form : goal.decreases-mark_form
decreases-mark_form l = l.at.end
