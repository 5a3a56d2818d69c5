use Rattle.quietness.proofs.quiet.+quietly.Given as goal

-- where the form ends: each part ends before its form's row
abbrev pub decreases-quietly : goal.decreases-quietly
decreases-quietly l = l.end
