use Rattle.ocl.proofs.+begin.Given as goal

-- the row where the form ends: the collection of a select ends before it
abbrev pub decreases-begin : goal.decreases-begin
decreases-begin l = l.at.1
