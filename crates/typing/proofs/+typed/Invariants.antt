use Rattle.typing.proofs.+typed.Given as goal

-- where the form ends: each part ends before its form's row
abbrev pub decreases-typed : goal.decreases-typed
decreases-typed l = l.at.end
