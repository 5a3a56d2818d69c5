-- `brackets::ended` meets its contract, by whether anything follows.
use mathlib.Core.Path.{sym}
use Rattle.brackets.proofs.Stack.{ended_more}
use Rattle.brackets.proofs.ended.Goals as goal

pub returns-then-at-line : goal.returns-then-at-line
returns-then-at-line c = sym (ended_more _ _ _ c.if-at-line.true)
