use native.Mathlib.Omega.{arith}
use Rattle.operators.proofs.Connectives.{decided_and, decided_or, decided_implies}
use Rattle.operators.proofs.operators.decided.Goals as goal

pub returns-in-7 : goal.returns-in-7
returns-in-7 c = decided_and _ _ c.in-7.is

pub returns-in-8 : goal.returns-in-8
returns-in-8 c = decided_or _ _ c.in-8.is

pub returns-in_default : goal.returns-in_default
returns-in_default c = decided_implies c.args.code c.args.left (λ e. absurd (omega arith)) (λ e. absurd (omega arith)) (λ e. absurd (omega arith))
