-- `told::verdict` meets its contract. The number is that of the verdict that is met.
use mathlib.Core.Path.{sym, ap}
use Rattle.told.specs.Coded.{verdict_code}
use Rattle.told.proofs.verdict.Goals as goal

pub returns-in-Err : goal.returns-in-Err
returns-in-Err c = ap verdict_code (sym c.in-Err.is)
