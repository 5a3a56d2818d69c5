-- `told::counted` meets its contract.
use mathlib.Core.Path.{sym, ap}
use Rattle.told.specs.Coded.{counted_words}
use Rattle.told.proofs.counted.Goals as goal

pub returns-in-Ok : goal.returns-in-Ok
returns-in-Ok c = ap counted_words (sym c.in-Ok.is)

pub returns-in-Err : goal.returns-in-Err
returns-in-Err c = ap counted_words (sym c.in-Err.is)
