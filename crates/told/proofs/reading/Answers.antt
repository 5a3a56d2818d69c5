-- `told::reading` meets its contract. The words are those of the outcome that is met.
use mathlib.Core.Path.{sym, ap}
use Rattle.told.specs.Coded.{done_words}
use Rattle.told.proofs.reading.Goals as goal

pub returns-in-Ok : goal.returns-in-Ok
returns-in-Ok c = ap done_words (sym c.in-Ok.is)

pub returns-in-Err : goal.returns-in-Err
returns-in-Err c = ap done_words (sym c.in-Err.is)
