-- `told::answer` meets its contract. The words are those of the answer that is met.
use mathlib.Core.Path.{sym, ap}
use Rattle.told.specs.Coded.{said_words}
use Rattle.told.proofs.answer.Goals as goal

pub returns-in-Broken : goal.returns-in-Broken
returns-in-Broken c = ap said_words (sym c.in-Broken.is)

pub returns-in-Refused : goal.returns-in-Refused
returns-in-Refused c = ap said_words (sym c.in-Refused.is)
