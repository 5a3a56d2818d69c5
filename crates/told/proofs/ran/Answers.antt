-- `told::ran` meets its contract. The words are those of the verdict that is met.
use mathlib.Core.Path.{sym, ap}
use Rattle.told.specs.Coded.{ran_words}
use Rattle.told.proofs.ran.Goals as goal

pub returns-in-Ok : goal.returns-in-Ok
returns-in-Ok c = ap (λ v. ran_words v c.args.objects c.args.links) (sym c.in-Ok.is)

pub returns-in-Err : goal.returns-in-Err
returns-in-Err c = ap (λ v. ran_words v c.args.objects c.args.links) (sym c.in-Err.is)
