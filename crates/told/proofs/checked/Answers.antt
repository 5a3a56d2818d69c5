-- `told::checked` meets its contract. The first three words are the answer's.
use mathlib.Core.Path.{ap, ◌∙◌}
use mathlib.Core.List.{List, [], ◌∷◌}
use Prim.Native.Nat.{ℕ}
use lib.ListN.{get_or}
use Rattle.told.proofs.Coded.{said_first}
use Rattle.told.proofs.checked.Goals as goal

pub returns : goal.returns
returns c =
    ap (λ w. get_or w 0 0 ∷ get_or w 1 0 ∷ get_or w 2 0 ∷ (c.args.done.pairs ∷ c.args.done.objects ∷ c.args.done.links ∷ [])) c.answer-said.ensures ∙ said_first c.args.done.answer (c.args.done.pairs ∷ c.args.done.objects ∷ c.args.done.links ∷ [])
