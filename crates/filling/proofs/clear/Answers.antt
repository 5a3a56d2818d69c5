use Prim.Native.Nat.{ℕ}
use mathlib.Core.Path.{◌≡◌, refl, ◌∙◌}
use mathlib.Core.List.{List, []}
use lib.ListN.{length}
use Rattle.rows.specs.Rows.{cleared_past}
use Rattle.text.specs.Texts.{filled}
use Rattle.filling.proofs.clear.Goals as goal

cleared : (t : List ℕ) → cleared_past t 1 0 ≡ filled (length t) []
unfolding cleared_past
cleared t = refl

pub returns : goal.returns
returns c = c.clear_past.ensures ∙ cleared c.args.table.now
