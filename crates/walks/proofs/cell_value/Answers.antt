-- `walks::cell_value` meets its contract: the word of the cell, and 0 where there is no such cell.
use Prim.Native.Nat.{ℕ}
use mathlib.Core.Path.{◌≡◌, refl, ap, ◌∙◌}
use mathlib.Core.Bool.{Bool, true, false, cond}
use lib.Dec.{ltb}
use lib.IntN.{pos}
use mir.Syntax.{w64}
use mir.ValLaws.{to_z-of_z}
use Rattle.meaning.specs.Limits.{cell_count}
use Rattle.rows.specs.Rows.{signed}
use Rattle.register.specs.Tables.{cell_word}
use Rattle.walks.specs.Values.{cell_in}
use Rattle.walks.proofs.cell_value.Goals as goal

either : (b : Bool) (x : ℕ) → signed (cond b x 0) ≡ cond b (signed x) (pos 0)
either true x = refl
either false x = refl

pub returns : goal.returns
unfolding cell_in cell_word
returns c =
    to_z-of_z w64 c.from_word.result (record { sfits = c.from_word.type_inv })
    ∙ c.from_word.ensures
    ∙ ap signed c.cell_of.ensures
    ∙ either (ltb c.args.cell cell_count) _
