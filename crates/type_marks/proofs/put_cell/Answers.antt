-- `type_marks::put_cell` meets its contract.
use native.Mathlib.Omega.{arith}
use Rattle.meaning.specs.EventList.{event_type_words}
use Rattle.type_marks.proofs.Marks.{words_marked, any_way, added_as}
use Rattle.type_marks.proofs.put_cell.Goals as goal

pub returns : goal.returns
unfolding event_type_words
returns c =
    let a = c.args in
    added_as c.put.ensures (λ place h. any_way a.set (words_marked 2 a.t a.cell place) (omega arith))
