-- `selected::brought_in` meets its contract.
use Prim.Native.Nat.{ℕ}
use mathlib.Core.Path.{◌≡◌, sym, ◌∙◌}
use mathlib.Core.Bool.{true, ◌&&◌, not}
use Rattle.meaning.specs.Reach.{Change, inserted}
use Rattle.walks.specs.Site.{id_in}
use Rattle.trace_places.specs.Questions.{asked, inserted_into, specialised_into}
use Rattle.trace_places.specs.Traces.{Traced}
use Rattle.reach.proofs.Leaves.{asked_inserted, asked_specialised}
use Rattle.selected.proofs.Asked.{first_holds, second_decides, unless_still}
use Rattle.selected.proofs.brought_in.Goals as goal

-- an insert that is not still brought it in, as it is asked; and then a special
pub returns-then-ask_if : goal.returns-then-ask_if
returns-then-ask_if c = λ k traced.
    let a = c.args in
    let inserting = sym (c.ask_if.ensures k traced ∙ unless_still a.still.insert (asked_inserted k (id_in a.sheet.now.objects.now a.row) a.context)) in
    first_holds _ (inserting ∙ c.if-ask_if.true)

pub returns : goal.returns
returns c = λ k traced.
    let a = c.args in
    let u = id_in a.sheet.now.objects.now a.row in
    let inserting = sym (c.ask_if.ensures k traced ∙ unless_still a.still.insert (asked_inserted k u a.context)) in
    second_decides (inserting ∙ c.if-ask_if.false)
    (c.ask_if-2.ensures k traced ∙ unless_still a.still.special (asked_specialised k u a.context))
