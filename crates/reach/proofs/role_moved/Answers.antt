-- `reach::role_moved` meets its contract.
use mathlib.Core.Path.{ap₂, ◌∙◌}
use mathlib.Core.Bool.{◌&&◌}
use Rattle.meaning.specs.Reach.{role_moves}
use Rattle.walks.specs.Site.{id_in}
use Rattle.reach.proofs.Leaves.{first_way, second_way, asked_joined, asked_parted}
use Rattle.reach.proofs.role_moved.Goals as goal

pub returns-then-ask_if : goal.returns-then-ask_if
returns-then-ask_if c =
    let a = c.args in
    λ k traced.
    let u = id_in a.sheet.now.objects.now a.row in
    first_way a.set (role_moves k a.role u) (c.ask_if.ensures k traced ∙ ap₂ ◌&&◌ c.contains-up.ensures (asked_joined k u a.role)) c.if-ask_if.true

pub returns : goal.returns
returns c =
    let a = c.args in
    λ k traced.
    let u = id_in a.sheet.now.objects.now a.row in
    second_way a.set (role_moves k a.role u) (c.ask_if.ensures k traced ∙ ap₂ ◌&&◌ c.contains-up.ensures (asked_joined k u a.role)) c.if-ask_if.false
    (c.ask_if-2.ensures k traced ∙ ap₂ ◌&&◌ c.contains-down.ensures (asked_parted k u a.role))
