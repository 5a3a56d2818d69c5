-- `reach::kind_moved` meets its contract.
use Prim.Native.Nat.{◌<◌}
use mathlib.Core.Path.{ap, ap₂, ◌∙◌}
use mathlib.Core.Bool.{◌&&◌}
use Rattle.meaning.specs.Schema.{under}
use Rattle.meaning.specs.Reach.{kind_moves}
use Rattle.tables.specs.Columns.{types_of}
use Rattle.walks.specs.Site.{id_in}
use Rattle.reach.proofs.Leaves.{first_way, second_way, asked_kind, asked_generalised}
use Rattle.reach.proofs.kind_moved.Goals as goal

pub returns-then-ask_if : goal.returns-then-ask_if
returns-then-ask_if c =
    let there : c.args.row < c.args.n.objects = c.requires.1 in
    let a = c.args in
    λ k traced.
    let u = id_in a.sheet.now.objects.now a.row in
    first_way a.set (kind_moves k u a.t) (c.ask_if.ensures k traced
    ∙ ap₂ ◌&&◌ c.contains-up.ensures (asked_kind traced there a.t (c.under-there.ensures ∙ ap (λ t. under (types_of a.n.types a.sheet.now.types.now) t a.t) c.type_of.ensures))) c.if-ask_if.true

pub returns : goal.returns
returns c =
    let there : c.args.row < c.args.n.objects = c.requires.1 in
    let a = c.args in
    λ k traced.
    let u = id_in a.sheet.now.objects.now a.row in
    second_way a.set (kind_moves k u a.t) (c.ask_if.ensures k traced
    ∙ ap₂ ◌&&◌ c.contains-up.ensures (asked_kind traced there a.t (c.under-there.ensures ∙ ap (λ t. under (types_of a.n.types a.sheet.now.types.now) t a.t) c.type_of.ensures))) c.if-ask_if.false
    (c.ask_if-2.ensures k traced ∙ ap₂ ◌&&◌ c.contains-down.ensures (asked_generalised k u a.t))
