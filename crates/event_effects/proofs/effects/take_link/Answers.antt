-- `event_effects::effects::take_link` meets its contract: the row that the search finds is taken out.
use Prim.Native.Nat.{◌-◌}
use mathlib.Core.Path.{sym, subst, ◌∙◌}
use native.Mathlib.Omega.{arith}
use Rattle.meaning.specs.Events.{part, link_of}
use Rattle.schema.proofs.Founds.{found_some}
use Rattle.event_effects.specs.Effects.{LinksApplied}
use Rattle.event_effects.proofs.Applied.{link_found, link_taken_out}
use Rattle.event_effects.proofs.effects.take_link.Goals as goal

pub returns-in-Some : goal.returns-in-Some
returns-in-Some c =
    let x = c.args in
    λ S.
    subst (λ u. LinksApplied S (part x.relationship x.source x.target) x.count x.links.now (x.count - 1) u) (sym c.close_gap.ensures)
    (link_taken_out S x.count x.links.now x.relationship x.source x.target c.requires _ (found_some _ (sym c.in-Some.is ∙ c.link_row.ensures)) (x.count - 1)
    (omega (arith, (link_found x.count x.links.now (link_of x.relationship x.source x.target) (found_some _ (sym c.in-Some.is ∙ c.link_row.ensures))).0)))
