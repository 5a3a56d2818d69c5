-- `event_effects::effects::put_link` meets its contract: the row stands where the search places the link.
use Prim.Native.Nat.{◌+◌}
use mathlib.Core.Path.{sym, ap, subst, ◌∙◌}
use mathlib.Core.List.{[], ◌∷◌}
use Rattle.meaning.specs.Events.{join}
use Rattle.rows.specs.Rows.{with_row}
use Rattle.register.proofs.Searches.{link_keys}
use Rattle.event_effects.specs.Effects.{LinksApplied}
use Rattle.event_effects.proofs.Applied.{link_put_in}
use Rattle.event_effects.proofs.effects.put_link.Goals as goal

pub place-at-requires : goal.place-at-requires
place-at-requires c = link_keys _ c.before.requires.ascend

pub returns : goal.returns
returns c =
    let start = c.before in
    let x = start.args in
    λ S.
    subst (λ u. LinksApplied S (join x.relationship x.source x.target) x.count x.links.now (x.count + 1) u)
    (sym (c.write_row.ensures ∙ ap (λ u. with_row u 3 c.place-at.result (x.relationship ∷ x.source ∷ x.target ∷ [])) c.open_gap.ensures))
    (link_put_in S x.count x.links.now x.relationship x.source x.target c.place-at.result start.requires c.place-at.ensures)
