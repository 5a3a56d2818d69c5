-- `event_effects::deletes::take_links` meets its contract. The invariant: what the pass has done before this row (`Passing`).
-- The measure is what is left of the rows.
use mathlib.Core.Path.{sym, subst, ◌∙◌}
use Rattle.meaning.specs.Events.{delete}
use Rattle.event_effects.specs.Effects.{LinksApplied}
use Rattle.event_effects.proofs.Passes.{passing_none, as_passing, can_lose, row_gone, row_kept, links_taken, losses_taken, few_taken}
use Rattle.event_effects.proofs.deletes.take_links.Goals as goal

-- ---- needs
pub loop-row-init : goal.loop-row-init
loop-row-init c = passing_none _ _ _ _ _

pub put_loss-lost-requires : goal.put_loss-lost-requires
put_loss-lost-requires c =
    can_lose _ _ _ _ _ c.requires c.loop-row.invariant c.loop-row-test.true (sym c.ends_at.ensures ∙ c.if-ends_at.true)

pub loop-row-preserved : goal.loop-row-preserved
loop-row-preserved c =
    let can = c.requires in
    let inv = c.loop-row.invariant in
    let below = c.loop-row-test.true in
    elim c.if-ends_at.branch [
      | goal.then-ends_at w ↦
          as_passing _ _ _ _ _ w.links-is w.losses-is w.lost-is w.kept-is
          (row_gone _ _ _ _ _ can inv below (sym c.ends_at.ensures ∙ w.if-ends_at.true) w.put_loss-lost.ensures)
      | goal.else-ends_at w ↦
          as_passing _ _ _ _ _ (w.links-is ∙ w.keep_row.ensures) w.losses-is w.lost-is w.kept-is
          (row_kept _ _ _ _ _ can inv below (sym c.ends_at.ensures ∙ w.if-ends_at.false))
    ]

pub returns : goal.returns
returns c =
    let inv = c.loop-row.invariant in
    let x = c.args in (
      λ S.
          subst (λ t. LinksApplied S (delete x.id) x.held.links x.links.now c.loop-row.kept t) (sym c.clear_rows.ensures)
          (links_taken _ _ _ _ _ c.requires inv c.loop-row-test.false S),
      losses_taken _ _ _ _ _ c.requires inv c.loop-row-test.false,
      few_taken _ _ _ _ _ c.requires inv c.loop-row-test.false,
    )
