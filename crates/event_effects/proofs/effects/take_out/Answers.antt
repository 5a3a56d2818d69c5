-- `event_effects::effects::take_out` meets its contract: the object's row is gone from one table, and its links from the other.
use native.Mathlib.Omega.{arith}
use Rattle.meaning.specs.Events.{delete}
use Rattle.event_effects.specs.Losses.{lost_at}
use Rattle.event_effects.proofs.Applied.{both_applied}
use Rattle.event_effects.proofs.effects.take_out.Goals as goal

pub returns : goal.returns
unfolding lost_at
returns c =
    let x = c.args in (
      λ S. both_applied S (delete x.id) _ _ _ _ (c.take_object.ensures S) (c.take_links-left.ensures.0 S),
      record { added = c.take_links-left.ensures.1; grown = omega (arith, c.take_links-left.ensures.2) },
    )
