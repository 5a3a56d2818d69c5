-- `batch_selection::touched_rules` meets its contract: no mark stood before the events were counted.
use mathlib.Core.Path.{refl, ap, ◌∙◌}
use mathlib.Core.Bool.{false, ◌||◌}
use lib.ListN.{get_or-replicate}
use Rattle.meaning.specs.EventList.{occurs}
use Rattle.batch_selection.proofs.touched_rules.Goals as goal

pub mark_events-requires : goal.mark_events-requires
mark_events-requires c = (refl, c.requires.1, c.requires.2)

pub touched-requires : goal.touched-requires
touched-requires c = c.requires.0

pub returns : goal.returns
returns c = λ k links seen e.
    c.touched.ensures k e
    (λ t place h q. (c.mark_events.ensures k links seen).each t place h q ∙ ap (λ b. b || occurs k t) (get_or-replicate 1792 place false false h))
