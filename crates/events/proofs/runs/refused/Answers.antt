-- `events::runs::refused` meets its contract: no step was taken.
use mathlib.Core.List.{flat_map}
use Rattle.event_effects.specs.Losses.{losses_by}
use Rattle.events.specs.Runs.{ran_over}
use borrow.Author.Rules.{rules}
use Rattle.events.proofs.runs.refused.Goals as goal

pub returns : goal.returns
unfolding ran_over losses_by flat_map
returns c = search rules
