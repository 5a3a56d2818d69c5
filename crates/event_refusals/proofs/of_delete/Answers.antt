-- `event_refusals::of_delete` meets its contract: the refusals of a delete in the table's order.
use mathlib.Core.Path.{sym, ap, ◌∙◌}
use mathlib.Core.Bool.{not}
use Rattle.meaning.specs.Events.{first_met, known_event, checks, event_refusal}
use Rattle.event_refusals.proofs.of_delete.Goals as goal

pub returns-then-not-valid_id : goal.returns-then-not-valid_id
unfolding event_refusal checks first_met known_event
returns-then-not-valid_id c =
    λ S lent ls.
    rw (ap not (sym c.valid_id.ensures) ∙ (ap not c.if-not-valid_id.true))

pub returns-then-is_present : goal.returns-then-is_present
unfolding event_refusal checks first_met known_event
returns-then-is_present c =
    λ S lent ls.
    rw (
      ap not (sym c.valid_id.ensures) ∙ (ap not c.if-not-valid_id.false),
      ap not (sym (c.is_present.ensures ls) ∙ c.if-is_present.true),
    )

pub returns : goal.returns
unfolding event_refusal checks first_met known_event
returns c =
    λ S lent ls.
    rw (
      ap not (sym c.valid_id.ensures) ∙ (ap not c.if-not-valid_id.false),
      ap not (sym (c.is_present.ensures ls) ∙ c.if-is_present.false),
    )
