-- `event_refusals::of_set` meets its contract: the refusals of a set in the table's order.
use mathlib.Core.Path.{sym, ap, ◌∙◌}
use mathlib.Core.Bool.{not}
use Rattle.meaning.specs.Events.{first_met, known_event, checks, event_refusal}
use Rattle.event_refusals.proofs.of_set.Goals as goal

pub returns-then-not-known_cell : goal.returns-then-not-known_cell
unfolding event_refusal checks first_met known_event
returns-then-not-known_cell c =
    let x = c.args in
    λ rs lent ls.
    rw (ap not (sym (c.known_cell.ensures x.word)) ∙ (ap not c.if-not-known_cell.true))

pub returns-then-not-is_present : goal.returns-then-not-is_present
unfolding event_refusal checks first_met known_event
returns-then-not-is_present c =
    let x = c.args in
    λ rs lent ls.
    rw (
      ap not (sym (c.known_cell.ensures x.word)) ∙ (ap not c.if-not-known_cell.false),
      ap not (sym (c.is_present.ensures ls)) ∙ (ap not c.if-not-is_present.true),
    )

pub returns-then-not-has_cell : goal.returns-then-not-has_cell
unfolding event_refusal checks first_met known_event
returns-then-not-has_cell c =
    let x = c.args in
    λ rs lent ls.
    rw (
      ap not (sym (c.known_cell.ensures x.word)) ∙ (ap not c.if-not-known_cell.false),
      ap not (sym (c.is_present.ensures ls)) ∙ (ap not c.if-not-is_present.false),
      ap not (sym (c.has_cell.ensures ls)) ∙ (ap not c.if-not-has_cell.true),
    )

pub returns-then-set_below : goal.returns-then-set_below
unfolding event_refusal checks first_met known_event
returns-then-set_below c =
    let x = c.args in
    λ rs lent ls.
    rw (
      ap not (sym (c.known_cell.ensures x.word)) ∙ (ap not c.if-not-known_cell.false),
      ap not (sym (c.is_present.ensures ls)) ∙ (ap not c.if-not-is_present.false),
      ap not (sym (c.has_cell.ensures ls)) ∙ (ap not c.if-not-has_cell.false),
      sym (c.set_below.ensures rs ls) ∙ c.if-set_below.true,
    )

pub returns : goal.returns
unfolding event_refusal checks first_met known_event
returns c =
    let x = c.args in
    λ rs lent ls.
    rw (
      ap not (sym (c.known_cell.ensures x.word)) ∙ (ap not c.if-not-known_cell.false),
      ap not (sym (c.is_present.ensures ls)) ∙ (ap not c.if-not-is_present.false),
      ap not (sym (c.has_cell.ensures ls)) ∙ (ap not c.if-not-has_cell.false),
      sym (c.set_below.ensures rs ls) ∙ c.if-set_below.false,
    )
