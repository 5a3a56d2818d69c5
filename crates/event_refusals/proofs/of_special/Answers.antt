-- `event_refusals::of_special` meets its contract: the refusals of a special in the table's order.
use mathlib.Core.Path.{sym, ap, ◌∙◌}
use mathlib.Core.Bool.{not}
use Rattle.meaning.specs.Events.{first_met, known_event, checks, event_refusal}
use Rattle.event_refusals.proofs.of_special.Goals as goal

pub returns-then-not-known_type : goal.returns-then-not-known_type
unfolding event_refusal checks first_met known_event
returns-then-not-known_type c =
    let x = c.args in
    λ rs lent ls.
    rw (ap not (sym (c.known_type.ensures x.types.now)) ∙ (ap not c.if-not-known_type.true))

pub returns-then-not-is_present : goal.returns-then-not-is_present
unfolding event_refusal checks first_met known_event
returns-then-not-is_present c =
    let x = c.args in
    λ rs lent ls.
    rw (
      ap not (sym (c.known_type.ensures x.types.now)) ∙ (ap not c.if-not-known_type.false),
      ap not (sym (c.is_present.ensures ls)) ∙ (ap not c.if-not-is_present.true),
    )

pub returns-then-not-strictly_above : goal.returns-then-not-strictly_above
unfolding event_refusal checks first_met known_event
returns-then-not-strictly_above c =
    let x = c.args in
    λ rs lent ls.
    rw (
      ap not (sym (c.known_type.ensures x.types.now)) ∙ (ap not c.if-not-known_type.false),
      ap not (sym (c.is_present.ensures ls)) ∙ (ap not c.if-not-is_present.false),
      ap not (sym (c.strictly_above.ensures ls)) ∙ (ap not c.if-not-strictly_above.true),
    )

pub returns-then-brought_below : goal.returns-then-brought_below
unfolding event_refusal checks first_met known_event
returns-then-brought_below c =
    let x = c.args in
    λ rs lent ls.
    rw (
      ap not (sym (c.known_type.ensures x.types.now)) ∙ (ap not c.if-not-known_type.false),
      ap not (sym (c.is_present.ensures ls)) ∙ (ap not c.if-not-is_present.false),
      ap not (sym (c.strictly_above.ensures ls)) ∙ (ap not c.if-not-strictly_above.false),
      sym (c.brought_below.ensures rs ls) ∙ c.if-brought_below.true,
    )

pub returns : goal.returns
unfolding event_refusal checks first_met known_event
returns c =
    let x = c.args in
    λ rs lent ls.
    rw (
      ap not (sym (c.known_type.ensures x.types.now)) ∙ (ap not c.if-not-known_type.false),
      ap not (sym (c.is_present.ensures ls)) ∙ (ap not c.if-not-is_present.false),
      ap not (sym (c.strictly_above.ensures ls)) ∙ (ap not c.if-not-strictly_above.false),
      sym (c.brought_below.ensures rs ls) ∙ c.if-brought_below.false,
    )
