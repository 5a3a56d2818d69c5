-- `event_refusals::of_general` meets its contract: the refusals of a general in the table's order.
use mathlib.Core.Path.{sym, ap, ◌∙◌}
use mathlib.Core.Bool.{not}
use Rattle.meaning.specs.Events.{first_met, known_event, checks, event_refusal}
use Rattle.rows.specs.Rows.{read_rows}
use Rattle.tables.specs.Columns.{object_row, link_row}
use Rattle.event_refusals.proofs.of_general.Goals as goal

pub returns-then-not-known_type : goal.returns-then-not-known_type
unfolding event_refusal checks first_met known_event
returns-then-not-known_type c =
    let x = c.args in
    λ fs lent.
    rw (ap not (sym (c.known_type.ensures x.types.now)) ∙ (ap not c.if-not-known_type.true))

pub returns-then-not-is_present : goal.returns-then-not-is_present
unfolding event_refusal checks first_met known_event
returns-then-not-is_present c =
    let x = c.args in
    λ fs lent.
    rw (
      ap not (sym (c.known_type.ensures x.types.now)) ∙ (ap not c.if-not-known_type.false),
      ap not (sym (c.is_present.ensures (read_rows (link_row x.links.now) x.link_count))) ∙ (ap not c.if-not-is_present.true),
    )

pub returns-then-not-strictly_under : goal.returns-then-not-strictly_under
unfolding event_refusal checks first_met known_event
returns-then-not-strictly_under c =
    let x = c.args in
    λ fs lent.
    rw (
      ap not (sym (c.known_type.ensures x.types.now)) ∙ (ap not c.if-not-known_type.false),
      ap not (sym (c.is_present.ensures (read_rows (link_row x.links.now) x.link_count))) ∙ (ap not c.if-not-is_present.false),
      ap not (sym (c.strictly_under.ensures (read_rows (link_row x.links.now) x.link_count))) ∙ (ap not c.if-not-strictly_under.true),
    )

pub returns-then-type_needed : goal.returns-then-type_needed
unfolding event_refusal checks first_met known_event
returns-then-type_needed c =
    let x = c.args in
    λ fs lent.
    rw (
      ap not (sym (c.known_type.ensures x.types.now)) ∙ (ap not c.if-not-known_type.false),
      ap not (sym (c.is_present.ensures (read_rows (link_row x.links.now) x.link_count))) ∙ (ap not c.if-not-is_present.false),
      ap not (sym (c.strictly_under.ensures (read_rows (link_row x.links.now) x.link_count))) ∙ (ap not c.if-not-strictly_under.false),
      sym (c.type_needed.ensures fs (read_rows (object_row x.objects.now) x.object_count)) ∙ c.if-type_needed.true,
    )

pub returns : goal.returns
unfolding event_refusal checks first_met known_event
returns c =
    let x = c.args in
    λ fs lent.
    rw (
      ap not (sym (c.known_type.ensures x.types.now)) ∙ (ap not c.if-not-known_type.false),
      ap not (sym (c.is_present.ensures (read_rows (link_row x.links.now) x.link_count))) ∙ (ap not c.if-not-is_present.false),
      ap not (sym (c.strictly_under.ensures (read_rows (link_row x.links.now) x.link_count))) ∙ (ap not c.if-not-strictly_under.false),
      sym (c.type_needed.ensures fs (read_rows (object_row x.objects.now) x.object_count)) ∙ c.if-type_needed.false,
    )
