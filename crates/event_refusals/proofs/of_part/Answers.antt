-- `event_refusals::of_part` meets its contract: the refusals of a part in the table's order.
use mathlib.Core.Path.{sym, ap, ◌∙◌}
use mathlib.Core.Bool.{not}
use Rattle.meaning.specs.Events.{first_met, known_event, checks, event_refusal}
use Rattle.rows.specs.Rows.{read_rows}
use Rattle.tables.specs.Columns.{object_row, link_row}
use Rattle.event_refusals.proofs.of_part.Goals as goal

pub returns-then-not-known_link : goal.returns-then-not-known_link
unfolding event_refusal checks first_met known_event
returns-then-not-known_link c =
    λ types fs relationships lent.
    rw (ap not (sym (c.known_link.ensures relationships)) ∙ (ap not c.if-not-known_link.true))

pub returns-then-not-both_present : goal.returns-then-not-both_present
unfolding event_refusal checks first_met known_event
returns-then-not-both_present c =
    let x = c.args in
    λ types fs relationships lent.
    rw (
      ap not (sym (c.known_link.ensures relationships)) ∙ (ap not c.if-not-known_link.false),
      ap not (sym (c.both_present.ensures (read_rows (link_row x.links.now) x.link_count))) ∙ (ap not c.if-not-both_present.true),
    )

pub returns-then-not-has_link : goal.returns-then-not-has_link
unfolding event_refusal checks first_met known_event
returns-then-not-has_link c =
    let x = c.args in
    λ types fs relationships lent.
    rw (
      ap not (sym (c.known_link.ensures relationships)) ∙ (ap not c.if-not-known_link.false),
      ap not (sym (c.both_present.ensures (read_rows (link_row x.links.now) x.link_count))) ∙ (ap not c.if-not-both_present.false),
      ap not (sym (c.has_link.ensures (read_rows (object_row x.objects.now) x.object_count))) ∙ (ap not c.if-not-has_link.true),
    )

pub returns : goal.returns
unfolding event_refusal checks first_met known_event
returns c =
    let x = c.args in
    λ types fs relationships lent.
    rw (
      ap not (sym (c.known_link.ensures relationships)) ∙ (ap not c.if-not-known_link.false),
      ap not (sym (c.both_present.ensures (read_rows (link_row x.links.now) x.link_count))) ∙ (ap not c.if-not-both_present.false),
      ap not (sym (c.has_link.ensures (read_rows (object_row x.objects.now) x.object_count))) ∙ (ap not c.if-not-has_link.false),
    )
