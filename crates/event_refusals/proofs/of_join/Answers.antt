-- `event_refusals::of_join` meets its contract: the refusals of a join in the table's order.
use Prim.Native.Nat.{min}
use mathlib.Core.Path.{sym, ap, ◌∙◌}
use mathlib.Core.Bool.{not}
use lib.Dec.{leb}
use Rattle.meaning.specs.Limits.{max_links}
use Rattle.meaning.specs.Events.{first_met, known_event, checks, event_refusal}
use Rattle.rows.specs.Rows.{read_rows}
use Rattle.tables.specs.Columns.{object_row, link_row}
use Rattle.schema.proofs.Rows.{length_rows}
use Rattle.event_refusals.proofs.of_join.Goals as goal

pub returns-then-not-known_link : goal.returns-then-not-known_link
unfolding event_refusal checks first_met known_event
returns-then-not-known_link c =
    let x = c.args in
    λ fs m w.
    rw (ap not (sym (c.known_link.ensures x.relationships.now)) ∙ (ap not c.if-not-known_link.true))

pub returns-then-not-both_present : goal.returns-then-not-both_present
unfolding event_refusal checks first_met known_event
returns-then-not-both_present c =
    let x = c.args in
    λ fs m w.
    rw (
      ap not (sym (c.known_link.ensures x.relationships.now)) ∙ (ap not c.if-not-known_link.false),
      ap not (sym (c.both_present.ensures (read_rows (link_row x.links.now) x.link_count))) ∙ (ap not c.if-not-both_present.true),
    )

pub returns-then-has_link : goal.returns-then-has_link
unfolding event_refusal checks first_met known_event
returns-then-has_link c =
    let x = c.args in
    λ fs m w.
    rw (
      ap not (sym (c.known_link.ensures x.relationships.now)) ∙ (ap not c.if-not-known_link.false),
      ap not (sym (c.both_present.ensures (read_rows (link_row x.links.now) x.link_count))) ∙ (ap not c.if-not-both_present.false),
      sym (c.has_link.ensures (read_rows (object_row x.objects.now) x.object_count)) ∙ c.if-has_link.true,
    )

pub returns-then-not-both_under : goal.returns-then-not-both_under
unfolding event_refusal checks first_met known_event
returns-then-not-both_under c =
    let x = c.args in
    λ fs m w.
    rw (
      ap not (sym (c.known_link.ensures x.relationships.now)) ∙ (ap not c.if-not-known_link.false),
      ap not (sym (c.both_present.ensures (read_rows (link_row x.links.now) x.link_count))) ∙ (ap not c.if-not-both_present.false),
      sym (c.has_link.ensures (read_rows (object_row x.objects.now) x.object_count)) ∙ c.if-has_link.false,
      ap not (sym (c.both_under.ensures (read_rows (link_row x.links.now) x.link_count))) ∙ (ap not c.if-not-both_under.true),
    )

pub returns-then-full : goal.returns-then-full
unfolding event_refusal checks first_met known_event
returns-then-full c =
    let x = c.args in
    λ fs m w.
    rw (
      ap not (sym (c.known_link.ensures x.relationships.now)) ∙ (ap not c.if-not-known_link.false),
      ap not (sym (c.both_present.ensures (read_rows (link_row x.links.now) x.link_count))) ∙ (ap not c.if-not-both_present.false),
      sym (c.has_link.ensures (read_rows (object_row x.objects.now) x.object_count)) ∙ c.if-has_link.false,
      ap not (sym (c.both_under.ensures (read_rows (link_row x.links.now) x.link_count))) ∙ (ap not c.if-not-both_under.false),
      ap (leb (min max_links x.lent)) (length_rows (link_row x.links.now) x.link_count) ∙ sym c.full.ensures ∙ c.if-full.true,
    )

pub returns : goal.returns
unfolding event_refusal checks first_met known_event
returns c =
    let x = c.args in
    λ fs m w.
    rw (
      ap not (sym (c.known_link.ensures x.relationships.now)) ∙ (ap not c.if-not-known_link.false),
      ap not (sym (c.both_present.ensures (read_rows (link_row x.links.now) x.link_count))) ∙ (ap not c.if-not-both_present.false),
      sym (c.has_link.ensures (read_rows (object_row x.objects.now) x.object_count)) ∙ c.if-has_link.false,
      ap not (sym (c.both_under.ensures (read_rows (link_row x.links.now) x.link_count))) ∙ (ap not c.if-not-both_under.false),
      ap (leb (min max_links x.lent)) (length_rows (link_row x.links.now) x.link_count) ∙ sym c.full.ensures ∙ c.if-full.false,
    )
