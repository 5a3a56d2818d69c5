-- `event_refusals::of_insert` meets its contract: the refusals of an insert in the table's order.
use Prim.Native.Nat.{min}
use mathlib.Core.Path.{sym, ap, ◌∙◌}
use mathlib.Core.Bool.{not}
use lib.Dec.{leb}
use Rattle.meaning.specs.Limits.{max_objects}
use Rattle.meaning.specs.Events.{first_met, known_event, checks, event_refusal}
use Rattle.tables.specs.Columns.{object_row}
use Rattle.schema.proofs.Rows.{length_rows}
use Rattle.event_refusals.proofs.of_insert.Goals as goal

pub returns-then-not-known_type : goal.returns-then-not-known_type
unfolding event_refusal checks first_met known_event
returns-then-not-known_type c =
    λ types fs rs ls m w.
    rw (ap not (sym (c.known_type.ensures types)) ∙ (ap not c.if-not-known_type.true))

pub returns-then-is_present : goal.returns-then-is_present
unfolding event_refusal checks first_met known_event
returns-then-is_present c =
    λ types fs rs ls m w.
    rw (
      ap not (sym (c.known_type.ensures types)) ∙ (ap not c.if-not-known_type.false),
      sym (c.is_present.ensures ls) ∙ c.if-is_present.true,
    )

pub returns-then-full : goal.returns-then-full
unfolding event_refusal checks first_met known_event
returns-then-full c =
    let x = c.args in
    λ types fs rs ls m w.
    rw (
      ap not (sym (c.known_type.ensures types)) ∙ (ap not c.if-not-known_type.false),
      sym (c.is_present.ensures ls) ∙ c.if-is_present.false,
      ap (leb (min max_objects x.lent)) (length_rows (object_row x.objects.now) x.count) ∙ sym c.full.ensures ∙ c.if-full.true,
    )

pub returns : goal.returns
unfolding event_refusal checks first_met known_event
returns c =
    let x = c.args in
    λ types fs rs ls m w.
    rw (
      ap not (sym (c.known_type.ensures types)) ∙ (ap not c.if-not-known_type.false),
      sym (c.is_present.ensures ls) ∙ c.if-is_present.false,
      ap (leb (min max_objects x.lent)) (length_rows (object_row x.objects.now) x.count) ∙ sym c.full.ensures ∙ c.if-full.false,
    )
