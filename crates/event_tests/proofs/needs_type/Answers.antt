-- `event_tests::needs_type` meets its contract.
use Rattle.meaning.specs.Events.{needs_type}
use Rattle.event_tests.proofs.needs_type.Goals as goal

pub returns-then-end_needs : goal.returns-then-end_needs
unfolding needs_type
returns-then-end_needs c =
    λ fs.
    simp (
      ← c.relationship_of-relationship.ensures,
      ← c.source_of-source.ensures,
      ← c.source_type-source_type.ensures,
      ← c.end_needs.ensures,
      c.if-end_needs.true,
    )

pub returns : goal.returns
unfolding needs_type
returns c =
    λ fs.
    simp (
      ← c.relationship_of-relationship.ensures,
      ← c.source_of-source.ensures,
      ← c.source_type-source_type.ensures,
      ← c.end_needs.ensures,
      c.if-end_needs.false,
      ← c.target_of-target.ensures,
      ← c.target_type-target_type.ensures,
    )
    c.end_needs-2.ensures
