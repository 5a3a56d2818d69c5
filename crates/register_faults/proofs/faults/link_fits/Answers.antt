-- `register_faults::faults::link_fits` meets its contract. Each return has met the tests that decide `link_fits`.
use borrow.Author.Tests.{lt-ltb, le-ltb}
use Rattle.meaning.specs.Register.{link_fits}
use Rattle.schema.proofs.Types.{relationship_known}
use Rattle.register_faults.proofs.faults.link_fits.Goals as goal

pub returns-then-relationship-relationship_count : goal.returns-then-relationship-relationship_count
unfolding link_fits
returns-then-relationship-relationship_count c = λ fs ls. simp (← c.relationship_of-relationship.ensures, relationship_known, le-ltb _ _ c.if-relationship-relationship_count.true)

pub returns-then-is_under : goal.returns-then-is_under
unfolding link_fits
returns-then-is_under c =
    λ fs ls.
    simp (
      ← c.relationship_of-relationship.ensures,
      relationship_known,
      lt-ltb _ _ c.if-relationship-relationship_count.false,
      ← c.source_type-source.ensures,
      ← c.source_of.ensures,
      ← c.is_under.ensures ls,
      c.if-is_under.true,
    )
    (rw (← c.target_type-target.ensures, ← c.target_of.ensures) (c.is_under-then-is_under.ensures ls))

pub returns-else-is_under : goal.returns-else-is_under
unfolding link_fits
returns-else-is_under c =
    λ fs ls.
    simp (
      ← c.relationship_of-relationship.ensures,
      relationship_known,
      lt-ltb _ _ c.if-relationship-relationship_count.false,
      ← c.source_type-source.ensures,
      ← c.source_of.ensures,
      ← c.is_under.ensures ls,
      c.if-is_under.false,
    )
