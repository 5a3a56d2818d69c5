-- `known_events::valid_id` meets its contract.
use borrow.Author.Tests.{le-leb}
use native.Mathlib.Omega.{arith}
use Rattle.meaning.specs.Limits.{valid_id}
use Rattle.known_events.proofs.valid_id.Goals as goal

pub returns-then-id-eq0 : goal.returns-then-id-eq0
unfolding valid_id
returns-then-id-eq0 c = simp c.if-id-eq0.true

pub returns : goal.returns
unfolding valid_id
returns c = simp (le-leb 1 c.args.id (omega arith))
