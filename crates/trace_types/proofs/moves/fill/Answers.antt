-- `trace_types::moves::fill` meets its contract. The invariant: the events below this one are in the sets. The measure is the events left.
use mathlib.Core.Path.{◌≡◌, ap}
use native.Mathlib.Numerals.{add-one}
use native.Mathlib.Omega.{arith}
use lib.ListN.{get_or}
use Rattle.tables.specs.Columns.{types_of, event_row}
use Rattle.register.specs.Tables.{objects_with}
use Rattle.trace_places.specs.Making.{event_moves, some_below}
use Rattle.trace_types.proofs.Moving.{sets_as, sets_then}
use Rattle.trace_types.proofs.moves.fill.Goals as goal

pub loop-i-preserved : goal.loop-i-preserved
loop-i-preserved c =
    (omega (arith, c.loop-i-test.true), λ ls. rw add-one (sets_then (c.loop-i.invariant.1 ls) (c.put_event.ensures ls)))

pub returns : goal.returns
returns c =
    let a = c.args in
    let last : c.loop-i.i ≡ a.event_count = omega (arith, c.loop-i.invariant.0, c.loop-i-test.false) in
    λ ls. sets_as (c.loop-i.invariant.1 ls)
    (λ t h d. ap (some_below (λ j. event_moves (types_of a.type_count a.types.now) (objects_with a.object_count a.objects.now ls) (event_row a.events.now j) (get_or a.met.now j 0) t d)) last)
