-- `trace_places::places::put_event` meets its contract.
use native.Mathlib.Omega.{arith}
use Rattle.tables.specs.Columns.{event_row}
use Rattle.trace_places.specs.Traces.{named_at}
use Rattle.trace_places.proofs.Placing.{or_past_lem, placed_both}
use Rattle.trace_places.proofs.places.put_event.Goals as goal

pub put-requires : goal.put-requires
put-requires c =
    let few = or_past_lem c.args.object_count c.args.objects.now c.args.events.now c.requires.1 (named_at (event_row c.args.events.now c.args.i) 1) in
    (omega arith, omega (arith, c.requires.2), omega (arith, c.second_row-second.ensures))

pub put-requires-2 : goal.put-requires-2
put-requires-2 c =
    let few = or_past_lem c.args.object_count c.args.objects.now c.args.events.now c.requires.1 (named_at (event_row c.args.events.now c.args.i) 0) in
    (omega arith, omega (arith, c.requires.2), omega (arith, c.first_row-first.ensures))

pub returns : goal.returns
returns c =
    placed_both c.args.object_count c.args.objects.now c.args.events.now c.requires.1 c.args.i c.args.trace.now
    c.second_row-second.ensures c.first_row-first.ensures c.put.ensures c.put-2.ensures
