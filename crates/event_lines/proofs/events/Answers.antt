-- `event_lines::events` meets its contract. The invariant: the first i event types are put.
use mathlib.Core.Path.{◌≡◌, sym, ap}
use native.Mathlib.Omega.{arith}
use borrow.Author.Rules.{rules}
use Rattle.line_writer.proofs.Puts.{put_nothing, put_then, put_as}
use Rattle.event_lines.specs.Events.{events_shown, event_types_in}
use Rattle.event_lines.proofs.Lines.{no_events, more_events, kind_known}
use Rattle.event_lines.proofs.events.Goals as goal

pub loop-i-init : goal.loop-i-init
loop-i-init c =
    let a = c.args in
    (search rules, put_as (put_nothing _ _ c.requires.2) (sym (no_events a.list.now)))

pub event-next-requires : goal.event-next-requires
event-next-requires c =
    kind_known c.args.list.now c.loop-i.i c.wide-kind.ensures (c.requires.1 c.loop-i.i (omega arith))

pub loop-i-preserved : goal.loop-i-preserved
loop-i-preserved c =
    let a = c.args in (
      search rules,
      put_as (put_then c.loop-i.invariant.1 c.event-next.ensures) (more_events a.list.now c.loop-i.i c.wide-kind.ensures c.wide-named.ensures c.wide-cell.ensures),
    )

pub shape_of-out : goal.shape_of-out
shape_of-out c = c.loop-i.invariant.1.size

pub returns : goal.returns
returns c =
    let a = c.args in
    let all : c.loop-i.i ≡ a.count = omega arith in
    put_as c.loop-i.invariant.1 (ap (λ k. events_shown (event_types_in a.list.now k)) all)
