-- `batch_selection::selected_pairs` meets its contract: an inspection marks every pair, another batch those that its events select.
use Prim.Native.Nat.{◌<◌}
use mathlib.Core.Path.{◌≡◌, refl}
use native.Mathlib.Omega.{arith}
use Rattle.selection.proofs.Adding.{added_to}
use Rattle.batch_selection.proofs.Pairs.{all_of, no_event_lem, some_event, by_inspection, by_its_events}
use Rattle.batch_selection.proofs.selected_pairs.Goals as goal

pub every_pair-requires : goal.every_pair-requires
every_pair-requires c =
    (c.requires.0.given.few_rules, c.requires.0.given.few_objects, c.requires.2)

pub returns-then-n-eq0 : goal.returns-then-n-eq0
returns-then-n-eq0 c =
    let empty : c.args.n.events ≡ 0 = c.if-n-eq0.true in
    let promised = c.every_pair.ensures in (
      omega (arith, promised.1, c.requires.0.given.few_rules),
      λ k e. by_inspection e c.requires.0.indexed.objects_ascend c.requires.3 (no_event_lem e empty) (added_to refl (all_of c.args.n.rules) refl promised.2),
    )

pub by_events-requires : goal.by_events-requires
by_events-requires c = (c.requires.0, c.requires.1, c.requires.2)

pub returns : goal.returns
returns c =
    let events : 0 < c.args.n.events = omega (arith, c.if-n-eq0.false) in
    let promised = c.by_events.ensures in (
      omega (arith, promised.0, c.requires.0.given.few_rules),
      λ k e. by_its_events e c.requires.0.indexed.objects_ascend c.requires.3 (some_event e events) (promised.1 k e),
    )
