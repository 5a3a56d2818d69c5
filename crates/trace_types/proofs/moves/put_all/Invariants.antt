-- `trace_types::moves::put_all` meets its contract. The invariant: the sets of the types below this one are done.
use Prim.Native.Nat.{◌-◌, ◌≤◌}
use mathlib.Core.Bool.{false}
use lib.ListN.{get_or}
use Rattle.meaning.specs.Limits.{max_types}
use Rattle.trace_places.specs.Making.{SetsWith}
use Rattle.trace_types.proofs.Moving.{truths_move}
use Rattle.trace_types.proofs.moves.put_all.Given as goal

abbrev pub invariant-loop-t : goal.invariant-loop-t
invariant-loop-t l =
    (l.t ≤ max_types) × SetsWith l.initial.trace l.trace (λ u. truths_move l.kind l.z (get_or l.into u false) (get_or l.had u false) (get_or l.there u false)) l.t
