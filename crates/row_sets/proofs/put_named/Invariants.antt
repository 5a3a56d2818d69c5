-- `row_sets::put_named` meets its contract. The loop's invariant: the marks only grow, and the row of each place that was passed and answers is
-- marked.
use Prim.Native.Nat.{ℕ, ◌*◌, ◌≤◌, ◌<◌}
use mathlib.Core.Path.{◌≡◌}
use mathlib.Core.Bool.{true}
use lib.ListN.{get_or}
use Rattle.tables.specs.Columns.{types_of}
use Rattle.trace_places.specs.Questions.{question_of}
use Rattle.trace_places.specs.Traces.{place_answers}
use Rattle.row_sets.specs.Sets.{sets_of, in_set, Grown}
use Rattle.row_sets.proofs.put_named.Given as goal

abbrev pub invariant-loop-place : goal.invariant-loop-place
invariant-loop-place l =
    (Grown (sets_of l.initial.marks l.initial.sets) (sets_of l.marks l.sets))
    × (l.place ≤ 2 * l.n.events)
    × ((p : ℕ) → p < l.place → get_or l.trace p 0 < l.n.objects → place_answers (types_of l.n.types l.sheet.types.now) (question_of l.question l.x) l.sheet.events.now l.trace p ≡ true → in_set (sets_of l.marks l.sets) l.v (get_or l.trace p 0) ≡ true)
