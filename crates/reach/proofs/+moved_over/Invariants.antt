use Rattle.std.specs.Prelude.{Bool, List, length, get_or, set, ◌≡◌, ◌+◌, ℕ}
use Rattle.meaning.specs.Forms.{bind}
use Rattle.meaning.specs.Reach.{Change}
use Rattle.typing.specs.Types.{FlooredRows}
use Rattle.walks.specs.Site.{Site, site_of, rows_at, form_at, ids_of}
use Rattle.walks.specs.Walks.{left_at, Stands}
use Rattle.trace_places.specs.Traces.{Traced}
use Rattle.reach.specs.Moves.{moved_by}
use Rattle.reach.proofs.Members.{Left}
use Rattle.reach.proofs.+moved_over.Given as goal

-- The measure is twice the row where the form ends: `over` keeps the row and lies below `moved`, which calls it; every other call is of a
-- part, which ends before.
abbrev pub decreases-moved : goal.decreases-moved
decreases-moved l = l.at.1 + l.at.1 + 1

abbrev pub decreases-over : goal.decreases-over
decreases-over l = l.at.1 + l.at.1

-- the second part at a member
abbrev pub at_member : Change → Site → ℕ → List ℕ → ℕ → ℕ → ℕ → Bool
at_member c w e vars depth dirs m = moved_by c (form_at w e) (bind (ids_of w depth vars) m) dirs

-- no member that the walk has passed moves, and the variables are those lent but for the new one
abbrev pub invariant-over-loop-member : goal.invariant-over-loop-member
invariant-over-loop-member l =
    let w = site_of l.n l.sheet.types.now l.sheet.objects.now l.sheet.links.now l.index l.sheet.bodies.now l.rule in
    (Stands w (get_or l.spans l.row 0) l.vs l.word)
    × ((c : Change) → Traced c l.n l.sheet.types.now l.sheet.objects.now l.sheet.links.now l.sheet.events.now l.trace → FlooredRows c.schema (rows_at w) l.row l.floored
    → Left w (get_or l.spans l.row 0) l.vs l.depth (at_member c w l.row l.vs l.depth l.set) l.word)
    × ((object : ℕ) → set l.inner l.depth object ≡ set l.vs l.depth object)

abbrev pub decreases-over-loop-member : goal.decreases-over-loop-member
decreases-over-loop-member l =
    length (left_at (site_of l.n l.sheet.types.now l.sheet.objects.now l.sheet.links.now l.index l.sheet.bodies.now l.rule) (get_or l.spans l.row 0) l.vs l.depth l.word)
