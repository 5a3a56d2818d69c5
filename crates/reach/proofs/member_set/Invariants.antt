-- `reach::member_set` meets its contract. The loop's invariant: no member that the walk has passed had its cell set. The measure is
-- what is left of the walk.
use lib.ListN.{length}
use Rattle.meaning.specs.Reach.{Change, cell_moves}
use Rattle.walks.specs.Site.{site_of}
use Rattle.walks.specs.Walks.{left_at, Stands}
use Rattle.trace_places.specs.Traces.{Traced}
use Rattle.reach.proofs.Members.{Left}
use Rattle.reach.proofs.member_set.Given as goal

abbrev pub invariant-loop-member : goal.invariant-loop-member
invariant-loop-member l =
    let w = site_of l.n l.sheet.types.now l.sheet.objects.now l.sheet.links.now l.index l.sheet.bodies.now l.of.0 in
    (Stands w l.of.1 l.vs l.word)
    × ((c : Change) → Traced c l.n l.sheet.types.now l.sheet.objects.now l.sheet.links.now l.sheet.events.now l.trace → Left w l.of.1 l.vs l.of.2 (λ m. cell_moves c m l.cell) l.word)

abbrev pub decreases-loop-member : goal.decreases-loop-member
decreases-loop-member l =
    length (left_at (site_of l.n l.sheet.types.now l.sheet.objects.now l.sheet.links.now l.index l.sheet.bodies.now l.of.0) l.of.1 l.vs l.of.2 l.word)
