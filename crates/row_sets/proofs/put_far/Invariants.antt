-- `row_sets::put_far` meets its contract. The loop's invariant: the marks only grow, and each far row is marked or still to come. The measure is
-- what is left of the walk.
use Prim.Native.Nat.{ℕ}
use mathlib.Core.List.{List, []}
use lib.ListN.{length}
use Rattle.tables.specs.declared.Counts.{Counts}
use Rattle.walks.specs.Site.{Site, site_of}
use Rattle.row_sets.specs.Sets.{sets_of, in_set, Grown}
use Rattle.row_sets.proofs.Fars.{left, FarWalk}
use Rattle.row_sets.proofs.put_far.Given as goal

-- what the walk looks at
abbrev pub walked : Counts → List ℕ → List ℕ → List ℕ → Site
walked n objects links index = site_of n [] objects links index [] 0

abbrev pub invariant-loop-word : goal.invariant-loop-word
invariant-loop-word l = (Grown (sets_of l.initial.marks l.initial.sets) (sets_of l.marks l.sets)) × (FarWalk (walked l.n l.objects l.links l.index) l.role l.row (in_set (sets_of l.marks l.sets) l.v) l.word)

abbrev pub decreases-loop-word : goal.decreases-loop-word
decreases-loop-word l = length (left (walked l.n l.objects l.links l.index) l.role l.row l.word)
