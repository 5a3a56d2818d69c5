-- The measure is twice the row where the form ends: a helper keeps the row, and lies below the function that calls it; every other call is
-- of a part, which ends before.
use Prim.Native.Nat.{ℕ, ◌+◌}
use mathlib.Core.Path.{◌≡◌}
use mathlib.Core.List.{List}
use lib.ListN.{length, set}
use Rattle.meaning.specs.Meaning.{quantified as quantifiedBy}
use Rattle.meaning.specs.Lists.{keep}
use Rattle.walks.specs.Site.{site_of}
use Rattle.operators.specs.Operators.{quantifier_of}
use Rattle.walks.specs.Values.{truth_of}
use Rattle.walks.specs.Walks.{left_at, Stands}
use Rattle.ocl.proofs.Parts.{under_one}
use Rattle.ocl.proofs.Answers.{Summed}
use Rattle.ocl.proofs.+combination_comparison_connection_next_next_selected_quantified_totalled_truth_value.Given as goal

abbrev pub decreases-combination : goal.decreases-combination
decreases-combination l = l.at.1 + l.at.1

abbrev pub decreases-comparison : goal.decreases-comparison
decreases-comparison l = l.at.1 + l.at.1

abbrev pub decreases-connection : goal.decreases-connection
decreases-connection l = l.at.1 + l.at.1

abbrev pub decreases-next : goal.decreases-next
decreases-next l = l.at.1 + l.at.1 + 1

abbrev pub decreases-next_selected : goal.decreases-next_selected
decreases-next_selected l = l.at.1 + l.at.1

abbrev pub decreases-quantified : goal.decreases-quantified
decreases-quantified l = l.at.1 + l.at.1

abbrev pub decreases-totalled : goal.decreases-totalled
decreases-totalled l = l.at.1 + l.at.1

abbrev pub decreases-truth : goal.decreases-truth
decreases-truth l = l.at.1 + l.at.1 + 1

abbrev pub decreases-value : goal.decreases-value
decreases-value l = l.at.1 + l.at.1 + 1

-- variables that differ at most where the next is bound
abbrev pub BindsAs : List ℕ → List ℕ → ℕ → Type 0
BindsAs inner vars depth = (row : ℕ) → set inner depth row ≡ set vars depth row

abbrev pub invariant-next_selected-loop-member : goal.invariant-next_selected-loop-member
invariant-next_selected-loop-member l =
    let w = site_of l.n l.sheet.types.now l.sheet.objects.now l.sheet.links.now l.index l.sheet.bodies.now l.rule in
    Stands w l.start l.vs l.last
    × (left_at w l.e l.vs l.depth l.word ≡ keep (under_one w l.row l.vs l.depth) (left_at w l.start l.vs l.depth l.last))
    × BindsAs l.inner l.vs l.depth

abbrev pub decreases-next_selected-loop-member : goal.decreases-next_selected-loop-member
decreases-next_selected-loop-member l =
    length (left_at (site_of l.n l.sheet.types.now l.sheet.objects.now l.sheet.links.now l.index l.sheet.bodies.now l.rule) l.start l.vs l.depth l.last)

abbrev pub invariant-quantified-loop-member : goal.invariant-quantified-loop-member
invariant-quantified-loop-member l =
    let w = site_of l.n l.sheet.types.now l.sheet.objects.now l.sheet.links.now l.index l.sheet.bodies.now l.rule in
    Stands w l.start l.vs l.word
    × (truth_of w l.e l.vs l.depth ≡ quantifiedBy (quantifier_of l.code) (under_one w l.row l.vs l.depth) (left_at w l.start l.vs l.depth l.word))
    × BindsAs l.inner l.vs l.depth

abbrev pub decreases-quantified-loop-member : goal.decreases-quantified-loop-member
decreases-quantified-loop-member l =
    length (left_at (site_of l.n l.sheet.types.now l.sheet.objects.now l.sheet.links.now l.index l.sheet.bodies.now l.rule) l.start l.vs l.depth l.word)

abbrev pub invariant-totalled-loop-member : goal.invariant-totalled-loop-member
invariant-totalled-loop-member l =
    let w = site_of l.n l.sheet.types.now l.sheet.objects.now l.sheet.links.now l.index l.sheet.bodies.now l.rule in
    Stands w l.row l.vs l.word × Summed w l.e l.vs l.depth l.code l.total l.word

abbrev pub decreases-totalled-loop-member : goal.decreases-totalled-loop-member
decreases-totalled-loop-member l =
    length (left_at (site_of l.n l.sheet.types.now l.sheet.objects.now l.sheet.links.now l.index l.sheet.bodies.now l.rule) l.row l.vs l.depth l.word)
