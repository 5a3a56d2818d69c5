-- `ocl::holds_at` meets its contract: the truth of the whole body, with one variable bound.
use Rattle.walks.specs.Values.{truth_of}
use Rattle.ocl.proofs.holds_at.Goals as goal

pub returns : goal.returns
unfolding truth_of
returns c = c.truth.ensures
