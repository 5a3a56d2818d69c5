-- `checker_run` meets its contract. The words are those of the run, and the rows past the used ones are cleared.
use mathlib.Core.Path.{◌∙◌}
use Rattle.exports.proofs.Told.{run_told}
use Rattle.exports.proofs.runs.checker_run.Goals as goal

pub shape_of-end_objects : goal.shape_of-end_objects
shape_of-end_objects c = c.clear_past.auto.t ∙ c.run-ran.auto.scratch_objects

pub shape_of-end_links : goal.shape_of-end_links
shape_of-end_links c = c.clear_past-2.auto.t ∙ c.run-ran.auto.scratch_links

pub returns : goal.returns
returns c =
    let run = c.run-ran in
    run_told run.ensures c.ran.ensures (λ k. (c.slice_known-3-1.given k).fits) run.auto.scratch_objects run.auto.scratch_links
    c.clear_past.ensures c.clear_past-2.ensures
