-- `lexical::line` meets its contract: the part from the place to where the line ends is the line.
use native.Mathlib.Omega.{arith}
use Rattle.lexical.specs.Lines.{is_inner}
use Rattle.lexical.proofs.Runs.{run_within}
use Rattle.lexical.proofs.Lines.{line_part}
use Rattle.lexical.proofs.line.Goals as goal

pub slice_bounds-result-end-2 : goal.slice_bounds-result-end-2
slice_bounds-result-end-2 c = omega (arith, c.line_end-end.ensures, run_within is_inner c.args.text.now c.args.at)

pub returns : goal.returns
returns c = line_part _ _ _ c.line_end-end.ensures
