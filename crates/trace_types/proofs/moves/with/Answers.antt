-- `trace_types::moves::with` meets its contract.
use mathlib.Core.Path.{ap, ◌∙◌}
use mathlib.Core.Bool.{◌||◌}
use native.Mathlib.Omega.{arith}
use Rattle.trace_types.proofs.Moving.{words_with}
use Rattle.trace_types.proofs.moves.with.Goals as goal

pub returns : goal.returns
returns c =
    let a = c.args in (
      omega (arith, c.bit-down.ensures.1, c.bit-up.ensures.1),
      words_with a.set c.bit-up.result c.bit-down.result a.gain a.loss c.bit-up.ensures.1 c.bit-down.ensures.1
          (c.bit-up.ensures.0 ∙ ap (λ b. b || a.gain) c.contains.ensures)
          (c.bit-down.ensures.0 ∙ ap (λ b. b || a.loss) c.contains-2.ensures),
    )
