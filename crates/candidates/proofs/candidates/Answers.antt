-- `candidates::candidates` meets its contract.
use mathlib.Core.Path.{refl, ◌∙◌}
use Rattle.row_sets.specs.Sets.{in_set}
use Rattle.row_sets.proofs.Tests.{or_else}
use Rattle.candidates.proofs.candidates.Goals as goal

pub put_candidates-everything-requires : goal.put_candidates-everything-requires
put_candidates-everything-requires c =
    (c.requires.0, c.requires.1, c.requires.2, record { self = refl; inner = c.requires.3 })

pub mark_all-requires : goal.mark_all-requires
mark_all-requires c =
    (c.requires.2.1.objects_few, c.put_candidates-everything.ensures.0.long.self)

pub returns : goal.returns
unfolding in_set
returns c = (
  c.put_candidates-everything.ensures.0.long.inner,
  λ k traced floors stills row h t.
      c.mark_all.ensures row h
      ∙ or_else c.put_candidates-everything.result (λ still. c.put_candidates-everything.ensures.1 k traced floors stills still row h t),
)
