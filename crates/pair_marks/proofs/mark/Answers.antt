-- `pair_marks::mark` meets its contract.
use native.Mathlib.Omega.{arith}
use lib.ListN.{length-set}
use Rattle.pair_marks.proofs.Words.{marked_more}
use Rattle.pair_marks.proofs.mark.Goals as goal

pub returns : goal.returns
returns c =
    let a = c.args in (
      simp length-set c.requires.0,
      marked_more a.marks.now a.rule a.row c.with.result c.requires.2 (omega arith) c.with.ensures,
    )
