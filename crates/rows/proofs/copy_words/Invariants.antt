-- `rows::copy_words` meets its contract. The loop's invariant: the first i words are those of src, and the others as they were.
use mathlib.Core.Path.{◌≡◌}
use lib.Seq.{paste}
use Rattle.rows.proofs.copy_words.Given as goal

abbrev pub invariant-loop-i : goal.invariant-loop-i
invariant-loop-i l = l.dst ≡ paste l.initial.dst 0 l.src l.i
