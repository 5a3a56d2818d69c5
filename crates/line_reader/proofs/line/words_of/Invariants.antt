use Rattle.line_reader.proofs.Words.{Taken}
use Rattle.line_reader.proofs.line.words_of.Given as goal

abbrev pub invariant-loop-i : goal.invariant-loop-i
invariant-loop-i l = Taken l.values l.words l.i
