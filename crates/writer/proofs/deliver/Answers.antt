-- `writer::deliver` meets its contract: the buffer holds the text where it keeps its limit.
use native.Mathlib.Omega.{arith}
use mathlib.Core.Path.{sym}
use lib.Seq.{length-take-le}
use Rattle.writer.proofs.Answers.{put_large, put_unlent, put_done}
use Rattle.writer.proofs.deliver.Goals as goal

pub returns-then-end-gt65536 : goal.returns-then-end-gt65536
returns-then-end-gt65536 c = λ d s size put. put_large put size _ (omega arith)

pub returns-then-out-end : goal.returns-then-out-end
returns-then-out-end c = λ d s size put. put_unlent put size _ (omega arith) c.if-out-end.true

pub slice_bounds-write_bytes-end : goal.slice_bounds-write_bytes-end
slice_bounds-write_bytes-end c =
    sym (length-take-le c.args.end c.args.buffer.now (omega (arith, c.requires)))

pub returns : goal.returns
returns c = λ d s size put. put_done put size _ (omega arith) (omega arith) c.write_bytes.ensures.1
