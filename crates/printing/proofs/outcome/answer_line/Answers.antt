-- `printing::outcome::answer_line` meets its contract.
use native.Mathlib.Omega.{arith}
use Rattle.line_writer.proofs.Puts.{put_of, put_as}
use Rattle.printing.proofs.Printed.{accepted_line, accepted_size, broken_line, broken_size, refused_line, refused_size}
use Rattle.printing.proofs.outcome.answer_line.Goals as goal

pub returns-in-Accepted : goal.returns-in-Accepted
returns-in-Accepted c =
    let told = c.in-Accepted.is in
    (put_as (put_of c.write_bytes.ensures) (accepted_line told), accepted_size told)

pub returns-in-Broken : goal.returns-in-Broken
returns-in-Broken c =
    let told = c.in-Broken.is in
    (put_as c.line.ensures (broken_line told), broken_size told (omega arith) (omega arith))

pub returns-in-Refused : goal.returns-in-Refused
returns-in-Refused c =
    let told = c.in-Refused.is in
    (put_as c.line-in-Refused.ensures (refused_line told), refused_size told (omega arith) (omega arith))
