-- `printing::pieces::number` meets its contract.
use native.Mathlib.Omega.{arith}
use Rattle.line_writer.proofs.Puts.{put_of, put_then, put_as}
use Rattle.printing.proofs.Numbers.{number_low, number_high}
use Rattle.printing.proofs.pieces.number.Goals as goal

pub returns-then-n-lt2147483648 : goal.returns-then-n-lt2147483648
returns-then-n-lt2147483648 c =
    put_as (put_then (put_of c.write_bytes-a.ensures) (put_of c.write_number.ensures)) (number_low _ c.if-n-lt2147483648.true)

pub returns : goal.returns
returns c =
    put_as
    (put_then (put_then (put_of c.write_bytes-a.ensures) (put_of c.write_number-b.ensures)) (put_of c.write_number-2.ensures))
    (number_high _ (omega (arith, c.if-n-lt2147483648.false)) (omega arith))
