-- What holds where a program failed.
use Rattle.std.specs.Prelude.{⊤}
use Rattle.programs.specs.declared.Failure.{Failure}
use Rattle.programs.specs.declared.Failure.TheVariants.{Reading, Writing}

-- it holds where the input failed
abbrev pub IfReading : Failure → Type 0 → Type 0
IfReading (Reading e) P = P
IfReading (Writing e) P = ⊤
