-- The row before a row of a table that is read by row numbers.
use Rattle.std.specs.Prelude.{ℕ, zero, suc}
use Rattle.std.proofs.Math.Option.{Option, none, some}

abbrev pub previous_row : {A : Type 0} → (ℕ → A) → ℕ → Option A
previous_row read zero = none
previous_row read (suc i) = some (read i)
