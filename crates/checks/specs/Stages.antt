-- One stage of the checks, "checked from the top": a place that is found refuses by the stage's number.
use Rattle.std.specs.Prelude.{ℕ}
use Rattle.std.specs.Prelude as Std
use Rattle.std.specs.Prelude.{Some, None, Ok}
use Rattle.tables.specs.Refusals.{OrRefused, refused_by}

abbrev pub refused_at : ℕ → Std.Option ℕ → OrRefused (Unit {0})
refused_at number (Some place) = refused_by number place
refused_at number None = Ok tt
