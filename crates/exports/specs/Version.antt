-- The version of the library's entries: one more with each release that changes what an entry is given or answers (docs/EMBEDDING.md). The same number
-- stands in embed/checker.h and embed/checker.rs.
use Rattle.std.specs.Prelude.{ℕ}

abbrev pub checker_version : ℕ
checker_version = 1
