-- What looking through a text shows.
use Rattle.std.specs.Prelude.{ℕ, ◌<◌, ◌≡◌, List, get_or, Result, Ok, Err}
use Rattle.tables.specs.Layouts.{section_count}
use Rattle.tables.specs.declared.Refusal.{Refusal}
use Rattle.text.specs.Names.{type_name}
use Rattle.text.specs.Entries.{Entry, count_of, cells_in}
use Rattle.text.specs.Texts.{Reading, taken, refused}
use Rattle.reading.specs.declared.look.Seen.{Seen}

-- the rows of each section, and the cells of each type
pub record Counted (es : List Entry) (counts cells : List ℕ) : Type 0 where
  pub rows : (s : ℕ) → s < section_count → get_or counts s 0 ≡ count_of s es
  pub cells_of_lem : (t : ℕ) → t < count_of type_name es → get_or cells t 0 ≡ cells_in es t

-- what is counted of a text that is taken, or a refusal's number and line
abbrev pub Shown : Reading → Result Seen Refusal → Type 0
Shown (taken es) (Ok seen) = Counted es seen.counts seen.cells
Shown (taken es) (Err refusal) = ⊥
Shown (refused number line) (Ok seen) = ⊥
Shown (refused number line) (Err refusal) = refusal ≡ record { number = number; place = line }
