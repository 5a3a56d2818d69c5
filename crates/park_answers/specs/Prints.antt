-- What `park` prints of a text, by what is asked of it.
use Rattle.std.specs.Prelude.{ℕ, List}
use Rattle.tables.specs.Layouts.{Sheet}
use Rattle.tables.specs.declared.Counts.{Counts}
use Rattle.answers.specs.Checks.{Room, batch_printed, text_prints}
use Rattle.park_tables.specs.Tables.{full_printed, events_printed, after_printed}
use Rattle.park_answers.specs.declared.Asked.{Asked}
use Rattle.park_answers.specs.declared.Asked.TheVariants.{Check, Full, Events, After}

-- document 01's limits: 65,536 bytes of text, 1,024 objects, 4,096 links, 32 rules, 256 events; and words for a pair of each rule and object
abbrev pub park_room : Room
park_room = record { bytes = 65536; objects = 1024; links = 4096; rules = 32; events = 256; words = 65536 }

-- Of tables that were read: the batch check as `check` prints it; the full check of the register before the batch; the event list of each rule; where the
-- batch is accepted the text of book and register after it, else as `check`.
unfoldable pub tables_printed : Asked → Counts → Sheet → List ℕ
tables_printed Check n s = batch_printed park_room.words n s
tables_printed Full n s = full_printed n s
tables_printed Events n s = events_printed n s
tables_printed After n s = after_printed park_room.words n s

-- the text's own refusals come first, whatever is asked
unfoldable pub park_prints : Asked → List ℕ → List ℕ
park_prints asked = text_prints park_room (tables_printed asked)
