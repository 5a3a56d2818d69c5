-- The limits of document 01, "Schema, register, batch".
use Rattle.std.specs.Prelude.{ℕ, ◌^◌, Bool, ◌&&◌, leb, ltb, ℤ}
use Rattle.std.specs.Int.Signed.{mag}

-- "number 0 to 31"; "at most 32"; "at most 64 forms"; "at most 1,024"; "at most 4,096"; "0 to 256 events"
abbrev pub max_types : ℕ
max_types = 32

-- Req 02: "at most 256"
abbrev pub max_floors : ℕ
max_floors = 256

abbrev pub max_relationships : ℕ
max_relationships = 32

abbrev pub max_rules : ℕ
max_rules = 32

abbrev pub max_forms : ℕ
max_forms = 64

abbrev pub max_objects : ℕ
max_objects = 1024

abbrev pub max_links : ℕ
max_links = 4096

abbrev pub max_events : ℕ
max_events = 256

-- "0 to 8 cells", "eight signed 32-bit cells"
abbrev pub cell_count : ℕ
cell_count = 8

-- Req 07: "Ids run from 1 to 2,147,483,647 in objects, links, events and lists"
abbrev pub max_id : ℕ
max_id = 2147483647

unfoldable pub valid_id : ℕ → Bool
valid_id id = leb 1 id && leb id max_id

-- "signed 32-bit": from -2^31 to 2^31 - 1. `mag` of n and of -(n + 1) is n.
unfoldable pub fits_word : ℤ → Bool
fits_word z = ltb (mag z) (2 ^ 31)
