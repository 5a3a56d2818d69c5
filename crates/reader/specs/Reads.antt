-- What a read answers, and what it leaves in the lent tables.
use Rattle.std.specs.Prelude.{ℕ, Bool, cond, List, Ok}
use Rattle.tables.specs.Layouts.{Sheet, layouts, lines_lent}
use Rattle.tables.specs.Refusals.{OrRefused, refused_by, not_whole}
use Rattle.tables.specs.declared.Counts.{Counts}
use Rattle.text.specs.Names.{type_name, floor_name, relationship_name, rule_name, object_name, link_name}
use Rattle.text.specs.Entries.{Entry, event_section, count_of}
use Rattle.text.specs.Texts.{Reading, taken, refused, reading}
use Rattle.filling.specs.Fills.{sheet_with}

-- 6, "not whole rows", after what the text meets
unfoldable pub unless_broken : Reading → Bool → Reading
unless_broken (taken es) broken = cond broken (refused 6 0) (taken es)
unless_broken (refused number line) broken = refused number line

-- what a text meets that is read into lent tables
unfoldable pub lent_reading : List ℕ → Sheet → Reading
lent_reading text s = unless_broken (reading (lines_lent s) text) (not_whole layouts s)

-- how many lines of each section there are
abbrev pub counts_of : List Entry → Counts
counts_of es =
    record {
      types = count_of type_name es;
      floors = count_of floor_name es;
      relationships = count_of relationship_name es;
      rules = count_of rule_name es;
      objects = count_of object_name es;
      links = count_of link_name es;
      events = count_of event_section es;
    }

-- a reading as the code gives it: the rows of each table, or a refusal
abbrev pub read_answer : Reading → OrRefused Counts
read_answer (taken es) = Ok (counts_of es)
read_answer (refused number line) = refused_by number line

-- "a refusal changes nothing lent"; "After a read all unused rows are 0"
unfoldable pub sheet_after : Reading → Sheet → Sheet
sheet_after (taken es) s = sheet_with es s
sheet_after (refused number line) s = s
