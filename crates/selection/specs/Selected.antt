-- At which rows a rule is selected, and what a part of the selection marks.
use Rattle.std.specs.Prelude.{ℕ, ◌<◌, ◌≡◌, Bool, ◌&&◌, ◌||◌, List, ltb, eqb, length}
use Rattle.meaning.specs.Lists.{any}
use Rattle.meaning.specs.Limits.{max_objects}
use Rattle.meaning.specs.Schema.{ObjectType, under}
use Rattle.meaning.specs.Reach.{Change, events_select}
use Rattle.rows.specs.Rows.{word_at}
use Rattle.tables.specs.Columns.{object_row, rule_row}
use Rattle.walks.specs.Site.{id_in}
use Rattle.pair_marks.specs.Marks.{marked}
use Rattle.pair_list.specs.Pairs.{pairs_where}

-- Document 01, "Pair (rule, s) is selected", by the events of a batch
abbrev pub by_events : Change → List ℕ → List ℕ → List ℕ → ℕ → ℕ → Bool
by_events c rules bodies objects rule row = events_select c (rule_row rules bodies rule) (id_in objects row)

-- Req 08: "every pair of rule and object of its context type"
abbrev pub in_context : List ObjectType → List ℕ → List ℕ → ℕ → ℕ → Bool
in_context types rules objects rule row = under types (object_row objects row).type (word_at rules 2 rule 0)

-- Of some rules the first m rows at which a test holds were marked, and nothing else; so many pairs are they.
pub record Added (objects : List ℕ) (test : ℕ → ℕ → Bool) (m : ℕ) (rules before after : List ℕ) (count : ℕ) : Type 0 where
  pub each : (rule row : ℕ) → row < max_objects → marked after rule row ≡ (marked before rule row || (any (eqb rule) rules && (ltb row m && test rule row)))
  pub number : count ≡ length (pairs_where objects test m rules)
