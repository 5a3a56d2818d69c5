-- What no refusal gives the selection of a rule.
use Prim.Native.Nat.{ℕ, ◌^◌, ◌<◌}
use mathlib.Core.Path.{◌≡◌, refl, sym, ap}
use mathlib.Core.Bool.{Bool}
use mathlib.Core.List.{List}
use lib.Dec.{T}
use lib.ListN.{get_or}
use Rattle.meaning.specs.Reach.{Change}
use Rattle.rows.specs.Rows.{word_at}
use Rattle.tables.specs.Layouts.{Sheet}
use Rattle.tables.specs.Bodies.{ending, as_truth, whole_body, read_body}
use Rattle.tables.specs.Columns.{rule_row, book_of}
use Rattle.tables.specs.declared.Counts.{Counts}
use Rattle.tables.proofs.Forms.{whole_body_lem}
use Rattle.body_rows.specs.Marks.{body_of, Starts}
use Rattle.typing.specs.Types.{FlooredRows}
use Rattle.quietness.specs.declared.quiet.Still.{Still}
use Rattle.quietness.specs.Quiet.{StillBy}
use Rattle.full_search.specs.Search.{Clear}
use Rattle.full_search.proofs.Given.{typed, register_fits}
use Rattle.going_back.proofs.Rules.{body_form, rule_able}
use Rattle.selected.specs.Ready.{RuleReady, KnownBy}

module _ {n : Counts} {s : Sheet} {index : List ℕ} (c : Clear n s index) {rule : ℕ} (h : rule < n.rules) where
  pub whole : T (whole_body (body_of s.bodies rule) (word_at s.rules 2 rule 1))
  whole = c.given.whole rule h

  -- the rows of a rule are a form
  pub sound : T (ending (body_of s.bodies rule) (word_at s.rules 2 rule 1)).sound
  sound = (whole_body_lem (body_of s.bodies rule) (word_at s.rules 2 rule 1) whole).sound

  -- and its body is that form
  pub body_is : as_truth (ending (body_of s.bodies rule) (word_at s.rules 2 rule 1)).form ≡ (rule_row s.rules s.bodies rule).body
  unfolding rule_row read_body as_truth
  body_is = sym (ap as_truth (body_form n s.types s.rules s.bodies s.objects s.links index rule whole))

  pub known_by : (k : Change) → k.schema ≡ (book_of n s).schema → {floored : List Bool} {still : Still}
      → FlooredRows (book_of n s).schema (body_of s.bodies rule) (word_at s.rules 2 rule 1) floored
      → StillBy (book_of n s).schema (rule_row s.rules s.bodies rule) still
      → KnownBy k s.rules s.bodies rule floored still
  unfolding rule_row
  known_by k e floors stills = record { typed = rw e (typed c h refl); floors = rw e floors; stills = rw e stills }

  pub rule_ready : ((j : ℕ) → get_or s.bodies j 0 < 2 ^ 32) → {starts : List ℕ} → Starts (body_of s.bodies rule) starts (word_at s.rules 2 rule 1)
      → RuleReady n s.types s.objects s.links index s.rules s.bodies starts rule
  unfolding rule_row
  rule_ready words starts =
      record {
        schema = (book_of n s).schema;
        whole = whole;
        able = rule_able n s.types s.rules s.bodies s.objects s.links index rule whole (book_of n s).schema.floors s.relationships c.given.few_types c.given.few_relationships
            (typed c h refl) (register_fits n s c.given) c.indexed words starts;
      }
