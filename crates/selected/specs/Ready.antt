-- What the selection is given of a rule: the refusal checks and the index give it.
use Rattle.std.specs.Prelude.{ℕ, ◌<◌, ◌≡◌, Bool, true, false, List, [], ◌∷◌, T, get_or}
use Rattle.meaning.specs.Schema.{Schema}
use Rattle.meaning.specs.Forms.{well_typed}
use Rattle.meaning.specs.Reach.{Change}
use Rattle.rows.specs.Rows.{word_at}
use Rattle.tables.specs.Bodies.{whole_body}
use Rattle.tables.specs.Columns.{rule_row}
use Rattle.tables.specs.declared.Counts.{Counts}
use Rattle.body_rows.specs.Marks.{body_of}
use Rattle.typing.specs.Types.{FlooredRows}
use Rattle.quietness.specs.declared.quiet.Still.{Still}
use Rattle.quietness.specs.Quiet.{StillBy}
use Rattle.walks.specs.Site.{site_of, id_in}
use Rattle.trace_places.specs.Traces.{Traced}
use Rattle.going_back.specs.Back.{candidate}
use Rattle.going_back.specs.Walkable.{BodyAble}

-- its body is whole, and the reach rules can be asked of it at each object's row
pub record RuleReady (n : Counts) (types objects links index rules bodies starts : List ℕ) (rule : ℕ) : Type 0 where
  pub schema : Schema
  pub whole : T (whole_body (body_of bodies rule) (word_at rules 2 rule 1))
  pub able : BodyAble schema (site_of n types objects links index bodies rule) starts (word_at rules 2 rule 1)

-- by the schema of a batch, its sums over floored cells are those that are marked
abbrev pub FlooredBy : Change → List ℕ → List ℕ → ℕ → List Bool → Type 0
FlooredBy c rules bodies rule floored = FlooredRows c.schema (body_of bodies rule) (word_at rules 2 rule 1) floored

-- it is well typed, and what is still of it is known
pub record KnownBy (c : Change) (rules bodies : List ℕ) (rule : ℕ) (floored : List Bool) (still : Still) : Type 0 where
  pub typed : T (well_typed c.schema ((rule_row rules bodies rule).context ∷ []) (rule_row rules bodies rule).body)
  pub floors : FlooredBy c rules bodies rule floored
  pub stills : StillBy c.schema (rule_row rules bodies rule) still

-- the marks of rows have every candidate of the rule
abbrev pub Marked : Counts → List ℕ → List ℕ → List ℕ → List ℕ → List ℕ → List ℕ → List ℕ → ℕ → List Bool → Still → List Bool → Type 0
Marked n types objects links events trace rules bodies rule floored still marks =
    (c : Change) → Traced c n types objects links events trace → FlooredBy c rules bodies rule floored → StillBy c.schema (rule_row rules bodies rule) still
    → (row : ℕ) → row < n.objects
    → candidate c (rule_row rules bodies rule) (id_in objects row) ≡ true → get_or marks row false ≡ true
