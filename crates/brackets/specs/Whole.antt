-- A rule's body that was found good, and its rows in the table of bodies.
use Rattle.std.specs.Prelude.{ℕ, ◌+◌, ◌≤◌, ◌≡◌, List, ◌++◌, length, take, drop}
use Rattle.std.proofs.Math.Option.{some, bind}
use Rattle.meaning.specs.Limits.{max_forms}
use Rattle.text.specs.Tokens.{tokens_in}
use Rattle.text.specs.Bodies.{Written, forms_in}
use Rattle.text.specs.Entries.{rule, body_in}

-- a text is the body of a rule of type t and the rule's own closed bracket; the body has no more forms than a rule may
pub record WholeBody (l : List ℕ) (t : ℕ) (w : Written) : Type 0 where
  pub read : bind (tokens_in l) (body_in t) ≡ some (rule t w)
  pub few : forms_in w ≤ max_forms

-- a table with rows in the place of its words from a place on
abbrev pub rows_put : List ℕ → ℕ → List ℕ → List ℕ
rows_put t at rows = take at t ++ rows ++ drop (at + length rows) t
