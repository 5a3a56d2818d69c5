-- A batch check as numbers, for programs in other languages.
use Rattle.std.specs.Prelude.{ℕ, ◌≡◌, List, [], ◌∷◌, ◌++◌, length}
use Rattle.meaning.specs.Answers.{Outcome}
use Rattle.rows.specs.Rows.{in_front}
use Rattle.pair_list.specs.Pairs.{pair_words}
use Rattle.batch.specs.Checked.{RegisterLeft}
use Rattle.told.specs.Coded.{answer_words}

-- six words: the answer, how many pairs are listed, and how many rows of objects and links are used after the check
abbrev pub outcome_words : Outcome → List ℕ
outcome_words o =
    answer_words o.answer ++ length o.pairs ∷ length o.register.objects ∷ length o.register.links ∷ []

-- what a batch check says and leaves, by its outcome
pub record BatchTold (o : Outcome) (list objects links words list' objects' links' : List ℕ) : Type 0 where
  pub words_are : words ≡ outcome_words o
  pub list_is : list' ≡ in_front (pair_words o.pairs) list
  pub register : RegisterLeft o objects links objects' links'
