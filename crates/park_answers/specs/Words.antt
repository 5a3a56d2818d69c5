-- The words by which `park` is asked.
use Rattle.std.specs.Prelude.{ℕ, cond, List, [], ◌∷◌, Option, Some, None}
use Rattle.meaning.specs.Lists.{same_list}
use Rattle.park_answers.specs.declared.Asked.{Asked}
use Rattle.park_answers.specs.declared.Asked.TheVariants.{Check, Full, Events, After}

abbrev pub check_word : List ℕ
check_word = 99 ∷ 104 ∷ 101 ∷ 99 ∷ 107 ∷ []  -- check

abbrev pub full_word : List ℕ
full_word = 102 ∷ 117 ∷ 108 ∷ 108 ∷ []  -- full

abbrev pub events_word : List ℕ
events_word = 101 ∷ 118 ∷ 101 ∷ 110 ∷ 116 ∷ 115 ∷ []  -- events

abbrev pub after_word : List ℕ
after_word = 97 ∷ 102 ∷ 116 ∷ 101 ∷ 114 ∷ []  -- after

unfoldable pub asked_by : List ℕ → Option Asked
asked_by word =
    cond (same_list word check_word) (Some Check)
    (cond (same_list word full_word) (Some Full)
    (cond (same_list word events_word) (Some Events)
    (cond (same_list word after_word) (Some After) None)))
