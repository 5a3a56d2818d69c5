-- What the listed pairs say of the register at the end: 14, or the first of them that is broken there.
use Rattle.std.specs.Prelude.{ℕ, ◌≡◌, List, length}
use Rattle.meaning.specs.Register.{Register}
use Rattle.meaning.specs.Forms.{Book}
use Rattle.meaning.specs.Events.{Lent}
use Rattle.meaning.specs.Reach.{Change, selected_pairs}
use Rattle.meaning.specs.Answers.{Outcome, list_refusal, outcome_of, outcome_unless}
use Rattle.rows.specs.Rows.{in_front}
use Rattle.tables.specs.Answers.{answer_of}
use Rattle.pair_list.specs.Pairs.{pair_words}
use Rattle.batch_judge.specs.declared.Judged.{Judged}

-- the outcome of a batch whose events are not refused; g is the register before it
abbrev pub end_outcome : Book → Lent → Register → Change → Outcome
end_outcome k lent g c = outcome_unless (list_refusal lent (selected_pairs k c)) g (outcome_of k g c)

pub record Judges (o : Outcome) (list : List ℕ) (r : Judged) (list' : List ℕ) : Type 0 where
  pub answer_is : r.answer ≡ answer_of o.answer
  pub pairs_are : r.pairs ≡ length o.pairs
  pub list_is : list' ≡ in_front (pair_words o.pairs) list
