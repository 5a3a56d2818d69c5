-- The words of a batch check are what its definition says, and its tables are as the check leaves them.
use Prim.Native.Nat.{ℕ}
use mathlib.Core.Path.{◌≡◌, ap, ap₂, ◌∙◌}
use mathlib.Core.List.{List, [], ◌∷◌, ◌++◌}
use Rattle.meaning.specs.Answers.{Outcome}
use Rattle.batch.specs.Checked.{Left}
use Rattle.batch.specs.declared.Checked.{Checked}
use Rattle.told.specs.Coded.{said_words}
use Rattle.told.proofs.Coded.{answer_said}
use Rattle.exports.specs.Batches.{BatchTold}

pub batch_told :
    {o : Outcome} {list objects links list' objects' links' words : List ℕ} {r : Checked} → Left o list objects links r list' objects' links'
    → words ≡ said_words r.answer ++ r.pairs ∷ r.objects ∷ r.links ∷ []
    → BatchTold o list objects links words list' objects' links'
batch_told {o} left told =
    record {
      words_are =
          told ∙ ap₂ ◌++◌ (ap said_words left.answer_is ∙ answer_said o.answer)
          (ap₂ ◌∷◌ left.pairs_are (ap₂ ◌∷◌ left.objects_used (ap (λ x. x ∷ []) left.links_used)));
      list_is = left.list_is;
      register = left.register;
    }
