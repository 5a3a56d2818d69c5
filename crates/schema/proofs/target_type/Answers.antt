-- `schema::target_type` meets its contract. A target is a used word of the relationships.
use Rattle.schema.proofs.Types.{target_used}
use Rattle.schema.proofs.target_type.Goals as goal

pub returns : goal.returns
returns c = rw (target_used _ _ _) c.used_word.ensures
