-- `schema::source_type` meets its contract. A source is a used word of the relationships.
use Rattle.schema.proofs.Types.{source_used}
use Rattle.schema.proofs.source_type.Goals as goal

pub returns : goal.returns
returns c = rw (source_used _ _ _) c.used_word.ensures
