-- The answers of the checks, as the code gives them.
use Rattle.meaning.specs.Answers as Meaning
use Rattle.meaning.specs.Answers.{accepted, broken_at, refused}
use Rattle.tables.specs.declared.Answer.{Answer}
use Rattle.tables.specs.declared.Answer.TheVariants.{Accepted, Broken, Refused}

-- "accepted, or named rule and named object"; "a refusal gives number and place"
abbrev pub answer_of : Meaning.Answer → Answer
answer_of accepted = Accepted
answer_of (broken_at rule id) = Broken rule id
answer_of (refused number place) = Refused number place
