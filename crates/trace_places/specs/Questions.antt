-- Document 01, "Reach rules": what the leaves ask of the events about an object. Each is one question about an event, and whether some event of the
-- batch answers it: one that names the object, or, as Req 01 has it, a delete that took a link of the object along.
use Rattle.std.specs.Prelude.{ℕ, zero, suc, ◌%◌, Bool, false, ◌&&◌, ◌||◌, not, List, ltb, eqb}
use Rattle.meaning.specs.Schema.{ObjectType, under, relationship_of}
use Rattle.meaning.specs.Register.{has_link}
use Rattle.meaning.specs.Events.{Event}
use Rattle.meaning.specs.Reach.{Step, Change, some_step, inserts, sets, joins, parts, specials, generals, among, joined, part_named, taken, sets_cell, inserts_into, specialises_into, generalises_from}
use Rattle.tables.specs.Met.{no_type}

pub data Question : Type 0 where
  cell_set : (cell : ℕ) → Question
  joined_by parted_by : (role : ℕ) → Question
  inserted_into specialised_into generalised_from : (type : ℕ) → Question

-- an event that names object u answers the question about it
unfoldable pub answers : Change → Question → ℕ → Step → Bool
answers c (cell_set k) u s = sets_cell (eqb u) k s
answers c (joined_by r) u s = joined r u (has_link c.end) s
answers c (parted_by r) u s = part_named r u s
answers c (inserted_into t) u s = inserts_into c.schema.types t (eqb u) s
answers c (specialised_into t) u s = specialises_into c.schema.types t (eqb u) s
answers c (generalised_from t) u s = generalises_from c.schema.types t (eqb u) s

-- some event of the batch that names it does
unfoldable pub named : Change → Question → ℕ → Bool
named c q u = some_step c (answers c q u)

-- a delete of another object does
abbrev pub taken_from : Change → Question → ℕ → Bool
taken_from c (cell_set k) u = false
taken_from c (joined_by r) u = false
taken_from c (parted_by r) u = some_step c (taken r u)
taken_from c (inserted_into t) u = false
taken_from c (specialised_into t) u = false
taken_from c (generalised_from t) u = false

-- some event of the batch does
unfoldable pub asked : Change → Question → ℕ → Bool
asked c q u = named c q u || taken_from c q u

-- questions by their codes and what they are about
abbrev pub question_of : ℕ → ℕ → Question
question_of zero x = cell_set x
question_of (suc zero) x = joined_by x
question_of (suc (suc zero)) x = parted_by x
question_of (suc (suc (suc zero))) x = inserted_into x
question_of (suc (suc (suc (suc zero)))) x = specialised_into x
question_of (suc (suc (suc (suc (suc code))))) x = generalised_from x

-- ---- a question at a place of an event

-- the object whose type was m was under t; 32 is no type
abbrev pub met_under : List ObjectType → ℕ → ℕ → Bool
met_under types m t = ltb m no_type && under types m t

-- An event answers the question about the object that it names at its first place (j is 0) or its second (1), by the type that it met, and by
-- whether the link that it joined is there at the end. The near end of a role is the source (the first place) for a role forward.
unfoldable pub answers_at : List ObjectType → Question → Event → ℕ → ℕ → Bool → Bool
answers_at types (cell_set k) e j met there = among sets (λ id c n. eqb c k) e
answers_at types (joined_by r) e j met there = among joins (λ n a b. eqb n (relationship_of r) && (eqb j (r % 2) && there)) e
answers_at types (parted_by r) e j met there = among parts (λ n a b. eqb n (relationship_of r) && eqb j (r % 2)) e
answers_at types (inserted_into t) e j met there = among inserts (λ id u n. under types u t) e
answers_at types (specialised_into t) e j met there = among specials (λ id u n. under types u t && not (met_under types met t)) e
answers_at types (generalised_from t) e j met there = among generals (λ id u n. met_under types met t && not (under types u t)) e
