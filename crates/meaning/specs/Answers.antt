-- Document 01, "A full check answers ..", "A batch check answers ..", and "Where each refusal is met" for a book, a register
-- and a batch: refusals 3, 4, 5, 7 to 13, 15 and 14. (2 and 6 are of the lent tables, 1 of the text.)
use Rattle.std.specs.Prelude.{ℕ, ◌*◌, Bool, cond, List, [], ltb, length}
use Rattle.std.proofs.Math.Option.{Option, none, some}
use Rattle.meaning.specs.Lists.{first, first_of}
use Rattle.meaning.specs.Schema.{Schema, type_fault, floor_fault, relationship_fault}
use Rattle.meaning.specs.Register.{Register, object_fault, link_fault}
use Rattle.meaning.specs.Forms.{Book, rule_fault}
use Rattle.meaning.specs.Meaning.{broken}
use Rattle.meaning.specs.Events.{Event, Lent, Refusal, batch_refusal}
use Rattle.meaning.specs.Reach.{Change, change_by, Pair, context_pairs, of_rule, selected_pairs}

-- "accepted, or named rule and named object"; "a refusal gives number and place"
pub data Answer : Type 0 where
  accepted : Answer
  broken_at : (rule id : ℕ) → Answer
  refused : (number place : ℕ) → Answer

-- a refusal of that number, at the place where there is a fault
unfoldable pub refusal_at : ℕ → Option ℕ → Option Refusal
refusal_at number none = none
refusal_at number (some place) = some (record { number = number; place = place })

-- Refusals 3, 4 and 5, "checked from the top": types before floors and these before relationships, objects before links.
unfoldable pub book_refusal : Book → Option Refusal
book_refusal k =
    first_of (refusal_at 3 (first_of (type_fault k.schema.types) (first_of (floor_fault k.schema) (relationship_fault k.schema))))
    (refusal_at 4 (rule_fault k))

unfoldable pub register_refusal : Schema → Register → Option Refusal
register_refusal S g = refusal_at 5 (first_of (object_fault S.types S.floors g) (link_fault S g))

unfoldable pub refusal : Book → Register → Option Refusal
refusal k g = first_of (book_refusal k) (register_refusal k.schema g)

-- 4: "a rule number the book lacks", at that number
unfoldable pub lacked_rule : Book → ℕ → Option Refusal
lacked_rule k rule = cond (ltb rule (length k.rules)) none (some (record { number = 4; place = rule }))

-- refusals 3, 4 and 5 of a question about one rule; a rule that is lacked comes after every faulty rule
unfoldable pub refusal_for : Book → Register → ℕ → Option Refusal
refusal_for k g rule = first_of (book_refusal k) (first_of (lacked_rule k rule) (register_refusal k.schema g))

-- "A rule is *broken* at an object": the rule and the object of a pair
abbrev pub pair_broken : Book → Register → Pair → Bool
pair_broken k g p = of_rule k (λ r. broken k.schema.types g r p.id) p.rule

-- the first pair of a list that is broken in the register, else accepted
unfoldable pub found_answer : Option Pair → Answer
found_answer none = accepted
found_answer (some p) = broken_at p.rule p.id

unfoldable pub first_broken : Book → Register → List Pair → Answer
first_broken k g pairs = found_answer (first (pair_broken k g) pairs)

unfoldable pub unless_refused : Option Refusal → Answer → Answer
unless_refused none answer = answer
unless_refused (some r) answer = refused r.number r.place

-- "A full check answers the first broken pair, lowest rule and then lowest id, or accepted."
unfoldable pub full_check : Book → Register → Answer
full_check k g = unless_refused (refusal k g) (first_broken k g (context_pairs k g))

-- 14: "the pairs .. need more than is lent", two words each
unfoldable pub list_refusal : Lent → List Pair → Option Refusal
list_refusal lent pairs = cond (ltb lent.words (2 * length pairs)) (some (record { number = 14; place = 0 })) none

-- every refusal of a batch check, from the top
unfoldable pub check_refusal : Book → Lent → Register → List Event → Option Refusal
check_refusal k lent g es =
    first_of (refusal k g)
    (first_of (batch_refusal k.schema lent g es) (list_refusal lent (selected_pairs k (change_by k.schema g es))))

-- What a batch check leaves: its answer, its list of pairs, and the register.
pub record Outcome : Type 0 where
  pub answer : Answer
  pub pairs : List Pair
  pub register : Register

-- "An accepted batch leaves that register, every event applied in order; a broken one leaves the register as before it."
unfoldable pub register_left : Answer → Register → Register → Register
register_left accepted before after = after
register_left (broken_at rule id) before after = before
register_left (refused number place) before after = before

unfoldable pub outcome_of : Book → Register → Change → Outcome
outcome_of k g c =
    let pairs = selected_pairs k c in
    let answer = first_broken k c.end pairs in
    record { answer = answer; pairs = pairs; register = register_left answer g c.end }

-- a refusal lists nothing and leaves the register as it was
unfoldable pub outcome_unless : Option Refusal → Register → Outcome → Outcome
outcome_unless none before outcome = outcome
outcome_unless (some r) before outcome = record { answer = refused r.number r.place; pairs = []; register = before }

-- "A batch check answers by the listed pairs alone, the first of them broken at the end, else accepted, whatever held before"
unfoldable pub batch_check : Book → Lent → Register → List Event → Outcome
batch_check k lent g es = outcome_unless (check_refusal k lent g es) g (outcome_of k g (change_by k.schema g es))
