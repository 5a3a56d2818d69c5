-- Document 01, "Reach rules": which forms a batch may move and which way; quiet bodies; the selected pairs.
use Rattle.std.specs.Prelude.{ℕ, suc, Bool, true, false, ◌&&◌, ◌||◌, not, cond, List, [], ◌∷◌, ◌++◌, map, eqb}
use Rattle.std.proofs.Math.ListN.{get_elem?}
use Rattle.meaning.specs.Lists.{is_empty, any, keep, holds}
use Rattle.meaning.specs.Schema.{ObjectType, Relationship, Schema, under, floored, near_type}
use Rattle.meaning.specs.Register.{Link, Register, is_under, instances, has_link, far_end, starts_at}
use Rattle.meaning.specs.Forms.{Sort, truth, collection, Comparison, le, lt, eq, ne, ge, gt, Connective, and, or, xor, implies, Quantifier, forall, exists, Arithmetic, add, sub, Form}
use Rattle.meaning.specs.Forms.{compare, negate, connect, quantify, kind, num, cell, size, sum, combine, role, all, select, bind, variable, member_type, Rule, Book}
use Rattle.meaning.specs.Meaning.{meaning}
use Rattle.meaning.specs.Events.{Event, insert, delete, set, join, part, special, general, link_of, apply, after}

-- ---- a batch, as the reach rules look at it

-- an event, and the register that it met
pub record Step : Type 0 where
  pub event : Event
  pub met : Register

-- a step by its parts
abbrev pub step_at : Register → Event → Step
step_at g e = record { event = e; met = g }

-- All that the reach rules look at: the steps of the batch, in order, and the register at the end.
pub record Change : Type 0 where
  pub schema : Schema
  pub steps : List Step
  pub end : Register

unfoldable pub steps_of : Schema → Register → List Event → List Step
steps_of S g [] = []
steps_of S g (e ∷ es) = step_at g e ∷ steps_of S (apply S e g) es

abbrev pub change_by : Schema → Register → List Event → Change
change_by S g es = record { schema = S; steps = steps_of S g es; end = after S g es }

-- Some step of the batch did so. An object is known by its id, whatever came before a delete of it.
unfoldable pub some_step : Change → (Step → Bool) → Bool
some_step c did = any did c.steps

-- ---- what an event did

-- the kinds of events, in document 01's order
pub data Kind : Type 0 where
  inserts deletes sets joins parts specials generals : Kind

-- "place in that order from 0"
abbrev pub kind_place : Kind → ℕ
kind_place inserts = 0
kind_place deletes = 1
kind_place sets = 2
kind_place joins = 3
kind_place parts = 4
kind_place specials = 5
kind_place generals = 6

-- the two are one kind
abbrev pub same_kind : Kind → Kind → Bool
same_kind j k = eqb (kind_place j) (kind_place k)

-- The event is one of that kind, and the test holds of the numbers that it names, in their order and 0 after the last.
abbrev pub among : Kind → (ℕ → ℕ → ℕ → Bool) → Event → Bool
among which test (insert id t) = same_kind which inserts && test id t 0
among which test (delete id) = same_kind which deletes && test id 0 0
among which test (set id k v) = same_kind which sets && test id k 0
among which test (join r a b) = same_kind which joins && test r a b
among which test (part r a b) = same_kind which parts && test r a b
among which test (special id t) = same_kind which specials && test id t 0
among which test (general id t) = same_kind which generals && test id t 0

-- "a join named such a link", one of the role from object u, and the test holds of it
abbrev pub joined : ℕ → ℕ → (Link → Bool) → Step → Bool
joined r u test s = among joins (λ n a b. starts_at r u (link_of n a b) && test (link_of n a b)) s.event

-- "a part named one" of the role from object u
abbrev pub part_named : ℕ → ℕ → Step → Bool
part_named r u s = among parts (λ n a b. starts_at r u (link_of n a b)) s.event

-- the link is one of the role from object u to another object, id
abbrev pub leads_to : ℕ → ℕ → ℕ → Link → Bool
leads_to r u id l = not (eqb u id) && (starts_at r u l && eqb (far_end r l) id)

-- A delete took a link of the role from object u to the deleted object. "Each counts as parted for the object at the other end, not for
-- the deleted id, even if that id is inserted again" (Req 01).
abbrev pub taken : ℕ → ℕ → Step → Bool
taken r u s = among deletes (λ id m n. any (leads_to r u id) s.met.links) s.event

-- a link of the role from object u was parted, in one way or the other
abbrev pub parted : ℕ → ℕ → Step → Bool
parted r u s = part_named r u s || taken r u s

-- "a set named that object and cell", of an object of which `whose` holds
abbrev pub sets_cell : (ℕ → Bool) → ℕ → Step → Bool
sets_cell whose k s = among sets (λ id j n. whose id && eqb j k) s.event

-- What brings an object into a type or takes it out, an object of which `whom` holds: an insert brings it into every type that it is
-- now under, a special into those that it was not under before; a delete takes it out of every type that it was under, a general out of
-- those that it is not under now.
module _ (types : List ObjectType) (t : ℕ) (whom : ℕ → Bool) (s : Step) where
  abbrev pub inserts_into : Bool
  inserts_into = among inserts (λ id u n. whom id && under types u t) s.event

  abbrev pub specialises_into : Bool
  specialises_into = among specials (λ id u n. whom id && (under types u t && not (is_under types s.met id t))) s.event

  abbrev pub deletes_from : Bool
  deletes_from = among deletes (λ id m n. whom id && is_under types s.met id t) s.event

  abbrev pub generalises_from : Bool
  generalises_from = among generals (λ id u n. whom id && (is_under types s.met id t && not (under types u t))) s.event

  -- "an insert or special brought in an object"
  abbrev pub brings_in : Bool
  brings_in = inserts_into || specialises_into

  -- "a delete or general took one out"
  abbrev pub takes_out : Bool
  takes_out = deletes_from || generalises_from

-- of whichever object
abbrev pub anyone : ℕ → Bool
anyone x = true

-- ---- directions

-- `up`: may turn true, rise, gain. `down`: may turn false, fall, lose.
pub data Direction : Type 0 where
  up down : Direction

abbrev pub opposite : Direction → Direction
opposite up = down
opposite down = up

-- How a movement passes from a part to its form: the same way, the opposite way, or either way.
pub data Passing : Type 0 where
  same reversed either : Passing

-- What moves a form in direction d through a part, by what moves the part in each direction.
abbrev pub through : {X : Type 0} → (X → X → X) → Passing → (Direction → X) → Direction → X
through also same moved d = moved d
through also reversed moved d = moved (opposite d)
through also either moved d = also (moved up) (moved down)

-- "`le`, `lt` may turn false if the left may rise or the right fall, true the other way; `ge`, `gt` mirrored; `eq`, `ne` either
-- way by any movement."
unfoldable pub left_of : Comparison → Passing
left_of le = reversed
left_of lt = reversed
left_of eq = either
left_of ne = either
left_of ge = same
left_of gt = same

unfoldable pub right_of : Comparison → Passing
right_of le = same
right_of lt = same
right_of eq = either
right_of ne = either
right_of ge = reversed
right_of gt = reversed

-- "`not` reverses"
abbrev pub negated : Passing
negated = reversed

-- "`and`, `or` as either part; `implies` reverses its left; `xor` either way by any movement of a part."
unfoldable pub first_truth : Connective → Passing
first_truth and = same
first_truth or = same
first_truth xor = either
first_truth implies = reversed

unfoldable pub second_truth : Connective → Passing
second_truth and = same
second_truth or = same
second_truth xor = either
second_truth implies = same

-- "`forall` may turn false by gain, ..; true by loss, ... `exists`: false by loss .., true by gain"
unfoldable pub source_of : Quantifier → Passing
source_of forall = reversed
source_of exists = same

-- "or if b may turn" the same way "at a member": the body of a quantifier, and the condition of a select
abbrev pub at_member : Passing
at_member = same

-- "`size`: rises by gain, falls by loss."
abbrev pub counted : Passing
counted = same

-- "`select c b`: gain if c gains ..; loss if c loses"
abbrev pub chosen_from : Passing
chosen_from = same

-- "`add`: as its parts; `sub`: second part reversed."
abbrev pub first_term : Arithmetic → Passing
first_term o = same

unfoldable pub second_term : Arithmetic → Passing
second_term add = same
second_term sub = reversed

-- Req 02: "Sum over such a cell then rises by gain only and falls by loss only"; over any other "either way by gain, loss"
unfoldable pub sum_source : Bool → Passing
sum_source true = same
sum_source false = either

-- the sum is over a floored cell, by the members' type: a floor of a type below it says nothing of the other members
abbrev pub floored_sum : Schema → Form collection → ℕ → Bool
floored_sum S c k = floored S.types S.floors (member_type S.relationships c) k

-- ---- the leaves

-- "A role from object u has a *gain* if a join named such a link and it is there at the end. It has a *loss* if a part named
-- one, back again or not", or a delete of the object at its far end took one (Req 01).
unfoldable pub role_moves : Change → ℕ → ℕ → Direction → Bool
role_moves c r u up = some_step c (joined r u (has_link c.end))
role_moves c r u down = some_step c (parted r u)

-- "`all t`: gain if an insert or special brought in an object that is under t at the end; loss if a delete or general took one
-- out."
unfoldable pub all_moves : Change → ℕ → Direction → Bool
all_moves c t up = some_step c (brings_in c.schema.types t (λ x. is_under c.schema.types c.end x t))
all_moves c t down = some_step c (takes_out c.schema.types t anyone)

-- "`cell`: may rise or fall if a set named that object and cell."
unfoldable pub cell_moves : Change → ℕ → ℕ → Bool
cell_moves c u k = some_step c (sets_cell (eqb u) k)

-- an insert, or a special, brought that object into t
unfoldable pub inserted : Change → ℕ → ℕ → Bool
inserted c u t = some_step c (inserts_into c.schema.types t (eqb u))

unfoldable pub specialised : Change → ℕ → ℕ → Bool
specialised c u t = some_step c (specialises_into c.schema.types t (eqb u))

-- "`kind v t`: false if a general took that object out of t, true if a special brought it in and it is there at the end."
unfoldable pub kind_moves : Change → ℕ → ℕ → Direction → Bool
kind_moves c u t up = specialised c u t && is_under c.schema.types c.end u t
kind_moves c u t down = some_step c (generalises_from c.schema.types t (eqb u))

-- ---- the forms

-- Whether a form may move in a direction, by the ids that its variables stand for: through its parts, as the rules above say of each. "`num`: never."
-- A sum besides by "a set of that cell at a member." A quantifier and a select through b "at a member": "Members are always those at the end."
unfoldable pub moves : {s : Sort} → Change → Form s → List ℕ → Direction → Bool
moves c (compare o a b) vs d = through ◌||◌ (left_of o) (moves c a vs) d || through ◌||◌ (right_of o) (moves c b vs) d
moves c (negate a) vs d = through ◌||◌ negated (moves c a vs) d
moves c (connect o a b) vs d = through ◌||◌ (first_truth o) (moves c a vs) d || through ◌||◌ (second_truth o) (moves c b vs) d
moves c (quantify q k b) vs d =
    through ◌||◌ (source_of q) (moves c k vs) d || any (λ x. through ◌||◌ at_member (moves c b (bind vs x)) d) (meaning c.schema.types c.end k vs)
moves c (kind v t) vs d = kind_moves c (variable vs v) t d
moves c (num n) vs d = false
moves c (cell v k) vs d = cell_moves c (variable vs v) k
moves c (size k) vs d = through ◌||◌ counted (moves c k vs) d
moves c (sum k n) vs d =
    through ◌||◌ (sum_source (floored_sum c.schema k n)) (moves c k vs) d
    || any (λ x. cell_moves c x n) (meaning c.schema.types c.end k vs)
moves c (combine o a b) vs d = through ◌||◌ (first_term o) (moves c a vs) d || through ◌||◌ (second_term o) (moves c b vs) d
moves c (role v r) vs d = role_moves c r (variable vs v) d
moves c (all t) vs d = all_moves c t d
moves c (select k b) vs d =
    through ◌||◌ chosen_from (moves c k vs) d || any (λ x. through ◌||◌ at_member (moves c b (bind vs x)) d) (meaning c.schema.types c.end k vs)

-- ---- quiet bodies

-- "a role of self", one that counts
unfoldable pub role_of_self : (ℕ → Bool) → Form collection → Bool
role_of_self counts (role v r) = eqb v 0 && counts r
role_of_self counts (all t) = false
role_of_self counts (select c b) = false

-- "forall over a role of self", and its dual, "where exists over a role of self is quietly false"
unfoldable pub quiet_quantifier : Quantifier → Bool → Bool
quiet_quantifier forall w = w
quiet_quantifier exists w = not w

-- "`and` of two quiet, `or` with one; `not` and `implies` likewise through the dual"
unfoldable pub quiet_connective : Connective → Bool → (Bool → Bool) → (Bool → Bool) → Bool
quiet_connective and true a b = a true && b true
quiet_connective and false a b = a false || b false
quiet_connective or true a b = a true || b true
quiet_connective or false a b = a false && b false
quiet_connective xor w a b = false
quiet_connective implies true a b = a false || b true
quiet_connective implies false a b = a true && b false

-- An object without links at the roles that count must give the truth w. "Nothing else is quiet."
unfoldable pub quietly : (ℕ → Bool) → Form truth → Bool → Bool
quietly counts (compare o a b) w = false
quietly counts (negate a) w = quietly counts a (not w)
quietly counts (connect o a b) w = quiet_connective o w (quietly counts a) (quietly counts b)
quietly counts (quantify q c b) w = quiet_quantifier q w && role_of_self counts c
quietly counts (kind v t) w = false

-- "A body is *quiet* when an object without links must satisfy it": every role counts
unfoldable pub quiet : Form truth → Bool
quiet body = quietly (λ r. true) body true

-- Req 06: "quiet counting only roles that start at the context type itself; no link at such a role can be older than the change" by which
-- an object comes into that type
abbrev pub own_role : List Relationship → ℕ → ℕ → Bool
own_role relationships t r = eqb (near_type relationships r) t

unfoldable pub quiet_from : List Relationship → ℕ → Form truth → Bool
quiet_from relationships t body = quietly (own_role relationships t) body true

-- ---- selection

-- An insert into the context type selects and lists nothing by itself where the body is quiet. Req 06: "A special into the context type by
-- itself selects and lists nothing when the body is quiet counting only roles that start at the context type itself."
unfoldable pub quiet_insert : Schema → Rule → Bool
quiet_insert S r = quiet r.body

unfoldable pub quiet_special : Schema → Rule → Bool
quiet_special S r = quiet_from S.relationships r.context r.body

-- "an insert brought s into the context type and the body is not quiet; or a special did", one that is not quiet
unfoldable pub brought_in : Change → Rule → ℕ → Bool
brought_in c r s =
    (inserted c s r.context && not (quiet_insert c.schema r)) || (specialised c s r.context && not (quiet_special c.schema r))

-- "Pair (rule, s) is selected when s is under the context type at the end and: the body may turn false at s; or" it was brought in
-- so: a pair that the events of the batch select.
unfoldable pub events_select : Change → Rule → ℕ → Bool
events_select c r s = is_under c.schema.types c.end s r.context && (moves c r.body (s ∷ []) down || brought_in c r s)

-- Req 08: "An empty batch is an inspection."
unfoldable pub inspection : Change → Bool
inspection c = is_empty c.steps

-- "A batch without events selects every pair of rule and object of its context type" (Req 08), any other those that its events select.
unfoldable pub selected : Change → Rule → ℕ → Bool
selected c r s = cond (inspection c) (is_under c.schema.types c.end s r.context) (events_select c r s)

-- a rule's number and an object's id
pub record Pair : Type 0 where
  pub rule : ℕ
  pub id : ℕ

abbrev pub pair_of : ℕ → ℕ → Pair
pair_of n id = record { rule = n; id = id }

-- the order of pairs: "rule then id"
abbrev pub pair_key : Pair → List ℕ
pair_key p = p.rule ∷ p.id ∷ []

-- Every pair of a rule and an object under its context type, ascending. n is the first rule's number.
unfoldable pub pairs_from : List ObjectType → Register → ℕ → List Rule → List Pair
pairs_from types g n [] = []
pairs_from types g n (r ∷ rs) = map (pair_of n) (instances types g r.context) ++ pairs_from types g (suc n) rs

unfoldable pub context_pairs : Book → Register → List Pair
context_pairs k g = pairs_from k.schema.types g 0 k.rules

-- a fact about the rule that a pair names
unfoldable pub of_rule : Book → (Rule → Bool) → ℕ → Bool
of_rule k fact n = holds fact (get_elem? k.rules n)

-- "Pair (rule, s) is selected"
abbrev pub pair_selected : Book → Change → Pair → Bool
pair_selected k c p = of_rule k (λ r. selected c r p.id) p.rule

-- "The list is .. rule then id, ascending, no repeat."
unfoldable pub selected_pairs : Book → Change → List Pair
selected_pairs k c = keep (pair_selected k c) (context_pairs k c.end)
