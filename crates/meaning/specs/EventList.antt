-- Document 01, "Event list of a rule": the same rules without objects, and when a listed event type occurs.
use Rattle.std.specs.Prelude.{ℕ, Bool, cond, eqb}
use mathlib.Core.List.{List, [], ◌∷◌, ◌++◌, foldr}
use Rattle.meaning.specs.Lists.{any, put_in_order}
use Rattle.meaning.specs.Schema.{Schema, has_parent, relationship_of, far_type}
use Rattle.meaning.specs.Register.{is_under}
use Rattle.meaning.specs.Forms.{Sort, Form, compare, negate, connect, quantify, kind, num, cell, size, sum, combine, role, all, select, bind, variable, member_type, Rule}
use Rattle.meaning.specs.Reach.{Change, some_step, inserts, deletes, sets, joins, parts, specials, generals, kind_place, among, sets_cell, inserts_into, specialises_into, deletes_from, generalises_from}
use Rattle.meaning.specs.Reach.{anyone, Direction, up, down, through, left_of, right_of, negated, first_truth, second_truth, source_of, at_member, counted, chosen_from, first_term, second_term, sum_source, floored_sum, quiet_insert, quiet_special}

-- What a rule lists: a kind of event with the type, the type and cell, or the relationship that it names.
pub data EventType : Type 0 where
  insert_of delete_of : (type : ℕ) → EventType
  set_of : (type cell : ℕ) → EventType
  join_of part_of : (relationship : ℕ) → EventType
  special_of general_of : (type : ℕ) → EventType

-- "three 16-bit words each: place in that order from 0, type or relationship, cell or 0"
unfoldable pub event_type_words : EventType → List ℕ
event_type_words (insert_of t) = kind_place inserts ∷ t ∷ 0 ∷ []
event_type_words (delete_of t) = kind_place deletes ∷ t ∷ 0 ∷ []
event_type_words (set_of t k) = kind_place sets ∷ t ∷ k ∷ []
event_type_words (join_of r) = kind_place joins ∷ r ∷ 0 ∷ []
event_type_words (part_of r) = kind_place parts ∷ r ∷ 0 ∷ []
event_type_words (special_of t) = kind_place specials ∷ t ∷ 0 ∷ []
event_type_words (general_of t) = kind_place generals ∷ t ∷ 0 ∷ []

-- "`special t` and `general t` are left out where t has no parent."
unfoldable pub where_parent : Schema → ℕ → EventType → List EventType
where_parent S t e = cond (has_parent S.types t) (e ∷ []) []

-- "role gain lists join, loss part"; by Req 01 "delete of the type at the role's far end is listed too" where a loss is
unfoldable pub role_lists : Schema → ℕ → Direction → List EventType
role_lists S r up = join_of (relationship_of r) ∷ []
role_lists S r down = part_of (relationship_of r) ∷ delete_of (far_type S.relationships r) ∷ []

-- "`all t` gain lists insert t and special t, loss delete t and general t"
unfoldable pub all_lists : Schema → ℕ → Direction → List EventType
all_lists S t up = insert_of t ∷ where_parent S t (special_of t)
all_lists S t down = delete_of t ∷ where_parent S t (general_of t)

unfoldable pub kind_lists : Schema → ℕ → Direction → List EventType
kind_lists S t up = where_parent S t (special_of t)
kind_lists S t down = where_parent S t (general_of t)

-- What may move a form in a direction, by the types of its variables.
unfoldable pub lists : {s : Sort} → Schema → Form s → List ℕ → Direction → List EventType
lists S (compare o a b) ts d = through ◌++◌ (left_of o) (lists S a ts) d ++ through ◌++◌ (right_of o) (lists S b ts) d
lists S (negate a) ts d = through ◌++◌ negated (lists S a ts) d
lists S (connect o a b) ts d = through ◌++◌ (first_truth o) (lists S a ts) d ++ through ◌++◌ (second_truth o) (lists S b ts) d
lists S (quantify q c b) ts d = through ◌++◌ (source_of q) (lists S c ts) d ++ through ◌++◌ at_member (lists S b (bind ts (member_type S.relationships c))) d
lists S (kind v t) ts d = kind_lists S t d
lists S (num n) ts d = []
lists S (cell v k) ts d = set_of (variable ts v) k ∷ []
lists S (size c) ts d = through ◌++◌ counted (lists S c ts) d
lists S (sum c k) ts d = through ◌++◌ (sum_source (floored_sum S c k)) (lists S c ts) d ++ set_of (member_type S.relationships c) k ∷ []
lists S (combine o a b) ts d = through ◌++◌ (first_term o) (lists S a ts) d ++ through ◌++◌ (second_term o) (lists S b ts) d
lists S (role v r) ts d = role_lists S r d
lists S (all t) ts d = all_lists S t d
lists S (select c b) ts d = through ◌++◌ chosen_from (lists S c ts) d ++ through ◌++◌ at_member (lists S b (bind ts (member_type S.relationships c))) d

-- "kind and context as above": an insert into the context type, and a special into it, each unless it is quiet
unfoldable pub context_lists : Schema → Rule → List EventType
context_lists S r =
    cond (quiet_insert S r) [] (insert_of r.context ∷ []) ++ cond (quiet_special S r) [] (where_parent S r.context (special_of r.context))

-- "Order: the events' order above, then numbers, none twice"
unfoldable pub event_list : Schema → Rule → List EventType
event_list S r = foldr (put_in_order event_type_words) [] (lists S r.body (r.context ∷ []) down ++ context_lists S r)

-- "An insert, delete, special or general counts for every type it brings the object into or out of; a set counts for every
-- type its object is under at the end, with its cell; a join or part for its relationship. A listed event type occurs when an
-- event of its kind in the batch counts for what it names."
unfoldable pub occurs : Change → EventType → Bool
occurs c (insert_of t) = some_step c (inserts_into c.schema.types t anyone)
occurs c (delete_of t) = some_step c (deletes_from c.schema.types t anyone)
occurs c (set_of t k) = some_step c (sets_cell (λ x. is_under c.schema.types c.end x t) k)
occurs c (join_of r) = some_step c (λ s. among joins (λ n a b. eqb n r) s.event)
occurs c (part_of r) = some_step c (λ s. among parts (λ n a b. eqb n r) s.event)
occurs c (special_of t) = some_step c (specialises_into c.schema.types t anyone)
occurs c (general_of t) = some_step c (generalises_from c.schema.types t anyone)

-- "The rules a batch touches": a listed event type occurs.
unfoldable pub touched : Change → Rule → Bool
touched c r = any (occurs c) (event_list c.schema r)
