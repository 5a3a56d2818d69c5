-- Document 01, "Reach rules", read backward: the ids at which a variable of a form can stand when the form moves. It is what the code covers with sets of
-- rows; a candidate more than needed does no harm, since each is tested by the forward rule.
use Rattle.std.specs.Prelude.{ℕ, suc, ◌+◌, ◌-◌, ◌<◌, ◌≡◌, Bool, true, false, ◌&&◌, ◌||◌, cond, List, eqb}
use Rattle.meaning.specs.Lists.{any}
use Rattle.meaning.specs.Schema.{forward}
use Rattle.meaning.specs.Register.{instances, far_ends}
use Rattle.meaning.specs.Forms.{Sort, collection, Form, compare, negate, connect, quantify, kind, num, cell, size, sum, combine, role, all, select, Rule}
use Rattle.tables.specs.Bodies.{BodyRow, Part, part, as_collection, ending}
use Rattle.directions.specs.Sets.{some_of}
use Rattle.walks.specs.Site.{id_in}
use Rattle.row_sets.specs.Sets.{Sets, in_set}
use Rattle.meaning.specs.Reach.{Change, Direction, down, through, left_of, right_of, negated, first_truth, second_truth, source_of, at_member, counted, chosen_from, first_term, second_term, sum_source, floored_sum, role_moves, all_moves, cell_moves, kind_moves, brought_in}

-- With u for variable v, the collection below its selects has a member in the set. Over all objects of a type this does not depend on v and u.
unfoldable pub leads_into : Change → Form collection → (ℕ → Bool) → (v u : ℕ) → Bool
leads_into c (role w r) set v u = eqb v w && any set (far_ends c.end r u)
leads_into c (all t) set v u = any set (instances c.schema.types c.end t)
leads_into c (select k b) set v u = leads_into c k set v u

-- What is reached through the second part of a form over a collection: by a variable around it, or by the new variable n, whose members lead back.
abbrev pub through_members : Change → Form collection → ℕ → (ℕ → ℕ → Bool) → (v u : ℕ) → Bool
through_members c k n body v u = body v u || leads_into c k (body n) v u

-- u, as variable v of the n in scope, is reached from a movement of the form in a direction.
unfoldable pub reached : {s : Sort} → Change → Form s → (n v u : ℕ) → Direction → Bool
reached c (compare o a b) n v u d = through ◌||◌ (left_of o) (reached c a n v u) d || through ◌||◌ (right_of o) (reached c b n v u) d
reached c (negate a) n v u d = through ◌||◌ negated (reached c a n v u) d
reached c (connect o a b) n v u d = through ◌||◌ (first_truth o) (reached c a n v u) d || through ◌||◌ (second_truth o) (reached c b n v u) d
reached c (quantify q k b) n v u d =
    through ◌||◌ (source_of q) (reached c k n v u) d || through_members c k n (λ w x. through ◌||◌ at_member (reached c b (suc n) w x) d) v u
reached c (kind w t) n v u d = eqb v w && kind_moves c u t d
reached c (num z) n v u d = false
reached c (cell w k) n v u d = eqb v w && cell_moves c u k
reached c (size k) n v u d = through ◌||◌ counted (reached c k n v u) d
reached c (sum k j) n v u d =
    through ◌||◌ (sum_source (floored_sum c.schema k j)) (reached c k n v u) d || leads_into c k (λ x. cell_moves c x j) v u
reached c (combine o a b) n v u d = through ◌||◌ (first_term o) (reached c a n v u) d || through ◌||◌ (second_term o) (reached c b n v u) d
reached c (role w r) n v u d = eqb v w && role_moves c r u d
reached c (all t) n v u d = all_moves c t d
reached c (select k b) n v u d =
    through ◌||◌ chosen_from (reached c k n v u) d || through_members c k n (λ w x. through ◌||◌ at_member (reached c b (suc n) w x) d) v u

-- a form of any sort
unfoldable pub part_reached : Change → Part → (n v u : ℕ) → Direction → Bool
part_reached c (part s f) n v u d = reached c f n v u d

-- from a movement in some direction of a set
abbrev pub reached_by : Change → Part → (n set v u : ℕ) → Bool
reached_by c p n set v u = some_of set (part_reached c p n v u)

-- a row without parts, by its code and its first two fields: kind, all, role and cell; a num never moves
unfoldable pub leaf_reached : Change → (code x y v u : ℕ) → Direction → Bool
leaf_reached c code x y v u d =
    cond (eqb code 13) (eqb v x && kind_moves c u y d)
    (cond (eqb code 21) (all_moves c x d)
    (cond (eqb code 20) (eqb v x && role_moves c y u d)
    (cond (eqb code 15) (eqb v x && cell_moves c u y) false)))

-- an object at which the forward rule is asked: one that is reached from a fall of the body, or that was brought in
unfoldable pub candidate : Change → Rule → ℕ → Bool
candidate c r s = reached c r.body 1 0 s down || brought_in c r s

-- Everything is reached; or of each of the first `depth` variables the rows that are reached are in its set.
pub record Covered (reach : (v u : ℕ) → Bool) (objects : List ℕ) (rows depth : ℕ) (everything : Bool) (sets : Sets) : Type 0 where
  pub each : everything ≡ false → (v : ℕ) → v < depth → (row : ℕ) → row < rows → reach v (id_in objects row) ≡ true → in_set sets v row ≡ true

-- "Role 2r goes from source to target of relationship r, role 2r + 1 back": the role turned round
abbrev pub turned : ℕ → ℕ
turned r = cond (forward r) (r + 1) (r - 1)

-- the collection below the selects of a collection
unfoldable pub base_of : Form collection → Form collection
base_of (role v r) = role v r
base_of (all t) = all t
base_of (select k b) = base_of k

-- the row of the collection below the selects of the one that ends before row e
pub record BaseRow (rows : ℕ → BodyRow) (e row : ℕ) : Type 0 where
  pub below : row < e
  pub when_all : (rows row).code ≡ 21 → base_of (as_collection (ending rows e).form) ≡ all (rows row).x
  pub when_role : ((rows row).code ≡ 21 → ⊥) → base_of (as_collection (ending rows e).form) ≡ role (rows row).x (rows row).y
