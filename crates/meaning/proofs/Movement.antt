-- The induction over forms, once for all sorts and both directions: a form that the reach rules do not move in a direction has
-- a value at the end that has not moved in that direction. What a batch gives at the leaves (role, all, cell, kind) is assumed
-- here, as `Leaves`.
use Prim.Native.Nat.{ℕ, ◌<◌}
use mathlib.Core.Path.{◌≡◌, refl, subst}
use mathlib.Core.Bool.{Bool, not, ◌||◌, ◌&&◌}
use mathlib.Core.List.{List}
use lib.Dec.{T, ltb, ltb→lt}
use lib.IntN.{ℤ, pos}
use lib.Signed.{◌≤ℤ◌, ≤ℤ_refl}
use lib.ListN.{length}
use mir.Facts.{and_yes, or_no}
use Rattle.meaning.specs.Lists.{any, ◌∈◌}
use Rattle.meaning.specs.Schema.{ObjectType, Relationship, Schema, cells_of, under, floored, known_type, known_role, near_type, far_type}
use Rattle.meaning.specs.Register.{Register, is_under, cell_at, instances, far_ends}
use Rattle.meaning.specs.Forms.{Sort, truth, number, collection, Form, compare, negate, connect, quantify, kind, num, cell, size, sum, combine, role, all, select, bind, variable, member_type, well_typed}
use Rattle.meaning.specs.Meaning.{Value, meaning}
use Rattle.meaning.specs.Reach.{Change, Direction, up, down, opposite, Passing, same, reversed, either, through, left_of, right_of, first_truth, second_truth, source_of, chosen_from, first_term, second_term, sum_source, floored_sum, role_moves, all_moves, cell_moves, kind_moves, moves}
use Rattle.meaning.proofs.Lists.{any_none, keep_from}
use Rattle.meaning.proofs.Variables.{Each, each_at, each_bind}
use Rattle.meaning.proofs.Registers.{RegisterFits}
use Rattle.meaning.specs.Unmoved.{Unmoved, Through}
use Rattle.meaning.proofs.Monotone.{through_none, connective_unmoved, negation_unmoved, arithmetic_unmoved, quantifier_unmoved, select_unmoved, size_unmoved, sum_unmoved}
use Rattle.meaning.proofs.Comparisons.{comparison_unmoved}
use Rattle.meaning.proofs.Collections.{gathered, member_under, members_ascend}

-- A collection that is not moved in a direction, and whose members before and after are kept in type t.
abbrev pub UnmovedKept : (ℕ → ℕ → Type 0) → ℕ → Direction → List ℕ → List ℕ → Type 0
UnmovedKept Kept t d l l' = Unmoved collection d l l' × ((x : ℕ) → x ∈ l → x ∈ l' → Kept x t)

-- What the induction asks of a change from a register `first`. `Kept x t`: the object x was in type t all the while.
pub record Leaves (c : Change) (first : Register) (Kept : ℕ → ℕ → Type 0) : Type 0 where
  pub first_fits : RegisterFits c.schema first
  pub end_fits : RegisterFits c.schema c.end
  pub role_unmoved : (d : Direction) (x t r : ℕ) → Kept x t → T (under c.schema.types t (near_type c.schema.relationships r)) → T (not (role_moves c r x d)) → UnmovedKept Kept (far_type c.schema.relationships r) d (far_ends first r x) (far_ends c.end r x)
  pub all_unmoved : (d : Direction) (t : ℕ) → T (not (all_moves c t d)) → UnmovedKept Kept t d (instances c.schema.types first t) (instances c.schema.types c.end t)
  pub cell_unmoved : (x t k : ℕ) → Kept x t → k < cells_of c.schema.types t → T (not (cell_moves c x k)) → cell_at first x k ≡ cell_at c.end x k
  pub floor_before : (x t k : ℕ) → T (is_under c.schema.types first x t) → T (floored c.schema.types c.schema.floors t k) → pos 0 ≤ℤ cell_at first x k
  pub floor_at_end : (x t k : ℕ) → T (is_under c.schema.types c.end x t) → T (floored c.schema.types c.schema.floors t k) → pos 0 ≤ℤ cell_at c.end x k
  pub kind_unmoved : (d : Direction) (x u t : ℕ) → Kept x u → T (not (kind_moves c x t d)) → Unmoved truth d (is_under c.schema.types first x t) (is_under c.schema.types c.end x t)

-- ---- what passes through a part

-- a fact that does not depend on the direction is known of any part
either_way_lem : (p : Passing) (A : Direction → Type 0) (B : Type 0) (d : Direction) → Through p (λ e. A e × B) d → Through p A d × B
either_way_lem same A B d h = h
either_way_lem reversed A B d h = h
either_way_lem either A B d h = ((h.0.0, h.1.0), h.0.1)

-- a form of two parts that does not move
two_parts_lem : (p q : Passing) (m m' : Direction → Bool) (P Q : Direction → Type 0) (d : Direction) → ((e : Direction) → T (not (m e)) → P e) → ((e : Direction) → T (not (m' e)) → Q e) → T (not (through ◌||◌ p m d || through ◌||◌ q m' d)) → Through p P d × Through q Q d
two_parts_lem p q m m' P Q d f f' n =
    let ns = or_no (through ◌||◌ p m d) (through ◌||◌ q m' d) n in
    (through_none p m P d f ns.0, through_none q m' Q d f' ns.1)

-- a form over a collection that does not move, neither through the collection nor at a member of it at the end
part_and_members : (p : Passing) (m : Direction → Bool) (P : Direction → Type 0) (B : Type 0) (at : ℕ → Bool) (l : List ℕ) (d : Direction) → ((e : Direction) → T (not (m e)) → P e × B) → T (not (through ◌||◌ p m d || any at l)) → (Through p P d × B) × ((x : ℕ) → x ∈ l → T (not (at x)))
part_and_members p m P B at l d f n =
    let ns = or_no (through ◌||◌ p m d) (any at l) n in
    (either_way_lem p P B d (through_none p m (λ e. P e × B) d f ns.0), λ x i. any_none at ns.1 i)

equal_unmoved : (d : Direction) (a b : ℤ) → a ≡ b → Unmoved number d a b
equal_unmoved up a b e = subst (λ z. Unmoved number up a z) e (≤ℤ_refl a)
equal_unmoved down a b e = subst (λ z. Unmoved number down a z) e (≤ℤ_refl a)

module _ (c : Change) (first : Register) (Kept : ℕ → ℕ → Type 0) (leaves : Leaves c first Kept) where
  abbrev S : Schema
  S = c.schema

  abbrev types : List ObjectType
  types = S.types

  abbrev relationships : List Relationship
  relationships = S.relationships

  -- a form's value before and at the end
  abbrev was : {s : Sort} → Form s → List ℕ → Value s
  was f vs = meaning types first f vs

  abbrev now : {s : Sort} → Form s → List ℕ → Value s
  now f vs = meaning types c.end f vs

  -- what is claimed of a form that is not moved in direction d
  abbrev Claim : (s : Sort) → Form s → List ℕ → Direction → Type 0
  Claim truth f vs d = Unmoved truth d (was f vs) (now f vs)
  Claim number f vs d = Unmoved number d (was f vs) (now f vs)
  Claim collection f vs d = UnmovedKept Kept (member_type relationships f) d (was f vs) (now f vs)

  -- a form over a collection that does not move
  over_members : (p : Passing) (e : Form collection) (vs : List ℕ) (at : ℕ → Bool) (d : Direction)
      → ((d' : Direction) → T (not (moves c e vs d')) → Claim collection e vs d')
      → T (not (through ◌||◌ p (moves c e vs) d || any at (now e vs)))
      → (Through p (λ d'. Unmoved collection d' (was e vs) (now e vs)) d
      × ((x : ℕ) → x ∈ was e vs → x ∈ now e vs → Kept x (member_type relationships e)))
      × ((x : ℕ) → x ∈ now e vs → T (not (at x)))
  over_members p e vs at d f n = part_and_members p (moves c e vs) _ _ at (now e vs) d f n

  pub unmoved : {s : Sort} (f : Form s) (ts vs : List ℕ) → T (well_typed S ts f) → Each Kept vs ts → (d : Direction) → T (not (moves c f vs d)) → Claim s f vs d
  unfolding moves meaning well_typed member_type
  unmoved (compare o a b) ts vs w k d n =
      let ws = and_yes (well_typed S ts a) (well_typed S ts b) w in
      let h = two_parts_lem (left_of o) (right_of o) (moves c a vs) (moves c b vs) (Claim number a vs) (Claim number b vs) d (unmoved a ts vs ws.0 k) (unmoved b ts vs ws.1 k) n in
      comparison_unmoved o d _ _ _ _ h.0 h.1
  unmoved (negate a) ts vs w k d n = negation_unmoved d _ _ (unmoved a ts vs w k (opposite d) n)
  unmoved (connect o a b) ts vs w k d n =
      let ws = and_yes (well_typed S ts a) (well_typed S ts b) w in
      let h = two_parts_lem (first_truth o) (second_truth o) (moves c a vs) (moves c b vs) (Claim truth a vs) (Claim truth b vs) d (unmoved a ts vs ws.0 k) (unmoved b ts vs ws.1 k) n in
      connective_unmoved o d _ _ _ _ h.0 h.1
  unmoved (quantify q e b) ts vs w k d n =
      let ws = and_yes (well_typed S ts e) (well_typed S (bind ts (member_type relationships e)) b) w in
      let h = over_members (source_of q) e vs (λ x. moves c b (bind vs x) d) d (unmoved e ts vs ws.0 k) n in
      quantifier_unmoved q d _ _ _ _ h.0.0 (λ x m m'. unmoved b (bind ts (member_type relationships e)) (bind vs x) ws.1 (each_bind Kept vs ts x (member_type relationships e) k (h.0.1 x m m')) d (h.1 x m'))
  unmoved (kind v t) ts vs w k d n =
      let ws = and_yes (ltb v (length ts)) (known_type types t) w in
      leaves.kind_unmoved d (variable vs v) (variable ts v) t (each_at Kept vs ts k v (ltb→lt v (length ts) ws.0)) n
  unmoved (num z) ts vs w k d n = equal_unmoved d z z refl
  unmoved (cell v j) ts vs w k d n =
      let ws = and_yes (ltb v (length ts)) (ltb j (cells_of types (variable ts v))) w in
      equal_unmoved d _ _ (leaves.cell_unmoved (variable vs v) (variable ts v) j (each_at Kept vs ts k v (ltb→lt v (length ts) ws.0)) (ltb→lt j (cells_of types (variable ts v)) ws.1) n)
  unmoved (size e) ts vs w k d n =
      size_unmoved d _ _ (members_ascend types first (gathered S first leaves.first_fits) e vs) (members_ascend types c.end (gathered S c.end leaves.end_fits) e vs) (unmoved e ts vs w k d n).0
  unmoved (sum e j) ts vs w k d n =
      let ws = and_yes (well_typed S ts e) (ltb j (cells_of types (member_type relationships e))) w in
      let floor = floored_sum S e j in
      let h = over_members (sum_source floor) e vs (λ x. cell_moves c x j) d (unmoved e ts vs ws.0 k) n in
      sum_unmoved floor d _ _ _ _ (members_ascend types first (gathered S first leaves.first_fits) e vs) (members_ascend types c.end (gathered S c.end leaves.end_fits) e vs) h.0.0
      (λ f x m. leaves.floor_before x (member_type relationships e) j (member_under S first leaves.first_fits e vs x m) f)
      (λ f x m. leaves.floor_at_end x (member_type relationships e) j (member_under S c.end leaves.end_fits e vs x m) f)
      (λ x m m'. leaves.cell_unmoved x (member_type relationships e) j (h.0.1 x m m') (ltb→lt j (cells_of types (member_type relationships e)) ws.1) (h.1 x m'))
  unmoved (combine o a b) ts vs w k d n =
      let ws = and_yes (well_typed S ts a) (well_typed S ts b) w in
      let h = two_parts_lem (first_term o) (second_term o) (moves c a vs) (moves c b vs) (Claim number a vs) (Claim number b vs) d (unmoved a ts vs ws.0 k) (unmoved b ts vs ws.1 k) n in
      arithmetic_unmoved o d _ _ _ _ h.0 h.1
  unmoved (role v r) ts vs w k d n =
      let ws = and_yes (ltb v (length ts) && known_role relationships r) (under types (variable ts v) (near_type relationships r)) w in
      leaves.role_unmoved d (variable vs v) (variable ts v) r (each_at Kept vs ts k v (ltb→lt v (length ts) (and_yes (ltb v (length ts)) (known_role relationships r) ws.0).0)) ws.1 n
  unmoved (all t) ts vs w k d n = leaves.all_unmoved d t n
  unmoved (select e b) ts vs w k d n =
      let ws = and_yes (well_typed S ts e) (well_typed S (bind ts (member_type relationships e)) b) w in
      let h = over_members chosen_from e vs (λ x. moves c b (bind vs x) d) d (unmoved e ts vs ws.0 k) n in (
        select_unmoved d _ _ _ _ h.0.0 (λ x m m'. unmoved b (bind ts (member_type relationships e)) (bind vs x) ws.1 (each_bind Kept vs ts x (member_type relationships e) k (h.0.1 x m m')) d (h.1 x m')),
        λ x m m'. h.0.1 x (keep_from _ _ m).0 (keep_from _ _ m').0,
      )
