-- Theorem 2: the events of a batch select no pair of a rule none of whose listed event types occurs. A rule's event list ascends.
use Prim.Native.Nat.{ℕ}
use mathlib.Core.Path.{◌≡◌, refl, sym, ap, subst, ◌∙◌}
use mathlib.Core.Logic.{◌⊎◌, inl, inr, ⊎_elim}
use mathlib.Core.Bool.{Bool, false, ◌&&◌, ◌||◌, not, cond}
use mathlib.Core.List.Memᴰ
use mathlib.Core.List.{List, [], ◌∷◌, ◌++◌, foldr}
use lib.Dec.{T, ltb, eqb}
use lib.ListN.{length, get_or}
use mir.Facts.{and_yes, or_yes, T_not, not_T, eqb_yes, ltb_yes}
use Rattle.meaning.specs.Lists.{any, put_in_order, ◌∈◌, Ascending, Before}
use Rattle.meaning.specs.Schema.{ObjectType, Relationship, Schema, cells_of, has_parent, under, relationship_of, far_type}
use Rattle.meaning.specs.Register.{Link, Register, object_at, is_under, near_end, far_end, starts_at, has_link}
use Rattle.meaning.specs.Forms.{Sort, truth, collection, Form, compare, negate, connect, quantify, kind, num, cell, size, sum, combine, role, all, select, bind, variable, member_type, well_typed, Rule}
use Rattle.meaning.specs.Meaning.{meaning}
use Rattle.meaning.specs.Events.{Event, insert, delete, set, join, part, special, general, link_of, strictly_above, strictly_under}
use Rattle.meaning.specs.Reach.{Step, step_at, Change, some_step, Kind, inserts, sets, joins, parts, specials, generals, among, part_named, leads_to, taken, sets_cell, inserts_into, specialises_into, deletes_from, generalises_from, anyone, Direction, up, down, opposite, Passing, same}
use Rattle.meaning.specs.Reach.{reversed, either, through, left_of, right_of, negated, first_truth, second_truth, source_of, chosen_from, first_term, second_term, sum_source, floored_sum, role_moves, all_moves, cell_moves, kind_moves, moves}
use Rattle.meaning.specs.Reach.{quiet_insert, quiet_special, inserted, specialised, brought_in, events_select, inspection, selected}
use Rattle.meaning.specs.EventList.{EventType, insert_of, delete_of, set_of, join_of, part_of, special_of, general_of, event_type_words, where_parent, role_lists, all_lists, kind_lists, lists, context_lists, event_list, occurs, touched}
use Rattle.meaning.proofs.Lists.{holds_some, or_left, or_right, decide, cond_yes, cond_no, any_of, any_cases, keep_from}
use Rattle.meaning.proofs.Order.{put_other, put_has, put_ascending}
use Rattle.meaning.proofs.Schemas.{TypesFit, under_refl, under_linear, under_top}
use Rattle.meaning.proofs.Variables.{Each, each_at, each_bind}
use Rattle.meaning.proofs.Effects.{EventFits}
use Rattle.meaning.proofs.Steps.{among_map, among_whom, holds_at, some_map, StepsFit}
use Rattle.meaning.proofs.Registers.{RegisterFits, instance_from, link_has, far_from, far_under}

-- ---- a special or a general does not enter or leave a type without a parent

module _ (types : List ObjectType) (fits : TypesFit types) where
  -- Above w there are a and t, and a is not under t: so t is under a, and not a itself.
  has_parent_lem : (w a t : ℕ) → T (under types w a) → T (under types w t) → T (not (under types a t)) → T (has_parent types t)
  has_parent_lem w a t p q n =
      ⊎_elim (λ h. h)
      (λ top. absurd (T_not (under types a t) (below top (under_linear types fits w a t p q)) n))
      (decide (has_parent types t))
    where
      below : T (not (has_parent types t)) → T (under types a t) ⊎ T (under types t a) → T (under types a t)
      below top (inl h) = h
      below top (inr h) = subst (λ x. T (under types x t)) (under_top types fits t a top h) (under_refl types t)

module _ (S : Schema) (fits : TypesFit S.types) (t : ℕ) (g : Register) where
  special_parent : (e : Event) → EventFits S g e → T (specialises_into S.types t anyone (step_at g e)) → T (has_parent S.types t)
  unfolding strictly_above is_under
  special_parent (insert id u) f h = absurd h
  special_parent (delete id) f h = absurd h
  special_parent (set id k v) f h = absurd h
  special_parent (join r a b) f h = absurd h
  special_parent (part r a b) f h = absurd h
  special_parent (special id u) f h =
      let r = and_yes (under S.types u t) (not (is_under S.types g id t)) h in
      let o = holds_some (λ o. under S.types u o.type && not (eqb u o.type)) (object_at g id) f in
      let w = o.0.type in
      has_parent_lem S.types fits u w t (and_yes (under S.types u w) (not (eqb u w)) o.2).0 r.0 (rw o.1 at r.1)
  special_parent (general id u) f h = absurd h

  general_parent : (e : Event) → EventFits S g e → T (generalises_from S.types t anyone (step_at g e)) → T (has_parent S.types t)
  unfolding strictly_under is_under
  general_parent (insert id u) f h = absurd h
  general_parent (delete id) f h = absurd h
  general_parent (set id k v) f h = absurd h
  general_parent (join r a b) f h = absurd h
  general_parent (part r a b) f h = absurd h
  general_parent (special id u) f h = absurd h
  general_parent (general id u) f h =
      let r = and_yes (is_under S.types g id t) (not (under S.types u t)) h in
      let o = holds_some (λ o. under S.types o.type u && not (eqb u o.type)) (object_at g id) f in
      let w = o.0.type in
      has_parent_lem S.types fits w u t (and_yes (under S.types w u) (not (eqb u w)) o.2).0 (rw o.1 at r.0) r.1

-- ---- the values of the variables, by their types

-- each variable is under its type
abbrev Typed : List ObjectType → Register → List ℕ → List ℕ → Type 0
Typed types g = Each (λ x t. T (is_under types g x t))

module _ (S : Schema) (g : Register) where
  pub member_under : RegisterFits S g → (k : Form collection) (vs : List ℕ) (x : ℕ) → x ∈ meaning S.types g k vs → T (is_under S.types g x (member_type S.relationships k))
  unfolding meaning member_type
  member_under f (role v r) vs x m =
      let l = far_from g r (variable vs v) x m in
      rw l.3 (far_under S g f r (variable vs v) l.0 l.1 l.2)
  member_under f (all t) vs x m = instance_from S.types g f.objects_ascend x t m
  member_under f (select k b) vs x m = member_under f k vs x (keep_from (λ y. meaning S.types g b (bind vs y)) (meaning S.types g k vs) m).0

-- ---- the event list

-- the event type of three words: no two have the same
of_words : List ℕ → EventType
of_words w =
    let t = get_or w 1 0 in
    let kinds = insert_of t ∷ delete_of t ∷ set_of t (get_or w 2 0) ∷ join_of t ∷ part_of t ∷ special_of t ∷ general_of t ∷ [] in
    get_or kinds (get_or w 0 0) (insert_of t)

of_words_lem : (e : EventType) → of_words (event_type_words e) ≡ e
unfolding of_words event_type_words
of_words_lem (insert_of t) = refl
of_words_lem (delete_of t) = refl
of_words_lem (set_of t k) = refl
of_words_lem (join_of r) = refl
of_words_lem (part_of r) = refl
of_words_lem (special_of t) = refl
of_words_lem (general_of t) = refl

pub three_words : (e : EventType) → length (event_type_words e) ≡ 3
unfolding event_type_words
three_words (insert_of t) = refl
three_words (delete_of t) = refl
three_words (set_of t k) = refl
three_words (join_of r) = refl
three_words (part_of r) = refl
three_words (special_of t) = refl
three_words (general_of t) = refl

placed_ascends : (l : List EventType) → Ascending (Before event_type_words) (foldr (put_in_order event_type_words) [] l)
placed_ascends [] = tt
placed_ascends (x ∷ xs) = put_ascending event_type_words 3 three_words x (foldr (put_in_order event_type_words) [] xs) (placed_ascends xs)

placed : {e : EventType} {l : List EventType} → e ∈ l → e ∈ foldr (put_in_order event_type_words) [] l
placed {e} (Memᴰ.head {x = x} {xs = xs} q) =
    let z = put_has event_type_words 3 three_words x (foldr (put_in_order event_type_words) [] xs) in
    Memᴰ.cast (q ∙ sym (of_words_lem x) ∙ ap of_words (sym z.2) ∙ of_words_lem z.0) z.1
placed (Memᴰ.tail {x = x} {xs = xs} m) = put_other event_type_words x (foldr (put_in_order event_type_words) [] xs) (placed m)

pub event_list_ascends : (S : Schema) (r : Rule) → Ascending (Before event_type_words) (event_list S r)
unfolding event_list
event_list_ascends S r = placed_ascends (lists S r.body (r.context ∷ []) down ++ context_lists S r)

-- ---- theorem 2

starts_relationship : (r u : ℕ) (l : Link) → T (starts_at r u l) → T (eqb l.relationship (relationship_of r))
starts_relationship r u l t = (and_yes (eqb l.relationship (relationship_of r)) (eqb (near_end r l) u) t).0

module _ (c : Change) where
  abbrev S : Schema
  S = c.schema

  abbrev types : List ObjectType
  types = S.types

  abbrev relationships : List Relationship
  relationships = S.relationships

  -- some event type of the list occurs
  abbrev occur : List EventType → Bool
  occur = any (occurs c)

  occur_either : (a b : Bool) (l k : List EventType) → (T a → T (occur l)) → (T b → T (occur k)) → T (a || b) → T (occur (l ++ k))
  occur_either a b l k f g t = step (or_yes a b t)
    where
      step : T a ⊎ T b → T (occur (l ++ k))
      step (inl u) = let e = any_cases (occurs c) l (f u) in any_of (occurs c) (Memᴰ.append_left k e.1) e.2
      step (inr u) = let e = any_cases (occurs c) k (g u) in any_of (occurs c) (Memᴰ.append_right l e.1) e.2

  one_listed : (e : EventType) → T (occurs c e) → T (occur (e ∷ []))
  one_listed e = or_left (occurs c e) false

  where_parent_lem : (t : ℕ) (e : EventType) → T (has_parent types t) → T (occurs c e) → T (occur (where_parent S t e))
  unfolding where_parent
  where_parent_lem t e h o = rw (cond_yes (has_parent types t) (e ∷ []) [] h) (one_listed e o)

  -- ---- steps

  step_of : (did : Step → Bool) → T (some_step c did) → (s : Step) × s ∈ c.steps × T (did s)
  unfolding some_step
  step_of did = any_cases did c.steps

  some_step_lem : (did : Step → Bool) {s : Step} → s ∈ c.steps → T (did s) → T (some_step c did)
  unfolding some_step
  some_step_lem did m h = any_of did m h

  some_either : (a b : Step → Bool) → T (some_step c (λ s. a s || b s)) → T (some_step c a || some_step c b)
  unfolding some_step
  some_either a b t =
      let s = step_of (λ s. a s || b s) t in
      ⊎_elim (λ h. or_left (some_step c a) (some_step c b) (any_of a s.1 h)) (λ h. or_right (some_step c a) (some_step c b) (any_of b s.1 h))
      (or_yes (a s.0) (b s.0) s.2)

  -- what some event of the kind did to an object, some event of the kind did
  some_anyone : (which : Kind) (did : Step → ℕ → ℕ → ℕ → Bool) (whom : ℕ → Bool) → T (some_step c (λ s. among which (λ x y z. whom x && did s x y z) s.event)) → T (some_step c (λ s. among which (did s) s.event))
  some_anyone which did whom = some_map c _ _ (λ s. among_map which _ _ (λ x y z t. (and_yes (whom x) (did s x y z) t).1) s.event)

  -- ---- what moves a cell is listed

  cell_listed : (u t k : ℕ) → T (is_under types c.end u t) → T (cell_moves c u k) → T (occurs c (set_of t k))
  unfolding cell_moves occurs
  cell_listed u t k h =
      let there : ℕ → Bool = λ x. is_under types c.end x t in
      some_map c (sets_cell (eqb u) k) (sets_cell there k) (λ s. among_whom sets (λ x' x'' x3. eqb x'' k) (eqb u) there (holds_at there u h) s.event)

  -- ---- what moves a form is listed, by what moves its parts

  -- by the ids and the types of the variables
  abbrev Listed : {s : Sort} → Form s → List ℕ → List ℕ → Type 0
  Listed f vs ts = (d : Direction) → T (moves c f vs d) → T (occur (lists S f ts d))

  through_listed : {s : Sort} (x : Passing) (f : Form s) (vs ts : List ℕ) → Listed f vs ts → (d : Direction) → T (through ◌||◌ x (moves c f vs) d) → T (occur (through ◌++◌ x (lists S f ts) d))
  through_listed same f vs ts h d = h d
  through_listed reversed f vs ts h d = h (opposite d)
  through_listed either f vs ts h d = occur_either (moves c f vs up) (moves c f vs down) (lists S f ts up) (lists S f ts down) (h up) (h down)

  -- a form of two parts
  parts_listed : {s u : Sort} (x y : Passing) (a : Form s) (b : Form u) (vs ts : List ℕ)
      → (T (well_typed S ts a) → Listed a vs ts)
      → (T (well_typed S ts b) → Listed b vs ts)
      → T (well_typed S ts a && well_typed S ts b)
      → (d : Direction)
      → T (through ◌||◌ x (moves c a vs) d || through ◌||◌ y (moves c b vs) d)
      → T (occur (through ◌++◌ x (lists S a ts) d ++ through ◌++◌ y (lists S b ts) d))
  parts_listed x y a b vs ts f g w d =
      let typed = and_yes (well_typed S ts a) (well_typed S ts b) w in
      occur_either (through ◌||◌ x (moves c a vs) d) (through ◌||◌ y (moves c b vs) d) (through ◌++◌ x (lists S a ts) d) (through ◌++◌ y (lists S b ts) d)
      (through_listed x a vs ts (f typed.0) d) (through_listed y b vs ts (g typed.1) d)

  -- ---- selection

  -- an inspection, and a batch with events
  pub inspection_selects : T (inspection c) → (r : Rule) (s : ℕ) → selected c r s ≡ is_under types c.end s r.context
  unfolding selected
  inspection_selects empty r s = cond_yes (inspection c) (is_under types c.end s r.context) (events_select c r s) empty

  pub others_select : T (not (inspection c)) → (r : Rule) (s : ℕ) → selected c r s ≡ events_select c r s
  unfolding selected
  others_select events r s = cond_no (inspection c) (is_under types c.end s r.context) (events_select c r s) events

  pub selecting_cases : (r : Rule) (s : ℕ) → T (events_select c r s) → T (is_under types c.end s r.context) × T (moves c r.body (s ∷ []) down || brought_in c r s)
  unfolding events_select
  selecting_cases r s = and_yes (is_under types c.end s r.context) (moves c r.body (s ∷ []) down || brought_in c r s)

  module _ (types_fit : TypesFit types) (end_fits : RegisterFits S c.end) (steps_fit : StepsFit c) where
    special_listed : (t : ℕ) → T (occurs c (special_of t)) → T (occur (where_parent S t (special_of t)))
    unfolding occurs
    special_listed t h =
        let s = step_of (specialises_into types t anyone) h in
        where_parent_lem t (special_of t) (special_parent S types_fit t s.0.met s.0.event (steps_fit s.0 s.1).0 s.2) h

    general_listed : (t : ℕ) → T (occurs c (general_of t)) → T (occur (where_parent S t (general_of t)))
    unfolding occurs
    general_listed t h =
        let s = step_of (generalises_from types t anyone) h in
        where_parent_lem t (general_of t) (general_parent S types_fit t s.0.met s.0.event (steps_fit s.0 s.1).0 s.2) h

    -- a delete that takes a link of a role takes an object out of the role's far type
    taken_out : (r u : ℕ) (s : Step) → RegisterFits S s.met → (e : Event) → T (taken r u (step_at s.met e)) → T (deletes_from types (far_type relationships r) anyone (step_at s.met e))
    unfolding has_link
    taken_out r u s f (insert id t) h = absurd h
    taken_out r u s f (delete id) h =
        let l = any_cases (leads_to r u id) s.met.links h in
        let leads = (and_yes (not (eqb u id)) _ l.2).1 in
        let at = and_yes (starts_at r u l.0) (eqb (far_end r l.0) id) leads in
        subst (λ x. T (is_under types s.met x (far_type relationships r))) (eqb_yes at.1) (far_under S s.met f r u l.0 (link_has s.met l.0 l.1) at.0)
    taken_out r u s f (set id k v) h = absurd h
    taken_out r u s f (join q a b) h = absurd h
    taken_out r u s f (part q a b) h = absurd h
    taken_out r u s f (special id t) h = absurd h
    taken_out r u s f (general id t) h = absurd h

    role_listed : (r u : ℕ) (d : Direction) → T (role_moves c r u d) → T (occur (role_lists S r d))
    unfolding role_moves role_lists occurs
    role_listed r u up h =
        any_of (occurs c) {l = role_lists S r up} (Memᴰ.head refl)
        (some_map c _ _
        (λ s. among_map joins _ _ (λ n a b t. starts_relationship r u (link_of n a b) (and_yes (starts_at r u (link_of n a b)) (has_link c.end (link_of n a b)) t).0) s.event) h)
    role_listed r u down h =
        ⊎_elim
        (λ p.
        any_of (occurs c) {l = role_lists S r down} (Memᴰ.head refl)
        (some_map c _ _ (λ s. among_map parts _ _ (λ n a b. starts_relationship r u (link_of n a b)) s.event) p))
        (λ p.
        let s = step_of (taken r u) p in
        any_of (occurs c) {l = role_lists S r down} (Memᴰ.tail (Memᴰ.head refl))
        (some_step_lem (deletes_from types (far_type relationships r) anyone) s.1 (taken_out r u s.0 (steps_fit s.0 s.1).1 s.0.event s.2)))
        (or_yes (some_step c (part_named r u)) (some_step c (taken r u)) (some_either (part_named r u) (taken r u) h))

    all_listed : (t : ℕ) (d : Direction) → T (all_moves c t d) → T (occur (all_lists S t d))
    unfolding all_moves all_lists occurs
    all_listed t up h =
        let there : ℕ → Bool = λ x. is_under types c.end x t in
        occur_either (some_step c (inserts_into types t there)) (some_step c (specialises_into types t there)) (insert_of t ∷ []) (where_parent S t (special_of t))
        (λ i. one_listed (insert_of t) (some_anyone inserts (λ x' x'' x3 x4. under types x3 t) there i)) (λ i. special_listed t (some_anyone specials (λ x' x'' x3 x4. under types x3 t && not (is_under types x'.met x'' t)) there i))
        (some_either (inserts_into types t there) (specialises_into types t there) h)
    all_listed t down h =
        occur_either (occurs c (delete_of t)) (occurs c (general_of t)) (delete_of t ∷ []) (where_parent S t (general_of t))
        (one_listed (delete_of t)) (general_listed t)
        (some_either (deletes_from types t anyone) (generalises_from types t anyone) h)

    kind_listed : (u t : ℕ) (d : Direction) → T (kind_moves c u t d) → T (occur (kind_lists S t d))
    unfolding kind_moves specialised kind_lists occurs
    kind_listed u t up h = special_listed t (some_anyone specials (λ x' x'' x3 x4. under c.schema.types x3 t && not (is_under c.schema.types x'.met x'' t)) (eqb u) (and_yes (specialised c u t) (is_under types c.end u t) h).0)
    kind_listed u t down h = general_listed t (some_anyone generals (λ x' x'' x3 x4. is_under c.schema.types x'.met x'' t && not (under c.schema.types x3 t)) (eqb u) h)

    -- a form over a collection: by the collection, or at one of its members
    members_listed : (x : Passing) (k : Form collection) (vs ts : List ℕ) (m : ℕ → Bool) (l : List EventType)
        → Listed k vs ts
        → ((u : ℕ) → T (is_under types c.end u (member_type relationships k)) → T (m u) → T (occur l))
        → (d : Direction)
        → T (through ◌||◌ x (moves c k vs) d || any m (meaning types c.end k vs))
        → T (occur (through ◌++◌ x (lists S k ts) d ++ l))
    members_listed x k vs ts m l f g d =
        occur_either (through ◌||◌ x (moves c k vs) d) (any m (meaning types c.end k vs)) (through ◌++◌ x (lists S k ts) d) l
        (through_listed x k vs ts f d)
        (λ t. let u = any_cases m (meaning types c.end k vs) t in g u.0 (member_under S c.end end_fits k vs u.0 u.1) u.2)

    -- the same, with a body that has a variable for the member
    body_listed : (x : Passing) (k : Form collection) (b : Form truth) (vs ts : List ℕ)
        → Typed types c.end vs ts
        → (T (well_typed S ts k) → Listed k vs ts)
        → ((us ws : List ℕ) → Typed types c.end us ws → T (well_typed S ws b) → Listed b us ws)
        → T (well_typed S ts k && well_typed S (bind ts (member_type relationships k)) b)
        → (d : Direction)
        → T (through ◌||◌ x (moves c k vs) d || any (λ u. moves c b (bind vs u) d) (meaning types c.end k vs))
        → T (occur (through ◌++◌ x (lists S k ts) d ++ lists S b (bind ts (member_type relationships k)) d))
    body_listed x k b vs ts v f g w d =
        let member = member_type relationships k in
        let typed = and_yes (well_typed S ts k) (well_typed S (bind ts member) b) w in
        members_listed x k vs ts (λ u. moves c b (bind vs u) d) (lists S b (bind ts member) d) (f typed.0)
        (λ u h. g (bind vs u) (bind ts member) (each_bind _ vs ts u member v h) typed.1 d) d

    moves_listed : {s : Sort} (f : Form s) (vs ts : List ℕ) → Typed types c.end vs ts → T (well_typed S ts f) → Listed f vs ts
    unfolding well_typed moves lists
    moves_listed (compare o a b) vs ts v w = parts_listed (left_of o) (right_of o) a b vs ts (moves_listed a vs ts v) (moves_listed b vs ts v) w
    moves_listed (negate a) vs ts v w = through_listed negated a vs ts (moves_listed a vs ts v w)
    moves_listed (connect o a b) vs ts v w = parts_listed (first_truth o) (second_truth o) a b vs ts (moves_listed a vs ts v) (moves_listed b vs ts v) w
    moves_listed (quantify q k b) vs ts v w = body_listed (source_of q) k b vs ts v (moves_listed k vs ts v) (moves_listed b) w
    moves_listed (kind x u) vs ts v w = kind_listed (variable vs x) u
    moves_listed (num n) vs ts v w = λ d t. absurd t
    moves_listed (cell x k) vs ts v w =
        let known = (and_yes (ltb x (length ts)) (ltb k (cells_of types (variable ts x))) w).0 in
        let within = each_at _ vs ts v x (ltb_yes known) in
        λ d t. one_listed (set_of (variable ts x) k) (cell_listed (variable vs x) (variable ts x) k within t)
    moves_listed (size k) vs ts v w = moves_listed k vs ts v w
    moves_listed (sum k n) vs ts v w =
        let member = member_type relationships k in
        members_listed (sum_source (floored_sum S k n)) k vs ts (λ u. cell_moves c u n) (set_of member n ∷ [])
        (moves_listed k vs ts v (and_yes (well_typed S ts k) (ltb n (cells_of types member)) w).0)
        (λ u h t. one_listed (set_of member n) (cell_listed u member n h t))
    moves_listed (combine o a b) vs ts v w = parts_listed (first_term o) (second_term o) a b vs ts (moves_listed a vs ts v) (moves_listed b vs ts v) w
    moves_listed (role x r) vs ts v w = role_listed r (variable vs x)
    moves_listed (all u) vs ts v w = all_listed u
    moves_listed (select k b) vs ts v w = body_listed chosen_from k b vs ts v (moves_listed k vs ts v) (moves_listed b) w

    -- what selects by itself is listed: an event that brought the object in, where the body is not quiet
    unless_quiet : (came calm : Bool) (l : List EventType) → (T came → T (occur l)) → T (came && not calm) → T (occur (cond calm [] l))
    unless_quiet came calm l listed h =
        let u = and_yes came (not calm) h in
        rw (cond_no calm [] l u.1) (listed u.0)

    context_listed : (r : Rule) (s : ℕ) → T (brought_in c r s) → T (occur (context_lists S r))
    unfolding brought_in context_lists inserted specialised occurs
    context_listed r s =
        let t = r.context in
        let into = insert_of t ∷ [] in
        let below = where_parent S t (special_of t) in
        occur_either (inserted c s t && not (quiet_insert S r)) (specialised c s t && not (quiet_special S r)) (cond (quiet_insert S r) [] into) (cond (quiet_special S r) [] below)
        (unless_quiet (inserted c s t) (quiet_insert S r) into (λ h. one_listed (insert_of t) (some_anyone inserts (λ x' x'' x3 x4. under c.schema.types x3 r.context) (eqb s) h)))
        (unless_quiet (specialised c s t) (quiet_special S r) below (λ h. special_listed t (some_anyone specials (λ x' x'' x3 x4. under c.schema.types x3 r.context && not (is_under c.schema.types x'.met x'' r.context)) (eqb s) h)))

    selecting_touched : (r : Rule) → T (well_typed S (r.context ∷ []) r.body) → (s : ℕ) → T (events_select c r s) → T (touched c r)
    unfolding touched event_list
    selecting_touched r w s t =
        let sel = selecting_cases r s t in
        let listed = lists S r.body (r.context ∷ []) down in
        let e =
        any_cases (occurs c) (listed ++ context_lists S r)
        (occur_either (moves c r.body (s ∷ []) down) (brought_in c r s) listed (context_lists S r)
        (moves_listed r.body (s ∷ []) (r.context ∷ []) (sel.0, tt) w down) (context_listed r s) sel.1) in
        any_of (occurs c) (placed e.1) e.2

    pub untouched : (r : Rule) → T (well_typed S (r.context ∷ []) r.body) → T (not (touched c r)) → (s : ℕ) → T (not (events_select c r s))
    untouched r w n s = not_T (events_select c r s) (λ t. T_not (touched c r) (selecting_touched r w s t) n)
