-- Each event type that a well-typed rule lists has a place among the marks: its type or relationship is one of 32, its cell one of 8.
use Prim.Native.Nat.{ℕ, zero, suc, ◌+◌, ◌*◌, ◌/◌, ◌%◌, ◌≤◌, ◌<◌}
use mathlib.Core.Path.{◌≡◌, refl, ap, ◌∙◌}
use mathlib.Core.Logic.{⊎_elim}
use mathlib.Core.Bool.{Bool, true, false, ◌&&◌, cond}
use mathlib.Core.List.Memᴰ
use mathlib.Core.List.{List, [], ◌∷◌, ◌++◌, foldr}
use mathlib.Core.Option.{none, some}
use native.Mathlib.Omega.{arith}
use lib.Dec.{T, ltb, leb}
use lib.ListN.{length, get_or, get_elem?, get_or-eq_default}
use mir.Facts.{and_yes, yes_and, ltb_yes, yes_ltb, ltb_no, T_not-not}
use Rattle.meaning.specs.Lists.{every, first_of, put_in_order, ◌∈◌}
use Rattle.meaning.specs.Limits.{max_types, max_relationships, max_forms, cell_count}
use Rattle.meaning.specs.Schema.{ObjectType, Relationship, Schema, known_type, known_relationship, known_role, type_at, cells_of, has_parent, under, relationship_of, forward, relationship_at, source_type, target_type, near_type, far_type, faulty_relationship, type_fault, floor_fault, relationship_fault}
use Rattle.meaning.specs.Forms.{Sort, Form, compare, negate, connect, quantify, kind, num, cell, size, sum, combine, role, all, select, bind, variable, member_type, well_typed, form_count, Rule, Book, faulty_rule, rule_fault}
use Rattle.meaning.specs.Reach.{Direction, up, down, opposite, Passing, same, reversed, either, through, left_of, right_of, negated, first_truth, second_truth, source_of, chosen_from, first_term, second_term, sum_source, floored_sum, quiet_insert, quiet_special}
use Rattle.meaning.specs.EventList.{EventType, insert_of, delete_of, set_of, join_of, part_of, special_of, general_of, event_type_words, where_parent, role_lists, all_lists, kind_lists, lists, context_lists, event_list}
use Rattle.meaning.specs.Answers.{refusal_at, book_refusal}
use Rattle.meaning.proofs.Lists.{decide, first_of_none, every_at, every_append}
use Rattle.meaning.proofs.Order.{put_from, fault_none}
use Rattle.meaning.proofs.Schemas.{types_fit}
use Rattle.meaning.proofs.Touched.{three_words}
use Rattle.meaning.proofs.Agreement.{refusal_at_none}
use Rattle.type_marks.specs.Marks.{places, words_at}

-- its three words are below 7, 32 and 8
abbrev pub placed : EventType → Bool
placed e = let w = event_type_words e in ltb (get_or w 0 0) 7 && (ltb (get_or w 1 0) 32 && ltb (get_or w 2 0) 8)

-- each event type of the list has a place
abbrev Placed : List EventType → Type 0
Placed l = T (every placed l)

one_placed : (e : EventType) → T (placed e) → Placed (e ∷ [])
one_placed e h = yes_and (placed e) true h tt

parent_placed : (S : Schema) (t : ℕ) (e : EventType) → T (placed e) → Placed (where_parent S t e)
unfolding where_parent
parent_placed S t e h = step (has_parent S.types t)
  where
    step : (b : Bool) → Placed (cond b (e ∷ []) [])
    step true = one_placed e h
    step false = tt

both_placed : (l k : List EventType) → Placed l → Placed k → Placed (l ++ k)
both_placed = every_append placed

through_placed : (x : Passing) (listed : Direction → List EventType) → ((d : Direction) → Placed (listed d)) → (d : Direction) → Placed (through ◌++◌ x listed d)
through_placed same listed h d = h d
through_placed reversed listed h d = h (opposite d)
through_placed either listed h d = both_placed (listed up) (listed down) (h up) (h down)

-- ---- where a role leads

-- what is read at a place of a list stands there
there : {A : Type 0} (l : List A) (n : ℕ) (d : A) → n < length l → get_elem? l n ≡ some (get_or l n d)
there [] n d h = absurd (omega arith)
there (x ∷ xs) zero d h = refl
there (x ∷ xs) (suc n) d h = there xs n d (omega arith)

-- each known role leads to a known type
abbrev FarKnown : Schema → Type 0
FarKnown S = (r : ℕ) → T (known_role S.relationships r) → T (known_type S.types (far_type S.relationships r))

far_known : (S : Schema) → relationship_fault S ≡ none → FarKnown S
unfolding relationship_fault faulty_relationship known_role known_relationship relationship_at source_type target_type far_type
far_known S clear r h = step (forward r)
  where
    ends : Relationship
    ends = relationship_at S.relationships (relationship_of r)

    known : ℕ → Bool
    known = known_type S.types

    both : T (known ends.source) × T (known ends.target)
    both =
        let source = known ends.source in
        let target = known ends.target in
        let at = there S.relationships (relationship_of r) _ (ltb_yes h) in
        and_yes source target (T_not-not (source && target) (fault_none (faulty_relationship S.types) S.relationships clear (relationship_of r) ends at).1)

    step : (b : Bool) → T (known (cond b ends.target ends.source))
    step true = both.1
    step false = both.0

module _ (S : Schema) (few_types : length S.types ≤ max_types) (few_relationships : length S.relationships ≤ max_relationships) (few_cells : (t : ℕ) → cells_of S.types t ≤ cell_count) (far_types : FarKnown S) where
  -- ---- forms without parts

  number : (t : ℕ) → t < 32 → T (ltb t 32 && true)
  number t h = yes_and (ltb t 32) true (yes_ltb h) tt

  few : (t : ℕ) → T (known_type S.types t) → t < 32
  unfolding known_type
  few t h = let less : t < length S.types = ltb_yes h in omega arith

  few_role : (r : ℕ) → T (known_role S.relationships r) → relationship_of r < 32
  unfolding known_role known_relationship
  few_role r h = let less : relationship_of r < length S.relationships = ltb_yes h in omega arith

  role_placed : (r : ℕ) → T (known_role S.relationships r) → (d : Direction) → Placed (role_lists S r d)
  unfolding role_lists event_type_words
  role_placed r h up = one_placed (join_of (relationship_of r)) (number (relationship_of r) (few_role r h))
  role_placed r h down =
      let far = far_type S.relationships r in
      yes_and (placed (part_of (relationship_of r))) _ (number (relationship_of r) (few_role r h)) (one_placed (delete_of far) (number far (few far (far_types r h))))

  kind_placed : (t : ℕ) → T (known_type S.types t) → (d : Direction) → Placed (kind_lists S t d)
  unfolding kind_lists event_type_words
  kind_placed t h up = parent_placed S t (special_of t) (number t (few t h))
  kind_placed t h down = parent_placed S t (general_of t) (number t (few t h))

  all_placed : (t : ℕ) → T (known_type S.types t) → (d : Direction) → Placed (all_lists S t d)
  unfolding all_lists kind_lists event_type_words
  all_placed t h up = yes_and (placed (insert_of t)) _ (number t (few t h)) (kind_placed t h up)
  all_placed t h down = yes_and (placed (delete_of t)) _ (number t (few t h)) (kind_placed t h down)

  -- a type that the schema lacks has no cell
  celled : (t k : ℕ) → T (ltb k (cells_of S.types t)) → t < 32
  unfolding cells_of type_at known_type
  celled t k h =
      let some_cell : k < cells_of S.types t = ltb_yes h in
      ⊎_elim (few t)
      (λ lacked. let no_cell : cells_of S.types t ≡ 0 = ap (λ (o : ObjectType). o.cells) (get_or-eq_default S.types (record { parent = none; cells = 0 }) {n = t} (ltb_no lacked)) in absurd (omega arith))
      (decide (known_type S.types t))

  set_placed : (t k : ℕ) → T (ltb k (cells_of S.types t)) → Placed (set_of t k ∷ [])
  unfolding event_type_words
  set_placed t k h =
      let less : k < cells_of S.types t = ltb_yes h in
      one_placed (set_of t k) (yes_and (ltb t 32) (ltb k 8) (yes_ltb (celled t k h)) (yes_ltb {a = k} {b = 8} (omega (arith, few_cells t))))

  -- ---- forms

  -- what a form lists, either way
  abbrev ListsPlaced : {s : Sort} → Form s → List ℕ → Type 0
  ListsPlaced f ts = (d : Direction) → Placed (lists S f ts d)

  two_placed : {s u : Sort} (x y : Passing) (a : Form s) (b : Form u) (ts : List ℕ) → (T (well_typed S ts a) → ListsPlaced a ts) → (T (well_typed S ts b) → ListsPlaced b ts)
      → T (well_typed S ts a && well_typed S ts b)
      → (d : Direction)
      → Placed (through ◌++◌ x (lists S a ts) d ++ through ◌++◌ y (lists S b ts) d)
  two_placed x y a b ts f g w d =
      let typed = and_yes (well_typed S ts a) (well_typed S ts b) w in
      both_placed (through ◌++◌ x (lists S a ts) d) (through ◌++◌ y (lists S b ts) d) (through_placed x (lists S a ts) (f typed.0) d) (through_placed y (lists S b ts) (g typed.1) d)

  -- a form over a collection, with what is listed besides
  over_placed : {s : Sort} (x : Passing) (c : Form s) (ts : List ℕ) (besides : Direction → List EventType) (typed well : Bool) → (T typed → ListsPlaced c ts) → (T well → (d : Direction) → Placed (besides d))
      → T (typed && well)
      → (d : Direction)
      → Placed (through ◌++◌ x (lists S c ts) d ++ besides d)
  over_placed x c ts besides typed well f g w d =
      let both = and_yes typed well w in
      both_placed (through ◌++◌ x (lists S c ts) d) (besides d) (through_placed x (lists S c ts) (f both.0) d) (g both.1 d)

  lists_placed : {s : Sort} (f : Form s) (ts : List ℕ) → T (well_typed S ts f) → ListsPlaced f ts
  unfolding well_typed lists
  lists_placed (compare o a b) ts w = two_placed (left_of o) (right_of o) a b ts (lists_placed a ts) (lists_placed b ts) w
  lists_placed (negate a) ts w = through_placed negated (lists S a ts) (lists_placed a ts w)
  lists_placed (connect o a b) ts w = two_placed (first_truth o) (second_truth o) a b ts (lists_placed a ts) (lists_placed b ts) w
  lists_placed (quantify q c b) ts w =
      let inner = bind ts (member_type S.relationships c) in
      over_placed (source_of q) c ts (lists S b inner) (well_typed S ts c) (well_typed S inner b) (lists_placed c ts) (lists_placed b inner) w
  lists_placed (kind v t) ts w = kind_placed t (and_yes (ltb v (length ts)) (known_type S.types t) w).1
  lists_placed (num n) ts w = λ d. tt
  lists_placed (cell v k) ts w = λ d. set_placed (variable ts v) k (and_yes (ltb v (length ts)) _ w).1
  lists_placed (size c) ts w = lists_placed c ts w
  lists_placed (sum c k) ts w =
      let member = member_type S.relationships c in
      over_placed (sum_source (floored_sum S c k)) c ts (λ d. set_of member k ∷ []) (well_typed S ts c) (ltb k (cells_of S.types member)) (lists_placed c ts) (λ h d. set_placed member k h) w
  lists_placed (combine o a b) ts w = two_placed (first_term o) (second_term o) a b ts (lists_placed a ts) (lists_placed b ts) w
  lists_placed (role v r) ts w =
      let known = ltb v (length ts) && known_role S.relationships r in
      let fits = and_yes known (under S.types (variable ts v) (near_type S.relationships r)) w in
      role_placed r (and_yes (ltb v (length ts)) (known_role S.relationships r) fits.0).1
  lists_placed (all t) ts w = all_placed t w
  lists_placed (select c b) ts w =
      let inner = bind ts (member_type S.relationships c) in
      over_placed chosen_from c ts (lists S b inner) (well_typed S ts c) (well_typed S inner b) (lists_placed c ts) (lists_placed b inner) w

  -- ---- a rule

  unless_placed : (b : Bool) (l : List EventType) → Placed l → Placed (cond b [] l)
  unless_placed true l h = tt
  unless_placed false l h = h

  context_placed : (r : Rule) → T (known_type S.types r.context) → Placed (context_lists S r)
  unfolding context_lists event_type_words
  context_placed r h =
      let t = r.context in
      let known = number t (few t h) in
      let into = insert_of t ∷ [] in
      let below = where_parent S t (special_of t) in
      both_placed (cond (quiet_insert S r) [] into) (cond (quiet_special S r) [] below)
      (unless_placed (quiet_insert S r) into (one_placed (insert_of t) known)) (unless_placed (quiet_special S r) below (parent_placed S t (special_of t) known))

  -- what is put in order was there before
  sorted_from : (l : List EventType) {e : EventType} → e ∈ foldr (put_in_order event_type_words) [] l → e ∈ l
  sorted_from [] m = m
  sorted_from (x ∷ xs) m =
      ⊎_elim Memᴰ.head (λ n. Memᴰ.tail (sorted_from xs n)) (put_from event_type_words x (foldr (put_in_order event_type_words) [] xs) m)

  pub rule_placed : (r : Rule) → T (known_type S.types r.context) → T (well_typed S (r.context ∷ []) r.body) → (e : EventType) → e ∈ event_list S r → T (placed e)
  unfolding event_list
  rule_placed r known typed e m =
      every_at placed
      (both_placed (lists S r.body (r.context ∷ []) down) (context_lists S r) (lists_placed r.body (r.context ∷ []) typed down) (context_placed r known))
      (sorted_from (lists S r.body (r.context ∷ []) down ++ context_lists S r) m)

-- ---- a rule of a book

module _ (k : Book) (clear : book_refusal k ≡ none) (few_types : length k.schema.types ≤ max_types) (few_relationships : length k.schema.relationships ≤ max_relationships) where
  abbrev S : Schema
  S = k.schema

  book_parts : ((type_fault S.types ≡ none) × (relationship_fault S ≡ none)) × (rule_fault k ≡ none)
  unfolding book_refusal
  book_parts =
      let later = first_of (floor_fault S) (relationship_fault S) in
      let parts = first_of_none (refusal_at 3 (first_of (type_fault S.types) later)) (refusal_at 4 (rule_fault k)) clear in
      let schema = first_of_none (type_fault S.types) later (refusal_at_none 3 _ parts.0) in
      ((schema.0, (first_of_none (floor_fault S) (relationship_fault S) schema.1).1), refusal_at_none 4 (rule_fault k) parts.1)

  -- a rule of a book that is not refused lists nothing that has no place
  pub book_placed : (n : ℕ) (r : Rule) → get_elem? k.rules n ≡ some r → (e : EventType) → e ∈ event_list S r → T (placed e)
  unfolding rule_fault faulty_rule
  book_placed n r there =
      let known = known_type S.types r.context in
      let typed = well_typed S (r.context ∷ []) r.body in
      let fits = T_not-not (known && typed && leb (form_count r.body) max_forms) (fault_none (faulty_rule S) k.rules book_parts.1 n r there).1 in
      let good = and_yes known typed (and_yes (known && typed) (leb (form_count r.body) max_forms) fits).0 in
      rule_placed S few_types few_relationships (types_fit S.types book_parts.0.0).cells_bound (far_known S book_parts.0.1) r good.0 good.1

-- ---- the place

three : (w : List ℕ) → length w ≡ 3 → w ≡ get_or w 0 0 ∷ get_or w 1 0 ∷ get_or w 2 0 ∷ []
three [] e = absurd (omega arith)
three (a ∷ []) e = absurd (omega arith)
three (a ∷ b ∷ []) e = absurd (omega arith)
three (a ∷ b ∷ c ∷ []) e = refl
three (a ∷ b ∷ c ∷ d ∷ w) e = absurd (omega arith)

-- the place of an event type
pub place_of : List ℕ → ℕ
place_of w = (get_or w 0 0 * 32 + get_or w 1 0) * 8 + get_or w 2 0

pub place_found : (e : EventType) → T (placed e) → (place_of (event_type_words e) < places) × (event_type_words e ≡ words_at (place_of (event_type_words e)))
unfolding place_of
place_found e h =
    let w = event_type_words e in
    let a = and_yes (ltb (get_or w 0 0) 7) _ h in
    let b = and_yes (ltb (get_or w 1 0) 32) (ltb (get_or w 2 0) 8) a.1 in
    let kind : get_or w 0 0 < 7 = ltb_yes a.0 in
    let number : get_or w 1 0 < 32 = ltb_yes b.0 in
    let cell : get_or w 2 0 < 8 = ltb_yes b.1 in
    let k : get_or w 0 0 ≡ place_of w / 256 = omega arith in
    let n : get_or w 1 0 ≡ place_of w / 8 % 32 = omega arith in
    let c : get_or w 2 0 ≡ place_of w % 8 = omega arith in
    (omega arith, three w (three_words e) ∙ (λ i. k i ∷ n i ∷ c i ∷ []))
