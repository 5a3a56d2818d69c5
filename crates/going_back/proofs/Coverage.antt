-- Reading the reach rules backward loses nothing: where a form moves, some variable of it stands for an id that is reached.
use Prim.Native.Nat.{ℕ, suc, ◌<◌}
use mathlib.Core.Path.{◌≡◌, refl, subst, sym}
use mathlib.Core.Logic.{⊎_elim}
use mathlib.Core.Bool.{Bool, ◌||◌, ◌&&◌}
use mathlib.Core.List.{List, [], ◌∷◌}
use native.Mathlib.Nat.{eq-or-lt_of_le, le_of_suc-le-suc}
use native.Mathlib.Omega.{arith}
use lib.Dec.{T, ltb, ltb→lt, eqb, eqb_refl, lit<}
use lib.ListN.{length, length-append, get_or-append}
use lib.Seq.{get_or_at}
use mir.Facts.{and_yes, yes_and, or_yes}
use Rattle.meaning.specs.Lists.{◌∈◌, any}
use Rattle.meaning.specs.Schema.{Schema, known_role}
use Rattle.meaning.specs.Register.{is_under, far_ends}
use Rattle.meaning.specs.Forms.{Sort, truth, collection, Form, compare, negate, connect, quantify, kind, num, cell, size, sum, combine, role, all, select, bind, variable, member_type, well_typed, Rule}
use Rattle.meaning.specs.Meaning.{meaning}
use Rattle.meaning.specs.Reach.{Change, Direction, up, down, opposite, Passing, same, reversed, either, through, left_of, right_of, first_truth, second_truth, source_of, chosen_from, first_term, second_term, sum_source, floored_sum, role_moves, cell_moves, kind_moves, moves, brought_in, events_select}
use Rattle.meaning.proofs.Lists.{or_left, or_right, any_of, any_cases, keep_from}
use Rattle.going_back.specs.Back.{leads_into, through_members, reached, candidate}

-- one of the first n variables passes a test of variables and ids
abbrev pub Found : List ℕ → ℕ → (ℕ → ℕ → Bool) → Type 0
Found vs n r = (v : ℕ) × (v < n) × T (r v (variable vs v))

-- the types and the ids of n variables; self is one of them
pub record Scope (ts vs : List ℕ) (n : ℕ) : Type 0 where
  pub types : length ts ≡ n
  pub ids : length vs ≡ n
  pub self : 0 < n

scope_bind : (ts vs : List ℕ) (n t x : ℕ) → Scope ts vs n → Scope (bind ts t) (bind vs x) (suc n)
scope_bind ts vs n t x i =
    let h = length-append ts (t ∷ []) in
    let k = length-append vs (x ∷ []) in
    record { types = omega arith; ids = omega arith; self = omega arith }

module _ (vs : List ℕ) (n : ℕ) where
  or_found : (b b' : Bool) (r r' : ℕ → ℕ → Bool) → (T b → Found vs n r) → (T b' → Found vs n r') → T (b || b') → Found vs n (λ v u. r v u || r' v u)
  or_found b b' r r' f f' t =
      ⊎_elim (λ y. let (v, h, p) = f y in (v, h, or_left (r v (variable vs v)) _ p)) (λ y. let (v, h, p) = f' y in (v, h, or_right (r v (variable vs v)) _ p)) (or_yes b b' t)

  through_found : (p : Passing) (m : Direction → Bool) (r : ℕ → ℕ → Direction → Bool) (d : Direction) → ((e : Direction) → T (m e) → Found vs n (λ v u. r v u e)) → T (through ◌||◌ p m d) → Found vs n (λ v u. through ◌||◌ p (r v u) d)
  through_found same m r d f t = f d t
  through_found reversed m r d f t = f (opposite d) t
  through_found either m r d f t = or_found (m up) (m down) (λ v u. r v u up) (λ v u. r v u down) (f up) (f down) t

  two_found : (p q : Passing) (m m' : Direction → Bool) (r r' : ℕ → ℕ → Direction → Bool) (d : Direction) → ((e : Direction) → T (m e) → Found vs n (λ v u. r v u e)) → ((e : Direction) → T (m' e) → Found vs n (λ v u. r' v u e)) → T (through ◌||◌ p m d || through ◌||◌ q m' d) → Found vs n (λ v u. through ◌||◌ p (r v u) d || through ◌||◌ q (r' v u) d)
  two_found p q m m' r r' d f f' = or_found (through ◌||◌ p m d) (through ◌||◌ q m' d) (λ v u. through ◌||◌ p (r v u) d) (λ v u. through ◌||◌ q (r' v u) d) (through_found p m r d f) (through_found q m' r' d f')

  members_found : (p : Passing) (m : Direction → Bool) (r : ℕ → ℕ → Direction → Bool) (at : ℕ → Bool) (l : List ℕ) (s : ℕ → ℕ → Bool) (d : Direction) → ((e : Direction) → T (m e) → Found vs n (λ v u. r v u e)) → ((x : ℕ) → x ∈ l → T (at x) → Found vs n s) → T (through ◌||◌ p m d || any at l) → Found vs n (λ v u. through ◌||◌ p (r v u) d || s v u)
  members_found p m r at l s d f f' = or_found (through ◌||◌ p m d) (any at l) (λ v u. through ◌||◌ p (r v u) d) s (through_found p m r d f) (λ y. let (x, i, h) = any_cases at l y in f' x i h)

-- a leaf that names a variable
here : (ts vs : List ℕ) (n : ℕ) → Scope ts vs n → (p : ℕ → Bool) (w : ℕ) → T (ltb w (length ts)) → T (p (variable vs w)) → Found vs n (λ v u. eqb v w && p u)
here ts vs n i p w h t = (w, subst (λ k. w < k) i.types (ltb→lt w (length ts) h), yes_and (eqb w w) (p (variable vs w)) (eqb_refl w) t)

module _ (c : Change) where
  abbrev S : Schema
  S = c.schema

  -- from a member in a set a variable leads into the set
  led : (k : Form collection) (ts vs : List ℕ) (n : ℕ) → T (well_typed S ts k) → Scope ts vs n → (set : ℕ → Bool) (x : ℕ) → x ∈ meaning S.types c.end k vs → T (set x) → Found vs n (leads_into c k set)
  unfolding leads_into meaning well_typed
  led (role w r) ts vs n t i set x m h =
      here ts vs n i (λ u. any set (far_ends c.end r u)) w (and_yes (ltb w (length ts)) (known_role S.relationships r) (and_yes (ltb w (length ts) && known_role S.relationships r) _ t).0).0 (any_of set m h)
  led (all t) ts vs n w i set x m h = (0, i.self, any_of set m h)
  led (select k b) ts vs n w i set x m h =
      led k ts vs n (and_yes (well_typed S ts k) _ w).0 i set x (keep_from (λ y. meaning S.types c.end b (bind vs y)) (meaning S.types c.end k vs) m).0 h

  -- what passes at a member passes at a variable around it, or at the new one, and from there the member leads on
  unbound : (k : Form collection) (ts vs : List ℕ) (n : ℕ) → T (well_typed S ts k) → Scope ts vs n → (r : ℕ → ℕ → Bool) (x : ℕ) → x ∈ meaning S.types c.end k vs → Found (bind vs x) (suc n) r → Found vs n (through_members c k n r)
  unbound k ts vs n w i r x m (v, h, t) =
      ⊎_elim
      (λ (q : v ≡ n).
      let (y, j, p) = led k ts vs n w i (r n) x m (subst (λ z. T (r n z)) (get_or_at vs x [] 0 n i.ids) (subst (λ z. T (r z (variable (bind vs x) z))) q t)) in
      (y, j, or_right (r y (variable vs y)) _ p))
      (λ (q : v < n). (v, q, or_left (r v (variable vs v)) _ (subst (λ z. T (r v z)) (get_or-append vs (x ∷ []) 0 v (subst (λ z. v < z) (sym i.ids) q)) t)))
      (eq-or-lt_of_le (le_of_suc-le-suc h))

  -- a form over a collection, by its collection and its second part
  over : (p : Passing) (k : Form collection) (b : Form truth) (ts vs : List ℕ) (n : ℕ) → T (well_typed S ts k) → Scope ts vs n
      → (d : Direction)
      → ((e : Direction) → T (moves c k vs e) → Found vs n (λ v u. reached c k n v u e))
      → ((x : ℕ) → T (moves c b (bind vs x) d) → Found (bind vs x) (suc n) (λ v u. reached c b (suc n) v u d))
      → T (through ◌||◌ p (moves c k vs) d || any (λ x. moves c b (bind vs x) d) (meaning S.types c.end k vs))
      → Found vs n (λ v u. through ◌||◌ p (reached c k n v u) d || through_members c k n (λ w x. reached c b (suc n) w x d) v u)
  over p k b ts vs n w i d f f' =
      let r : ℕ → ℕ → Bool = λ v u. reached c b (suc n) v u d in
      members_found vs n p (moves c k vs) (reached c k n) (λ x. moves c b (bind vs x) d) (meaning S.types c.end k vs) (through_members c k n r) d f (λ x m h. unbound k ts vs n w i r x m (f' x h))

  pub covered : {s : Sort} (f : Form s) (ts vs : List ℕ) (n : ℕ) → T (well_typed S ts f) → Scope ts vs n → (d : Direction) → T (moves c f vs d) → Found vs n (λ v u. reached c f n v u d)
  unfolding moves reached well_typed
  covered (compare o a b) ts vs n w i d t =
      let ws = and_yes (well_typed S ts a) (well_typed S ts b) w in
      two_found vs n (left_of o) (right_of o) (moves c a vs) (moves c b vs) (reached c a n) (reached c b n) d (covered a ts vs n ws.0 i) (covered b ts vs n ws.1 i) t
  covered (negate a) ts vs n w i d t = covered a ts vs n w i (opposite d) t
  covered (connect o a b) ts vs n w i d t =
      let ws = and_yes (well_typed S ts a) (well_typed S ts b) w in
      two_found vs n (first_truth o) (second_truth o) (moves c a vs) (moves c b vs) (reached c a n) (reached c b n) d (covered a ts vs n ws.0 i) (covered b ts vs n ws.1 i) t
  covered (quantify q k b) ts vs n w i d t =
      let ws = and_yes (well_typed S ts k) (well_typed S (bind ts (member_type S.relationships k)) b) w in
      over (source_of q) k b ts vs n ws.0 i d (covered k ts vs n ws.0 i) (λ x. covered b (bind ts (member_type S.relationships k)) (bind vs x) (suc n) ws.1 (scope_bind ts vs n (member_type S.relationships k) x i) d) t
  covered (kind v y) ts vs n w i d t = here ts vs n i (λ u. kind_moves c u y d) v (and_yes (ltb v (length ts)) _ w).0 t
  covered (num y) ts vs n w i d t = absurd t
  covered (cell v j) ts vs n w i d t = here ts vs n i (λ u. cell_moves c u j) v (and_yes (ltb v (length ts)) _ w).0 t
  covered (size k) ts vs n w i d t = covered k ts vs n w i d t
  covered (sum k j) ts vs n w i d t =
      let h = (and_yes (well_typed S ts k) _ w).0 in
      members_found vs n (sum_source (floored_sum S k j)) (moves c k vs) (reached c k n) (λ x. cell_moves c x j) (meaning S.types c.end k vs) (leads_into c k (λ x. cell_moves c x j)) d (covered k ts vs n h i) (led k ts vs n h i (λ x. cell_moves c x j)) t
  covered (combine o a b) ts vs n w i d t =
      let ws = and_yes (well_typed S ts a) (well_typed S ts b) w in
      two_found vs n (first_term o) (second_term o) (moves c a vs) (moves c b vs) (reached c a n) (reached c b n) d (covered a ts vs n ws.0 i) (covered b ts vs n ws.1 i) t
  covered (role v r) ts vs n w i d t =
      here ts vs n i (λ u. role_moves c r u d) v (and_yes (ltb v (length ts)) (known_role S.relationships r) (and_yes (ltb v (length ts) && known_role S.relationships r) _ w).0).0 t
  covered (all y) ts vs n w i d t = (0, i.self, t)
  covered (select k b) ts vs n w i d t =
      let ws = and_yes (well_typed S ts k) (well_typed S (bind ts (member_type S.relationships k)) b) w in
      over chosen_from k b ts vs n ws.0 i d (covered k ts vs n ws.0 i) (λ x. covered b (bind ts (member_type S.relationships k)) (bind vs x) (suc n) ws.1 (scope_bind ts vs n (member_type S.relationships k) x i) d) t

  -- a rule's body moves at reached objects only
  pub body_covered : (r : Rule) (s : ℕ) (d : Direction) → T (well_typed S (r.context ∷ []) r.body) → T (moves c r.body (s ∷ []) d) → T (reached c r.body 1 0 s d)
  body_covered r s d w t =
      let (v, h, p) = covered r.body (r.context ∷ []) (s ∷ []) 1 w (record { types = refl; ids = refl; self = lit< tt }) d t in
      let q : v ≡ 0 = omega arith in
      subst (λ z. T (reached c r.body 1 z (variable (s ∷ []) z) d)) q p

  -- so the events select no pair whose object is no candidate
  pub selected_candidate : (r : Rule) (s : ℕ) → T (well_typed S (r.context ∷ []) r.body) → T (events_select c r s) → T (candidate c r s)
  unfolding events_select candidate
  selected_candidate r s w t =
      ⊎_elim (λ h. or_left (reached c r.body 1 0 s down) _ (body_covered r s down w h)) (λ h. or_right (reached c r.body 1 0 s down) _ h)
      (or_yes (moves c r.body (s ∷ []) down) (brought_in c r s) (and_yes (is_under S.types c.end s r.context) _ t).1)
