-- Questions about an object, at the places of an event and by the words of its row.
use Prim.Native.Nat.{ℕ, zero, suc, ◌/◌, ◌%◌, ◌<◌}
use mathlib.Core.Path.{◌≡◌, refl, sym, ap, ap₂, ◌∙◌}
use mathlib.Core.Bool.{Bool, true, false, ◌&&◌, ◌||◌, not, cond, and-true, and-false, or-false}
use mathlib.Core.List.{List}
use mathlib.Core.Option.{some}
use native.Mathlib.Omega.{arith}
use lib.Dec.{eqb, lit<}
use borrow.Author.Tests.{eq-eqb, ne_eqb, eqb-true, eqb-false}
use Rattle.meaning.specs.Lists.{holds}
use Rattle.meaning.specs.Schema.{ObjectType, under, relationship_of}
use Rattle.meaning.specs.Register.{is_under, has_link, starts_at}
use Rattle.meaning.specs.Events.{Event, insert, delete, set, join, part, special, general, link_of}
use Rattle.meaning.specs.Reach.{Step, Change, Kind, inserts, deletes, sets, joins, parts, specials, generals, same_kind, kind_place, among}
use Rattle.tables.specs.Columns.{no_event, event_of}
use Rattle.tables.specs.Met.{object_of}
use Rattle.trace_places.specs.Questions.{Question, cell_set, joined_by, parted_by, inserted_into, specialised_into, generalised_from, answers, met_under, answers_at}
use Rattle.trace_places.specs.Traces.{named_at}

-- ---- an event by the words of its row

kind_below : (which : Kind) → kind_place which < 7
kind_below inserts = lit< tt
kind_below deletes = lit< tt
kind_below sets = lit< tt
kind_below joins = lit< tt
kind_below parts = lit< tt
kind_below specials = lit< tt
kind_below generals = lit< tt

kind_low : (which : Kind) (k : ℕ) → eqb (kind_place which) (suc (suc (suc (suc (suc (suc (suc k))))))) ≡ false
kind_low which k = ne_eqb (kind_place which) _ (λ q. omega (arith, kind_below which))

-- an event that names a type: its last field is not used
module _ (which : Kind) (test : ℕ → ℕ → ℕ → Bool) (x y z : ℕ) (d : same_kind which deletes ≡ false) (s : same_kind which sets ≡ false) (j : same_kind which joins ≡ false) (p : same_kind which parts ≡ false) where
  unused : (e : Event) (k v : Bool) → among which test e ≡ (k && v) → (b : Bool) → among which test (cond b e no_event) ≡ (k && (b && v))
  unused e k v h true = h
  unused e k v h false = rw d (sym (and-false k))

  pub type_words_lem : (kind : ℕ) → among which test (event_of kind x y z) ≡ (eqb (kind_place which) kind && (eqb z 0 && test x y 0))
  unfolding event_of
  type_words_lem zero = unused (insert x y) (same_kind which inserts) (test x y 0) refl (eqb z 0)
  type_words_lem (suc zero) = step (eqb y 0) (eqb z 0) ∙ sym (ap (λ b. b && (eqb z 0 && test x y 0)) d)
    where
      step : (a b : Bool) → among which test (cond a (cond b (delete x) no_event) no_event) ≡ false
      step true true = rw d
      step true false = rw d
      step false b = rw d
  type_words_lem (suc (suc zero)) = rw s
  type_words_lem (suc (suc (suc zero))) = rw j
  type_words_lem (suc (suc (suc (suc zero)))) = rw p
  type_words_lem (suc (suc (suc (suc (suc zero))))) = unused (special x y) (same_kind which specials) (test x y 0) refl (eqb z 0)
  type_words_lem (suc (suc (suc (suc (suc (suc zero)))))) = unused (general x y) (same_kind which generals) (test x y 0) refl (eqb z 0)
  type_words_lem (suc (suc (suc (suc (suc (suc (suc k))))))) = ap (λ b. b && test 0 0 0) d ∙ sym (ap (λ b. b && (eqb z 0 && test x y 0)) (kind_low which k))

-- a set, a join or a part: every field is used
module _ (which : Kind) (test : ℕ → ℕ → ℕ → Bool) (x y z : ℕ) (i : same_kind which inserts ≡ false) (d : same_kind which deletes ≡ false) (s : same_kind which specials ≡ false) (g : same_kind which generals ≡ false) where
  missed : (e : Event) → among which test e ≡ false → (b : Bool) → among which test (cond b e no_event) ≡ false
  missed e h true = h
  missed e h false = rw d

  -- the numbers that an event of such a kind names
  abbrev third : ℕ → ℕ
  third kind = cond (eqb kind 2) 0 z

  pub whole_words : (kind : ℕ) → among which test (event_of kind x y z) ≡ (eqb (kind_place which) kind && test x y (third kind))
  unfolding event_of
  whole_words zero = missed (insert x y) (rw i) (eqb z 0) ∙ sym (ap (λ b. b && test x y z) i)
  whole_words (suc zero) = step (eqb y 0) (eqb z 0) ∙ sym (ap (λ b. b && test x y z) d)
    where
      step : (a b : Bool) → among which test (cond a (cond b (delete x) no_event) no_event) ≡ false
      step true true = rw d
      step true false = rw d
      step false b = rw d
  whole_words (suc (suc zero)) = refl
  whole_words (suc (suc (suc zero))) = refl
  whole_words (suc (suc (suc (suc zero)))) = refl
  whole_words (suc (suc (suc (suc (suc zero))))) = missed (special x y) (rw s) (eqb z 0) ∙ sym (ap (λ b. b && test x y z) s)
  whole_words (suc (suc (suc (suc (suc (suc zero)))))) = missed (general x y) (rw g) (eqb z 0) ∙ sym (ap (λ b. b && test x y z) g)
  whole_words (suc (suc (suc (suc (suc (suc (suc k))))))) = ap (λ b. b && test 0 0 0) d ∙ sym (ap (λ b. b && test x y (third (suc (suc (suc (suc (suc (suc (suc k))))))))) (kind_low which k))

-- ---- the places of an event

-- the event names the object at the place
abbrev pub names : ℕ → Event → ℕ → Bool
names u e j = holds (eqb u) (named_at e j)

turned : (k a b : Bool) → (k && (a && b)) ≡ ((a && (k && b)) || false)
turned true true b = sym (or-false b)
turned true false b = refl
turned false true b = refl
turned false false b = refl

off : (a b : Bool) → false ≡ ((a && false) || (b && false))
off true b = sym (and-false b)
off false b = sym (and-false b)

module _ (which : Kind) (u : ℕ) (test : ℕ → ℕ → ℕ → Bool) where
  abbrev at_places : Event → Bool
  at_places e = (names u e 0 && among which test e) || (names u e 1 && among which test e)

  -- an event of an object names it at the first place
  pub object_places : same_kind which joins ≡ false → same_kind which parts ≡ false → (e : Event) → among which (λ x y z. eqb u x && test x y z) e ≡ at_places e
  object_places j p (insert id t) = turned (same_kind which inserts) (eqb u id) (test id t 0)
  object_places j p (delete id) = turned (same_kind which deletes) (eqb u id) (test id 0 0)
  object_places j p (set id k v) = turned (same_kind which sets) (eqb u id) (test id k 0)
  object_places j p (join r a b) = rw j (off (eqb u a) (eqb u b))
  object_places j p (part r a b) = rw p (off (eqb u a) (eqb u b))
  object_places j p (special id t) = turned (same_kind which specials) (eqb u id) (test id t 0)
  object_places j p (general id t) = turned (same_kind which generals) (eqb u id) (test id t 0)

eqb_turned : (a b : ℕ) → eqb a b ≡ eqb b a
eqb_turned a b = step (eqb a b) refl
  where
    step : (t : Bool) → eqb a b ≡ t → eqb a b ≡ eqb b a
    step true e = e ∙ sym (eq-eqb b a (sym (eqb-true a b e)))
    step false e = e ∙ sym (ne_eqb b a (λ q. eqb-false a b e (sym q)))

-- the near end of a role, by its parity
near_place : (k n s t x : Bool) (m : ℕ) → m < 2 → (k && ((n && cond (eqb m 0) s t) && x)) ≡ ((s && (k && (n && (eqb 0 m && x)))) || (t && (k && (n && (eqb 1 m && x)))))
near_place k n s t x zero h = forward k n s t x
  where
    forward : (k n s t x : Bool) → (k && ((n && s) && x)) ≡ ((s && (k && (n && x))) || (t && (k && (n && false))))
    forward true true true t x = sym (ap (λ b. x || b) (and-false t) ∙ or-false x)
    forward true true false t x = sym (and-false t)
    forward true false true t x = sym (and-false t)
    forward true false false t x = sym (and-false t)
    forward false n true t x = sym (and-false t)
    forward false n false t x = sym (and-false t)
near_place k n s t x (suc zero) h = backward k n s t x
  where
    backward : (k n s t x : Bool) → (k && ((n && t) && x)) ≡ ((s && (k && (n && false))) || (t && (k && (n && x))))
    backward true true true t x = refl
    backward true true false t x = refl
    backward true false true true x = refl
    backward true false true false x = refl
    backward true false false true x = refl
    backward true false false false x = refl
    backward false n true true x = refl
    backward false n true false x = refl
    backward false n false true x = refl
    backward false n false false x = refl
near_place k n s t x (suc (suc m)) h = absurd (omega arith)

-- a link names its source at the first place and its target at the second
module _ (which : Kind) (u r : ℕ) (test : ℕ → ℕ → ℕ → Bool) (i : same_kind which inserts ≡ false) (d : same_kind which deletes ≡ false) (w : same_kind which sets ≡ false) (s : same_kind which specials ≡ false) (g : same_kind which generals ≡ false) where
  abbrev near_at : ℕ → ℕ → ℕ → ℕ → Bool
  near_at j n a b = eqb n (relationship_of r) && (eqb j (r % 2) && test n a b)

  abbrev link_places : Event → Bool
  link_places e = (names u e 0 && among which (near_at 0) e) || (names u e 1 && among which (near_at 1) e)

  near_is : (k : Bool) (n a b : ℕ) → (k && (starts_at r u (link_of n a b) && test n a b)) ≡ ((eqb u a && (k && near_at 0 n a b)) || (eqb u b && (k && near_at 1 n a b)))
  near_is k n a b =
      ap (λ q. k && ((eqb n (relationship_of r) && q) && test n a b)) (ends (eqb (r % 2) 0))
      ∙ near_place k (eqb n (relationship_of r)) (eqb u a) (eqb u b) (test n a b) (r % 2) (omega arith)
    where
      ends : (f : Bool) → eqb (cond f a b) u ≡ cond f (eqb u a) (eqb u b)
      ends true = eqb_turned a u
      ends false = eqb_turned b u

  pub link_places_lem : (e : Event) → among which (λ n a b. starts_at r u (link_of n a b) && test n a b) e ≡ link_places e
  link_places_lem (insert id t) = rw i (off (eqb u id) false)
  link_places_lem (delete id) = rw d (off (eqb u id) false)
  link_places_lem (set id k v) = rw w (off (eqb u id) false)
  link_places_lem (join n a b) = near_is (same_kind which joins) n a b
  link_places_lem (part n a b) = near_is (same_kind which parts) n a b
  link_places_lem (special id t) = rw s (off (eqb u id) false)
  link_places_lem (general id t) = rw g (off (eqb u id) false)

-- ---- a step answers a question at one of its places

-- another test of the numbers that an event names
joins_same : (f g : ℕ → ℕ → ℕ → Bool) (e : Event) → ((n a b : ℕ) → e ≡ join n a b → f n a b ≡ g n a b) → among joins f e ≡ among joins g e
joins_same f g (insert id t) h = refl
joins_same f g (delete id) h = refl
joins_same f g (set id k v) h = refl
joins_same f g (join n a b) h = h n a b refl
joins_same f g (part n a b) h = refl
joins_same f g (special id t) h = refl
joins_same f g (general id t) h = refl

parts_same : (f g : ℕ → ℕ → ℕ → Bool) (e : Event) → ((n a b : ℕ) → f n a b ≡ g n a b) → among parts f e ≡ among parts g e
parts_same f g (insert id t) h = refl
parts_same f g (delete id) h = refl
parts_same f g (set id k v) h = refl
parts_same f g (join n a b) h = refl
parts_same f g (part n a b) h = h n a b
parts_same f g (special id t) h = refl
parts_same f g (general id t) h = refl

-- of an event that names an object
pub objects_same : (which : Kind) (f g : ℕ → ℕ → ℕ → Bool) → same_kind which joins ≡ false → same_kind which parts ≡ false → (e : Event) → ((x y z : ℕ) → object_of e ≡ some x → f x y z ≡ g x y z) → among which f e ≡ among which g e
objects_same which f g j p (insert id t) h = ap (λ b. same_kind which inserts && b) (h id t 0 refl)
objects_same which f g j p (delete id) h = ap (λ b. same_kind which deletes && b) (h id 0 0 refl)
objects_same which f g j p (set id k v) h = ap (λ b. same_kind which sets && b) (h id k 0 refl)
objects_same which f g j p (join n a b) h = rw j
objects_same which f g j p (part n a b) h = rw p
objects_same which f g j p (special id t) h = ap (λ b. same_kind which specials && b) (h id t 0 refl)
objects_same which f g j p (general id t) h = ap (λ b. same_kind which generals && b) (h id t 0 refl)

module _ (c : Change) (u : ℕ) (s : Step) (met : ℕ) (there : Bool)
    (met_is : (id t : ℕ) → object_of s.event ≡ some id → is_under c.schema.types s.met id t ≡ met_under c.schema.types met t)
    (there_is : (r a b : ℕ) → s.event ≡ join r a b → there ≡ has_link c.end (link_of r a b)) where
  abbrev types : List ObjectType
  types = c.schema.types

  abbrev e : Event
  e = s.event

  -- the question answered at the first place or at the second
  abbrev pub places_answer : Question → Bool
  places_answer q = (names u e 0 && answers_at types q e 0 met there) || (names u e 1 && answers_at types q e 1 met there)

  pub step_places : (q : Question) → answers c q u s ≡ places_answer q
  unfolding answers answers_at
  step_places (cell_set k) = object_places sets u (λ id j n. eqb j k) refl refl e
  step_places (joined_by r) =
      joins_same (λ n a b. starts_at r u (link_of n a b) && has_link c.end (link_of n a b)) (λ n a b. starts_at r u (link_of n a b) && there) e (λ n a b q. ap (λ x. starts_at r u (link_of n a b) && x) (sym (there_is n a b q)))
      ∙ link_places_lem joins u r (λ n a b. there) refl refl refl refl refl e
  step_places (parted_by r) =
      let near : ℕ → ℕ → ℕ → ℕ → Bool = λ j n a b. eqb n (relationship_of r) && eqb j (r % 2) in
      let named : ℕ → ℕ → ℕ → ℕ → Bool = λ j n a b. eqb n (relationship_of r) && (eqb j (r % 2) && true) in
      parts_same (λ n a b. starts_at r u (link_of n a b)) (λ n a b. starts_at r u (link_of n a b) && true) e (λ n a b. sym (and-true (starts_at r u (link_of n a b))))
      ∙ link_places_lem parts u r (λ n a b. true) refl refl refl refl refl e
      ∙ ap₂ (λ x y. (names u e 0 && x) || (names u e 1 && y))
      (parts_same (named 0) (near 0) e (λ n a b. ap (λ x. eqb n (relationship_of r) && x) (and-true (eqb 0 (r % 2)))))
      (parts_same (named 1) (near 1) e (λ n a b. ap (λ x. eqb n (relationship_of r) && x) (and-true (eqb 1 (r % 2)))))
  step_places (inserted_into t) = object_places inserts u (λ id w n. under types w t) refl refl e
  step_places (specialised_into t) =
      objects_same specials (λ id w n. eqb u id && (under types w t && not (is_under types s.met id t))) (λ id w n. eqb u id && (under types w t && not (met_under types met t))) refl refl e
      (λ id w n q. ap (λ x. eqb u id && (under types w t && not x)) (met_is id t q))
      ∙ object_places specials u (λ id w n. under types w t && not (met_under types met t)) refl refl e
  step_places (generalised_from t) =
      objects_same generals (λ id w n. eqb u id && (is_under types s.met id t && not (under types w t))) (λ id w n. eqb u id && (met_under types met t && not (under types w t))) refl refl e
      (λ id w n q. ap (λ x. eqb u id && (x && not (under types w t))) (met_is id t q))
      ∙ object_places generals u (λ id w n. met_under types met t && not (under types w t)) refl refl e

-- ---- a question at a place, by the words of the event's row

module _ (ts : List ObjectType) (kind x y z j met : ℕ) (there : Bool) where
  abbrev answer : Question → Bool
  answer q = answers_at ts q (event_of kind x y z) j met there

  pub set_answer : (k : ℕ) → (eqb 2 kind && eqb y k) ≡ answer (cell_set k)
  unfolding answers_at
  set_answer k = sym (whole_words sets (λ id c n. eqb c k) x y z refl refl refl refl kind)

  pub join_answer : (r : ℕ) → (eqb 3 kind && (eqb x (r / 2) && (eqb j (r % 2) && there))) ≡ answer (joined_by r)
  unfolding answers_at
  join_answer r = sym (whole_words joins (λ n a b. eqb n (relationship_of r) && (eqb j (r % 2) && there)) x y z refl refl refl refl kind)

  pub part_answer : (r : ℕ) → (eqb 4 kind && (eqb x (r / 2) && (eqb j (r % 2) && true))) ≡ answer (parted_by r)
  unfolding answers_at
  part_answer r =
      ap (λ b. eqb 4 kind && (eqb x (r / 2) && b)) (and-true (eqb j (r % 2)))
      ∙ sym (whole_words parts (λ n a b. eqb n (relationship_of r) && eqb j (r % 2)) x y z refl refl refl refl kind)

  pub insert_answer : (t : ℕ) → (eqb 0 kind && (eqb z 0 && under ts y t)) ≡ answer (inserted_into t)
  unfolding answers_at
  insert_answer t = sym (type_words_lem inserts (λ id u n. under ts u t) x y z refl refl refl refl kind)

  pub special_answer : (t : ℕ) → (eqb 5 kind && (eqb z 0 && (under ts y t && not (met_under ts met t)))) ≡ answer (specialised_into t)
  unfolding answers_at
  special_answer t = sym (type_words_lem specials (λ id u n. under ts u t && not (met_under ts met t)) x y z refl refl refl refl kind)

  pub general_answer : (t : ℕ) → (eqb 6 kind && (eqb z 0 && (met_under ts met t && not (under ts y t)))) ≡ answer (generalised_from t)
  unfolding answers_at
  general_answer t = sym (type_words_lem generals (λ id u n. met_under ts met t && not (under ts u t)) x y z refl refl refl refl kind)
