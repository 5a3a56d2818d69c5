-- What an event counts for, by the kind as which its row is read and by the row's words.
use Prim.Native.Nat.{ℕ, zero, suc, ◌/◌, ◌%◌, ◌<◌}
use mathlib.Core.Path.{◌≡◌, refl, sym, ap, subst, ◌∙◌}
use mathlib.Core.Bool.{Bool, true, false, ◌&&◌, ◌||◌, not, cond, and-true, and-false, or-false, or_assoc}
use mathlib.Core.List.{List, [], ◌∷◌}
use native.Mathlib.Omega.{arith}
use lib.Dec.{ltb, eqb}
use lib.ListN.{get_or, replicate}
use borrow.Author.Tests.{eq-eqb, ne_eqb, eqb-true, eqb-false, ltb-true, ltb-false}
use Rattle.meaning.specs.Limits.{max_types}
use Rattle.meaning.specs.Schema.{ObjectType, under}
use Rattle.meaning.specs.Register.{Register, is_under}
use Rattle.meaning.specs.Reach.{inserts, sets, joins, parts, specials, generals}
use Rattle.meaning.specs.EventList.{EventType, insert_of, delete_of, set_of, join_of, part_of, special_of, general_of, event_type_words}
use Rattle.tables.specs.Columns.{event_of}
use Rattle.trace_places.specs.Questions.{met_under}
use Rattle.trace_places.specs.Making.{ForTypes, delete_words}
use Rattle.trace_places.proofs.Questions.{type_words_lem, whole_words}
use Rattle.trace_types.proofs.Coming.{delete_words_lem, delete_past}
use Rattle.trace_types.proofs.Climbing.{no_truths}
use Rattle.type_marks.specs.Marks.{words_at, Added}
use Rattle.occurring.specs.Counting.{counts, read_kind, Counted}
use Rattle.occurring.proofs.Types.{but_not}

-- ---- the kind as which a row is read

-- a row that is not read as a delete has a kind
pub kind_known : (kind z : ℕ) → delete_words kind z ≡ false → kind < 7
kind_known kind z e = step (ltb kind 7) refl
  where
    step : (b : Bool) → ltb kind 7 ≡ b → kind < 7
    step true q = ltb-true kind 7 q
    step false q = absurd (subst (λ b. cond b ℕ ⊥) (delete_past kind z (omega (arith, ltb-false kind 7 q)) ∙ e) 0)

-- an insert, a special or a general, whose last field is not used
module _ (which : ℕ) (known : which < 7) (d : eqb which 1 ≡ false) (s : eqb which 2 ≡ false) (j : eqb which 3 ≡ false) (p : eqb which 4 ≡ false) (b : Bool) where
  neither : {x y : Bool} (a : Bool) → x ≡ false → y ≡ false → (x && a) ≡ (y && b)
  neither a u v = ap (λ x. x && a) u ∙ sym (ap (λ x. x && b) v)

  spoiled_read : (kind : ℕ) (used : Bool) → (eqb which kind && (used && b)) ≡ (eqb which (cond (not used) 1 kind) && b)
  spoiled_read kind true = refl
  spoiled_read kind false = and-false (eqb which kind) ∙ sym (ap (λ x. x && b) d)

  type_read : (kind z : ℕ) → (eqb which kind && (eqb z 0 && b)) ≡ (eqb which (read_kind kind z) && b)
  type_read zero z = spoiled_read 0 (eqb z 0)
  type_read (suc zero) z = neither (eqb z 0 && b) d d
  type_read (suc (suc zero)) z = neither (eqb z 0 && b) s s
  type_read (suc (suc (suc zero))) z = neither (eqb z 0 && b) j j
  type_read (suc (suc (suc (suc zero)))) z = neither (eqb z 0 && b) p p
  type_read (suc (suc (suc (suc (suc zero))))) z = spoiled_read 5 (eqb z 0)
  type_read (suc (suc (suc (suc (suc (suc zero)))))) z = spoiled_read 6 (eqb z 0)
  type_read (suc (suc (suc (suc (suc (suc (suc k))))))) z = neither (eqb z 0 && b) (ne_eqb which _ (λ q. omega arith)) d

-- a set, a join or a part, and a delete
module _ (which : ℕ) (known : which < 7) (i : eqb which 0 ≡ false) (d : eqb which 1 ≡ false) (s : eqb which 5 ≡ false) (g : eqb which 6 ≡ false) where
  spoiled_whole : (kind : ℕ) → eqb which kind ≡ false → (used : Bool) → eqb which kind ≡ eqb which (cond (not used) 1 kind)
  spoiled_whole kind e true = refl
  spoiled_whole kind e false = e ∙ sym d

  whole_read : (kind z : ℕ) → eqb which kind ≡ eqb which (read_kind kind z)
  whole_read zero z = spoiled_whole 0 i (eqb z 0)
  whole_read (suc zero) z = refl
  whole_read (suc (suc zero)) z = refl
  whole_read (suc (suc (suc zero))) z = refl
  whole_read (suc (suc (suc (suc zero)))) z = refl
  whole_read (suc (suc (suc (suc (suc zero))))) z = spoiled_whole 5 s (eqb z 0)
  whole_read (suc (suc (suc (suc (suc (suc zero)))))) z = spoiled_whole 6 g (eqb z 0)
  whole_read (suc (suc (suc (suc (suc (suc (suc k))))))) z = ne_eqb which _ (λ q. omega arith) ∙ sym d

delete_read : (kind z : ℕ) → delete_words kind z ≡ eqb 1 (read_kind kind z)
delete_read kind z = step (delete_words kind z) refl
  where
    step : (b : Bool) → delete_words kind z ≡ b → delete_words kind z ≡ eqb 1 (cond b 1 kind)
    step true e = e
    step false e = e ∙ sym (ne_eqb 1 kind (λ q. absurd (subst (λ b. cond b ℕ ⊥) (sym (ap (λ k. delete_words k z) (sym q)) ∙ e) 0)))

-- ---- what a row counts for

-- the words of an event type
abbrev pub kind_of : EventType → ℕ
kind_of (insert_of t) = 0
kind_of (delete_of t) = 1
kind_of (set_of t k) = 2
kind_of (join_of r) = 3
kind_of (part_of r) = 4
kind_of (special_of t) = 5
kind_of (general_of t) = 6

abbrev pub number_of : EventType → ℕ
number_of (insert_of t) = t
number_of (delete_of t) = t
number_of (set_of t k) = t
number_of (join_of r) = r
number_of (part_of r) = r
number_of (special_of t) = t
number_of (general_of t) = t

abbrev pub cell_of : EventType → ℕ
cell_of (insert_of t) = 0
cell_of (delete_of t) = 0
cell_of (set_of t k) = k
cell_of (join_of r) = 0
cell_of (part_of r) = 0
cell_of (special_of t) = 0
cell_of (general_of t) = 0

words_of : (e : EventType) → event_type_words e ≡ kind_of e ∷ number_of e ∷ cell_of e ∷ []
unfolding event_type_words
words_of (insert_of t) = refl
words_of (delete_of t) = refl
words_of (set_of t k) = refl
words_of (join_of r) = refl
words_of (part_of r) = refl
words_of (special_of t) = refl
words_of (general_of t) = refl

-- only a set has a cell
no_cell : (e : EventType) → (kind_of e ≡ 2 → ⊥) → cell_of e ≡ 0
no_cell (insert_of t) d = refl
no_cell (delete_of t) d = refl
no_cell (set_of t k) d = absurd (d refl)
no_cell (join_of r) d = refl
no_cell (part_of r) d = refl
no_cell (special_of t) d = refl
no_cell (general_of t) d = refl

-- By a row's first two fields, and by the types above the one that it names, the one that it met, and the object's at the end: what a row of a kind
-- counts for, by the number and the cell of the event type.
module _ (x y : ℕ) (into had there : ℕ → Bool) where
  abbrev pub kind_counts : ℕ → ℕ → ℕ → Bool
  kind_counts zero m c = into m
  kind_counts (suc zero) m c = had m
  kind_counts (suc (suc zero)) m c = there m && eqb y c
  kind_counts (suc (suc (suc zero))) m c = eqb x m
  kind_counts (suc (suc (suc (suc zero)))) m c = eqb x m
  kind_counts (suc (suc (suc (suc (suc zero))))) m c = into m && not (had m)
  kind_counts (suc (suc (suc (suc (suc (suc k)))))) m c = had m && not (into m)

  -- so does one that is read as kind r
  abbrev pub row_counts : ℕ → EventType → Bool
  row_counts r e = eqb (kind_of e) r && kind_counts (kind_of e) (number_of e) (cell_of e)

  -- the marks of the event types of its kind
  pub counted_kind : {before after : List Bool} (k : ℕ) {r : ℕ} → r ≡ k → (new : ℕ → ℕ → Bool) → Added before after (λ place. eqb k (place / 256) && new (place / 8 % 32) (place % 8))
      → ((m c : ℕ) → m < 32 → ((k ≡ 2 → ⊥) → c ≡ 0) → new m c ≡ kind_counts k m c) → Counted before after (row_counts r)
  counted_kind {before} k {r} is new added same =
      record { long = added.long; each = λ e place h w. added.each place h ∙ ap (λ b. get_or before place false || b) (at e place w) }
    where
      at : (e : EventType) (place : ℕ) → event_type_words e ≡ words_at place → (eqb k (place / 256) && new (place / 8 % 32) (place % 8)) ≡ row_counts r e
      at e place w = step (eqb k (kind_of e)) refl
        where
          words : kind_of e ∷ number_of e ∷ cell_of e ∷ [] ≡ words_at place
          words = sym (words_of e) ∙ w

          kind_is : kind_of e ≡ place / 256
          kind_is = ap (λ l. get_or l 0 0) words

          number_is : number_of e ≡ place / 8 % 32
          number_is = ap (λ l. get_or l 1 0) words

          cell_is : cell_of e ≡ place % 8
          cell_is = ap (λ l. get_or l 2 0) words

          step : (b : Bool) → eqb k (kind_of e) ≡ b → (eqb k (place / 256) && new (place / 8 % 32) (place % 8)) ≡ row_counts r e
          step true q =
              let own : k ≡ kind_of e = eqb-true k (kind_of e) q in
              (λ i. eqb k (sym kind_is i) && new (sym number_is i) (sym cell_is i))
              ∙ ap (λ b. b && new (number_of e) (cell_of e)) q
              ∙ same (number_of e) (cell_of e) (omega (arith, number_is)) (λ d. no_cell e (λ s. d (own ∙ s)))
              ∙ ap (λ j. kind_counts j (number_of e) (cell_of e)) own
              ∙ sym (ap (λ b. b && kind_counts (kind_of e) (number_of e) (cell_of e)) (eq-eqb (kind_of e) r (sym own ∙ sym is)))
          step false q =
              ap (λ j. eqb k j && new (place / 8 % 32) (place % 8)) (sym kind_is)
              ∙ ap (λ b. b && new (place / 8 % 32) (place % 8)) q
              ∙ sym (ap (λ b. b && kind_counts (kind_of e) (number_of e) (cell_of e)) (ne_eqb (kind_of e) r (λ s. eqb-false k (kind_of e) q (sym (s ∙ is)))))

-- ---- the marks that the code adds, by the number and the cell of an event type

-- where the cell is 0, as that of every event type but a set
pub cell_new : {c : ℕ} (b : Bool) → c ≡ 0 → (eqb 0 c && b) ≡ b
cell_new b e = ap (λ k. eqb 0 k && b) e

pub link_new : (x m : ℕ) {c : ℕ} → c ≡ 0 → (eqb x m && (eqb 0 c && true)) ≡ eqb x m
link_new x m e = ap (λ b. eqb x m && b) (cell_new true e) ∙ and-true (eqb x m)

module _ {these : List Bool} {f : ℕ → Bool} (of : ForTypes these f) where
  pub types_new : {except : List Bool} {g : ℕ → Bool} → ForTypes except g → (m : ℕ) → m < max_types → but_not these except m ≡ (f m && not (g m))
  types_new but m h = λ i. of.each m h i && not (but.each m h i)

  pub all_new : (m : ℕ) → m < max_types → but_not these (replicate max_types false) m ≡ f m
  all_new m h = types_new no_truths m h ∙ and-true (f m)

-- the event of a row counts for what the row does
pub counts_row : (ts : List ObjectType) (end : Register) (kind x y z met : ℕ) (e : EventType)
    → counts ts end (event_of kind x y z) met e ≡ row_counts x y (under ts y) (met_under ts met) (is_under ts end x) (read_kind kind z) e
unfolding counts
counts_row ts end kind x y z met (insert_of t) = type_words_lem inserts (λ id u n. under ts u t) x y z refl refl refl refl kind ∙ type_read 0 (omega arith) refl refl refl refl (under ts y t) kind z
counts_row ts end kind x y z met (delete_of t) = delete_words_lem kind x y z (met_under ts met t) ∙ ap (λ b. b && met_under ts met t) (delete_read kind z)
counts_row ts end kind x y z met (set_of t k) =
    let test : Bool = is_under ts end x t && eqb y k in
    whole_words sets (λ id j n. is_under ts end id t && eqb j k) x y z refl refl refl refl kind ∙ ap (λ b. b && test) (whole_read 2 (omega arith) refl refl refl refl kind z)
counts_row ts end kind x y z met (join_of r) = whole_words joins (λ n a b. eqb n r) x y z refl refl refl refl kind ∙ ap (λ b. b && eqb x r) (whole_read 3 (omega arith) refl refl refl refl kind z)
counts_row ts end kind x y z met (part_of r) = whole_words parts (λ n a b. eqb n r) x y z refl refl refl refl kind ∙ ap (λ b. b && eqb x r) (whole_read 4 (omega arith) refl refl refl refl kind z)
counts_row ts end kind x y z met (special_of t) =
    let test : Bool = under ts y t && not (met_under ts met t) in
    type_words_lem specials (λ id u n. under ts u t && not (met_under ts met t)) x y z refl refl refl refl kind ∙ type_read 5 (omega arith) refl refl refl refl test kind z
counts_row ts end kind x y z met (general_of t) =
    let test : Bool = met_under ts met t && not (under ts y t) in
    type_words_lem generals (λ id u n. met_under ts met t && not (under ts u t)) x y z refl refl refl refl kind ∙ type_read 6 (omega arith) refl refl refl refl test kind z

-- ---- marks that a test adds

pub counted_none : (marks : List Bool) (test : EventType → Bool) → ((e : EventType) → test e ≡ false) → Counted marks marks test
counted_none marks test none = record { long = refl; each = λ e place h w. sym (ap (λ b. get_or marks place false || b) (none e) ∙ or-false (get_or marks place false)) }

pub counted_then : {one two three : List Bool} {f g : EventType → Bool} → Counted one two f → Counted two three g → Counted one three (λ e. f e || g e)
counted_then {one} {f = f} {g = g} a b =
    record {
      long = b.long ∙ a.long;
      each = λ e place h w. b.each e place h w ∙ ap (λ x. x || g e) (a.each e place h w) ∙ or_assoc (get_or one place false) (f e) (g e);
    }

pub counted_as : {before after : List Bool} {f g : EventType → Bool} → Counted before after f → ((e : EventType) → f e ≡ g e) → Counted before after g
counted_as {before} r same = record { long = r.long; each = λ e place h w. r.each e place h w ∙ ap (λ x. get_or before place false || x) (same e) }
