-- The table of objects or of links after the row of an event is put in, taken out or changed: it is what `apply` says.
use Prim.Native.Nat.{ℕ, suc, ◌+◌, ◌*◌, ◌-◌, ◌≤◌, ◌<◌}
use mathlib.Core.Path.{◌≡◌, refl, sym, ap, subst, ◌∙◌}
use mathlib.Core.Logic.{⊎_elim}
use mathlib.Core.Bool.{Bool, not, cond}
use mathlib.Core.List.{List, [], ◌∷◌, ◌++◌, map}
use mathlib.Core.Option.{some}
use native.Mathlib.Nat.{le_trans, zero-add}
use native.Mathlib.Omega.{arith}
use lib.Dec.{T, ltb, eqb}
use lib.IntN.{ℤ, pos}
use lib.ListN.{length, get_or, take, replicate, set as replace_at}
use lib.Seq.{get_or-set_other}
use mir.Facts.{eqb_yes, yes_eqb, ltb_yes, ltb_no, T_not}
use Rattle.meaning.specs.Lists.{same_list}
use Rattle.meaning.specs.Limits.{cell_count}
use Rattle.meaning.specs.Schema.{Schema, cells_of}
use Rattle.meaning.specs.Register.{Object, Link, Register, object_key, link_key, same_link}
use Rattle.meaning.specs.Events.{Event, amended, insert, delete, set, join, part, special, general, link_of, new_object, with_cell, with_type, with_higher_type, apply}
use Rattle.meaning.proofs.Lists.{decide, length_keep}
use Rattle.meaning.proofs.Order.{same_list_eq, same_list_refl, length_put}
use Rattle.rows.specs.Rows.{word_at, read_rows, signed, zero_past, with_word, without_columns, without_row}
use Rattle.keys.specs.Keys.{key_at, LowerBound}
use Rattle.rows.proofs.Zeros.{zero_past_lem, past_zero}
use Rattle.rows.proofs.Moves.{inserted, inserted_length, inserted_past, without_length, without_last, without_past, word_length, word_own, word_other, word_past, cleared_length, cleared_front, cleared_past_lem, cleared_column, cleared_row}
use Rattle.rows.proofs.Listed.{rows_same, rows_set, rows_cleared}
use Rattle.tables.specs.Columns.{object_row, link_row}
use Rattle.schema.proofs.Rows.{length_rows}
use Rattle.register.specs.Tables.{objects_with, links_with, object_place, link_place}
use Rattle.register.proofs.Hits.{hit_some}
use Rattle.register.proofs.Changes.{ByWords, row_put_in, row_taken_out, row_changed, missed_all}
use Rattle.event_effects.specs.Losses.{lost_at}
use Rattle.event_effects.specs.Effects.{Applied, ObjectsApplied, LinksApplied, LossesAdded, LossesKept, CanInsert, CanChange, CanJoin, CanPart}
use Rattle.event_effects.proofs.Losses.{none_added}

-- ---- rows by their words

abbrev cells_at : List ℕ → ℕ → List ℤ
cells_at t i = read_rows (λ k. signed (word_at t 10 i (2 + k))) cell_count

-- an object is its id, its type and its cells
object_parts : (t : List ℕ) (i : ℕ) (o : Object) → word_at t 10 i 0 ≡ o.id → word_at t 10 i 1 ≡ o.type → cells_at t i ≡ o.cells → object_row t i ≡ o
unfolding object_row
object_parts t i o e f g = λ z. record { id = e z; type = f z; cells = g z }

pub object_by_words : ByWords 10 object_row
unfolding object_row
object_by_words t u i j same =
    object_parts t i (object_row u j) (same 0 (omega arith)) (same 1 (omega arith))
    (rows_same (λ k. signed (word_at u 10 j (2 + k))) (λ k. signed (word_at t 10 i (2 + k))) 0 cell_count (λ k l h. ap signed (same (2 + k) (omega arith))))

pub link_by_words : ByWords 3 link_row
unfolding link_row
link_by_words t u i j same =
    λ z. link_of (same 0 (omega arith) z) (same 1 (omega arith) z) (same 2 (omega arith) z)

-- ---- words past the used rows

module _ (t : List ℕ) (width n : ℕ) (z : T (zero_past t width n)) where
  grown_zeros : (r : ℕ) (words : List ℕ) → r ≤ n → (n + 1) * width ≤ length t → length words ≡ width → n * width ≤ (n + 1) * width → T (zero_past (inserted t width r n words) width (n + 1))
  grown_zeros r words h room full more =
      past_zero (inserted t width r n words) width (n + 1)
      (λ k l. inserted_past t width r n words h room full k l ∙ zero_past_lem t width n k z (le_trans more l))

  shrunk_zeros : (r left : ℕ) → r < n → n * width ≤ length t → n * width ≡ left * width + width → T (zero_past (without_row t width r n) width left)
  shrunk_zeros r left h lent e =
      past_zero (without_row t width r n) width left
      (λ k l.
      ⊎_elim
      (λ (b : T (ltb k (n * width))). without_last t width r n h lent k (omega arith) (ltb_yes b))
      (λ (b : T (not (ltb k (n * width)))). without_past t width r n h lent k (ltb_no b) ∙ zero_past_lem t width n k z (ltb_no b))
      (decide (ltb k (n * width))))

-- ---- objects

abbrev has_id : ℕ → Object → Bool
has_id id o = eqb o.id id

has_key : (id : ℕ) (o : Object) → T (has_id id o) → object_key o ≡ id ∷ []
has_key id o t = ap (λ x. x ∷ []) (eqb_yes t)

abbrev pub new_words : ℕ → ℕ → List ℕ
new_words id t = id ∷ t ∷ 0 ∷ 0 ∷ 0 ∷ 0 ∷ 0 ∷ 0 ∷ 0 ∷ 0 ∷ []

-- the row that is found is a used one, and has the id
pub object_found : (n : ℕ) (objects : List ℕ) (id : ℕ) {r : ℕ} → object_place n objects id ≡ some r → (r < n) × T (has_id id (object_row objects r))
object_found n objects id e = hit_some (has_id id) (object_row objects) n e

module _ (S : Schema) (n : ℕ) (objects : List ℕ) (id : ℕ) where
  pub object_put_in : (t r : ℕ) → CanInsert n objects id → LowerBound (key_at objects 10 1) n (id ∷ []) r
      → ObjectsApplied S (insert id t) n objects (n + 1) (inserted objects 10 r n (new_words id t))
  unfolding apply object_row
  object_put_in t r can b =
      record {
        effect =
            λ ls.
            row_put_in 10 object_row object_by_words objects n r object_key (λ x y. refl) (new_words id t) refl can.room (new_object id t) refl b
            (λ i h e. T_not (has_id id (object_row objects i)) (yes_eqb (ap (λ k. get_or k 0 0) e)) (missed_all (has_id id) (object_row objects) n can.absent i h));
        lengths = inserted_length objects 10 r n (new_words id t) b.within can.room refl;
        zeros = λ z. grown_zeros objects 10 n z r (new_words id t) b.within can.room refl (omega arith);
      }

  module _ (can : CanChange n objects id) (r : ℕ) (e : object_place n objects id ≡ some r) where
    found : (r < n) × T (has_id id (object_row objects r))
    found = object_found n objects id e

    -- the row is lent
    row_lent : r * 10 + 10 ≤ length objects
    row_lent = omega (arith, found.0, can.lent)

    pub object_taken_out : (left : ℕ) → suc left ≡ n → ObjectsApplied S (delete id) n objects left (without_row objects 10 r n)
    unfolding apply
    object_taken_out left s =
        record {
          effect =
              λ ls.
              row_taken_out 10 object_row object_by_words objects n r object_key can.ascend (has_id id) (id ∷ []) (has_key id) found.0 found.1 can.lent left s;
          lengths = without_length objects 10 r n found.0 can.lent;
          zeros = λ z. shrunk_zeros objects 10 n z r left found.0 can.lent (omega arith);
        }

    -- a table that differs in the row alone, where the object is changed
    record Amends (u : List ℕ) (change : Object → Object) : Type 0 where
      same : (i c : ℕ) → (i ≡ r → ⊥) → c < 10 → word_at u 10 i c ≡ word_at objects 10 i c
      changed : object_row u r ≡ change (object_row objects r)
      same_length : length u ≡ length objects
      past : (k : ℕ) → r * 10 + 10 ≤ k → get_or u k 0 ≡ get_or objects k 0

    amends : (event : Event) (u : List ℕ) (change : Object → Object) → Amends u change
        → ((ls : List Link) → (amended id change (objects_with n objects ls)).objects ≡ (apply S event (objects_with n objects ls)).objects) → ObjectsApplied S event n objects n u
    amends event u change a what =
        record {
          effect = λ ls. rows ∙ what ls;
          lengths = a.same_length;
          zeros = λ z. let h = found.0 in past_zero u 10 n (λ k l. a.past k (omega arith) ∙ zero_past_lem objects 10 n k z l);
        }
      where
        rows : read_rows (object_row u) n ≡ map (λ o. cond (eqb o.id id) (change o) o) (read_rows (object_row objects) n)
        rows =
            row_changed 10 object_row object_by_words objects n r object_key can.ascend (has_id id) (id ∷ []) (has_key id) found.0 found.1 change u a.same a.changed

    -- one word of the row changed
    module _ (column word : ℕ) (h : column < 10) where
      abbrev put : List ℕ
      put = with_word objects 10 r column word

      put_own : word_at put 10 r column ≡ word
      put_own = word_own objects 10 r column word (omega (arith, row_lent))

      put_other : (c : ℕ) → (c ≡ column → ⊥) → word_at put 10 r c ≡ word_at objects 10 r c
      unfolding with_word
      put_other c d = get_or-set_other objects (r * 10 + column) (r * 10 + c) word 0 (λ e. d (omega arith))

      put_same : (i c : ℕ) → (i ≡ r → ⊥) → c < 10 → word_at put 10 i c ≡ word_at objects 10 i c
      put_same i c d l = word_other objects 10 r column word i c l h (λ q. absurd (d q))

      put_past : (k : ℕ) → r * 10 + 10 ≤ k → get_or put k 0 ≡ get_or objects k 0
      put_past k l = word_past objects 10 r column word k (omega arith)

      put_amends : (change : Object → Object) → object_row put r ≡ change (object_row objects r) → Amends put change
      put_amends change changed = record { same = put_same; changed = changed; same_length = word_length objects 10 r column word; past = put_past }

    pub cell_put : (cell word : ℕ) → cell < cell_count → ObjectsApplied S (set id cell (signed word)) n objects n (with_word objects 10 r (2 + cell) word)
    unfolding apply object_row
    cell_put cell word h =
        amends (set id cell (signed word)) _ (with_cell cell (signed word)) (put_amends (2 + cell) word column (with_cell cell (signed word)) changed) (λ ls. refl)
      where
        column : 2 + cell < 10
        column = omega arith

        other : (c : ℕ) → (c ≡ 2 + cell → ⊥) → word_at (with_word objects 10 r (2 + cell) word) 10 r c ≡ word_at objects 10 r c
        other = put_other (2 + cell) word column

        cells : cells_at (with_word objects 10 r (2 + cell) word) r ≡ replace_at (cells_at objects r) cell (signed word)
        cells =
            rows_set (λ k. signed (word_at objects 10 r (2 + k))) (λ k. signed (word_at (with_word objects 10 r (2 + cell) word) 10 r (2 + k))) (signed word) cell 0 cell_count h
            (ap (λ k. signed (word_at (with_word objects 10 r (2 + cell) word) 10 r (2 + k))) (zero-add cell) ∙ ap signed (put_own (2 + cell) word column))
            (λ i l d. ap signed (other (2 + i) (λ e. d (omega arith))))

        changed : object_row (with_word objects 10 r (2 + cell) word) r ≡ with_cell cell (signed word) (object_row objects r)
        changed =
            object_parts (with_word objects 10 r (2 + cell) word) r (with_cell cell (signed word) (object_row objects r))
            (other 0 (λ q. omega arith)) (other 1 (λ q. omega arith)) cells

    abbrev typed : ℕ → List ℕ
    typed t = with_word objects 10 r 1 t

    typed_other : (t c : ℕ) → (c ≡ 1 → ⊥) → word_at (typed t) 10 r c ≡ word_at objects 10 r c
    typed_other t = put_other 1 t (omega arith)

    typed_own : (t : ℕ) → word_at (typed t) 10 r 1 ≡ t
    typed_own t = put_own 1 t (omega arith)

    pub type_put : (t : ℕ) → ObjectsApplied S (special id t) n objects n (with_word objects 10 r 1 t)
    unfolding apply object_row
    type_put t = amends (special id t) _ (with_type t) (put_amends 1 t (omega arith) (with_type t) changed) (λ ls. refl)
      where
        cells : cells_at (typed t) r ≡ cells_at objects r
        cells =
            rows_same (λ k. signed (word_at objects 10 r (2 + k))) (λ k. signed (word_at (typed t) 10 r (2 + k))) 0 cell_count
            (λ i l b. ap signed (typed_other t (2 + i) (λ e. omega arith)))

        changed : object_row (typed t) r ≡ with_type t (object_row objects r)
        changed = object_parts (typed t) r (with_type t (object_row objects r)) (typed_other t 0 (λ e. omega arith)) (typed_own t) cells

    module _ (t : ℕ) (h : cells_of S.types t ≤ cell_count) where
      abbrev left : ℕ
      left = cells_of S.types t

      abbrev raised : List ℕ
      raised = without_columns (typed t) 10 r (2 + left)

      typed_lent : r * 10 + 10 ≤ length (typed t)
      typed_lent = omega (arith, row_lent, word_length objects 10 r 1 t)

      columns : 2 + left ≤ 10
      columns = omega arith

      front : (c : ℕ) → c < 2 + left → word_at raised 10 r c ≡ word_at (typed t) 10 r c
      front c l = cleared_front (typed t) 10 r (2 + left) columns typed_lent (r * 10 + c) (omega arith)

      raised_cells : cells_at raised r ≡ take left (cells_at objects r) ++ replicate (cell_count - left) (pos 0)
      raised_cells =
          rows_cleared (λ k. signed (word_at objects 10 r (2 + k))) (λ k. signed (word_at raised 10 r (2 + k))) (pos 0) left (cell_count - left) 0 cell_count (omega arith)
          (λ i l b. ap signed (front (2 + i) (omega arith) ∙ typed_other t (2 + i) (λ e. omega arith)))
          (λ i l b. ap signed (cleared_column (typed t) 10 r (2 + left) columns typed_lent (2 + i) (omega arith) (omega arith)))

      pub higher_type_put : ObjectsApplied S (general id t) n objects n raised
      unfolding apply object_row
      higher_type_put =
          amends (general id t) raised (with_higher_type S.types t)
          (record {
            same = λ i c d l. cleared_row (typed t) 10 r (2 + left) columns typed_lent i c d l ∙ put_same 1 t (omega arith) i c d l;
            changed =
                object_parts raised r (with_higher_type S.types t (object_row objects r))
                (front 0 (omega arith) ∙ typed_other t 0 (λ e. omega arith)) (front 1 (omega arith) ∙ typed_own t) raised_cells;
            same_length = cleared_length (typed t) 10 r (2 + left) columns typed_lent ∙ word_length objects 10 r 1 t;
            past = λ k l. cleared_past_lem (typed t) 10 r (2 + left) columns typed_lent k l ∙ put_past 1 t (omega arith) k l;
          })
          (λ ls. refl)

-- ---- links

pub link_found : (n : ℕ) (links : List ℕ) (l : Link) {r : ℕ} → link_place n links l ≡ some r → (r < n) × T (same_link l (link_row links r))
link_found n links l e = hit_some (same_link l) (link_row links) n e

module _ (S : Schema) (n : ℕ) (links : List ℕ) (x y z : ℕ) where
  abbrev l : Link
  l = link_of x y z

  is_key : (k : Link) → T (same_link l k) → link_key k ≡ link_key l
  is_key k t = sym (same_list_eq (link_key l) (link_key k) t)

  pub link_put_in : (r : ℕ) → CanJoin n links l → LowerBound (key_at links 3 3) n (x ∷ y ∷ z ∷ []) r
      → LinksApplied S (join x y z) n links (n + 1) (inserted links 3 r n (x ∷ y ∷ z ∷ []))
  unfolding apply link_row
  link_put_in r can b =
      record {
        effect =
            λ os.
            row_put_in 3 link_row link_by_words links n r link_key (λ u v. refl) (x ∷ y ∷ z ∷ []) refl can.room l refl b
            (λ i h e. T_not (same_link l (link_row links i)) (subst (λ k. T (same_list (link_key l) k)) (sym e) (same_list_refl (link_key l))) (missed_all (same_link l) (link_row links) n can.absent i h));
        lengths = inserted_length links 3 r n (x ∷ y ∷ z ∷ []) b.within can.room refl;
        zeros = λ p. grown_zeros links 3 n p r (x ∷ y ∷ z ∷ []) b.within can.room refl (omega arith);
      }

  module _ (can : CanPart n links l) (r : ℕ) (e : link_place n links l ≡ some r) where
    there : (r < n) × T (same_link l (link_row links r))
    there = link_found n links l e

    pub link_taken_out : (left : ℕ) → suc left ≡ n → LinksApplied S (part x y z) n links left (without_row links 3 r n)
    unfolding apply
    link_taken_out left s =
        record {
          effect =
              λ os.
              row_taken_out 3 link_row link_by_words links n r link_key can.ascend (same_link l) (link_key l) is_key there.0 there.1 can.lent left s;
          lengths = without_length links 3 r n there.0 can.lent;
          zeros = λ p. shrunk_zeros links 3 n p r left there.0 can.lent (omega arith);
        }

-- ---- both tables

module _ (S : Schema) (e : Event) (n : ℕ) (objects : List ℕ) (m : ℕ) (links : List ℕ) where
  pub both_applied : {n' : ℕ} {objects' : List ℕ} {m' : ℕ} {links' : List ℕ} → ObjectsApplied S e n objects n' objects' → LinksApplied S e m links m' links'
      → Applied S e n objects m links n' objects' m' links'
  both_applied a b =
      record {
        effect = λ i. record { objects = a.effect (read_rows (link_row links) m) i; links = b.effect (read_rows (object_row objects) n) i };
        objects_length = a.lengths;
        links_length = b.lengths;
        objects_zero = a.zeros;
        links_zero = b.zeros;
      }

  -- an event that leaves the links, and one that leaves the objects
  pub objects_applied : ((g : Register) → (apply S e g).links ≡ g.links) → {k : ℕ} {now : List ℕ} → ObjectsApplied S e n objects k now
      → Applied S e n objects m links k now m links
  objects_applied stay a = both_applied a (record { effect = λ os. sym (stay (links_with os m links)); lengths = refl; zeros = λ z. z })

  pub links_applied : ((g : Register) → (apply S e g).objects ≡ g.objects) → {k : ℕ} {now : List ℕ} → LinksApplied S e m links k now
      → Applied S e n objects m links n objects k now
  links_applied stay b = both_applied (record { effect = λ ls. sym (stay (objects_with n objects ls)); lengths = refl; zeros = λ z. z }) b

-- ---- the losses of an event that is no delete

module _ {S : Schema} {e : Event} {m : ℕ} {links : List ℕ} {m' : ℕ} {links' : List ℕ} (done : LinksApplied S e m links m' links') where
  -- there are as many links as the event leaves
  links_after : m' ≡ length (apply S e (links_with [] m links)).links
  links_after = sym (length_rows (link_row links') m') ∙ ap length (done.effect [])

pub joined_few : {S : Schema} {x y z m : ℕ} {links : List ℕ} {m' : ℕ} {links' : List ℕ} → LinksApplied S (join x y z) m links m' links' → m' ≤ m + 1
unfolding apply
joined_few {x = x} {y = y} {z = z} {m = m} {links = links} done =
    omega (arith, links_after done, length_put link_key (link_of x y z) (read_rows (link_row links) m), length_rows (link_row links) m)

pub parted_few : {S : Schema} {x y z m : ℕ} {links : List ℕ} {m' : ℕ} {links' : List ℕ} → LinksApplied S (part x y z) m links m' links' → m' ≤ m + 1
unfolding apply
parted_few {x = x} {y = y} {z = z} {m = m} {links = links} done =
    omega (arith, links_after done, length_keep (λ l. not (same_link (link_of x y z) l)) (read_rows (link_row links) m), length_rows (link_row links) m)

pub losses_stay : (g : Register) (e : Event) {m k : ℕ} {losses : List ℕ} {m' : ℕ} → lost_at g e ≡ [] → m' ≤ m + 1 → LossesKept g e m k losses m' k losses
losses_stay g e {k = k} {losses = losses} nothing few = record { added = subst (λ more. LossesAdded more k losses k losses) (sym nothing) none_added; grown = omega arith }

-- the same of an event that is another's name
pub as_applied : {S : Schema} {n : ℕ} {objects : List ℕ} {m : ℕ} {links : List ℕ} {n' : ℕ} {objects' : List ℕ} {m' : ℕ} {links' : List ℕ} {e d : Event}
    → d ≡ e → Applied S e n objects m links n' objects' m' links' → Applied S d n objects m links n' objects' m' links'
as_applied {S} {n} {objects} {m} {links} {n'} {objects'} {m'} {links'} q a = subst (λ e. Applied S e n objects m links n' objects' m' links') (sym q) a

pub as_kept : {g : Register} {m k : ℕ} {losses : List ℕ} {m' k' : ℕ} {losses' : List ℕ} {e d : Event} → d ≡ e → LossesKept g e m k losses m' k' losses' → LossesKept g d m k losses m' k' losses'
as_kept {g} {m} {k} {losses} {m'} {k'} {losses'} q a = subst (λ e. LossesKept g e m k losses m' k' losses') (sym q) a
