-- Sets of rows that only grow.
use Prim.Native.Nat.{ℕ, ◌+◌, ◌*◌, ◌<◌}
use mathlib.Core.Path.{◌≡◌, refl, ap, ◌∙◌}
use mathlib.Core.Bool.{Bool, true, false, cond}
use mathlib.Core.List.{List}
use native.Mathlib.Omega.{arith}
use lib.Dec.{eqb}
use lib.ListN.{length, get_or, set, length-set}
use lib.Seq.{get_or-set_same, get_or-set_other}
use borrow.Author.Count.{below_more}
use borrow.Author.Tests.{eqb-true, eqb-false, eq-eqb, ne_eqb}
use Rattle.row_sets.specs.Sets.{Sets, sets_of, in_set, Room, SameLengths, Grown, GrownBelow, Cleared}

pub same_none : (sets : Sets) → SameLengths sets sets
same_none sets = record { self = refl; inner = refl }

pub same_then : {a b c : Sets} → SameLengths a b → SameLengths b c → SameLengths a c
same_then r s = record { self = s.self ∙ r.self; inner = s.inner ∙ r.inner }

pub room_kept : {a b : Sets} → SameLengths a b → Room a → Room b
room_kept r room = record { self = r.self ∙ room.self; inner = r.inner ∙ room.inner }

pub grown_none : (sets : Sets) → Grown sets sets
grown_none sets = record { long = same_none sets; kept = λ v row e. e }

pub grown_then : {a b c : Sets} → Grown a b → Grown b c → Grown a c
grown_then r s = record { long = same_then r.long s.long; kept = λ v row e. s.kept v row (r.kept v row e) }

-- ---- a row that is put

-- the mark at any place of a list
one_more : (l : List Bool) (i : ℕ) → i < length l → (j : ℕ) → get_or l j false ≡ true → get_or (set l i true) j false ≡ true
one_more l i h j e = step (eqb j i) refl
  where
    step : (b : Bool) → eqb j i ≡ b → get_or (set l i true) j false ≡ true
    step true q = ap (λ k. get_or (set l i true) k false) (eqb-true j i q) ∙ get_or-set_same l i true false h
    step false q = get_or-set_other l i j true false (eqb-false j i q) ∙ e

-- marks and slices that only grow
pub grown_lists : {m n a b : List Bool} → SameLengths (sets_of m a) (sets_of n b) → ((j : ℕ) → get_or m j false ≡ true → get_or n j false ≡ true) → ((j : ℕ) → get_or a j false ≡ true → get_or b j false ≡ true) → Grown (sets_of m a) (sets_of n b)
unfolding in_set
grown_lists {m} {n} {a} {b} long own within = record { long = long; kept = λ v row. step v row (eqb v 0) }
  where
    step : (v row : ℕ) (self : Bool) → cond self (get_or m row false) (get_or a (v * 1024 + row) false) ≡ true → cond self (get_or n row false) (get_or b (v * 1024 + row) false) ≡ true
    step v row true e = own row e
    step v row false e = within (v * 1024 + row) e

-- into self's set
module _ (marks sets : List Bool) (row : ℕ) (h : row < length marks) where
  pub self_grown : Grown (sets_of marks sets) (sets_of (set marks row true) sets)
  self_grown = grown_lists (record { self = length-set marks row true; inner = refl }) (one_more marks row h) (λ j e. e)

  pub self_there : {v : ℕ} → v ≡ 0 → in_set (sets_of (set marks row true) sets) v row ≡ true
  unfolding in_set
  self_there {v} e = rw (eq-eqb v 0 e) (get_or-set_same marks row true false h)

-- into that of a variable within
module _ (marks sets : List Bool) (v row : ℕ) (h : v * 1024 + row < length sets) where
  pub inner_grown : Grown (sets_of marks sets) (sets_of marks (set sets (v * 1024 + row) true))
  inner_grown = grown_lists (record { self = refl; inner = length-set sets (v * 1024 + row) true }) (λ j e. e) (one_more sets (v * 1024 + row) h)

  pub inner_there : (v ≡ 0 → ⊥) → in_set (sets_of marks (set sets (v * 1024 + row) true)) v row ≡ true
  unfolding in_set
  inner_there e = rw (ne_eqb v 0 e) (get_or-set_same sets (v * 1024 + row) true false h)

-- ---- a set that is emptied row by row

pub cleared_none : (v : ℕ) (sets : Sets) → Cleared v 0 sets sets
cleared_none v sets = record { long = same_none sets; kept = λ u row h l. refl; empty = λ row h. absurd (omega arith) }

-- where the slice is as it was, so is the set
inner_same : (marks a b : List Bool) (v row : ℕ) → get_or b (v * 1024 + row) false ≡ get_or a (v * 1024 + row) false → in_set (sets_of marks b) v row ≡ in_set (sets_of marks a) v row
unfolding in_set
inner_same marks a b v row e = ap (cond (eqb v 0) (get_or marks row false)) e

pub cleared_more : {marks : List Bool} {v row : ℕ} {a b : List Bool} → 0 < v → Cleared v row (sets_of marks a) (sets_of marks b) → v * 1024 + row < length b → Cleared v (row + 1) (sets_of marks a) (sets_of marks (set b (v * 1024 + row) false))
unfolding in_set
cleared_more {marks} {v} {row} {a} {b} some r h =
    record {
      long = record { self = refl; inner = length-set b at false ∙ r.long.inner };
      kept = λ u k l low. inner_same marks b (set b at false) u k (get_or-set_other b at (u * 1024 + k) false false (λ e. omega arith)) ∙ r.kept u k l low;
      empty = below_more _ _ (λ k l. inner_same marks b (set b at false) v k (get_or-set_other b at (v * 1024 + k) false false (λ e. omega arith)) ∙ r.empty k l) last;
    }
  where
    at : ℕ
    at = v * 1024 + row

    last : in_set (sets_of marks (set b (v * 1024 + row) false)) v row ≡ false
    last = rw (ne_eqb v 0 (λ e. omega arith)) (get_or-set_same b (v * 1024 + row) false false h)

-- ---- the sets of the first variables

pub grown_below : {a b : Sets} (depth : ℕ) → Grown a b → GrownBelow depth a b
grown_below depth r = record { long = r.long; kept = λ v row l h. r.kept v row }

pub cleared_below : {v rows : ℕ} {a b : Sets} → Cleared v rows a b → GrownBelow v a b
cleared_below r = record { long = r.long; kept = λ u row l h e. r.kept u row l h ∙ e }

pub below_then : {depth : ℕ} {a b c : Sets} → GrownBelow depth a b → GrownBelow depth b c → GrownBelow depth a c
below_then r s = record { long = same_then r.long s.long; kept = λ v row l h e. s.kept v row l h (r.kept v row l h e) }

pub below_less : {depth : ℕ} {a b : Sets} → GrownBelow (depth + 1) a b → GrownBelow depth a b
below_less r = record { long = r.long; kept = λ v row l. r.kept v row (omega arith) }
