-- What the scan of a body keeps of each row that it passed.
use Prim.Native.Nat.{ℕ, suc, ◌+◌, ◌≤◌, ◌<◌}
use mathlib.Core.Path.{◌≡◌, refl, sym, ap, subst, ◌∙◌}
use mathlib.Core.Logic.{⊎_elim}
use mathlib.Core.List.{List}
use native.Mathlib.Nat.{le_refl, le_trans, eq-or-lt_of_le}
use native.Mathlib.Numerals.{add-one}
use native.Mathlib.Omega.{arith}
use lib.ListN.{length, get_or, set, replicate, length-set, length-replicate}
use lib.Seq.{get_or-set_same, get_or-set_other}
use Rattle.tables.specs.Bodies.{BodyRow, ending, first_part, second_part}
use Rattle.tables.proofs.Readings.{ending_start}
use Rattle.body_rows.specs.Marks.{mark, Starts}

-- an array with one value more
filled : (f : ℕ → ℕ) (l : List ℕ) (i v : ℕ) → i + 1 < length l → ((k : ℕ) → k ≤ i → get_or l k 0 ≡ f k) → v ≡ f (suc i) → (k : ℕ) → k ≤ i + 1 → get_or (set l (i + 1) v) k 0 ≡ f k
filled f l i v room before e k h =
    ⊎_elim
    (λ (q : k ≡ i + 1). subst (λ j. get_or (set l (i + 1) v) j 0 ≡ f j) (sym q) (get_or-set_same l (i + 1) v 0 room ∙ e ∙ ap f (sym (add-one i))))
    (λ (q : k < i + 1). get_or-set_other l (i + 1) k v 0 (omega arith) ∙ before k (omega arith))
    (eq-or-lt_of_le h)

-- the arrays have the start and the mark of the form that ends before each row up to row i
pub record Kept (rows : ℕ → BodyRow) (starts marks : List ℕ) (i : ℕ) : Type 0 where
  pub room : length starts ≡ 65
  pub space : length marks ≡ 65
  pub start : (k : ℕ) → k ≤ i → get_or starts k 0 ≡ (ending rows k).start
  pub marked : (k : ℕ) → k ≤ i → get_or marks k 0 ≡ mark (ending rows k)

module _ {rows : ℕ → BodyRow} {starts marks : List ℕ} {i : ℕ} (k : Kept rows starts marks i) where
  pub kept_low : get_or starts i 0 ≤ i
  kept_low = let e = k.start i (le_refl i) in omega (arith, ending_start rows i)

  -- what is kept of the two parts of row i
  pub kept_parts : (get_or starts (get_or starts i 0) 0 ≡ (first_part rows i).start) × (get_or starts i 0 ≡ (second_part rows i).start)
  kept_parts = (k.start (get_or starts i 0) kept_low ∙ ap (λ e. (ending rows e).start) (k.start i (le_refl i)), k.start i (le_refl i))

  pub marked_parts : (get_or marks (get_or starts i 0) 0 ≡ mark (first_part rows i)) × (get_or marks i 0 ≡ mark (second_part rows i))
  marked_parts = (k.marked (get_or starts i 0) kept_low ∙ ap (λ e. mark (ending rows e)) (k.start i (le_refl i)), k.marked i (le_refl i))

pub kept_none : (rows : ℕ → BodyRow) → Kept rows (replicate 65 0) (replicate 65 3) 0
unfolding ending mark
kept_none rows =
    record {
      room = length-replicate {A = ℕ} 65 0;
      space = length-replicate {A = ℕ} 65 3;
      start = λ k h. let e : 0 ≡ k = omega arith in subst (λ j. get_or (replicate 65 0) j 0 ≡ (ending rows j).start) e refl;
      marked = λ k h. let e : 0 ≡ k = omega arith in subst (λ j. get_or (replicate 65 3) j 0 ≡ mark (ending rows j)) e refl;
    }

pub kept_more : {rows : ℕ → BodyRow} {starts marks : List ℕ} {i : ℕ} → Kept rows starts marks i → i < 64 → (s m : ℕ) → s ≡ (ending rows (suc i)).start → m ≡ mark (ending rows (suc i)) → Kept rows (set starts (i + 1) s) (set marks (i + 1) m) (i + 1)
kept_more {rows} {starts} {marks} {i} k h s m e f =
    let a = k.room in
    let b = k.space in
    record {
      room = length-set starts (i + 1) s ∙ a;
      space = length-set marks (i + 1) m ∙ b;
      start = filled (λ j. (ending rows j).start) starts i s (omega arith) k.start e;
      marked = filled (λ j. mark (ending rows j)) marks i m (omega arith) k.marked f;
    }

-- the starts of fewer rows
pub starts_less : {rows : ℕ → BodyRow} {starts : List ℕ} {e : ℕ} → Starts rows starts e → (m : ℕ) → m ≤ e → Starts rows starts m
starts_less s m h = record { few = le_trans h s.few; right = λ k l. s.right k (le_trans l h) }
