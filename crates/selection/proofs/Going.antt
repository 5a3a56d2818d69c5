-- The touched rules one after the other, and room for the number of their pairs.
use Prim.Native.Nat.{ℕ, zero, suc, ◌+◌, ◌*◌, ◌≤◌, ◌<◌}
use mathlib.Core.Path.{◌≡◌, refl, sym, ap, subst, ◌∙◌}
use mathlib.Core.Bool.{Bool, true, false, cond}
use mathlib.Core.List.{List, [], ◌∷◌, ◌++◌, append_assoc, append-nil}
use native.Mathlib.Omega.{arith}
use lib.ListN.{length, get_or, drop}
use Rattle.meaning.specs.Lists.{keep}
use Rattle.meaning.specs.Limits.{max_objects}
use Rattle.rows.specs.Rows.{rows_from, read_rows}

-- numbers from `low` on, ascending, and below m
abbrev pub Spaced : ℕ → ℕ → List ℕ → Type 0
Spaced low m [] = Unit {0}
Spaced low m (i ∷ l) = (low ≤ i) × (i < m) × Spaced (suc i) m l

sooner : (low m : ℕ) (l : List ℕ) → Spaced (suc low) m l → Spaced low m l
sooner low m [] s = tt
sooner low m (i ∷ l) s = (omega (arith, s.0), s.1, s.2)

pub spaced_from : (may : ℕ → Bool) (j q : ℕ) → Spaced j (j + q) (keep may (rows_from (λ x. x) j q))
spaced_from may j zero = tt
spaced_from may j (suc q) = step (may j) (subst (λ m. Spaced (suc j) m (keep may (rows_from (λ x. x) (suc j) q))) (omega arith) (spaced_from may (suc j) q))
  where
    step : (b : Bool) → Spaced (suc j) (j + suc q) (keep may (rows_from (λ x. x) (suc j) q))
        → Spaced j (j + suc q) (cond b (j ∷ keep may (rows_from (λ x. x) (suc j) q)) (keep may (rows_from (λ x. x) (suc j) q)))
    step true s = (omega arith, omega arith, s)
    step false s = sooner j (j + suc q) (keep may (rows_from (λ x. x) (suc j) q)) s

-- ---- the touched rules

-- the rules that are left of all, the pairs of those that are done, and how many rules remain
pub record Going (m : ℕ) (all left : List ℕ) (count remaining : ℕ) : Type 0 where
  pub low : ℕ
  pub low_few : low ≤ m
  pub room : count ≤ low * max_objects
  pub ahead : Spaced low m left
  pub number : remaining ≡ length left
  pub done : List ℕ
  pub parts : all ≡ done ++ left

abbrev pub going_starts : (m : ℕ) (may : ℕ → Bool) (all : List ℕ) {remaining : ℕ} → all ≡ keep may (read_rows (λ x. x) m) → remaining ≡ length all → Going m all all 0 remaining
going_starts m may all e number =
    record { low = 0; low_few = omega arith; room = omega arith; ahead = subst (Spaced 0 m) (sym e) (subst (λ k. Spaced 0 k (keep may (read_rows (λ x. x) m))) (omega arith) (spaced_from may 0 m)); number = number; done = []; parts = refl }

module _ {m : ℕ} {all left : List ℕ} {count remaining : ℕ} (g : Going m all left count remaining) (some_left : 0 < remaining) where
  -- the next rule is the first that is left
  next_is : (l : List ℕ) → 0 < length l → l ≡ get_or l 0 32 ∷ drop 1 l
  next_is [] h = absurd (omega arith)
  next_is (i ∷ l) h = refl

  abbrev next : ℕ
  next = get_or left 0 32

  pub split : left ≡ next ∷ drop 1 left
  split = next_is left (omega (arith, g.number))

  pub at_next : Spaced g.low m (next ∷ drop 1 left)
  at_next = subst (Spaced g.low m) split g.ahead

  pub next_low : {rule : ℕ} → rule ≡ next → rule < m
  next_low e = omega (arith, at_next.1)

  pub next_room : {rule : ℕ} → rule ≡ next → count ≤ rule * max_objects
  next_room e = omega (arith, at_next.0, g.room)

  abbrev pub going_on : {rule : ℕ} {rest : List ℕ} {count' remaining' : ℕ} → rule ≡ next → rest ≡ drop 1 left → count' ≤ count + max_objects → remaining' + 1 ≡ remaining → Going m all rest count' remaining'
  going_on {rule} e r few fewer =
      record {
        low = suc next;
        low_few = omega (arith, at_next.1);
        room = omega (arith, next_room refl);
        ahead = subst (Spaced (suc next) m) (sym r) at_next.2;
        number = omega (arith, g.number, ap length split, ap length r);
        done = g.done ++ next ∷ [];
        parts = g.parts ∙ ap (λ l. g.done ++ l) (split ∙ ap (λ l. next ∷ l) (sym r)) ∙ sym (append_assoc g.done (next ∷ []) _);
      }

none_left : (l : List ℕ) → 0 ≡ length l → l ≡ []
none_left [] e = refl
none_left (i ∷ l) e = absurd (omega arith)

-- nothing is left
pub going_ends : {m : ℕ} {all left : List ℕ} {count remaining : ℕ} (g : Going m all left count remaining) → remaining ≡ 0 → g.done ≡ all
going_ends {left = left} g e = sym (g.parts ∙ ap (λ l. g.done ++ l) (none_left left (sym e ∙ g.number)) ∙ append-nil g.done)
