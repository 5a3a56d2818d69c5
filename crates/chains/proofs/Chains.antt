-- The law of chains: what a word of a chain leads to, and one place more at the head of its chain.
use Prim.Native.Nat.{ℕ, zero, suc, ◌+◌, ◌-◌, ◌≤◌, ◌<◌}
use mathlib.Core.Path.{◌≡◌, refl, sym, ap, ap₂, subst, ◌∙◌}
use mathlib.Core.Logic.{⊎_elim}
use mathlib.Core.Bool.{Bool, true, false, cond}
use native.Mathlib.Nat.{eq-or-lt_of_le}
use native.Mathlib.Omega.{arith}
use lib.Dec.{eqb}
use borrow.Author.Tests.{eqb-true, eqb-false}
use Rattle.chains.specs.Chains.{lead_from, lead, slot_word, Chained}

module _ (key : ℕ → ℕ) (k : ℕ) where
  -- place j is the first of key k of those from i up to e
  pub record Lead (i e j : ℕ) : Type 0 where
    pub from : i ≤ j
    pub within : j < e
    pub leads : key j ≡ k
    pub others : (x : ℕ) → i ≤ x → x < j → key x ≡ k → ⊥

  from_some : (i m : ℕ) {j : ℕ} → suc j ≡ lead_from key k i m → Lead i (i + m) j
  from_some i zero e = absurd (omega arith)
  from_some i (suc m) {j} e = step (eqb (key i) k) refl (from_some (suc i) m) e
    where
      step : (b : Bool) → eqb (key i) k ≡ b → (suc j ≡ lead_from key k (suc i) m → Lead (suc i) (suc i + m) j) → suc j ≡ cond b (suc i) (lead_from key k (suc i) m) → Lead i (i + suc m) j
      step true q below e =
          let same : i ≡ j = omega arith in
          record { from = omega arith; within = omega arith; leads = subst (λ x. key x ≡ k) same (eqb-true (key i) k q); others = λ x h l. absurd (omega arith) }
      step false q below e =
          let l = below e in
          record {
            from = omega (arith, l.from);
            within = omega (arith, l.within);
            leads = l.leads;
            others = λ x h under t. ⊎_elim (λ (s : i ≡ x). eqb-false (key i) k q (ap key s ∙ t)) (λ (s : i < x). l.others x s under t) (eq-or-lt_of_le h);
          }

  from_none : (i m : ℕ) → 0 ≡ lead_from key k i m → (x : ℕ) → i ≤ x → x < i + m → key x ≡ k → ⊥
  from_none i zero e x h l t = omega arith
  from_none i (suc m) e x h l t = step (eqb (key i) k) refl (λ f s. from_none (suc i) m f x s (omega arith) t) e
    where
      step : (b : Bool) → eqb (key i) k ≡ b → (0 ≡ lead_from key k (suc i) m → suc i ≤ x → ⊥) → 0 ≡ cond b (suc i) (lead_from key k (suc i) m) → ⊥
      step true q below e = omega arith
      step false q below e = ⊎_elim (λ (s : i ≡ x). eqb-false (key i) k q (ap key s ∙ t)) (λ (s : i < x). below e s) (eq-or-lt_of_le h)

  module _ (n : ℕ) where
    pub lead_some : (i : ℕ) {j : ℕ} → suc j ≡ lead key n k i → Lead i n j
    unfolding lead
    lead_some i e =
        let l = from_some i (n - i) e in
        record { from = l.from; within = omega (arith, l.from, l.within); leads = l.leads; others = l.others }

    pub lead_none : (i : ℕ) → 0 ≡ lead key n k i → (x : ℕ) → i ≤ x → x < n → key x ≡ k → ⊥
    unfolding lead
    lead_none i e x h l = from_none i (n - i) e x h (omega arith)

    lead_last : 0 ≡ lead key n k n
    unfolding lead
    lead_last = let e : n - n ≡ 0 = omega arith in sym (ap (lead_from key k n) e)

    lead_step : (i : ℕ) → i < n → lead key n k i ≡ cond (eqb (key i) k) (suc i) (lead key n k (suc i))
    unfolding lead
    lead_step i h = let e : n - i ≡ suc (n - suc i) = omega arith in ap (lead_from key k i) e

-- keys that are the same below n make the same chains
module _ (key key' : ℕ → ℕ) where
  from_same : (k i m : ℕ) → ((j : ℕ) → i ≤ j → j < i + m → key j ≡ key' j) → lead_from key k i m ≡ lead_from key' k i m
  from_same k i zero same = refl
  from_same k i (suc m) same =
      ap₂ (λ x l. cond (eqb x k) (suc i) l) (same i (omega arith) (omega arith)) (from_same k (suc i) m (λ j h l. same j (omega arith) (omega arith)))

  module _ (n : ℕ) (same : (j : ℕ) → j < n → key j ≡ key' j) where
    lead_same : (k i : ℕ) → lead key n k i ≡ lead key' n k i
    unfolding lead
    lead_same k i = from_same k i (n - i) (λ j h l. same j (omega arith))

    pub chained_same : (at : ℕ → ℕ) {next heads : ℕ → ℕ} {i : ℕ} → Chained at key n next heads i → Chained at key' n next heads i
    chained_same at c =
        record {
          next_is = λ p h l. c.next_is p h l ∙ ap (slot_word at) (ap (λ k. lead key n k (suc p)) (same p l) ∙ lead_same (key' p) (suc p));
          head_is = λ k. c.head_is k ∙ ap (slot_word at) (lead_same k _);
        }

module _ (at key : ℕ → ℕ) (n : ℕ) where
  -- no place yet
  pub chained_none : (next heads : ℕ → ℕ) → ((k : ℕ) → heads k ≡ 0) → Chained at key n next heads n
  chained_none next heads z = record { next_is = λ p h l. absurd (omega arith); head_is = λ k. z k ∙ ap (slot_word at) (lead_last key k n) }

  -- a place at the head of its chain, before what was the head: nothing else changes
  pub record Pushed (i : ℕ) (next heads next' heads' : ℕ → ℕ) : Type 0 where
    pub next_own : next' (at i) ≡ heads (key i)
    pub next_other : (p : ℕ) → i < p → p < n → next' (at p) ≡ next (at p)
    pub head_own : heads' (key i) ≡ suc (at i)
    pub head_other : (k : ℕ) → (key i ≡ k → ⊥) → heads' k ≡ heads k

  pub chained_more : {next heads next' heads' : ℕ → ℕ} (i : ℕ) → Chained at key n next heads (suc i) → i < n → Pushed i next heads next' heads' → Chained at key n next' heads' i
  chained_more {next} {heads} {next'} {heads'} i c h w = record { next_is = follow; head_is = head }
    where
      follow : (p : ℕ) → i ≤ p → p < n → next' (at p) ≡ slot_word at (lead key n (key p) (suc p))
      follow p l m =
          ⊎_elim
          (λ (q : i ≡ p). subst (λ x. next' (at x) ≡ slot_word at (lead key n (key x) (suc x))) q (w.next_own ∙ c.head_is (key i)))
          (λ (q : i < p). w.next_other p q m ∙ c.next_is p q m)
          (eq-or-lt_of_le l)

      head : (k : ℕ) → heads' k ≡ slot_word at (lead key n k i)
      head k = step (eqb (key i) k) refl ∙ ap (slot_word at) (sym (lead_step key k n i h))
        where
          step : (b : Bool) → eqb (key i) k ≡ b → heads' k ≡ slot_word at (cond b (suc i) (lead key n k (suc i)))
          step true q = ap heads' (sym (eqb-true (key i) k q)) ∙ w.head_own
          step false q = w.head_other k (eqb-false (key i) k q) ∙ c.head_is k
