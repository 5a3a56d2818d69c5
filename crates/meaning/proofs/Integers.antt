-- Laws of the order of ℤ beyond the kit's: what sums and differences do to it.
use Prim.Native.Nat.{ℕ, zero, suc, ◌≤◌, ◌+◌, ◌-◌}
use mathlib.Core.Path.{◌≡◌, refl, sym, ap, ap₂, ◌∙◌}
use mathlib.Core.Logic.{⊎_elim}
use mathlib.Core.Bool.{Bool, true, false, not, cond}
use native.Mathlib.Nat.{le_refl, le_antisymm, add_comm}
use native.Mathlib.Omega.{arith}
use lib.Dec.{ltb, leb, leb-zero, leb-suc-zero, leb-suc-suc}
use lib.IntN.{ℤ, pos, negsuc, nat_abs, neg_ℤ, suc_ℤ, sub_ℕ, ◌+ℤ◌, ◌-ℤ◌, +ℤ_comm, +ℤ_assoc, +ℤ_idr, +ℤ-suc_ℤ, -ℤ-+ℤ_cancel}
use lib.Signed.{le_z, lt_z, ◌≤ℤ◌, le_z_yes, lt_z_yes, lt_z_no, <ℤ-≤ℤ_trans, clash_ℤ}
use mir.Facts.{leb_yes, yes_leb}
use borrow.Author.Tests.{ltb-true, leb-true, leb-false, lt-ltb, le-ltb}
use Rattle.meaning.proofs.Lists.{decide}

pub ≤ℤ-trans : {a b c : ℤ} → a ≤ℤ b → b ≤ℤ c → a ≤ℤ c
≤ℤ-trans {a} {c = c} h k = ⊎_elim (λ t. clash_ℤ (<ℤ-≤ℤ_trans (lt_z_yes t) h) k) (λ t. lt_z_no t) (decide (lt_z c a))

pub ≤ℤ-antisym : {a b : ℤ} → a ≤ℤ b → b ≤ℤ a → a ≡ b
≤ℤ-antisym {a = pos m} {b = pos n} h k = ap pos (le_antisymm (leb_yes h.le) (leb_yes k.le))
≤ℤ-antisym {a = pos m} {b = negsuc n} h k = absurd h.le
≤ℤ-antisym {a = negsuc m} {b = pos n} h k = absurd k.le
≤ℤ-antisym {a = negsuc m} {b = negsuc n} h k = ap negsuc (le_antisymm (leb_yes k.le) (leb_yes h.le))

pub pos_mono : {m n : ℕ} → m ≤ n → pos m ≤ℤ pos n
pos_mono h = record { le = yes_leb h }

ltb_not_leb : (m n : ℕ) → ltb m n ≡ not (leb n m)
ltb_not_leb m n = step (leb n m) refl
  where
    step : (b : Bool) → leb n m ≡ b → ltb m n ≡ not b
    step true e = le-ltb m n (leb-true n m e)
    step false e = lt-ltb m n (leb-false n m e)

pub lt_z_not_le_z : (a b : ℤ) → lt_z a b ≡ not (le_z b a)
lt_z_not_le_z (pos m) (pos n) = ltb_not_leb m n
lt_z_not_le_z (pos m) (negsuc n) = refl
lt_z_not_le_z (negsuc m) (pos n) = refl
lt_z_not_le_z (negsuc m) (negsuc n) = ltb_not_leb n m

-- ---- sums

le_z_suc : (a b : ℤ) → le_z (suc_ℤ a) (suc_ℤ b) ≡ le_z a b
le_z_suc (pos m) (pos n) = leb-suc-suc m n
le_z_suc (pos m) (negsuc zero) = leb-suc-zero m
le_z_suc (pos m) (negsuc (suc n)) = refl
le_z_suc (negsuc zero) (pos n) = leb-zero (suc n)
le_z_suc (negsuc zero) (negsuc zero) = refl
le_z_suc (negsuc zero) (negsuc (suc n)) = sym (leb-suc-zero n)
le_z_suc (negsuc (suc m)) (pos n) = refl
le_z_suc (negsuc (suc m)) (negsuc zero) = sym (leb-zero (suc m))
le_z_suc (negsuc (suc m)) (negsuc (suc n)) = sym (leb-suc-suc n m)

le_z_up : (n : ℕ) (a b : ℤ) → le_z (a +ℤ pos n) (b +ℤ pos n) ≡ le_z a b
le_z_up zero a b = ap₂ le_z (+ℤ_idr a) (+ℤ_idr b)
le_z_up (suc n) a b = ap₂ le_z (+ℤ-suc_ℤ a (pos n)) (+ℤ-suc_ℤ b (pos n)) ∙ le_z_suc (a +ℤ pos n) (b +ℤ pos n) ∙ le_z_up n a b

-- the same number added to both sides
le_z_shift : (c a b : ℤ) → le_z (a +ℤ c) (b +ℤ c) ≡ le_z a b
le_z_shift (pos n) a b = le_z_up n a b
le_z_shift (negsuc n) a b =
    sym (le_z_up (suc n) (a +ℤ negsuc n) (b +ℤ negsuc n)) ∙ ap₂ le_z (-ℤ-+ℤ_cancel a (pos (suc n))) (-ℤ-+ℤ_cancel b (pos (suc n)))

pub add_mono : {a b c d : ℤ} → a ≤ℤ b → c ≤ℤ d → (a +ℤ c) ≤ℤ (b +ℤ d)
add_mono {a} {b} {c} {d} h k =
    ≤ℤ-trans {b = b +ℤ c} (le_z_yes (rw (le_z_shift c a b) h.le)) (le_z_yes (rw (+ℤ_comm b c, +ℤ_comm b d, le_z_shift b c d) k.le))

-- d and c added to both sides leave a + d and b + c
pub sub_mono : {a b c d : ℤ} → a ≤ℤ b → d ≤ℤ c → (a -ℤ c) ≤ℤ (b -ℤ d)
sub_mono {a} {b} {c} {d} h k =
    le_z_yes (rw (← le_z_shift (c +ℤ d) (a -ℤ c) (b -ℤ d), back a c d, +ℤ_comm c d, back b d c) (add_mono h k).le)
  where
    back : (x y z : ℤ) → (x -ℤ y) +ℤ (y +ℤ z) ≡ x +ℤ z
    back x y z = sym (+ℤ_assoc (x -ℤ y) y z) ∙ ap (λ w. w +ℤ z) (-ℤ-+ℤ_cancel x y)

-- ---- the size of a sum or a difference is at most that of its parts together

nat_abs_subℕ : (m n : ℕ) → nat_abs (sub_ℕ m n) ≤ m + n
nat_abs_subℕ m n = step (ltb m n) refl
  where
    step : (b : Bool) → ltb m n ≡ b → nat_abs (cond b (negsuc (n - suc m)) (pos (m - n))) ≤ m + n
    step true e = omega (arith, ltb-true m n e)
    step false e = omega arith

pub nat_abs_add : (a b : ℤ) → nat_abs (a +ℤ b) ≤ nat_abs a + nat_abs b
nat_abs_add (pos m) (pos n) = le_refl (m + n)
nat_abs_add (pos m) (negsuc n) = nat_abs_subℕ m (suc n)
nat_abs_add (negsuc m) (pos n) = rw (add_comm (suc m) n) (nat_abs_subℕ n (suc m))
nat_abs_add (negsuc m) (negsuc n) = omega arith

nat_abs_neg : (a : ℤ) → nat_abs (neg_ℤ a) ≡ nat_abs a
nat_abs_neg (pos zero) = refl
nat_abs_neg (pos (suc n)) = refl
nat_abs_neg (negsuc n) = refl

pub nat_abs_sub : (a b : ℤ) → nat_abs (a -ℤ b) ≤ nat_abs a + nat_abs b
nat_abs_sub a b = rw (← nat_abs_neg b) (nat_abs_add a (neg_ℤ b))
