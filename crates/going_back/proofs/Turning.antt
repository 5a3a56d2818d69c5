-- A role turned round leads back: from the far end to the near one.
use Prim.Native.Nat.{ℕ, ◌+◌, ◌-◌, ◌/◌, ◌%◌}
use mathlib.Core.Path.{◌≡◌, refl, sym, subst, ◌∙◌}
use mathlib.Core.Bool.{Bool, true, false, cond}
use native.Mathlib.Omega.{arith}
use lib.Dec.{T, eqb}
use mir.Facts.{and_yes, yes_and, eqb_yes, yes_eqb}
use borrow.Author.Tests.{eq-eqb, ne_eqb, eqb-true, eqb-false}
use Rattle.meaning.specs.Lists.{◌∈◌}
use Rattle.meaning.specs.Schema.{relationship_of}
use Rattle.meaning.specs.Register.{Link, Register, near_end, far_end, starts_at, far_ends}
use Rattle.meaning.proofs.Registers.{far_in, far_from}
use Rattle.going_back.specs.Back.{turned}

turned_relationship : (r : ℕ) → relationship_of (turned r) ≡ relationship_of r
turned_relationship r = step (eqb (r % 2) 0) refl
  where
    step : (b : Bool) → eqb (r % 2) 0 ≡ b → cond b (r + 1) (r - 1) / 2 ≡ r / 2
    step true e = omega (arith, eqb-true (r % 2) 0 e)
    step false e = let odd = eqb-false (r % 2) 0 e in odd_half r odd
      where
        odd_half : (r : ℕ) → (r % 2 ≡ 0 → ⊥) → (r - 1) / 2 ≡ r / 2
        odd_half r h = omega arith

-- the ends change their places
turned_ends : (r : ℕ) (l : Link) → (near_end (turned r) l ≡ far_end r l) × (far_end (turned r) l ≡ near_end r l)
turned_ends r l = step (eqb (r % 2) 0) refl
  where
    step : (b : Bool) → eqb (r % 2) 0 ≡ b → (near_end (turned r) l ≡ far_end r l) × (far_end (turned r) l ≡ near_end r l)
    step true e =
        let even = eqb-true (r % 2) 0 e in
        let odd : (r + 1) % 2 ≡ 0 → ⊥ = λ q. omega arith in
        (rw (e, ne_eqb ((r + 1) % 2) 0 odd), rw (e, ne_eqb ((r + 1) % 2) 0 odd))
    step false e =
        let odd = eqb-false (r % 2) 0 e in
        let even : (r - 1) % 2 ≡ 0 = before_odd r odd in
        (rw (e, eq-eqb ((r - 1) % 2) 0 even), rw (e, eq-eqb ((r - 1) % 2) 0 even))
      where
        before_odd : (r : ℕ) → (r % 2 ≡ 0 → ⊥) → (r - 1) % 2 ≡ 0
        before_odd r h = omega arith

-- x is at the far end of r from u: so u is at the far end of the role turned round from x
pub leads_back : (g : Register) (r u x : ℕ) → x ∈ far_ends g r u → u ∈ far_ends g (turned r) x
leads_back g r u x m =
    let f = far_from g r u x m in
    let l = f.0 in
    let starts = and_yes (eqb l.relationship (relationship_of r)) (eqb (near_end r l) u) f.2 in
    let ends = turned_ends r l in
    let back : T (starts_at (turned r) x l) =
    yes_and (eqb l.relationship (relationship_of (turned r))) (eqb (near_end (turned r) l) x) (yes_eqb (eqb_yes starts.0 ∙ sym (turned_relationship r))) (yes_eqb (ends.0 ∙ sym f.3)) in
    subst (λ z. z ∈ far_ends g (turned r) x) (ends.1 ∙ eqb_yes starts.1) (far_in g (turned r) x l f.1 back)
