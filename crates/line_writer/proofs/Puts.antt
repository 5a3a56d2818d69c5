-- Bytes put after bytes are put as all of them.
use Prim.Native.Nat.{ℕ, ◌+◌, ◌≤◌}
use mathlib.Core.Path.{◌≡◌, refl, sym, ap, subst, ◌∙◌}
use mathlib.Core.List.{List, [], ◌++◌, append-nil}
use native.Mathlib.Omega.{arith}
use native.Mathlib.Decide.{dec_le}
use native.Mathlib.Nat.{add-zero}
use lib.ListN.{length, length-append, take-append-drop}
use Rattle.lexical.specs.Writing.{written, place_after}
use Rattle.lexical.proofs.Writing.{fits_place, over_place, text_is, length_written, place_append, written_append}
use Rattle.line_writer.specs.Put.{Put}

pub put_of : {d : List ℕ} {at : ℕ} {s e : List ℕ} {p : ℕ} → (p ≡ place_after d at s) × (e ≡ written d at s) → Put d at s e p
put_of {d} {at} {s} w = record { place = w.0; size = ap length w.1 ∙ length_written d at s; text = λ h. w.1 }

place_size : (d e : List ℕ) (at : ℕ) (s : List ℕ) → length d ≡ length e → place_after d at s ≡ place_after e at s
unfolding place_after
place_size d e at s l = rw l

module _ {d : List ℕ} {at : ℕ} {s e : List ℕ} {p : ℕ} (one : Put d at s e p) where
  -- the place is within the text, or one past its length
  pub put_within : p ≤ length e + 1
  put_within = go (dec_le (at + length s) (length d))
    where
      go : Dec (at + length s ≤ length d) → p ≤ length e + 1
      go (yes h) = omega (arith, one.place, one.size, fits_place d at s h)
      go (no n) = omega (arith, one.place, one.size, over_place d at s (omega arith))

  pub put_then : {r f : List ℕ} {q : ℕ} → Put e p r f q → Put d at (s ++ r) f q
  put_then {r} {f} {q} two = record {
    place = two.place ∙ place_size e (written d at s) p r (one.size ∙ sym (length_written d at s)) ∙ ap (λ k. place_after (written d at s) k r) one.place ∙ place_append d at s r;
    size = two.size ∙ one.size;
    text = λ h.
        let all = length-append s r in
        let fit : at + length s ≤ length d = omega arith in
        let next : p ≡ at + length s = one.place ∙ fits_place d at s fit in
        let more : p + length r ≤ length e = omega (arith, one.size) in
        two.text more ∙ rw (next, one.text fit) (written_append d at s r (omega arith));
  }

  pub put_as : {r : List ℕ} → s ≡ r → Put d at r e p
  put_as q = subst (λ r. Put d at r e p) q one

-- nothing put
pub put_nothing : (d : List ℕ) (at : ℕ) → at ≤ length d + 1 → Put d at [] d at
put_nothing d at h = record { place = go (dec_le at (length d)); size = refl; text = λ k. nothing k }
  where
    nothing : at + length {A = ℕ} [] ≤ length d → d ≡ written d at []
    nothing k = sym (text_is d at [] k ∙ rw (add-zero, append-nil) (take-append-drop at d))

    go : Dec (at ≤ length d) → at ≡ place_after d at []
    go (yes k) = let z : at ≡ at + length {A = ℕ} [] = omega arith in z ∙ sym (fits_place d at [] (omega arith))
    go (no n) = let z : at ≡ length d + 1 = omega arith in z ∙ sym (over_place d at [] (omega arith))
