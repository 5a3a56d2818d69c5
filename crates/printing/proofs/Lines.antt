-- Lines by their pieces, and how long they are.
use Prim.Native.Nat.{ℕ, ◌+◌, ◌≤◌}
use mathlib.Core.Path.{◌≡◌, refl, sym, ap, ◌∙◌}
use mathlib.Core.List.{List, [], ◌∷◌, ◌++◌, append_assoc, append-nil}
use native.Mathlib.Nat.{zero-add}
use native.Mathlib.Omega.{arith}
use lib.ListN.{length, drop, length-append}
use Rattle.rows.specs.Rows.{in_front}
use Rattle.lexical.specs.Decimals.{digits_of}
use Rattle.lexical.proofs.Writing.{fits_place, text_is}
use Rattle.line_writer.specs.Put.{Put}
use Rattle.printing.specs.Lines.{spaced, line_of}

-- what is put at the front, where it fits
pub put_front : {d s e : List ℕ} {p : ℕ} → Put d 0 s e p → length s ≤ length d → (e ≡ in_front s d) × (p ≡ length s)
put_front {d} {s} put h =
    let fit : 0 + length s ≤ length d = omega arith in
    (put.text fit ∙ text_is d 0 s fit ∙ ap (λ k. s ++ drop k d) (zero-add (length s)), put.place ∙ fits_place d 0 s fit ∙ zero-add (length s))

-- ---- pieces

pub spaced_one : (n : ℕ) → 32 ∷ digits_of n ≡ spaced (n ∷ [])
unfolding spaced
spaced_one n = sym (append-nil (32 ∷ digits_of n))

pub line_none : (name : List ℕ) → name ++ 10 ∷ [] ≡ line_of name []
unfolding line_of spaced
line_none name = ap (λ l. l ++ 10 ∷ []) (sym (append-nil name))

-- a number goes to the name's end
pub line_number : (name : List ℕ) (n : ℕ) (ns : List ℕ) → line_of (name ++ 32 ∷ digits_of n) ns ≡ line_of name (n ∷ ns)
unfolding line_of spaced
line_number name n ns = ap (λ l. l ++ 10 ∷ []) (append_assoc name (32 ∷ digits_of n) (spaced ns))

pub line_two : (name : List ℕ) (x y : ℕ) → ((name ++ 32 ∷ digits_of x) ++ 32 ∷ digits_of y) ++ 10 ∷ [] ≡ line_of name (x ∷ y ∷ [])
line_two name x y = line_none _ ∙ line_number (name ++ 32 ∷ digits_of x) y [] ∙ line_number name x (y ∷ [])

-- ---- lengths

pub line_size : (name ns : List ℕ) → length (line_of name ns) ≡ length name + length (spaced ns) + 1
unfolding line_of
line_size name ns = omega (arith, length-append (name ++ spaced ns) (10 ∷ []), length-append name (spaced ns))

pub spaced_size : (n : ℕ) (ns : List ℕ) → length (spaced (n ∷ ns)) ≡ 1 + length (digits_of n) + length (spaced ns)
unfolding spaced
spaced_size n ns = omega (arith, length-append (32 ∷ digits_of n) (spaced ns))

pub spaced_none : length (spaced []) ≡ 0
unfolding spaced
spaced_none = refl

-- two numbers of at most k digits
pub two_size : (k : ℕ) (name : List ℕ) (x y : ℕ) → length (digits_of x) ≤ k → length (digits_of y) ≤ k → length (line_of name (x ∷ y ∷ [])) ≤ length name + (k + k) + 3
two_size k name x y p q = omega (arith, line_size name (x ∷ y ∷ []), spaced_size x (y ∷ []), spaced_size y [], spaced_none)
