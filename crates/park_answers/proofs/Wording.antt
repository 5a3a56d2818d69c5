-- A word that was compared with the name of what may be asked.
use Rattle.std.proofs.Common.{◌≡◌, ℕ, Bool, List, [], ◌∷◌, refl, sym, ap, ◌∙◌}
use Rattle.std.specs.Str.{bytes_eq}
use Rattle.meaning.specs.Lists.{same_list}

same_bytes : (word name : List ℕ) → same_list word name ≡ bytes_eq word name
same_bytes [] [] = refl
same_bytes [] (y ∷ ys) = refl
same_bytes (x ∷ xs) [] = refl
same_bytes (x ∷ xs) (y ∷ ys) = rw (same_bytes xs ys)

-- what the comparison answered
pub compared : (word name : List ℕ) {slice : List ℕ} {r b : Bool} → slice ≡ name → r ≡ bytes_eq word slice → r ≡ b → same_list word name ≡ b
compared word name is answered answer = same_bytes word name ∙ ap (bytes_eq word) (sym is) ∙ sym answered ∙ answer
