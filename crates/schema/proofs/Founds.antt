-- A place that the code answers, as an optional number.
use Prim.Native.Nat.{ℕ}
use mathlib.Core.Path.{◌≡◌, refl, sym, ap, ap₂, ◌∙◌}
use mathlib.Core.Option.{Option, none, some}
use mathlib.Core.Bool.{true}
use Rattle.meaning.specs.Lists.{first_of, holds}
use Rattle.tables.specs.Refusals.{found_of}
use Rattle.std.specs.Prelude as Std
use Rattle.std.specs.Prelude.{Some, None}
use Rattle.std.specs.Prelude.{is_some}
use Rattle.std.specs.Option.{option_or}

pub found_none : (o : Option ℕ) → None ≡ found_of o → o ≡ none
found_none none e = refl
found_none (some n) e = cc

pub found_some : (o : Option ℕ) {n : ℕ} → Some n ≡ found_of o → o ≡ some n
found_some none e = cc
found_some (some m) {n} e = cc

pub found_is_some : (o : Option ℕ) → is_some (found_of o) ≡ holds (λ n. true) o
found_is_some none = refl
found_is_some (some n) = refl

-- the first of two places that is there, by the library's `or`
pub found_or : (x y : Option ℕ) {a b : Std.Option ℕ} → a ≡ found_of x → b ≡ found_of y → option_or a b ≡ found_of (first_of x y)
found_or none y e f = ap₂ option_or e f
found_or (some n) y e f = ap₂ option_or e f

-- the two ways in which one place comes before another
pub found_first : (x y : Option ℕ) {n : ℕ} → Some n ≡ found_of x → Some n ≡ found_of (first_of x y)
found_first x y e = sym (ap (λ o. found_of (first_of o y)) (found_some x e))

pub found_second : (x y : Option ℕ) {a : Std.Option ℕ} → None ≡ found_of x → a ≡ found_of y → a ≡ found_of (first_of x y)
found_second x y e f = f ∙ sym (ap (λ o. found_of (first_of o y)) (found_none x e))
