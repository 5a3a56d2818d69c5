-- Sets that cover what is reached.
use Prim.Native.Nat.{ℕ, ◌+◌, ◌≤◌}
use mathlib.Core.Path.{◌≡◌, subst, ◌∙◌}
use mathlib.Core.Logic.{⊎_elim}
use mathlib.Core.Bool.{Bool, true, false, ◌||◌}
use mathlib.Core.List.{List}
use native.Mathlib.Omega.{arith}
use lib.Dec.{T}
use Rattle.walks.specs.Site.{id_in}
use Rattle.going_back.specs.Back.{Covered}
use Rattle.row_sets.specs.Sets.{Sets, GrownBelow}
use Rattle.row_sets.proofs.Tests.{one_true}

module _ {objects : List ℕ} {rows depth : ℕ} where
  pub covered_all : {reach : ℕ → ℕ → Bool} {sets : Sets} → Covered reach objects rows depth true sets
  covered_all = record { each = λ e. absurd (subst T e tt) }

  -- the same is reached
  pub covered_as : {f g : ℕ → ℕ → Bool} {everything : Bool} {sets : Sets} → ((v u : ℕ) → f v u ≡ g v u) → Covered f objects rows depth everything sets → Covered g objects rows depth everything sets
  covered_as same r = record { each = λ e v l row m t. r.each e v l row m (same v (id_in objects row) ∙ t) }

  -- what was covered stays so, and more is
  pub covered_then : {f g : ℕ → ℕ → Bool} {first everything : Bool} {a b : Sets} → rows ≤ 1024 → first ≡ false
      → Covered f objects rows depth first a
      → GrownBelow depth a b
      → Covered g objects rows depth everything b
      → Covered (λ v u. f v u || g v u) objects rows depth everything b
  covered_then {f} {g} few q r grown s =
      record {
        each = λ e v l row m t.
            ⊎_elim (λ h. grown.kept v row l (omega arith) (r.each q v l row m h)) (s.each e v l row m) (one_true (f v (id_in objects row)) (g v (id_in objects row)) t);
      }

-- of fewer variables
pub covered_less : {objects : List ℕ} {rows depth : ℕ} {f : ℕ → ℕ → Bool} {everything : Bool} {sets : Sets} → Covered f objects rows (depth + 1) everything sets → Covered f objects rows depth everything sets
covered_less r = record { each = λ e v l. r.each e v (omega arith) }
