-- The cells of an object's row below the floors of a type, one after the other.
use Prim.Native.Nat.{ℕ, ◌+◌, ◌≤◌, ◌<◌}
use mathlib.Core.Path.{◌≡◌, sym, subst}
use mathlib.Core.Bool.{true, false, ◌&&◌, not}
use mathlib.Core.List.{List, []}
use native.Mathlib.Omega.{arith}
use lib.Dec.{T}
use lib.IntN.{pos}
use lib.ListN.{get_or}
use lib.Ieee.Bits.{is_true, is_false}
use borrow.Author.Count.{below_none, below_more}
use Rattle.meaning.specs.Limits.{cell_count}
use Rattle.meaning.specs.Schema.{ObjectType, Floor, Schema, floored}
use Rattle.meaning.specs.Register.{negative, below_floor}
use Rattle.meaning.proofs.Floors.{below_cell, no_cell_below}
use Rattle.tables.specs.Columns.{object_row}

module _ (types : List ObjectType) (floors : List Floor) (objects : List ℕ) (row t : ℕ) where
  -- no cell before cell n is below 0 and floored
  abbrev pub NoneBelow : ℕ → Type 0
  NoneBelow n = (k : ℕ) → k < n → (negative (get_or (object_row objects row).cells k (pos 0)) && floored types floors t k) ≡ false

  pub none_first : NoneBelow 0
  none_first = below_none _

  pub none_more : {n : ℕ} → NoneBelow n → (negative (get_or (object_row objects row).cells n (pos 0)) && floored types floors t n) ≡ false → NoneBelow (n + 1)
  none_more {n} before here = below_more _ n before here

  abbrev S : Schema
  S = record { types = types; floors = floors; relationships = [] }

  pub cell_hit : (k : ℕ) → (negative (get_or (object_row objects row).cells k (pos 0)) && floored types floors t k) ≡ true → below_floor types floors t (object_row objects row).cells ≡ true
  cell_hit k e = is_true _ (below_cell S t k (object_row objects row).cells (subst T (sym e) tt))

  pub none_hit : {n : ℕ} → NoneBelow n → cell_count ≤ n → below_floor types floors t (object_row objects row).cells ≡ false
  unfolding object_row
  none_hit {n} none h =
      is_false _ (no_cell_below S t (object_row objects row).cells (λ k less. subst (λ b. T (not b)) (sym (none k (omega arith))) tt))
