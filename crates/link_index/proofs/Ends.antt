-- The two places of a link: their ends, and that these are there.
use Prim.Native.Nat.{ℕ, ◌*◌, ◌/◌, ◌%◌, ◌<◌}
use mathlib.Core.Path.{◌≡◌, ap}
use mathlib.Core.Bool.{Bool, true, false, cond}
use mathlib.Core.List.{List}
use mathlib.Core.Option.{none}
use native.Mathlib.Omega.{arith}
use lib.Dec.{eqb}
use Rattle.meaning.specs.Schema.{forward}
use Rattle.meaning.specs.Register.{Link, near_end, far_end}
use Rattle.tables.specs.Columns.{link_row}
use Rattle.register.specs.Tables.{object_place}
use Rattle.link_index.specs.Slots.{place_key, Indexable}
use Rattle.register.proofs.Rows.{row_is}

-- ---- a place and a role of one parity

module _ (p role : ℕ) (e : p % 2 ≡ role % 2) (l : Link) where
  forward_same : forward p ≡ forward role
  forward_same = ap (λ x. eqb x 0) e

  pub near_same : near_end p l ≡ near_end role l
  near_same = ap (λ v. cond v l.source l.target) forward_same

  pub far_same : far_end p l ≡ far_end role l
  far_same = ap (λ v. cond v l.target l.source) forward_same

-- ---- both ends of a link are there

module _ {m : ℕ} {objects : List ℕ} {n : ℕ} {links : List ℕ} (x : Indexable m objects n links) where
  pub near_present : (p i : ℕ) → i < n → object_place m objects (near_end p (link_row links i)) ≡ none → ⊥
  near_present p i h = step (forward p)
    where
      step : (v : Bool) → object_place m objects (cond v (link_row links i).source (link_row links i).target) ≡ none → ⊥
      step true e = x.sourced i h e
      step false e = x.targeted i h e

  pub far_present : (p i : ℕ) → i < n → object_place m objects (far_end p (link_row links i)) ≡ none → ⊥
  far_present p i h = step (forward p)
    where
      step : (v : Bool) → object_place m objects (cond v (link_row links i).target (link_row links i).source) ≡ none → ⊥
      step true e = x.targeted i h e
      step false e = x.sourced i h e

  pub key_within : (p : ℕ) → p < 2 * n → place_key m objects links p < 65536
  key_within p h =
      let i : p / 2 < n = omega arith in
      omega (arith, x.related (p / 2) i, (row_is m objects _ (near_present p (p / 2) i)).0, x.few)
