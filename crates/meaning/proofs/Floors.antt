-- Floors: what they say floor by floor, that what an event writes keeps them, and that a floored cell of a register that fits is at least 0;
-- that a rule is well typed or not without them.
use Prim.Native.Nat.{ℕ, zero, suc, ◌-◌, ◌<◌}
use mathlib.Core.Path.{◌≡◌, refl, sym, ap, ap₂, subst, ◌∙◌}
use mathlib.Core.Logic.{⊎_elim}
use mathlib.Core.Bool.{◌&&◌, not}
use mathlib.Core.List.{List, [], ◌∷◌, ◌++◌}
use lib.Dec.{T, ltb, eqb, eqb_refl}
use lib.ListN.{length, get_or, take, replicate, set, get_or-eq_default}
use lib.Seq.{get_or-set_same, get_or-set_other}
use lib.IntN.{ℤ, pos}
use lib.Signed.{le_z, ◌≤ℤ◌, le_z_yes}
use mir.Facts.{and_yes, yes_and, T_not, not_T, T_not-not, ltb_yes, ltb_no, eqb_yes, eqb_no}
use Rattle.meaning.specs.Lists.{◌∈◌}
use Rattle.meaning.specs.Limits.{cell_count}
use Rattle.meaning.specs.Schema.{ObjectType, Floor, Relationship, Schema, cells_of, under, floored}
use Rattle.meaning.specs.Events.{cleared_from}
use Rattle.meaning.specs.Register.{Register, object_at, is_under, cell_at, negative, below_floor}
use Rattle.meaning.specs.Forms.{Sort, Form, compare, negate, connect, quantify, kind, num, cell, size, sum, combine, role, all, select, bind, member_type, well_typed}
use Rattle.meaning.proofs.Lists.{not_sub, decide, every_get_d, every_replicate, any_of, any_cases, holds_some}
use Rattle.meaning.proofs.Schemas.{TypesFit, under_trans}
use Rattle.meaning.proofs.Registers.{RegisterFits, object_parts, object_at_lem}

-- no cell is below 0 of cells that are all 0, nor of cells that are cleared from one on, where it was not
zero_cells : (n k : ℕ) → T (not (negative (get_or (replicate n (pos 0)) k (pos 0))))
zero_cells n k = every_get_d (λ z. not (negative z)) (replicate n (pos 0)) k (pos 0) (every_replicate (λ z. not (negative z)) n (pos 0) tt) tt

cleared_was : (n m k : ℕ) (cells : List ℤ) → T (negative (get_or (take n cells ++ replicate m (pos 0)) k (pos 0))) → T (negative (get_or cells k (pos 0)))
cleared_was zero m k cells z = absurd (T_not (negative (get_or (replicate m (pos 0)) k (pos 0))) z (zero_cells m k))
cleared_was (suc n) m k [] z = absurd (T_not (negative (get_or (replicate m (pos 0)) k (pos 0))) z (zero_cells m k))
cleared_was (suc n) m zero (x ∷ xs) z = z
cleared_was (suc n) m (suc k) (x ∷ xs) z = cleared_was n m k xs z

-- a rule is well typed whatever the floors
module _ (types : List ObjectType) (relationships : List Relationship) (fs gs : List Floor) where
  abbrev with : List Floor → Schema
  with floors = record { types = types; floors = floors; relationships = relationships }

  pub typed_floors : {s : Sort} (ts : List ℕ) (f : Form s) → well_typed (with fs) ts f ≡ well_typed (with gs) ts f
  unfolding well_typed
  typed_floors ts (compare o a b) = ap₂ ◌&&◌ (typed_floors ts a) (typed_floors ts b)
  typed_floors ts (negate a) = typed_floors ts a
  typed_floors ts (connect o a b) = ap₂ ◌&&◌ (typed_floors ts a) (typed_floors ts b)
  typed_floors ts (quantify q c b) = ap₂ ◌&&◌ (typed_floors ts c) (typed_floors (bind ts (member_type relationships c)) b)
  typed_floors ts (kind v t) = refl
  typed_floors ts (num n) = refl
  typed_floors ts (cell v k) = refl
  typed_floors ts (size c) = typed_floors ts c
  typed_floors ts (sum c k) = ap (λ b. b && ltb k (cells_of types (member_type relationships c))) (typed_floors ts c)
  typed_floors ts (combine o a b) = ap₂ ◌&&◌ (typed_floors ts a) (typed_floors ts b)
  typed_floors ts (role v r) = refl
  typed_floors ts (all t) = refl
  typed_floors ts (select c b) = ap₂ ◌&&◌ (typed_floors ts c) (typed_floors (bind ts (member_type relationships c)) b)

module _ (S : Schema) where
  -- the floor is one of the type, or of one above it, and the cell is below 0
  abbrev Broken : ℕ → List ℤ → Floor → Type 0
  Broken t cells f = T (under S.types t f.type) × T (negative (get_or cells f.cell (pos 0)))

  below_cases : (t : ℕ) (cells : List ℤ) → T (below_floor S.types S.floors t cells) → (f : Floor) × (f ∈ S.floors) × Broken t cells f
  unfolding below_floor
  below_cases t cells b =
      let r = any_cases (λ f. under S.types t f.type && negative (get_or cells f.cell (pos 0))) S.floors b in
      (r.0, r.1, and_yes (under S.types t r.0.type) (negative (get_or cells r.0.cell (pos 0))) r.2)

  below_of : (t : ℕ) (cells : List ℤ) (f : Floor) → f ∈ S.floors → Broken t cells f → T (below_floor S.types S.floors t cells)
  unfolding below_floor
  below_of t cells f m b =
      any_of (λ f. under S.types t f.type && negative (get_or cells f.cell (pos 0))) m
      (yes_and (under S.types t f.type) (negative (get_or cells f.cell (pos 0))) b.0 b.1)

  -- no floor is broken, where each that is was broken before
  pub still_kept : (t u : ℕ) (cells after : List ℤ) → ((f : Floor) → f ∈ S.floors → Broken u after f → Broken t cells f) → T (not (below_floor S.types S.floors t cells)) → T (not (below_floor S.types S.floors u after))
  still_kept t u cells after h =
      not_sub (below_floor S.types S.floors u after) (below_floor S.types S.floors t cells)
      (λ b. let (f, m, z) = below_cases u after b in below_of t cells f m (h f m z))

  -- cells that are all 0
  pub zeros_kept : (t n : ℕ) → T (not (below_floor S.types S.floors t (replicate n (pos 0))))
  zeros_kept t n =
      not_T (below_floor S.types S.floors t (replicate n (pos 0)))
      (λ b. let (f, m, z) = below_cases t (replicate n (pos 0)) b in T_not (negative (get_or (replicate n (pos 0)) f.cell (pos 0))) z.1 (zero_cells n f.cell))

  floored_by : (t k : ℕ) (f : Floor) → f ∈ S.floors → T (under S.types t f.type) → T (eqb f.cell k) → T (floored S.types S.floors t k)
  unfolding floored
  floored_by t k f m u e =
      any_of (λ f. under S.types t f.type && eqb f.cell k) m (yes_and (under S.types t f.type) (eqb f.cell k) u e)

  floored_cases : (t k : ℕ) → T (floored S.types S.floors t k) → (f : Floor) × (f ∈ S.floors) × T (under S.types t f.type) × (f.cell ≡ k)
  unfolding floored
  floored_cases t k h =
      let r = any_cases (λ f. under S.types t f.type && eqb f.cell k) S.floors h in
      let (u, e) = and_yes (under S.types t r.0.type) (eqb r.0.cell k) r.2 in
      (r.0, r.1, u, eqb_yes e)

  -- cell by cell: a floored cell below 0 breaks a floor, and where none of those that there are is one, none is broken
  pub below_cell : (t k : ℕ) (cells : List ℤ) → T (negative (get_or cells k (pos 0)) && floored S.types S.floors t k) → T (below_floor S.types S.floors t cells)
  below_cell t k cells b =
      let (z, h) = and_yes (negative (get_or cells k (pos 0))) (floored S.types S.floors t k) b in
      let (f, m, u, e) = floored_cases t k h in
      below_of t cells f m (u, subst (λ i. T (negative (get_or cells i (pos 0)))) (sym e) z)

  pub no_cell_below : (t : ℕ) (cells : List ℤ) → ((k : ℕ) → k < length cells → T (not (negative (get_or cells k (pos 0)) && floored S.types S.floors t k))) → T (not (below_floor S.types S.floors t cells))
  no_cell_below t cells none =
      not_T (below_floor S.types S.floors t cells)
      (λ b.
      let (f, m, z) = below_cases t cells b in
      let k : ℕ = f.cell in
      ⊎_elim
      (λ (h : T (ltb k (length cells))).
      T_not (negative (get_or cells k (pos 0)) && floored S.types S.floors t k)
      (yes_and (negative (get_or cells k (pos 0))) (floored S.types S.floors t k) z.1 (floored_by t k f m z.0 (eqb_refl k))) (none k (ltb_yes h)))
      (λ (h : T (not (ltb k (length cells)))). subst (λ v. T (negative v)) (get_or-eq_default cells (pos 0) (ltb_no h)) z.1)
      (decide (ltb k (length cells))))

  -- a cell that is written, below 0 only where it is not floored
  pub written_kept : (t k : ℕ) (v : ℤ) (cells : List ℤ) → k < length cells → T (not (negative v && floored S.types S.floors t k)) → T (not (below_floor S.types S.floors t cells)) → T (not (below_floor S.types S.floors t (set cells k v)))
  written_kept t k v cells in-range allowed n = still_kept t t cells (set cells k v) was n
    where
      was : (f : Floor) → f ∈ S.floors → Broken t (set cells k v) f → Broken t cells f
      was f m (u, z) =
          ⊎_elim
          (λ (e : T (eqb f.cell k)).
          absurd
          (T_not (negative v && floored S.types S.floors t k)
          (yes_and (negative v) (floored S.types S.floors t k)
          (subst (λ n. T (negative n)) (ap (λ i. get_or (set cells k v) i (pos 0)) (eqb_yes e) ∙ get_or-set_same cells k v (pos 0) in-range) z)
          (floored_by t k f m u e)) allowed))
          (λ (e : T (not (eqb f.cell k))). (u, subst (λ n. T (negative n)) (get_or-set_other cells k f.cell v (pos 0) (λ q. eqb_no e q)) z))
          (decide (eqb f.cell k))

  -- a type above, and the cells that it lacks cleared
  pub raised_kept : TypesFit S.types → (t u n : ℕ) (cells : List ℤ) → T (under S.types t u) → T (not (below_floor S.types S.floors t cells)) → T (not (below_floor S.types S.floors u (cleared_from n cells)))
  raised_kept types_fit t u n cells above =
      still_kept t u cells (cleared_from n cells)
      (λ f m b. (under_trans S.types types_fit t u f.type above b.0, cleared_was n (cell_count - n) f.cell cells b.1))

  module _ (types_fit : TypesFit S.types) (g : Register) (fits : RegisterFits S g) where
    -- a floored cell of an object of the type is at least 0
    pub floor_holds : (x t k : ℕ) → T (is_under S.types g x t) → T (floored S.types S.floors t k) → pos 0 ≤ℤ cell_at g x k
    unfolding is_under cell_at
    floor_holds x t k u h =
        let o = holds_some (λ o. under S.types o.type t) (object_at g x) u in
        let (f, m, above, e) = floored_cases t k h in
        let kept = (object_parts S o.0 (fits.objects_fit o.0 (object_at_lem g x o.1).0)).floors_kept in
        let value : ℤ = get_or o.0.cells k (pos 0) in
        rw (cell_at, o.1)
        (le_z_yes
        (T_not-not (le_z (pos 0) value)
        (not_T (negative value)
        (λ z.
        T_not (below_floor S.types S.floors o.0.type o.0.cells)
        (below_of o.0.type o.0.cells f m (
          under_trans S.types types_fit o.0.type t f.type o.2 above,
          subst (λ i. T (negative (get_or o.0.cells i (pos 0)))) (sym e) z,
        )) kept))))
