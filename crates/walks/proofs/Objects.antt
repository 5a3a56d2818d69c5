-- Objects by their rows: what is asked of an object by its id is read in its row, and the objects under a type from a row on.
use Prim.Native.Nat.{ℕ, zero, suc, ◌+◌, ◌-◌, ◌≤◌, ◌<◌}
use mathlib.Core.Path.{◌≡◌, refl, sym, ap, ap₂, subst, ◌∙◌}
use mathlib.Core.Logic.{⊎_elim}
use mathlib.Core.Bool.{Bool, true, false, not, cond}
use mathlib.Core.List.{List, [], ◌∷◌, map}
use mathlib.Core.Option.{Option, none, some}
use native.Mathlib.Nat.{sub-zero, eq-or-lt_of_le}
use native.Mathlib.Numerals.{add-one}
use native.Mathlib.Omega.{arith}
use lib.Dec.{T, leb, ltb}
use lib.ListN.{get_or}
use lib.IntN.{ℤ, pos}
use mir.Facts.{ltb_yes, ltb_no, yes_leb, no_leb}
use Rattle.meaning.specs.Lists.{keep, holds}
use Rattle.meaning.specs.Limits.{cell_count}
use Rattle.meaning.specs.Schema.{ObjectType, under}
use Rattle.meaning.specs.Register.{Object, Register, object_key, object_at, is_under, cell_at, instances}
use Rattle.meaning.proofs.Lists.{cond_yes, cond_no, decide}
use Rattle.meaning.proofs.Order.{before_one}
use Rattle.meaning.proofs.Registers.{ascending_found}
use Rattle.rows.specs.Rows.{word_at, rows_from, signed}
use Rattle.tables.specs.Columns.{object_row, register_of}
use Rattle.schema.proofs.Rows.{row_used}
use Rattle.register.specs.Tables.{ObjectsAscend}
use Rattle.register.proofs.Places.{row_there, ordered}
use Rattle.walks.specs.Site.{id_in}
use Rattle.walks.specs.Values.{cell_in}
use Rattle.walks.specs.Walks.{is_from, instances_from}
use Rattle.walks.proofs.Members.{keep_none}

-- ---- an object by its row

cell_by : ℕ → Option Object → ℤ
cell_by k o = elim o [ none ↦ pos 0 | some o ↦ get_or o.cells k (pos 0) ]

module _ (m : ℕ) (objects : List ℕ) (n : ℕ) (links : List ℕ) (a : ObjectsAscend m objects) (row : ℕ) (h : row < m) where
  abbrev g : Register
  g = register_of m objects n links

  found : object_at g (id_in objects row) ≡ some (object_row objects row)
  found = ascending_found g a (row_there (object_row objects) m row h)

  pub under_in : (types : List ObjectType) (t : ℕ) → is_under types g (id_in objects row) t ≡ under types (object_row objects row).type t
  unfolding is_under
  under_in types t = ap (holds (λ o. under types o.type t)) found

  pub cell_in_lem : (k : ℕ) → cell_at g (id_in objects row) k ≡ cell_in objects row k
  unfolding cell_at cell_in object_row cell_by
  cell_in_lem k = ap (cell_by k) found ∙ row_used (λ j. signed (word_at objects 10 row (2 + j))) (λ z. z) cell_count k (pos 0)

-- ---- objects under a type from a row on

module _ (types : List ObjectType) (objects : List ℕ) (m t : ℕ) where
  abbrev wanted : Object → Bool
  wanted o = under types o.type t

  abbrev from : ℕ → ℕ → List ℕ
  from j k = map (λ (o : Object). o.id) (keep wanted (rows_from (object_row objects) j k))

  one : (b : Bool) (j k : ℕ) → map (λ (o : Object). o.id) (cond b (object_row objects j ∷ keep wanted (rows_from (object_row objects) (suc j) k)) (keep wanted (rows_from (object_row objects) (suc j) k))) ≡ cond b (id_in objects j ∷ from (suc j) k) (from (suc j) k)
  one true j k = refl
  one false j k = refl

  -- rows whose ids come before x leave nothing, and rows from x on leave all
  below : (x d j k : ℕ) → ((i : ℕ) → i < j + d → id_in objects i < x) → keep (leb x) (from j (d + k)) ≡ keep (leb x) (from (j + d) k)
  below x zero j k h =
      let a : 0 + k ≡ k = omega arith in
      let b : j ≡ j + 0 = omega arith in
      ap (λ i. keep (leb x) (from j i)) a ∙ ap (λ i. keep (leb x) (from i k)) b
  below x (suc d) j k h =
      let more : suc d + k ≡ suc (d + k) = omega arith in
      let same : suc j + d ≡ j + suc d = omega arith in
      ap (λ i. keep (leb x) (from j i)) more
      ∙ ap (keep (leb x)) (one (wanted (object_row objects j)) j (d + k))
      ∙ step (wanted (object_row objects j))
      ∙ below x d (suc j) k (λ i l. h i (omega arith))
      ∙ ap (λ i. keep (leb x) (from i k)) same
    where
      step : (b : Bool) → keep (leb x) (cond b (id_in objects j ∷ from (suc j) (d + k)) (from (suc j) (d + k))) ≡ keep (leb x) (from (suc j) (d + k))
      step true = cond_no (leb x (id_in objects j)) _ _ (no_leb (h j (omega arith)))
      step false = refl

  above : (x j k : ℕ) → ((i : ℕ) → j ≤ i → i < j + k → x ≤ id_in objects i) → keep (leb x) (from j k) ≡ from j k
  above x j zero h = refl
  above x j (suc k) h = ap (keep (leb x)) (one (wanted (object_row objects j)) j k) ∙ step (wanted (object_row objects j)) (above x (suc j) k (λ i l u. h i (omega arith) (omega arith))) ∙ sym (one (wanted (object_row objects j)) j k)
    where
      step : (b : Bool) → keep (leb x) (from (suc j) k) ≡ from (suc j) k → keep (leb x) (cond b (id_in objects j ∷ from (suc j) k) (from (suc j) k)) ≡ cond b (id_in objects j ∷ from (suc j) k) (from (suc j) k)
      step true rest = cond_yes (leb x (id_in objects j)) _ _ (yes_leb (h j (omega arith) (omega arith))) ∙ ap {B = List ℕ} (λ l. id_in objects j ∷ l) rest
      step false rest = rest

  rising : ObjectsAscend m objects → (i j : ℕ) → i < j → j < m → id_in objects i < id_in objects j
  rising a i j l h = before_one _ _ (ordered object_key (object_row objects) m a l h)

  -- what a walk over all objects of the type has left from a row on
  pub left_from : ObjectsAscend m objects → (n : ℕ) (links : List ℕ) (row : ℕ) → keep (is_from (cond (ltb row m) (some (id_in objects row)) none)) (instances types (register_of m objects n links) t) ≡ instances_from types objects m t row
  unfolding instances
  left_from a n links row = ⊎_elim inside past (decide (ltb row m))
    where
      inside : T (ltb row m) → keep (is_from (cond (ltb row m) (some (id_in objects row)) none)) (from 0 m) ≡ instances_from types objects m t row
      inside u =
          let h : row < m = ltb_yes u in
          let x = id_in objects row in
          let split : m ≡ row + (m - row) = omega arith in
          let at : 0 + row ≡ row = omega arith in
          ap (λ o. keep (is_from o) (from 0 m)) (cond_yes (ltb row m) (some x) none u)
          ∙ ap (λ k. keep (leb x) (from 0 k)) split
          ∙ below x row 0 (m - row) (λ i l. rising a i row (omega arith) h)
          ∙ ap (λ i. keep (leb x) (from i (m - row))) at
          ∙ above x row (m - row) (λ i l k. ⊎_elim (λ (q : row ≡ i). subst (λ j. x ≤ id_in objects j) q (omega arith)) (λ (q : row < i). let r = rising a row i q (omega arith) in omega arith) (eq-or-lt_of_le l))

      past : T (not (ltb row m)) → keep (is_from (cond (ltb row m) (some (id_in objects row)) none)) (from 0 m) ≡ instances_from types objects m t row
      past u =
          let h : m ≤ row = ltb_no u in
          let over : 0 ≡ m - row = omega arith in
          ap (λ o. keep (is_from o) (from 0 m)) (cond_no (ltb row m) (some (id_in objects row)) none u)
          ∙ keep_none (is_from none) (from 0 m) (λ y k. tt)
          ∙ ap (from row) over

  pub from_start : (n : ℕ) (links : List ℕ) → instances_from types objects m t 0 ≡ instances types (register_of m objects n links) t
  unfolding instances
  from_start n links = ap (from 0) (sub-zero m)

  -- one row more: its object is under the type or not
  pub one_row : (row : ℕ) → row < m → {type : ℕ} {u : Bool} → type ≡ (object_row objects row).type → u ≡ under types type t → instances_from types objects m t row ≡ cond u (id_in objects row ∷ instances_from types objects m t (row + 1)) (instances_from types objects m t (row + 1))
  one_row row h q e =
      let more : m - row ≡ suc (m - (row + 1)) = omega arith in
      let asked = ap (λ k. under types k t) (sym q) ∙ sym e in
      ap (from row) more
      ∙ one (wanted (object_row objects row)) row (m - (row + 1))
      ∙ ap₂ (λ b i. cond b (id_in objects row ∷ from i (m - (row + 1))) (from i (m - (row + 1)))) asked (sym (add-one row))

  module _ {row type : ℕ} {u : Bool} (h : row < m) (q : type ≡ (object_row objects row).type) (e : u ≡ under types type t) where
    pub row_taken : u ≡ true → instances_from types objects m t row ≡ id_in objects row ∷ instances_from types objects m t (row + 1)
    row_taken y = one_row row h q e ∙ ap (λ b. cond b (id_in objects row ∷ instances_from types objects m t (row + 1)) (instances_from types objects m t (row + 1))) y

    pub row_passed : u ≡ false → instances_from types objects m t row ≡ instances_from types objects m t (row + 1)
    row_passed y = one_row row h q e ∙ ap (λ b. cond b (id_in objects row ∷ instances_from types objects m t (row + 1)) (instances_from types objects m t (row + 1))) y

  pub none_left : (row : ℕ) → m ≤ row → instances_from types objects m t row ≡ []
  none_left row h = let over : m - row ≡ 0 = omega arith in ap (from row) over
