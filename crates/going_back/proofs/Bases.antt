-- The way down through selects to the collection below them.
use Prim.Native.Nat.{ℕ, zero, suc, ◌-◌, ◌≤◌, ◌<◌}
use mathlib.Core.Path.{◌≡◌, refl, sym, ap, subst, ◌∙◌}
use mathlib.Core.Bool.{Bool, cond}
use native.Mathlib.Nat.{le_refl}
use native.Mathlib.Omega.{arith}
use lib.Dec.{T, eqb}
use mir.Facts.{and_yes}
use borrow.Author.Tests.{ne_eqb}
use Rattle.meaning.specs.Forms.{collection, Form, role, all, select}
use Rattle.meaning.specs.Reach.{Change}
use Rattle.tables.specs.Codes.{Operator, comparing, negating, connecting, quantifying, kind_of, literal, cell_of, size_of, sum_of, combining, role_of, all_of, selecting, code_of, shape_of}
use Rattle.tables.specs.Bodies.{BodyRow, Part, sort_of, same_sort, as_collection, form_of, reads, ending, first_part, second_part}
use Rattle.tables.proofs.Readings.{ending_start, node, code_of_lem}
use Rattle.body_rows.proofs.Marks.{result_sort}
use Rattle.typing.proofs.Types.{select_row}
use Rattle.going_back.specs.Back.{leads_into, base_of}

-- a collection leads into a set as the one below its selects
pub leads_base : (c : Change) (k : Form collection) (set : ℕ → Bool) (v u : ℕ) → leads_into c k set v u ≡ leads_into c (base_of k) set v u
unfolding leads_into base_of
leads_base c (role w r) set v u = refl
leads_base c (all t) set v u = refl
leads_base c (select k b) set v u = leads_base c k set v u

-- by the code of the collection's row
abbrev base_test : ℕ → BodyRow → Part → Form collection
base_test code r a = cond (eqb code 22) (base_of (as_collection a)) (cond (eqb code 21) (all r.x) (role r.x r.y))

base_node : (o : Operator) (r : BodyRow) (a b : Part) → T (same_sort collection (shape_of o).result) → base_test (code_of o) r a ≡ base_of (as_collection (form_of o r a b))
unfolding shape_of code_of form_of base_of as_collection
base_node (comparing o) r a b t = absurd t
base_node negating r a b t = absurd t
base_node (connecting o) r a b t = absurd t
base_node (quantifying q) r a b t = absurd t
base_node kind_of r a b t = absurd t
base_node literal r a b t = absurd t
base_node cell_of r a b t = absurd t
base_node size_of r a b t = absurd t
base_node sum_of r a b t = absurd t
base_node (combining o) r a b t = absurd t
base_node role_of r a b t = refl
base_node all_of r a b t = refl
base_node selecting r a b t = refl

module _ (rows : ℕ → BodyRow) (i : ℕ) (reading : T (reads collection (ending rows (suc i)))) where
  base_row : base_test (rows i).code (rows i) (first_part rows i).form ≡ base_of (as_collection (ending rows (suc i)).form)
  base_row =
      let parts = and_yes (ending rows (suc i)).sound (same_sort collection (sort_of (ending rows (suc i)).form)) reading in
      let d = node rows i parts.0 in
      let f = (first_part rows i).form in
      let s = (second_part rows i).form in
      let sort : sort_of (ending rows (suc i)).form ≡ (shape_of d.operator).result = ap sort_of d.form ∙ result_sort d.operator (rows i) f s in
      ap (λ k. base_test k (rows i) f) (sym (code_of_lem (rows i).code d.operator d.coded))
      ∙ base_node d.operator (rows i) f s (subst (λ q. T (same_sort collection q)) sort parts.1)
      ∙ ap (λ p. base_of (as_collection p)) (sym d.form)

-- the collection that ends with a row has the base of the one that ends before row e
pub record Bases (rows : ℕ → BodyRow) (e row : ℕ) : Type 0 where
  pub below : row < e
  pub reading : T (reads collection (ending rows (suc row)))
  pub same : base_of (as_collection (ending rows (suc row)).form) ≡ base_of (as_collection (ending rows e).form)

pub bases_none : (rows : ℕ → BodyRow) (e : ℕ) → T (reads collection (ending rows e)) → (0 < e) × Bases rows e (e - 1)
unfolding ending
bases_none rows zero t = absurd t
bases_none rows (suc i) t =
    let row : suc i - 1 ≡ i = omega arith in
    (omega arith, subst (Bases rows (suc i)) (sym row) (record { below = le_refl (suc i); reading = t; same = refl }))

pub bases_more : {rows : ℕ → BodyRow} {e row : ℕ} → Bases rows e row → (rows row).code ≡ 22 → (m : ℕ) → m ≡ (ending rows row).start → (0 < m) × (m ≤ row) × Bases rows e (m - 1)
bases_more {rows} {e} {row} k code zero q = let h = (select_row rows row k.reading code).0 in absurd (omega arith)
bases_more {rows} {e} {row} k code (suc m) q =
    let h = select_row rows row k.reading code in
    let low : suc m ≤ row = subst (λ n. n ≤ row) (sym q) (ending_start rows row) in
    let last : suc m - 1 ≡ m = omega arith in
    let below = k.below in (
      omega arith,
      low,
      subst (Bases rows e) (sym last) (
          record {
            below = omega arith;
            reading = subst (λ n. T (reads collection (ending rows n))) (sym q) h.1;
            same = ap (λ n. base_of (as_collection (ending rows n).form)) q ∙ ap (λ c. base_test c (rows row) (first_part rows row).form) (sym code) ∙ base_row rows row k.reading ∙ k.same;
          }),
    )

module _ {rows : ℕ → BodyRow} {e row : ℕ} (k : Bases rows e row) where
  pub base_all : (rows row).code ≡ 21 → base_of (as_collection (ending rows e).form) ≡ all (rows row).x
  base_all code = sym (ap (λ c. base_test c (rows row) (first_part rows row).form) (sym code) ∙ base_row rows row k.reading ∙ k.same)

  pub base_role : ((rows row).code ≡ 22 → ⊥) → ((rows row).code ≡ 21 → ⊥) → base_of (as_collection (ending rows e).form) ≡ role (rows row).x (rows row).y
  base_role a b = sym (simp (ne_eqb (rows row).code 22 a, ne_eqb (rows row).code 21 b) at (base_row rows row k.reading ∙ k.same))
