-- The form that ends before row e, by the code of its row: its operator, and its parts.
use Prim.Native.Nat.{ℕ, suc, ◌-◌, ◌≤◌, ◌<◌}
use mathlib.Core.Path.{◌≡◌, refl, sym, ap, subst, ◌∙◌}
use mathlib.Core.Bool.{Bool, ◌&&◌}
use mathlib.Core.List.{[], ◌∷◌}
use mathlib.Core.Option.{some, some-injective}
use native.Mathlib.Omega.{arith}
use lib.Dec.{T, ltb, leb}
use mir.Facts.{and_yes, ltb_yes, leb_yes}
use Rattle.meaning.specs.Forms.{Sort, truth, number, collection, le, lt, eq, ne, ge, gt, and, or, xor, implies, forall, exists, add, sub}
use Rattle.tables.specs.Codes.{Operator, comparing, negating, connecting, quantifying, kind_of, literal, cell_of, size_of, sum_of, combining, role_of, all_of, selecting, operator_of, code_of, shape_of}
use Rattle.tables.specs.Bodies.{BodyRow, sort_of, same_sort, form_of, reads, parts_fit, ending, first_part, second_part}
use Rattle.tables.proofs.Readings.{ending_start, sound_pos, node, only_fits, both_fit, code_of_lem}
use Rattle.body_rows.proofs.Marks.{result_sort}

-- ---- codes of the operators of each sort

unfoldable pub lowest : Sort → ℕ
lowest truth = 0
lowest number = 14
lowest collection = 20

unfoldable pub past : Sort → ℕ
past truth = 14
past number = 20
past collection = 23

between : ℕ → Sort → Bool
between code s = leb (lowest s) code && ltb code (past s)

codes : (o : Operator) → T (between (code_of o) (shape_of o).result)
unfolding code_of shape_of between lowest past
codes (comparing le) = tt
codes (comparing lt) = tt
codes (comparing eq) = tt
codes (comparing ne) = tt
codes (comparing ge) = tt
codes (comparing gt) = tt
codes negating = tt
codes (connecting and) = tt
codes (connecting or) = tt
codes (connecting xor) = tt
codes (connecting implies) = tt
codes (quantifying forall) = tt
codes (quantifying exists) = tt
codes kind_of = tt
codes literal = tt
codes cell_of = tt
codes size_of = tt
codes sum_of = tt
codes (combining add) = tt
codes (combining sub) = tt
codes role_of = tt
codes all_of = tt
codes selecting = tt

same_is : (s t : Sort) → T (same_sort s t) → s ≡ t
same_is truth truth h = refl
same_is truth number h = absurd h
same_is truth collection h = absurd h
same_is number truth h = absurd h
same_is number number h = refl
same_is number collection h = absurd h
same_is collection truth h = absurd h
same_is collection number h = absurd h
same_is collection collection h = refl

-- ---- the form that ends before row e

pub record Made (rows : ℕ → BodyRow) (e : ℕ) (o : Operator) : Type 0 where
  pub parts : T (parts_fit (shape_of o).parts (e - 1) (first_part rows (e - 1)) (second_part rows (e - 1)))
  pub form : (ending rows e).form ≡ form_of o (rows (e - 1)) (first_part rows (e - 1)).form (second_part rows (e - 1)).form

module _ (rows : ℕ → BodyRow) where
  module _ (e : ℕ) (t : T (ending rows e).sound) where
    back : suc (e - 1) ≡ e
    back = let h = sound_pos rows e t in omega arith

    last_sound : T (ending rows (suc (e - 1))).sound
    last_sound = subst (λ k. T (ending rows k).sound) (sym back) t

    pub made : (o : Operator) → operator_of (rows (e - 1)).code ≡ some o → Made rows e o
    made o c =
        let d = node rows (e - 1) last_sound in
        let same : d.operator ≡ o = some-injective d.operator o (sym d.coded ∙ c) in
        record {
          parts = subst (λ p. T (parts_fit (shape_of p).parts (e - 1) (first_part rows (e - 1)) (second_part rows (e - 1)))) same d.parts;
          form = ap (λ k. (ending rows k).form) (sym back) ∙ d.form ∙ ap (λ p. form_of p (rows (e - 1)) (first_part rows (e - 1)).form (second_part rows (e - 1)).form) same;
        }

    -- the code of a form of a sort
    pub code_range : (s : Sort) → T (same_sort s (sort_of (ending rows e).form)) → (lowest s ≤ (rows (e - 1)).code) × ((rows (e - 1)).code < past s)
    unfolding between
    code_range s h =
        let d = node rows (e - 1) last_sound in
        let o = d.operator in
        let sort : (shape_of o).result ≡ s =
        sym (same_is s (sort_of (ending rows e).form) h ∙ ap sort_of (ap (λ k. (ending rows k).form) (sym back) ∙ d.form) ∙ result_sort o (rows (e - 1)) (first_part rows (e - 1)).form (second_part rows (e - 1)).form) in
        let code : code_of o ≡ (rows (e - 1)).code = code_of_lem (rows (e - 1)).code o d.coded in
        let r = and_yes (leb (lowest s) (rows (e - 1)).code) (ltb (rows (e - 1)).code (past s)) (subst (λ k. T (between k s)) code (subst (λ u. T (between (code_of o) u)) sort (codes o))) in
        (leb_yes r.0, ltb_yes r.1)

  pub truth_code : (e : ℕ) → T (reads truth (ending rows e)) → (rows (e - 1)).code < 14
  unfolding past
  truth_code e t = let r = and_yes (ending rows e).sound (same_sort truth (sort_of (ending rows e).form)) t in (code_range e r.0 truth r.1).1

  pub number_code : (e : ℕ) → T (reads number (ending rows e)) → (14 ≤ (rows (e - 1)).code) × ((rows (e - 1)).code < 20)
  unfolding past lowest
  number_code e t = let r = and_yes (ending rows e).sound (same_sort number (sort_of (ending rows e).form)) t in code_range e r.0 number r.1

  pub collection_code : (e : ℕ) → T (reads collection (ending rows e)) → (20 ≤ (rows (e - 1)).code) × ((rows (e - 1)).code < 23)
  unfolding past lowest
  collection_code e t = let r = and_yes (ending rows e).sound (same_sort collection (sort_of (ending rows e).form)) t in code_range e r.0 collection r.1

  pub read_sound : (e : ℕ) (s : Sort) → T (reads s (ending rows e)) → T (ending rows e).sound
  read_sound e s t = (and_yes (ending rows e).sound (same_sort s (sort_of (ending rows e).form)) t).0

-- the parts of the form that ends before row e
pub record Two (rows : ℕ → BodyRow) (e : ℕ) (s u : Sort) : Type 0 where
  pub second : T (reads u (ending rows (e - 1)))
  pub first : T (reads s (ending rows (ending rows (e - 1)).start))
  pub start : (ending rows (e - 1)).start ≤ e - 1

module _ (rows : ℕ → BodyRow) (e : ℕ) (o : Operator) (m : Made rows e o) where
  pub two : (s u : Sort) → (shape_of o).parts ≡ s ∷ u ∷ [] → Two rows e s u
  two s u h =
      let i = e - 1 in
      let r = both_fit s u [] i (first_part rows i) (second_part rows i) (subst (λ ps. T (parts_fit ps i (first_part rows i) (second_part rows i))) h m.parts) in
      record { second = r.1; first = r.3; start = ending_start rows i }

  pub one : (s : Sort) → (shape_of o).parts ≡ s ∷ [] → T (reads s (ending rows (e - 1)))
  one s h =
      let i = e - 1 in
      (only_fits s i (first_part rows i) (second_part rows i) (subst (λ ps. T (parts_fit ps i (first_part rows i) (second_part rows i))) h m.parts)).1
