-- What the marks of the rows before a row say of the form that ends there.
use Prim.Native.Nat.{ℕ, zero, suc}
use mathlib.Core.Path.{◌≡◌, refl, sym, ap, ap₂, subst, ◌∙◌}
use mathlib.Core.Bool.{Bool, true, false, ◌&&◌, cond}
use mathlib.Core.List.{List, [], ◌∷◌}
use mathlib.Core.Option.{Option, none, some}
use native.Mathlib.Omega.{arith}
use lib.Dec.{T, ltb, leb, eqb}
use borrow.Author.Tests.{lt-ltb, le-leb}
use Rattle.meaning.specs.Forms.{Sort, truth, number, collection}
use Rattle.tables.specs.Codes.{Operator, comparing, negating, connecting, quantifying, kind_of, literal, cell_of, size_of, sum_of, combining, role_of, all_of, selecting, operator_of, shape_of}
use Rattle.tables.specs.Bodies.{BodyRow, Part, sort_of, same_sort, RowsRead, form_of, start_of, reads, parts_fit, fields_fit, reading_of, ending, first_part, second_part}
use Rattle.tables.proofs.Readings.{Agree, ending_step}
use Rattle.body_rows.specs.Marks.{sort_code, mark, first_sort, second_sort, serves}

-- the fields that a row does not use, test by test
abbrev pub fields_test : ℕ → ℕ → ℕ → ℕ → Bool
fields_test n x y z = cond (eqb z 0) (cond (leb 2 n) true (cond (eqb y 0) (cond (leb 1 n) true (eqb x 0)) false)) false

pub fields_test_lem : (n : ℕ) (r : BodyRow) → fields_test n r.x r.y r.z ≡ fields_fit n r
unfolding fields_fit
fields_test_lem zero r = three (eqb r.x 0) (eqb r.y 0) (eqb r.z 0)
  where
    three : (a b c : Bool) → cond c (cond b a false) false ≡ (a && b && c)
    three true true true = refl
    three true true false = refl
    three true false true = refl
    three true false false = refl
    three false true true = refl
    three false true false = refl
    three false false true = refl
    three false false false = refl
fields_test_lem (suc zero) r = two (eqb r.y 0) (eqb r.z 0)
  where
    two : (b c : Bool) → cond c (cond b true false) false ≡ (b && c)
    two true true = refl
    two true false = refl
    two false true = refl
    two false false = refl
fields_test_lem (suc (suc n)) r = simp (le-leb 2 (suc (suc n)) (omega arith)) (one (eqb r.z 0))
  where
    one : (c : Bool) → cond c true false ≡ c
    one true = refl
    one false = refl

-- ---- marks

mark_agree : {a b : RowsRead} → Agree a b → mark a ≡ mark b
unfolding mark
mark_agree {a} {b} e = by_sound a.sound b.sound e.sounds e.forms
  where
    by_sound : (x y : Bool) → x ≡ y → (T x → a.form ≡ b.form) → cond x (sort_code (sort_of a.form)) 3 ≡ cond y (sort_code (sort_of b.form)) 3
    by_sound true y e f = ap (λ p. cond true (sort_code (sort_of p)) 3) (f tt) ∙ ap (λ z. cond z (sort_code (sort_of b.form)) 3) e
    by_sound false y e f = ap (λ z. cond z (sort_code (sort_of b.form)) 3) e

-- a part is of the sort that is wanted just where its mark is that sort's
pub reads_mark : (s : Sort) (r : RowsRead) → reads s r ≡ eqb (sort_code s) (mark r)
unfolding mark
reads_mark s r = by_sound s r.sound (sort_of r.form)
  where
    by_sound : (s : Sort) (b : Bool) (t : Sort) → (b && same_sort s t) ≡ eqb (sort_code s) (cond b (sort_code t) 3)
    by_sound truth true truth = refl
    by_sound truth true number = refl
    by_sound truth true collection = refl
    by_sound truth false t = refl
    by_sound number true truth = refl
    by_sound number true number = refl
    by_sound number true collection = refl
    by_sound number false t = refl
    by_sound collection true truth = refl
    by_sound collection true number = refl
    by_sound collection true collection = refl
    by_sound collection false t = refl

pub sort_some : (s : Sort) → eqb (sort_code s) 3 ≡ false
sort_some truth = refl
sort_some number = refl
sort_some collection = refl

serves_sort : (s : Sort) (n : ℕ) → serves (sort_code s) n ≡ eqb (sort_code s) n
serves_sort s n = rw (sort_some s)

-- before row 0 no form ends
ends_later : (rows : ℕ → BodyRow) (s : Sort) (e : ℕ) → (ltb 0 e && reads s (ending rows e)) ≡ reads s (ending rows e)
unfolding ending
ends_later rows s zero = refl
ends_later rows s (suc i) = ap (λ b. b && reads s (ending rows (suc i))) (lt-ltb 0 (suc i) (omega arith))

and-true : (a : Bool) → (a && true) ≡ a
and-true true = refl
and-true false = refl

and-false : (a : Bool) → (a && false) ≡ false
and-false true = refl
and-false false = refl

-- the parts of a row fit just where their marks serve
parts_mark : (rows : ℕ → BodyRow) (i : ℕ) (parts : List Sort) → parts_fit parts i (first_part rows i) (second_part rows i) ≡ (serves (first_sort parts) (mark (first_part rows i)) && serves (second_sort parts) (mark (second_part rows i)))
unfolding parts_fit
parts_mark rows i [] = refl
parts_mark rows i (p ∷ []) = ends_later rows p i ∙ reads_mark p (second_part rows i) ∙ sym (serves_sort p (mark (second_part rows i)))
parts_mark rows i (p ∷ q ∷ more) =
    let s = second_part rows i in
    let f = first_part rows i in
    regroup (ltb 0 i) (reads q s) (ltb 0 s.start) (reads p f)
    ∙ ap₂ (λ a b. a && b) (ends_later rows p s.start ∙ reads_mark p f ∙ sym (serves_sort p (mark f))) (ends_later rows q i ∙ reads_mark q s ∙ sym (serves_sort q (mark s)))
  where
    regroup : (a b c d : Bool) → (a && b && c && d) ≡ ((c && d) && (a && b))
    regroup true true c d = sym (and-true (c && d))
    regroup true false c d = sym (and-false (c && d))
    regroup false b c d = sym (and-false (c && d))

-- the sort of the form that an operator makes
pub result_sort : (o : Operator) (r : BodyRow) (a b : Part) → sort_of (form_of o r a b) ≡ (shape_of o).result
unfolding form_of sort_of shape_of
result_sort (comparing o) r a b = refl
result_sort negating r a b = refl
result_sort (connecting o) r a b = refl
result_sort (quantifying q) r a b = refl
result_sort kind_of r a b = refl
result_sort literal r a b = refl
result_sort cell_of r a b = refl
result_sort size_of r a b = refl
result_sort sum_of r a b = refl
result_sort (combining o) r a b = refl
result_sort role_of r a b = refl
result_sort all_of r a b = refl
result_sort selecting r a b = refl

-- ---- the form that ends after a row, by its operator

module _ (rows : ℕ → BodyRow) (i : ℕ) where
  reading_code : (o : Option Operator) → operator_of (rows i).code ≡ o → Agree (ending rows (suc i)) (reading_of o (rows i) i (first_part rows i) (second_part rows i))
  reading_code o e = subst (λ p. Agree (ending rows (suc i)) (reading_of p (rows i) i (first_part rows i) (second_part rows i))) e (ending_step rows i)

  pub mark_none : operator_of (rows i).code ≡ none → mark (ending rows (suc i)) ≡ 3
  unfolding reading_of mark
  mark_none e = mark_agree (reading_code none e)

  pub start_none : operator_of (rows i).code ≡ none → (ending rows (suc i)).start ≡ i
  unfolding reading_of
  start_none e = (reading_code none e).starts

  pub mark_some : (o : Operator)
      → operator_of (rows i).code ≡ some o
      → mark (ending rows (suc i))
      ≡ cond (serves (first_sort (shape_of o).parts) (mark (first_part rows i))) (cond (serves (second_sort (shape_of o).parts) (mark (second_part rows i))) (cond (fields_fit (shape_of o).fields (rows i)) (sort_code (shape_of o).result) 3) 3) 3
  unfolding reading_of mark
  mark_some o e =
      mark_agree (reading_code (some o) e)
      ∙ ap₂ (λ b s. cond (b && fields_fit (shape_of o).fields (rows i)) (sort_code s) 3) (parts_mark rows i (shape_of o).parts) (result_sort o (rows i) (first_part rows i).form (second_part rows i).form)
      ∙ in_turn (serves (first_sort (shape_of o).parts) (mark (first_part rows i))) (serves (second_sort (shape_of o).parts) (mark (second_part rows i))) (fields_fit (shape_of o).fields (rows i))
    where
      in_turn : (a b c : Bool) → cond (a && b && c) (sort_code (shape_of o).result) 3 ≡ cond a (cond b (cond c (sort_code (shape_of o).result) 3) 3) 3
      in_turn true true c = refl
      in_turn true false c = refl
      in_turn false b c = refl

  pub start_some : (o : Operator) → operator_of (rows i).code ≡ some o → (ending rows (suc i)).start ≡ cond (eqb (second_sort (shape_of o).parts) 3) i (cond (eqb (first_sort (shape_of o).parts) 3) (second_part rows i).start (first_part rows i).start)
  unfolding reading_of start_of
  start_some o e = (reading_code (some o) e).starts ∙ by_parts (shape_of o).parts
    where
      by_parts : (parts : List Sort) → start_of parts i (first_part rows i).start (second_part rows i).start ≡ cond (eqb (second_sort parts) 3) i (cond (eqb (first_sort parts) 3) (second_part rows i).start (first_part rows i).start)
      by_parts [] = refl
      by_parts (p ∷ []) = rw (sort_some p)
      by_parts (p ∷ q ∷ more) = rw (sort_some p, sort_some q)
