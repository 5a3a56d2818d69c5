-- The readings of body rows: what they depend on, and the form that ends before a row.
use Prim.Native.Nat.{ℕ, zero, suc, ◌+◌, ◌-◌, ◌≤◌, ◌<◌, zero-le}
use mathlib.Core.Path.{◌≡◌, refl, sym, ap, ap₂, subst, ◌∙◌}
use mathlib.Core.Bool.{Bool, true, false, ◌&&◌}
use mathlib.Core.List.{List, [], ◌∷◌}
use mathlib.Core.Option.{Option, none, some, none-ne-some, some-injective}
use native.Mathlib.Nat.{le_refl, add-zero, zero-add, add-suc, suc-add, not-suc-le-zero}
use native.Mathlib.Omega.{arith}
use lib.Dec.{T, ltb, eqb}
use lib.ListN.{get_elem?}
use mir.Facts.{and_yes, ltb_yes, eqb_yes}
use Rattle.meaning.specs.Forms.{Sort, truth, number, collection, le, lt, eq, ne, ge, gt, and, or, xor, implies, forall, exists, add, sub}
use Rattle.tables.specs.Codes.{Operator, comparing, negating, connecting, quantifying, kind_of, literal, cell_of, size_of, sum_of, combining, role_of, all_of, selecting, operators, operator_of, code_of, shape_of}
use Rattle.tables.specs.Bodies.{BodyRow, Part, part, sort_of, same_sort, as_truth, as_number, as_collection, RowsRead, form_of, start_of, reads, parts_fit, fields_fit, no_reading, reading_of, read_at, ending, first_part, second_part}

-- ---- start and fuel

start_bound : (o : Option Operator) (r : BodyRow) (i : ℕ) (f s : RowsRead) → f.start ≤ i → s.start ≤ i → (reading_of o r i f s).start ≤ i
unfolding reading_of start_of
start_bound none r i f s h k = le_refl i
start_bound (some o) r i f s h k = by_parts (shape_of o).parts
  where
    by_parts : (parts : List Sort) → start_of parts i f.start s.start ≤ i
    by_parts [] = le_refl i
    by_parts (p ∷ []) = k
    by_parts (p ∷ q ∷ more) = h

-- a form starts at or before the row where it ends
pub start_le : (n : ℕ) (rows : ℕ → BodyRow) (i : ℕ) → (read_at n rows i).start ≤ i
unfolding read_at
start_le zero rows i = le_refl i
start_le (suc n) rows zero = start_bound (operator_of (rows 0).code) (rows 0) 0 (no_reading 0) (no_reading 0) (le_refl 0) (le_refl 0)
start_le (suc n) rows (suc i) =
    let s = read_at n rows i in
    let f = read_at n rows (s.start - 1) in
    let k : s.start ≤ i = start_le n rows i in
    let h : f.start ≤ s.start - 1 = start_le n rows (s.start - 1) in
    start_bound (operator_of (rows (suc i)).code) (rows (suc i)) (suc i) f s (omega arith) (omega arith)

-- Any fuel above the row serves.
pub fuel : (n m : ℕ) (rows : ℕ → BodyRow) (i : ℕ) → i < n → i < m → read_at n rows i ≡ read_at m rows i
unfolding read_at
fuel zero m rows i h k = absurd (not-suc-le-zero h)
fuel (suc n) zero rows i h k = absurd (not-suc-le-zero k)
fuel (suc n) (suc m) rows zero h k = refl
fuel (suc n) (suc m) rows (suc i) h k =
    let s = read_at n rows i in
    let low : s.start ≤ i = start_le n rows i in
    let second : s ≡ read_at m rows i = fuel n m rows i (omega arith) (omega arith) in
    let first = fuel n m rows (s.start - 1) (omega arith) (omega arith) ∙ ap (λ (r : RowsRead). read_at m rows (r.start - 1)) second in
    ap₂ (reading_of (operator_of (rows (suc i)).code) (rows (suc i)) (suc i)) first second

-- A row's reading is made of the readings of its parts, at any fuel above the row. Row 0 has no parts.
pub read_zero : (n : ℕ) (rows : ℕ → BodyRow) → 0 < n → read_at n rows 0 ≡ reading_of (operator_of (rows 0).code) (rows 0) 0 (no_reading 0) (no_reading 0)
unfolding read_at
read_zero n rows h = fuel n 1 rows 0 h (le_refl 1)

pub read_suc : (n : ℕ) (rows : ℕ → BodyRow) (i : ℕ) → suc i < n → let second = read_at n rows i in read_at n rows (suc i) ≡ reading_of (operator_of (rows (suc i)).code) (rows (suc i)) (suc i) (read_at n rows (second.start - 1)) second
unfolding read_at
read_suc n rows i h = fuel n (suc n) rows (suc i) h (omega arith)

-- ---- the reading that ends before a row

pub ending_start : (rows : ℕ → BodyRow) (e : ℕ) → (ending rows e).start ≤ e
unfolding ending
ending_start rows zero = zero-le
ending_start rows (suc i) = let h = start_le (suc i) rows i in omega arith

-- before row 0 no form ends
pub sound_pos : (rows : ℕ → BodyRow) (e : ℕ) → T (ending rows e).sound → 0 < e
unfolding ending
sound_pos rows zero t = absurd t
sound_pos rows (suc i) t = omega arith

-- the reading at a row, at any fuel above it
pub ending_read : (n : ℕ) (rows : ℕ → BodyRow) (i : ℕ) → i < n → read_at n rows i ≡ ending rows (suc i)
unfolding ending
ending_read n rows i h = fuel n (suc i) rows i h (omega arith)

pub before_end : (n : ℕ) (rows : ℕ → BodyRow) (e : ℕ) → 0 < e → e ≤ n → read_at n rows (e - 1) ≡ ending rows e
before_end n rows zero h k = absurd (not-suc-le-zero h)
before_end n rows (suc i) h k = let row : suc i - 1 ≡ i = omega arith in ap (read_at n rows) row ∙ ending_read n rows i k

-- the same start, and the same form if it is one
pub record Agree (a b : RowsRead) : Type 0 where
  pub starts : a.start ≡ b.start
  pub sounds : a.sound ≡ b.sound
  pub forms : T a.sound → a.form ≡ b.form

agree_eq : {a b : RowsRead} → a ≡ b → Agree a b
agree_eq {a} {b} e = record { starts = ap (λ (r : RowsRead). r.start) e; sounds = ap (λ (r : RowsRead). r.sound) e; forms = λ t. ap (λ (r : RowsRead). r.form) e }

-- what agrees with a form is that form
pub agree_sound : {a b : RowsRead} → Agree a b → T a.sound → a ≡ b
agree_sound e t = λ i. record { start = e.starts i; sound = e.sounds i; form = e.forms t i }

abbrev single : List Sort → Bool
single [] = true
single (p ∷ []) = true
single (p ∷ q ∷ more) = false

-- an operator of at most one part does not look at the first
form_single : (o : Operator) (r : BodyRow) (a b c : Part) → T (single (shape_of o).parts) → form_of o r a c ≡ form_of o r b c
unfolding form_of shape_of
form_single (comparing o) r a b c t = absurd t
form_single negating r a b c t = refl
form_single (connecting o) r a b c t = absurd t
form_single (quantifying q) r a b c t = absurd t
form_single kind_of r a b c t = refl
form_single literal r a b c t = refl
form_single cell_of r a b c t = refl
form_single size_of r a b c t = refl
form_single sum_of r a b c t = refl
form_single (combining o) r a b c t = absurd t
form_single role_of r a b c t = refl
form_single all_of r a b c t = refl
form_single selecting r a b c t = absurd t

-- what the fit of one part, and of two, says
pub only_fits : (p : Sort) (i : ℕ) (f s : RowsRead) → T (parts_fit (p ∷ []) i f s) → (0 < i) × T (reads p s)
unfolding parts_fit
only_fits p i f s t = let r = and_yes (ltb 0 i) (reads p s) t in (ltb_yes r.0, r.1)

pub both_fit : (p q : Sort) (more : List Sort) (i : ℕ) (f s : RowsRead) → T (parts_fit (p ∷ q ∷ more) i f s) → (0 < i) × T (reads q s) × (0 < s.start) × T (reads p f)
unfolding parts_fit
both_fit p q more i f s t =
    let a = and_yes (ltb 0 i && reads q s && ltb 0 s.start) (reads p f) t in
    let b = and_yes (ltb 0 i && reads q s) (ltb 0 s.start) a.0 in
    let c = and_yes (ltb 0 i) (reads q s) b.0 in
    (ltb_yes c.0, c.1, ltb_yes b.1, a.1)

-- where the second part starts at row 0, no first part is looked at
module _ (i : ℕ) (f g s : RowsRead) (none_before : s.start ≡ 0) (first : f.start ≡ g.start) where
  parts_blind : (parts : List Sort) → parts_fit parts i f s ≡ parts_fit parts i g s
  unfolding parts_fit
  parts_blind [] = refl
  parts_blind (p ∷ []) = refl
  parts_blind (p ∷ q ∷ more) = rw none_before (nothing (ltb 0 i && reads q s) (reads p f) ∙ sym (nothing (ltb 0 i && reads q s) (reads p g)))
    where
      nothing : (a b : Bool) → (a && false && b) ≡ false
      nothing true b = refl
      nothing false b = refl

  fits_single : (parts : List Sort) → T (parts_fit parts i f s) → T (single parts)
  unfolding parts_fit
  fits_single [] t = tt
  fits_single (p ∷ []) t = tt
  fits_single (p ∷ q ∷ more) t = let h = (both_fit p q more i f s t).2 in absurd (omega arith)

  reading_blind : (o : Option Operator) (r : BodyRow) → Agree (reading_of o r i f s) (reading_of o r i g s)
  unfolding reading_of
  reading_blind none r = agree_eq refl
  reading_blind (some o) r =
      let parts = (shape_of o).parts in
      let fields = fields_fit (shape_of o).fields r in
      record {
        starts = ap (λ n. start_of parts i n s.start) first;
        sounds = ap (λ b. b && fields) (parts_blind parts);
        forms = λ t. form_single o r f.form g.form s.form (fits_single parts (and_yes (parts_fit parts i f s) fields t).0);
      }

-- row i after the forms before it
abbrev pub next : (ℕ → BodyRow) → ℕ → RowsRead
next rows i = reading_of (operator_of (rows i).code) (rows i) i (first_part rows i) (second_part rows i)

pub ending_step : (rows : ℕ → BodyRow) (i : ℕ) → Agree (ending rows (suc i)) (next rows i)
unfolding ending read_at
ending_step rows zero = agree_eq refl
ending_step rows (suc i) = by_start (ending rows (suc i)).start refl
  where
    by_start : (m : ℕ) → (ending rows (suc i)).start ≡ m → Agree (ending rows (suc (suc i))) (next rows (suc i))
    by_start zero e =
        let s = read_at (suc i) rows i in
        let f = read_at (suc i) rows (s.start - 1) in
        let h : f.start ≤ s.start - 1 = start_le (suc i) rows (s.start - 1) in
        let k : (ending rows s.start).start ≤ s.start = ending_start rows s.start in
        reading_blind (suc i) f (ending rows s.start) s e (omega arith) (operator_of (rows (suc i)).code) (rows (suc i))
    by_start (suc k) e =
        let s = read_at (suc i) rows i in
        let low : s.start ≤ i = start_le (suc i) rows i in
        let row : s.start - 1 ≡ k = omega arith in
        let first = ap (read_at (suc i) rows) row ∙ ending_read (suc i) rows k (omega arith) ∙ ap (ending rows) (sym e) in
        agree_eq (ap (λ f. reading_of (operator_of (rows (suc i)).code) (rows (suc i)) (suc i) f s) first)

-- ---- what a form that ends before a row is made of

-- row i ends a form
pub record Node (rows : ℕ → BodyRow) (i : ℕ) : Type 0 where
  pub operator : Operator
  pub coded : operator_of (rows i).code ≡ some operator
  pub parts : T (parts_fit (shape_of operator).parts i (first_part rows i) (second_part rows i))
  pub fields : T (fields_fit (shape_of operator).fields (rows i))
  pub start : (ending rows (suc i)).start ≡ start_of (shape_of operator).parts i (first_part rows i).start (second_part rows i).start
  pub form : (ending rows (suc i)).form ≡ form_of operator (rows i) (first_part rows i).form (second_part rows i).form

pub node : (rows : ℕ → BodyRow) (i : ℕ) → T (ending rows (suc i)).sound → Node rows i
unfolding reading_of
node rows i t =
    by_code (operator_of (rows i).code) refl (agree_sound (ending_step rows i) t)
  where
    by_code : (o : Option Operator) → operator_of (rows i).code ≡ o → ending rows (suc i) ≡ reading_of o (rows i) i (first_part rows i) (second_part rows i) → Node rows i
    by_code none e made = absurd (subst (λ (r : RowsRead). T r.sound) made t)
    by_code (some o) e made =
        let f = first_part rows i in
        let s = second_part rows i in
        let fit = and_yes (parts_fit (shape_of o).parts i f s) (fields_fit (shape_of o).fields (rows i)) (subst (λ (r : RowsRead). T r.sound) made t) in
        record {
          operator = o;
          coded = e;
          parts = fit.0;
          fields = fit.1;
          start = ap (λ (r : RowsRead). r.start) made;
          form = ap (λ (r : RowsRead). r.form) made;
        }

-- ---- operators and their codes

numbered : ℕ → List Operator → Bool
numbered n [] = true
numbered n (o ∷ os) = eqb (code_of o) n && numbered (suc n) os

code_from : (n : ℕ) (os : List Operator) → T (numbered n os) → (k : ℕ) (o : Operator) → get_elem? os k ≡ some o → code_of o ≡ n + k
unfolding numbered
code_from n [] t k o e = absurd (none-ne-some o e)
code_from n (p ∷ os) t zero o e =
    ap code_of (sym (some-injective p o e)) ∙ eqb_yes (and_yes (eqb (code_of p) n) (numbered (suc n) os) t).0 ∙ sym (add-zero n)
code_from n (p ∷ os) t (suc k) o e =
    code_from (suc n) os (and_yes (eqb (code_of p) n) (numbered (suc n) os) t).1 k o e ∙ suc-add n k ∙ sym (add-suc n k)

-- an operator's code is its place in `operators`
pub code_of_lem : (k : ℕ) (o : Operator) → operator_of k ≡ some o → code_of o ≡ k
unfolding operator_of operators numbered code_of
code_of_lem k o e = code_from 0 operators tt k o e ∙ zero-add k

pub operator_of_lem : (o : Operator) → operator_of (code_of o) ≡ some o
unfolding operator_of operators code_of
operator_of_lem (comparing le) = refl
operator_of_lem (comparing lt) = refl
operator_of_lem (comparing eq) = refl
operator_of_lem (comparing ne) = refl
operator_of_lem (comparing ge) = refl
operator_of_lem (comparing gt) = refl
operator_of_lem negating = refl
operator_of_lem (connecting and) = refl
operator_of_lem (connecting or) = refl
operator_of_lem (connecting xor) = refl
operator_of_lem (connecting implies) = refl
operator_of_lem (quantifying forall) = refl
operator_of_lem (quantifying exists) = refl
operator_of_lem kind_of = refl
operator_of_lem literal = refl
operator_of_lem cell_of = refl
operator_of_lem size_of = refl
operator_of_lem sum_of = refl
operator_of_lem (combining add) = refl
operator_of_lem (combining sub) = refl
operator_of_lem role_of = refl
operator_of_lem all_of = refl
operator_of_lem selecting = refl

-- ---- parts and their sorts

pub same_sort_lem : (s : Sort) → T (same_sort s s)
same_sort_lem truth = tt
same_sort_lem number = tt
same_sort_lem collection = tt

-- a part of a sort is a form of that sort
pub is_truth_lem : (p : Part) → T (same_sort truth (sort_of p)) → p ≡ part truth (as_truth p)
unfolding sort_of as_truth
is_truth_lem (part truth f) t = refl
is_truth_lem (part number f) t = absurd t
is_truth_lem (part collection f) t = absurd t

pub is_number : (p : Part) → T (same_sort number (sort_of p)) → p ≡ part number (as_number p)
unfolding sort_of as_number
is_number (part truth f) t = absurd t
is_number (part number f) t = refl
is_number (part collection f) t = absurd t

pub is_collection : (p : Part) → T (same_sort collection (sort_of p)) → p ≡ part collection (as_collection p)
unfolding sort_of as_collection
is_collection (part truth f) t = absurd t
is_collection (part number f) t = absurd t
is_collection (part collection f) t = refl

-- an operator's parts are of their sorts
abbrev pub sorted : List Sort → Part → Part → Type 0
sorted [] a b = Unit {0}
sorted (p ∷ []) a b = T (same_sort p (sort_of b))
sorted (p ∷ q ∷ more) a b = T (same_sort p (sort_of a)) × T (same_sort q (sort_of b))

pub sorted_parts : (parts : List Sort) (i : ℕ) (f s : RowsRead) → T (parts_fit parts i f s) → sorted parts f.form s.form
sorted_parts [] i f s t = tt
sorted_parts (p ∷ []) i f s t = (and_yes s.sound (same_sort p (sort_of s.form)) (only_fits p i f s t).1).1
sorted_parts (p ∷ q ∷ more) i f s t =
    let r = both_fit p q more i f s t in
    ((and_yes f.sound (same_sort p (sort_of f.form)) r.3).1, (and_yes s.sound (same_sort q (sort_of s.form)) r.1).1)
