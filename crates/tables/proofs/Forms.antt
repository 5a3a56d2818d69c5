-- A body's rows and its form determine each other: the reading of specs/Bodies is the inverse of `write_form`.
use Prim.Native.Nat.{ℕ, zero, suc, ◌+◌, ◌-◌, ◌*◌, ◌^◌, ◌≤◌, ◌<◌}
use mathlib.Core.Path.{◌≡◌, refl, sym, ap, ap₂, subst, fun_ext, ◌∙◌}
use mathlib.Core.Bool.{Bool, true, false, ◌&&◌, not}
use mathlib.Core.List.{List, [], ◌∷◌, ◌++◌}
use mathlib.Core.Option.{some}
use native.Mathlib.Nat.{le_refl, le_trans, add-zero, zero-add, add-suc, suc-add, add_assoc, sub_self, not-suc-le-zero}
use native.Mathlib.Numerals.{add-one, add-two, add-three, add-four}
use native.Mathlib.Omega.{arith}
use lib.Dec.{T, ltb, leb, eqb}
use lib.ListN.{length, get_or, take, drop, length-append}
use lib.Seq.{take_at, drop_at, drop-cons, take-length}
use lib.IntN.{ℤ}
use mir.Facts.{and_yes, yes_and, ltb_yes, leb_yes, eqb_yes, yes_ltb, yes_leb}
use borrow.Author.Tests.{lt-ltb}
use Rattle.meaning.specs.Limits.{max_forms, fits_word}
use Rattle.meaning.specs.Forms.{Sort, truth, number, Form, compare, negate, connect, quantify, kind, num, cell, size, sum, combine, role, all, select, form_count}
use Rattle.meaning.proofs.Lists.{cond_yes, cond_no}
use Rattle.rows.proofs.Words
use Rattle.rows.proofs.Words.{word_signed}
use Rattle.rows.specs.Rows.{signed, word_of}
use Rattle.tables.specs.Codes.{Operator, comparing, negating, connecting, quantifying, kind_of, literal, cell_of, size_of, sum_of, combining, role_of, all_of, selecting, operator_of, code_of, shape_of}
use Rattle.tables.specs.Bodies.{row_words, write_form, BodyRow, body_row, Part, part, sort_of, same_sort, as_truth, as_number, as_collection, RowsRead, form_of, start_of, reads, parts_fit, fields_fit, reading_of, read_at, whole_body, read_body, ending, first_part, second_part}
use Rattle.tables.proofs.Readings.{ending_start, before_end, sound_pos, agree_sound, next, ending_step, node, only_fits, both_fit, code_of_lem, operator_of_lem, same_sort_lem, is_truth_lem, is_number, is_collection, sorted, sorted_parts}

-- ---- a signed number as a word, and back

pub signed_word : (z : ℤ) → T (fits_word z) → signed (word_of z) ≡ z
unfolding fits_word
signed_word z t = Words.signed_word z (ltb_yes t)

-- ---- the words of rows

abbrev row_list : BodyRow → List ℕ
row_list r = r.code ∷ r.x ∷ r.y ∷ r.z ∷ []

-- the words of n rows from row o on
unfoldable pub words_from : (ℕ → BodyRow) → ℕ → ℕ → List ℕ
words_from rows o zero = []
words_from rows o (suc n) = row_list (rows o) ++ words_from rows (suc o) n

module _ (rows : ℕ → BodyRow) where
  pub length_words : (o n : ℕ) → length (words_from rows o n) ≡ n * 4
  unfolding words_from
  length_words o zero = refl
  length_words o (suc n) = let h = length_words (suc o) n in omega arith

  pub words_split : (o m n : ℕ) → words_from rows o (m + n) ≡ words_from rows o m ++ words_from rows (o + m) n
  unfolding words_from
  words_split o zero n = rw (zero-add, add-zero) refl
  words_split o (suc m) n = rw (suc-add m n) (ap (λ w. row_list (rows o) ++ w) (words_split (suc o) m n ∙ ap (λ k. words_from rows (suc o) m ++ words_from rows k n) (suc-add o m ∙ sym (add-suc o m))))

  -- one row more
  words_snoc : (o n : ℕ) → words_from rows o (suc n) ≡ words_from rows o n ++ row_list (rows (o + n))
  unfolding words_from
  words_snoc o n = ap (words_from rows o) (sym (add-one n)) ∙ words_split o n 1

-- lists put together of parts of the same lengths have the same parts
pub halves : {A : Type 0} (a b c d : List A) → length a ≡ length c → a ++ b ≡ c ++ d → (a ≡ c) × (b ≡ d)
halves a b c d l e = (
  sym (take_at a b (length c) l) ∙ ap (take (length c)) e ∙ take_at c d (length c) refl,
  sym (drop_at a b (length c) l) ∙ ap (drop (length c)) e ∙ drop_at c d (length c) refl,
)

-- the last of the rows, and those before it
last_row : (rows : ℕ → BodyRow) (o n : ℕ) (w v : List ℕ) → length w ≡ n * 4 → words_from rows o (suc n) ≡ w ++ v → (words_from rows o n ≡ w) × (row_list (rows (o + n)) ≡ v)
last_row rows o n w v l e = halves (words_from rows o n) (row_list (rows (o + n))) w v (length_words rows o n ∙ sym l) (sym (words_snoc rows o n) ∙ e)

row_after : (w : List ℕ) (o : Operator) (x y n : ℕ) → length w ≡ n * 4 → length (w ++ row_words o x y) ≡ suc n * 4
row_after w o x y n e = let h = length-append w (row_words o x y) in omega arith

rows_after : (v w : List ℕ) (o : Operator) (m n : ℕ) → length v ≡ m * 4 → length w ≡ n * 4 → length (v ++ w ++ row_words o 0 0) ≡ suc (m + n) * 4
rows_after v w o m n d e = row_after (v ++ w) o 0 0 (m + n) (let h = length-append v w in omega arith)

unfoldable pub write_part : Part → List ℕ
write_part (part s f) = write_form f

unfoldable pub part_count : Part → ℕ
part_count (part s f) = form_count f

-- a row of four words for each form
pub length_form : {s : Sort} (f : Form s) → length (write_form f) ≡ form_count f * 4
unfolding write_form form_count
length_form (compare o a b) = rows_after (write_form a) (write_form b) _ (form_count a) (form_count b) (length_form a) (length_form b)
length_form (negate a) = row_after (write_form a) _ _ _ (form_count a) (length_form a)
length_form (connect o a b) = rows_after (write_form a) (write_form b) _ (form_count a) (form_count b) (length_form a) (length_form b)
length_form (quantify q c b) = rows_after (write_form c) (write_form b) _ (form_count c) (form_count b) (length_form c) (length_form b)
length_form (kind v t) = refl
length_form (num n) = refl
length_form (cell v k) = refl
length_form (size c) = row_after (write_form c) _ _ _ (form_count c) (length_form c)
length_form (sum c k) = row_after (write_form c) _ _ _ (form_count c) (length_form c)
length_form (combine o a b) = rows_after (write_form a) (write_form b) _ (form_count a) (form_count b) (length_form a) (length_form b)
length_form (role v r) = refl
length_form (all t) = refl
length_form (select c b) = rows_after (write_form c) (write_form b) _ (form_count c) (form_count b) (length_form c) (length_form b)

length_part : (p : Part) → length (write_part p) ≡ part_count p * 4
unfolding write_part part_count
length_part (part s f) = length_form f

-- the words of an operator's parts
abbrev parts_words : List Sort → Part → Part → List ℕ
parts_words [] a b = []
parts_words (p ∷ []) a b = write_part b
parts_words (p ∷ q ∷ more) a b = write_part a ++ write_part b

-- a row's words, of which its operator uses n fields
abbrev used : ℕ → BodyRow → List ℕ
used zero r = 0 ∷ 0 ∷ 0 ∷ []
used (suc zero) r = r.x ∷ 0 ∷ 0 ∷ []
used (suc (suc n)) r = r.x ∷ r.y ∷ 0 ∷ []

write_node : (o : Operator) (r : BodyRow) (a b : Part) → sorted (shape_of o).parts a b → r.x < 2 ^ 32 → parts_words (shape_of o).parts a b ++ code_of o ∷ used (shape_of o).fields r ≡ write_part (form_of o r a b)
unfolding shape_of form_of write_part write_form
write_node (comparing o) r a b t w = ap₂ (λ x y. write_part x ++ write_part y ++ row_words (comparing o) 0 0) (is_number a t.0) (is_number b t.1)
write_node negating r a b t w = ap (λ x. write_part x ++ row_words negating 0 0) (is_truth_lem b t)
write_node (connecting o) r a b t w = ap₂ (λ x y. write_part x ++ write_part y ++ row_words (connecting o) 0 0) (is_truth_lem a t.0) (is_truth_lem b t.1)
write_node (quantifying q) r a b t w = ap₂ (λ x y. write_part x ++ write_part y ++ row_words (quantifying q) 0 0) (is_collection a t.0) (is_truth_lem b t.1)
write_node kind_of r a b t w = refl
write_node literal r a b t w = ap (λ x. row_words literal x 0) (sym (word_signed r.x w))
write_node cell_of r a b t w = refl
write_node size_of r a b t w = ap (λ x. write_part x ++ row_words size_of 0 0) (is_collection b t)
write_node sum_of r a b t w = ap (λ x. write_part x ++ row_words sum_of r.x 0) (is_collection b t)
write_node (combining o) r a b t w = ap₂ (λ x y. write_part x ++ write_part y ++ row_words (combining o) 0 0) (is_number a t.0) (is_number b t.1)
write_node role_of r a b t w = refl
write_node all_of r a b t w = refl
write_node selecting r a b t w = ap₂ (λ x y. write_part x ++ write_part y ++ row_words selecting 0 0) (is_collection a t.0) (is_truth_lem b t.1)

used_all : (n : ℕ) (r : BodyRow) → T (fields_fit n r) → used n r ≡ r.x ∷ r.y ∷ r.z ∷ []
unfolding fields_fit
used_all zero r t =
    let a = and_yes (eqb r.x 0 && eqb r.y 0) (eqb r.z 0) t in
    let b = and_yes (eqb r.x 0) (eqb r.y 0) a.0 in
    let x : r.x ≡ 0 = eqb_yes b.0 in
    let y : r.y ≡ 0 = eqb_yes b.1 in
    let z : r.z ≡ 0 = eqb_yes a.1 in
    rw (x, y, z)
used_all (suc zero) r t =
    let a = and_yes (eqb r.y 0) (eqb r.z 0) t in
    let y : r.y ≡ 0 = eqb_yes a.0 in
    let z : r.z ≡ 0 = eqb_yes a.1 in
    rw (y, z)
used_all (suc (suc n)) r t = let z : r.z ≡ 0 = eqb_yes t in rw z

-- ---- write after read

module _ (rows : ℕ → BodyRow) where
  -- the words from the start of a form up to row e are those of the form
  abbrev Written : ℕ → Type 0
  Written e = T (ending rows e).sound → words_from rows (ending rows e).start (e - (ending rows e).start) ≡ write_part (ending rows e).form

  parts_written : (i : ℕ) → ((e : ℕ) → e ≤ i → Written e) → (parts : List Sort) → T (parts_fit parts i (first_part rows i) (second_part rows i)) → let o = start_of parts i (first_part rows i).start (second_part rows i).start in (o ≤ i) × (words_from rows o (i - o) ≡ parts_words parts (first_part rows i).form (second_part rows i).form)
  unfolding start_of words_from
  parts_written i before [] t = (le_refl i, ap (words_from rows i) (sub_self i))
  parts_written i before (p ∷ []) t =
      let s = second_part rows i in
      (ending_start rows i, before i (le_refl i) (and_yes s.sound (same_sort p (sort_of s.form)) (only_fits p i (first_part rows i) s t).1).0)
  parts_written i before (p ∷ q ∷ more) t =
      let f = first_part rows i in
      let s = second_part rows i in
      let r = both_fit p q more i f s t in
      let low : s.start ≤ i = ending_start rows i in
      let lower : f.start ≤ s.start = ending_start rows s.start in
      let second = before i (le_refl i) (and_yes s.sound (same_sort q (sort_of s.form)) r.1).0 in
      let first = before s.start low (and_yes f.sound (same_sort p (sort_of f.form)) r.3).0 in
      let count : i - f.start ≡ (s.start - f.start) + (i - s.start) = omega arith in
      let middle : f.start + (s.start - f.start) ≡ s.start = omega arith in (
        le_trans lower low,
        ap (words_from rows f.start) count
            ∙ words_split rows f.start (s.start - f.start) (i - s.start)
            ∙ ap₂ (λ x y. x ++ y) first (ap (λ o. words_from rows o (i - s.start)) middle ∙ second),
      )

  module _ (bounded : (k : ℕ) → (rows k).x < 2 ^ 32) where
    written_to : (n e : ℕ) → e ≤ n → Written e
    unfolding ending
    written_to zero zero h t = absurd t
    written_to zero (suc i) h t = absurd (not-suc-le-zero h)
    written_to (suc n) zero h t = absurd t
    written_to (suc n) (suc i) h t =
        let d = node rows i t in
        let f = first_part rows i in
        let s = second_part rows i in
        let parts = (shape_of d.operator).parts in
        let o = start_of parts i f.start s.start in
        let w = parts_written i (λ e k. written_to n e (omega arith)) parts d.parts in
        let low : o ≤ i = w.0 in
        let count : suc i - o ≡ suc (i - o) = omega arith in
        let last : o + (i - o) ≡ i = omega arith in
        let row : code_of d.operator ∷ used (shape_of d.operator).fields (rows i) ≡ row_list (rows i) =
        ap₂ (λ x y. x ∷ y) (code_of_lem (rows i).code d.operator d.coded) (used_all (shape_of d.operator).fields (rows i) d.fields) in
        ap (λ k. words_from rows k (suc i - k)) d.start
        ∙ ap (words_from rows o) count
        ∙ words_snoc rows o (i - o)
        ∙ ap₂ (λ x j. x ++ row_list (rows j)) w.1 last
        ∙ ap (λ y. parts_words parts f.form s.form ++ y) (sym row)
        ∙ write_node d.operator (rows i) f.form s.form (sorted_parts parts i f s d.parts) (bounded i)
        ∙ ap write_part (sym d.form)

    -- A form that ends before row e: the words of its rows are those of the form.
    pub written_read : (e : ℕ) → Written e
    written_read e = written_to e e (le_refl e)

    -- it is made of as many forms as it has rows
    pub count_read : (e : ℕ) → T (ending rows e).sound → (ending rows e).start + part_count (ending rows e).form ≡ e
    count_read e t =
        let o = (ending rows e).start in
        let low : o ≤ e = ending_start rows e in
        let n : (e - o) * 4 ≡ part_count (ending rows e).form * 4 =
        sym (length_words rows o (e - o)) ∙ ap length (written_read e t) ∙ length_part (ending rows e).form in
        omega arith

-- ---- whole bodies

last_ending : (rows : ℕ → BodyRow) (i : ℕ) → read_at (suc i) rows (suc i - 1) ≡ ending rows (suc i)
last_ending rows i = before_end (suc i) rows (suc i) (omega arith) (le_refl (suc i))

-- n rows are one whole form: at most 64, the last of which ends a truth that starts at the first
abbrev pub whole_ending : RowsRead → ℕ → Bool
whole_ending r n = leb n max_forms && reads truth r && eqb r.start 0

pub whole_ending_lem : (rows : ℕ → BodyRow) (n : ℕ) → whole_body rows n ≡ whole_ending (ending rows n) n
unfolding whole_body ending
whole_ending_lem rows zero = refl
whole_ending_lem rows (suc i) =
    ap₂ (λ b (r : RowsRead). b && leb (suc i) max_forms && reads truth r && eqb r.start 0) (lt-ltb 0 (suc i) (omega arith)) (last_ending rows i)

pub body_ending : (rows : ℕ → BodyRow) (n : ℕ) → T (whole_body rows n) → read_body rows n ≡ as_truth (ending rows n).form
unfolding read_body whole_body
body_ending rows zero t = absurd t
body_ending rows (suc i) t = cond_yes (whole_body rows (suc i)) _ (kind 1 0) t ∙ ap (λ (r : RowsRead). as_truth r.form) (last_ending rows i)

pub body_none : (rows : ℕ → BodyRow) (n : ℕ) → T (not (whole_body rows n)) → read_body rows n ≡ kind 1 0
unfolding read_body
body_none rows n t = cond_no (whole_body rows n) _ (kind 1 0) t

-- what a whole body is
pub record WholeBody (rows : ℕ → BodyRow) (n : ℕ) : Type 0 where
  pub few : n ≤ max_forms
  pub sound : T (ending rows n).sound
  pub is_truth : T (same_sort truth (sort_of (ending rows n).form))
  pub start : (ending rows n).start ≡ 0

pub whole_body_lem : (rows : ℕ → BodyRow) (n : ℕ) → T (whole_body rows n) → WholeBody rows n
whole_body_lem rows n t =
    let r = ending rows n in
    let a = and_yes (leb n max_forms && reads truth r) (eqb r.start 0) (subst T (whole_ending_lem rows n) t) in
    let b = and_yes (leb n max_forms) (reads truth r) a.0 in
    let c = and_yes r.sound (same_sort truth (sort_of r.form)) b.1 in
    record { few = leb_yes b.0; sound = c.0; is_truth = c.1; start = eqb_yes a.1 }

module _ (rows : ℕ → BodyRow) (bounded : (k : ℕ) → (rows k).x < 2 ^ 32) (n : ℕ) (whole : T (whole_body rows n)) where
  -- The words of a whole body are those of its form ..
  pub body_words_lem : words_from rows 0 n ≡ write_form (read_body rows n)
  unfolding write_part
  body_words_lem =
      let w = whole_body_lem rows n whole in
      let r = ending rows n in
      let count : n - r.start ≡ n = let h = w.start in omega arith in
      ap₂ (words_from rows) (sym w.start) (sym count)
      ∙ written_read rows bounded n w.sound
      ∙ ap write_part (is_truth_lem r.form w.is_truth)
      ∙ ap write_form (sym (body_ending rows n whole))

  -- .. and it is made of as many forms as it has rows.
  pub body_count : form_count (read_body rows n) ≡ n
  body_count =
      let h : n * 4 ≡ form_count (read_body rows n) * 4 = sym (length_words rows 0 n) ∙ ap length body_words_lem ∙ length_form (read_body rows n) in
      omega arith

-- whole bodies that are read as one form are the same rows
pub same_bodies : (rows others : ℕ → BodyRow) → ((k : ℕ) → (rows k).x < 2 ^ 32) → ((k : ℕ) → (others k).x < 2 ^ 32) → (n m : ℕ) → T (whole_body rows n) → T (whole_body others m) → read_body rows n ≡ read_body others m → (n ≡ m) × (words_from rows 0 n ≡ words_from others 0 m)
same_bodies rows others b c n m s t e = (
  sym (body_count rows b n s) ∙ ap form_count e ∙ body_count others c m t,
  body_words_lem rows b n s ∙ ap write_form e ∙ sym (body_words_lem others c m t),
)

-- ---- read after write

T_true : (b : Bool) → T b → b ≡ true
T_true true t = refl
T_true false t = absurd t

-- every number of the form is of 32 bits
unfoldable pub nums_fit : {s : Sort} → Form s → Bool
nums_fit (compare o a b) = nums_fit a && nums_fit b
nums_fit (negate a) = nums_fit a
nums_fit (connect o a b) = nums_fit a && nums_fit b
nums_fit (quantify q c b) = nums_fit c && nums_fit b
nums_fit (kind v t) = true
nums_fit (num n) = fits_word n
nums_fit (cell v k) = true
nums_fit (size c) = nums_fit c
nums_fit (sum c k) = nums_fit c
nums_fit (combine o a b) = nums_fit a && nums_fit b
nums_fit (role v r) = true
nums_fit (all t) = true
nums_fit (select c b) = nums_fit c && nums_fit b

module _ (rows : ℕ → BodyRow) where
  -- the form stands in the rows from row o on, and is read there
  abbrev Stands : {s : Sort} → ℕ → Form s → Type 0
  Stands o f = words_from rows o (form_count f) ≡ write_form f

  abbrev Read : {s : Sort} → ℕ → Form s → Type 0
  Read {s} o f = ending rows (o + form_count f) ≡ record { start = o; sound = true; form = part s f }

  row_of : Operator → ℕ → ℕ → BodyRow
  row_of o x y = record { code = code_of o; x = x; y = y; z = 0 }

  -- row i is that of an operator: what is read there by the readings of its parts
  row_read : (i : ℕ) (op : Operator) (x y : ℕ) (parts : List Sort) (f s : RowsRead) → (shape_of op).parts ≡ parts
      → first_part rows i ≡ f → second_part rows i ≡ s → row_list (rows i) ≡ row_words op x y
      → T (parts_fit parts i f s) → T (fields_fit (shape_of op).fields (row_of op x y))
      → ending rows (suc i) ≡ record { start = start_of parts i f.start s.start; sound = true; form = form_of op (row_of op x y) f.form s.form }
  unfolding reading_of row_of
  row_read i op x y parts f s shape first second row there fields =
      let field : (k : ℕ) → get_or (row_list (rows i)) k 0 ≡ get_or (row_words op x y) k 0 = λ k. ap (λ l. get_or l k 0) row in
      let is : rows i ≡ row_of op x y = λ j. record { code = field 0 j; x = field 1 j; y = field 2 j; z = field 3 j } in
      let fit = fields_fit (shape_of op).fields (row_of op x y) in
      let sound : (parts_fit (shape_of op).parts i f s && fit) ≡ true =
      ap (λ ps. parts_fit ps i f s && fit) shape ∙ T_true (parts_fit parts i f s && fit) (yes_and (parts_fit parts i f s) fit there fields) in
      let made : next rows i ≡ reading_of (some op) (row_of op x y) i f s =
      ap (λ (r : BodyRow). reading_of (operator_of r.code) r i (first_part rows i) (second_part rows i)) is
      ∙ ap (λ p. reading_of p (row_of op x y) i (first_part rows i) (second_part rows i)) (operator_of_lem op)
      ∙ ap₂ (reading_of (some op) (row_of op x y) i) first second in
      let agree = ending_step rows i in
      agree_sound agree (subst T (sym (agree.sounds ∙ ap (λ (r : RowsRead). r.sound) made ∙ sound)) tt)
      ∙ made
      ∙ (λ j. record { start = start_of (shape j) i f.start s.start; sound = sound j; form = form_of op (row_of op x y) f.form s.form })

  read_pos : (e : ℕ) {r : RowsRead} → ending rows e ≡ r → T r.sound → 0 < e
  read_pos e q t = sound_pos rows e (subst (λ (r : RowsRead). T r.sound) (sym q) t)

  leaf_read : (o : ℕ) (op : Operator) (x y : ℕ) → (shape_of op).parts ≡ [] → T (fields_fit (shape_of op).fields (row_of op x y)) → words_from rows o 1 ≡ row_words op x y → ending rows (o + 1) ≡ record { start = o; sound = true; form = form_of op (row_of op x y) (first_part rows o).form (second_part rows o).form }
  unfolding words_from start_of parts_fit
  leaf_read o op x y shape fields words =
      ap (ending rows) (add-one o) ∙ row_read o op x y [] (first_part rows o) (second_part rows o) shape refl refl words tt fields

  -- a form with one part, and one with two, by the readings of the parts
  module _ {s : Sort} (o : ℕ) (op : Operator) (b : Form s) (read : Stands o b → Read o b) where
    only_read : (x y : ℕ) → (shape_of op).parts ≡ s ∷ [] → T (fields_fit (shape_of op).fields (row_of op x y)) → words_from rows o (suc (form_count b)) ≡ write_form b ++ row_words op x y → ending rows (o + suc (form_count b)) ≡ record { start = o; sound = true; form = form_of op (row_of op x y) (first_part rows (o + form_count b)).form (part s b) }
    unfolding start_of parts_fit sort_of
    only_read x y shape fields words =
        let i = o + form_count b in
        let h = last_row rows o (form_count b) (write_form b) (row_words op x y) (length_form b) words in
        let r = read h.0 in
        ap (ending rows) (add-suc o (form_count b))
        ∙ row_read i op x y (s ∷ []) (first_part rows i) (record { start = o; sound = true; form = part s b }) shape refl r h.1
        (yes_and (ltb 0 i) (same_sort s s) (yes_ltb (read_pos i r tt)) (same_sort_lem s)) fields

  module _ {s t : Sort} (o : ℕ) (op : Operator) (a : Form s) (b : Form t) (first : Stands o a → Read o a) (second : Stands (o + form_count a) b → Read (o + form_count a) b) where
    both_read : (shape_of op).parts ≡ s ∷ t ∷ [] → T (fields_fit (shape_of op).fields (row_of op 0 0)) → words_from rows o (suc (form_count a + form_count b)) ≡ write_form a ++ write_form b ++ row_words op 0 0 → ending rows (o + suc (form_count a + form_count b)) ≡ record { start = o; sound = true; form = form_of op (row_of op 0 0) (part s a) (part t b) }
    unfolding start_of parts_fit sort_of
    both_read shape fields words =
        let m = form_count a in
        let n = form_count b in
        let i = o + (m + n) in
        let l : length (write_form a ++ write_form b) ≡ (m + n) * 4 = let k = length-append (write_form a) (write_form b) in omega (arith, length_form a, length_form b) in
        let h = last_row rows o (m + n) (write_form a ++ write_form b) (row_words op 0 0) l words in
        let w = halves (words_from rows o m) (words_from rows (o + m) n) (write_form a) (write_form b) (length_words rows o m ∙ sym (length_form a)) (sym (words_split rows o m n) ∙ h.0) in
        let f = first w.0 in
        let g : ending rows i ≡ record { start = o + m; sound = true; form = part t b } = ap (ending rows) (sym (add_assoc o m n)) ∙ second w.1 in
        ap (ending rows) (add-suc o (m + n))
        ∙ row_read i op 0 0 (s ∷ t ∷ []) (record { start = o; sound = true; form = part s a }) (record { start = o + m; sound = true; form = part t b }) shape
        (ap (λ (r : RowsRead). ending rows r.start) g ∙ f) g h.1
        (yes_and (ltb 0 i && same_sort t t && ltb 0 (o + m)) (same_sort s s)
        (yes_and (ltb 0 i && same_sort t t) (ltb 0 (o + m)) (yes_and (ltb 0 i) (same_sort t t) (yes_ltb (read_pos i g tt)) (same_sort_lem t)) (yes_ltb (read_pos (o + m) f tt)))
        (same_sort_lem s))
        fields

  -- A form whose words stand in the rows from row o on is read there.
  pub read_written : {s : Sort} (f : Form s) (o : ℕ) → T (nums_fit f) → Stands o f → Read o f
  unfolding form_count write_form nums_fit shape_of form_of fields_fit row_of as_truth as_number as_collection
  read_written (compare c a b) o t = let r = and_yes (nums_fit a) (nums_fit b) t in both_read o (comparing c) a b (read_written a o r.0) (read_written b (o + form_count a) r.1) refl tt
  read_written (negate a) o t = only_read o negating a (read_written a o t) 0 0 refl tt
  read_written (connect c a b) o t = let r = and_yes (nums_fit a) (nums_fit b) t in both_read o (connecting c) a b (read_written a o r.0) (read_written b (o + form_count a) r.1) refl tt
  read_written (quantify q c b) o t = let r = and_yes (nums_fit c) (nums_fit b) t in both_read o (quantifying q) c b (read_written c o r.0) (read_written b (o + form_count c) r.1) refl tt
  read_written (kind v u) o t = leaf_read o kind_of v u refl tt
  read_written (num n) o t = λ e. leaf_read o literal (word_of n) 0 refl tt e ∙ ap (λ z. record { start = o; sound = true; form = part number (num z) }) (signed_word n t)
  read_written (cell v k) o t = leaf_read o cell_of v k refl tt
  read_written (size c) o t = only_read o size_of c (read_written c o t) 0 0 refl tt
  read_written (sum c k) o t = only_read o sum_of c (read_written c o t) k 0 refl tt
  read_written (combine c a b) o t = let r = and_yes (nums_fit a) (nums_fit b) t in both_read o (combining c) a b (read_written a o r.0) (read_written b (o + form_count a) r.1) refl tt
  read_written (role v r) o t = leaf_read o role_of v r refl tt
  read_written (all u) o t = leaf_read o all_of u 0 refl tt
  read_written (select c b) o t = let r = and_yes (nums_fit c) (nums_fit b) t in both_read o selecting c b (read_written c o r.0) (read_written b (o + form_count c) r.1) refl tt

  -- The same at the row where it ends, at any fuel above the row.
  pub read_at_written : {s : Sort} (f : Form s) (o n : ℕ) → T (nums_fit f) → Stands o f → o + form_count f ≤ n → read_at n rows (o + form_count f - 1) ≡ record { start = o; sound = true; form = part s f }
  read_at_written f o n nums words room =
      let r = read_written f o nums words in
      before_end n rows (o + form_count f) (read_pos (o + form_count f) r tt) room ∙ r

  -- Rows that hold a truth's words are a whole body, and its form is read.
  module _ (f : Form truth) (n : ℕ) (nums : T (nums_fit f)) (count : form_count f ≡ n) (few : n ≤ max_forms) (words : words_from rows 0 n ≡ write_form f) where
    truth_read : ending rows n ≡ record { start = 0; sound = true; form = part truth f }
    truth_read = ap (ending rows) (sym count ∙ sym (zero-add (form_count f))) ∙ read_written f 0 nums (ap (words_from rows 0) count ∙ words)

    pub body_whole : T (whole_body rows n)
    unfolding sort_of
    body_whole =
        subst T (sym (whole_ending_lem rows n ∙ ap (λ r. whole_ending r n) truth_read))
        (yes_and (leb n max_forms && true) true (yes_and (leb n max_forms) true (yes_leb few) tt) tt)

    pub body_read : read_body rows n ≡ f
    unfolding as_truth
    body_read = body_ending rows n body_whole ∙ ap (λ (r : RowsRead). as_truth r.form) truth_read

-- ---- the rows of a table

four_words : (t : List ℕ) (j : ℕ) → j + 4 ≤ length t → drop j t ≡ get_or t (j + 0) 0 ∷ get_or t (j + 1) 0 ∷ get_or t (j + 2) 0 ∷ get_or t (j + 3) 0 ∷ drop (j + 4) t
four_words t j h =
    let next : (k : ℕ) → k < j + 4 → drop k t ≡ get_or t k 0 ∷ drop (suc k) t = λ k l. drop-cons t k 0 (omega arith) in
    rw (add-zero, add-one, add-two, add-three, add-four)
    (rw (next j (omega arith), next (suc j) (omega arith), next (suc (suc j)) (omega arith), next (suc (suc (suc j))) (omega arith)) refl)

-- the words of rows of a table, from row base on
pub table_words : (t : List ℕ) (base o n : ℕ) → (base + o + n) * 4 ≤ length t → words_from (λ j. body_row t (base + j)) o n ≡ take (n * 4) (drop ((base + o) * 4) t)
unfolding words_from
table_words t base o zero h = refl
table_words t base o (suc n) h =
    let j = (base + o) * 4 in
    let later : (base + suc o) * 4 ≡ j + 4 = omega arith in
    let count : suc n * 4 ≡ suc (suc (suc (suc (n * 4)))) = omega arith in
    ap (λ w. row_list (body_row t (base + o)) ++ w) (table_words t base (suc o) n (omega arith) ∙ ap (λ k. take (n * 4) (drop k t)) later)
    ∙ sym (ap₂ take count (four_words t j (omega arith)))

-- A body whose words stand in a table from row base on is read there.
pub table_read : (f : Form truth) → T (nums_fit f) → form_count f ≤ max_forms → (t : List ℕ) (base : ℕ) → (base + form_count f) * 4 ≤ length t → take (form_count f * 4) (drop (base * 4) t) ≡ write_form f → read_body (λ j. body_row t (base + j)) (form_count f) ≡ f
table_read f nums few t base room words =
    body_read (λ j. body_row t (base + j)) f (form_count f) nums refl few
    (table_words t base 0 (form_count f) (omega arith) ∙ ap (λ k. take (form_count f * 4) (drop (k * 4) t)) (add-zero base) ∙ words)

-- A form of at most 64 forms is the body of its rows.
pub form_read : (f : Form truth) → T (nums_fit f) → form_count f ≤ max_forms → read_body (body_row (write_form f)) (form_count f) ≡ f
form_read f nums few =
    let l = length_form f in
    ap (λ rows. read_body rows (form_count f)) (fun_ext (λ j. ap (body_row (write_form f)) (sym (zero-add j))))
    ∙ table_read f nums few (write_form f) 0 (omega arith) (ap (λ n. take n (write_form f)) (sym l) ∙ take-length (write_form f))
