-- A body's rows: each form stands after its parts, the first part's rows before the second's, and no row points to another. So a form
-- is written in exactly one way (`write_form`), and what is not written so is no body (refusal 4).
use Rattle.std.specs.Prelude.{ℕ, zero, suc, ◌-◌, Bool, true, false, ◌&&◌, cond, List, [], ◌∷◌, ◌++◌, ltb, leb, eqb, pos}
use Rattle.std.proofs.Math.Option.{Option, none, some}
use Rattle.meaning.specs.Limits.{max_forms}
use Rattle.meaning.specs.Forms.{Sort, truth, number, collection, lt, Form, compare, negate, connect, quantify, kind, num, cell, size, sum, combine, role, all, select}
use Rattle.rows.specs.Rows.{word_at, signed, word_of}
use Rattle.tables.specs.Layouts.{body_table}
use Rattle.tables.specs.Codes.{Operator, comparing, negating, connecting, quantifying, kind_of, literal, cell_of, size_of, sum_of, combining, role_of, all_of, selecting, operator_of, code_of, shape_of}

-- ---- a form as rows

abbrev pub row_words : Operator → ℕ → ℕ → List ℕ
row_words o x y = code_of o ∷ x ∷ y ∷ 0 ∷ []

-- the words of a form's rows, four to a row
unfoldable pub write_form : {s : Sort} → Form s → List ℕ
write_form (compare o a b) = write_form a ++ write_form b ++ row_words (comparing o) 0 0
write_form (negate a) = write_form a ++ row_words negating 0 0
write_form (connect o a b) = write_form a ++ write_form b ++ row_words (connecting o) 0 0
write_form (quantify q c b) = write_form c ++ write_form b ++ row_words (quantifying q) 0 0
write_form (kind v t) = row_words kind_of v t
write_form (num n) = row_words literal (word_of n) 0
write_form (cell v k) = row_words cell_of v k
write_form (size c) = write_form c ++ row_words size_of 0 0
write_form (sum c k) = write_form c ++ row_words sum_of k 0
write_form (combine o a b) = write_form a ++ write_form b ++ row_words (combining o) 0 0
write_form (role v r) = row_words role_of v r
write_form (all t) = row_words all_of t 0
write_form (select c b) = write_form c ++ write_form b ++ row_words selecting 0 0

-- ---- rows as a form

pub record BodyRow : Type 0 where
  pub code : ℕ
  pub x : ℕ
  pub y : ℕ
  pub z : ℕ

abbrev pub body_row : List ℕ → ℕ → BodyRow
body_row t i =
    let width = body_table.width in
    record { code = word_at t width i 0; x = word_at t width i 1; y = word_at t width i 2; z = word_at t width i 3 }

-- a form with its sort
pub data Part : Type 0 where
  part : (s : Sort) → Form s → Part

unfoldable pub sort_of : Part → Sort
sort_of (part s f) = s

abbrev pub same_sort : Sort → Sort → Bool
same_sort truth truth = true
same_sort truth number = false
same_sort truth collection = false
same_sort number truth = false
same_sort number number = true
same_sort number collection = false
same_sort collection truth = false
same_sort collection number = false
same_sort collection collection = true

-- A part as a form of a sort; where it is of another, some fixed form: false, 0, the empty set.
unfoldable pub as_truth : Part → Form truth
as_truth (part truth f) = f
as_truth (part number f) = compare lt (num (pos 0)) (num (pos 0))
as_truth (part collection f) = compare lt (num (pos 0)) (num (pos 0))

unfoldable pub as_number : Part → Form number
as_number (part truth f) = num (pos 0)
as_number (part number f) = f
as_number (part collection f) = num (pos 0)

unfoldable pub as_collection : Part → Form collection
as_collection (part truth f) = select (all 0) (compare lt (num (pos 0)) (num (pos 0)))
as_collection (part number f) = select (all 0) (compare lt (num (pos 0)) (num (pos 0)))
as_collection (part collection f) = f

-- What is read of the rows up to some row: the form that ends there, the row at which it starts, and whether those rows are exactly
-- that form.
pub record RowsRead : Type 0 where
  pub start : ℕ
  pub sound : Bool
  pub form : Part

-- the form of a row, by its operator, its fields, and its first and second part (an operator of one part has the second only)
unfoldable pub form_of : Operator → BodyRow → Part → Part → Part
form_of (comparing o) r a b = part truth (compare o (as_number a) (as_number b))
form_of negating r a b = part truth (negate (as_truth b))
form_of (connecting o) r a b = part truth (connect o (as_truth a) (as_truth b))
form_of (quantifying q) r a b = part truth (quantify q (as_collection a) (as_truth b))
form_of kind_of r a b = part truth (kind r.x r.y)
form_of literal r a b = part number (num (signed r.x))
form_of cell_of r a b = part number (cell r.x r.y)
form_of size_of r a b = part number (size (as_collection b))
form_of sum_of r a b = part number (sum (as_collection b) r.x)
form_of (combining o) r a b = part number (combine o (as_number a) (as_number b))
form_of role_of r a b = part collection (role r.x r.y)
form_of all_of r a b = part collection (all r.x)
form_of selecting r a b = part collection (select (as_collection a) (as_truth b))

-- where the form of row i starts, by the starts of its parts
unfoldable pub start_of : List Sort → ℕ → ℕ → ℕ → ℕ
start_of [] i first second = i
start_of (s ∷ []) i first second = second
start_of (s ∷ t ∷ more) i first second = first

-- the reading is of a form of that sort
abbrev pub reads : Sort → RowsRead → Bool
reads s r = r.sound && same_sort s (sort_of r.form)

-- the parts are there and of their sorts; i is the row's number
unfoldable pub parts_fit : List Sort → ℕ → RowsRead → RowsRead → Bool
parts_fit [] i first second = true
parts_fit (s ∷ []) i first second = ltb 0 i && reads s second
parts_fit (s ∷ t ∷ more) i first second = ltb 0 i && reads t second && ltb 0 second.start && reads s first

-- "A field that its row does not use is 0"
unfoldable pub fields_fit : ℕ → BodyRow → Bool
fields_fit zero r = eqb r.x 0 && eqb r.y 0 && eqb r.z 0
fields_fit (suc zero) r = eqb r.y 0 && eqb r.z 0
fields_fit (suc (suc n)) r = eqb r.z 0

-- no operator has that code
abbrev pub no_reading : ℕ → RowsRead
no_reading i = record { start = i; sound = false; form = part number (num (pos 0)) }

unfoldable pub reading_of : Option Operator → BodyRow → ℕ → RowsRead → RowsRead → RowsRead
reading_of none r i first second = no_reading i
reading_of (some o) r i first second =
    record {
      start = start_of (shape_of o).parts i first.start second.start;
      sound = parts_fit (shape_of o).parts i first second && fields_fit (shape_of o).fields r;
      form = form_of o r first.form second.form;
    }

-- The reading at row i. Its second part ends at the row before it, and its first part before that one's start. Row 0 has no parts.
-- Any fuel above i serves.
unfoldable pub read_at : ℕ → (ℕ → BodyRow) → ℕ → RowsRead
read_at zero rows i = no_reading i
read_at (suc fuel) rows zero = reading_of (operator_of (rows 0).code) (rows 0) 0 (no_reading 0) (no_reading 0)
read_at (suc fuel) rows (suc i) =
    let second = read_at fuel rows i in
    let first = read_at fuel rows (second.start - 1) in
    reading_of (operator_of (rows (suc i)).code) (rows (suc i)) (suc i) first second

-- "lent body rows that are exactly one whole form": the reading of the form that ends before row e. Before row 0 none ends.
unfoldable pub ending : (ℕ → BodyRow) → ℕ → RowsRead
ending rows zero = no_reading 0
ending rows (suc i) = read_at (suc i) rows i

-- the parts of row i's form, if its operator has them: the second ends before row i, and the first before the start of the second
abbrev pub second_part : (ℕ → BodyRow) → ℕ → RowsRead
second_part rows i = ending rows i

abbrev pub first_part : (ℕ → BodyRow) → ℕ → RowsRead
first_part rows i = ending rows (ending rows i).start

-- "lent body rows that are exactly one whole form": n rows, the last of which is a truth that starts at the first
unfoldable pub whole_body : (ℕ → BodyRow) → ℕ → Bool
whole_body rows n =
    ltb 0 n && leb n max_forms && reads truth (read_at n rows (n - 1)) && eqb (read_at n rows (n - 1)).start 0

-- The body of n rows. Rows that are not exactly one whole form are read as a body that refusal 4 meets: it names a variable that
-- is not there.
unfoldable pub read_body : (ℕ → BodyRow) → ℕ → Form truth
read_body rows n = cond (whole_body rows n) (as_truth (read_at n rows (n - 1)).form) (kind 1 0)
