-- Document 01, "Text", "Body forms": the forms of a rule's body over their sort, and which bodies are well typed (refusal 4).
use Rattle.std.specs.Prelude.{ℕ, suc, ◌+◌, Bool, ◌&&◌, not, List, [], ◌∷◌, ◌++◌, ltb, leb, length, get_or, ℤ}
use Rattle.std.proofs.Math.Option.{Option}
use Rattle.meaning.specs.Lists.{first_fault}
use Rattle.meaning.specs.Limits.{max_forms, fits_word}
use Rattle.meaning.specs.Schema.{Relationship, Schema, known_type, known_role, cells_of, under, near_type, far_type}

-- "a truth may hold a number, a number a collection, and a collection a truth"
pub data Sort : Type 0 where
  truth number collection : Sort

-- "le lt eq ne ge gt"
pub data Comparison : Type 0 where
  le lt eq ne ge gt : Comparison

-- "and or xor implies"
pub data Connective : Type 0 where
  and or xor implies : Connective

-- "(forall c b), (exists c b)"
pub data Quantifier : Type 0 where
  forall exists : Quantifier

-- "add", "sub"
pub data Arithmetic : Type 0 where
  add sub : Arithmetic

-- A form of each sort. Variables, types, roles and cells are given by their numbers; `negate` is document 01's `not`.
pub data Form : Sort → Type 0 where
  compare : Comparison → Form number → Form number → Form truth
  negate : Form truth → Form truth
  connect : Connective → Form truth → Form truth → Form truth
  quantify : Quantifier → Form collection → Form truth → Form truth
  kind : (variable type : ℕ) → Form truth
  num : ℤ → Form number
  cell : (variable cell : ℕ) → Form number
  size : Form collection → Form number
  sum : Form collection → (cell : ℕ) → Form number
  combine : Arithmetic → Form number → Form number → Form number
  role : (variable role : ℕ) → Form collection
  all : (type : ℕ) → Form collection
  select : Form collection → Form truth → Form collection

-- The values of the variables, or their types, variable 0 first: "Variable 0 is self; the body of forall, exists or select has
-- a new one, numbered one above those around it."
abbrev pub bind : List ℕ → ℕ → List ℕ
bind variables x = variables ++ x ∷ []

abbrev pub variable : List ℕ → ℕ → ℕ
variable variables v = get_or variables v 0

-- how many forms a form is made of
unfoldable pub form_count : {s : Sort} → Form s → ℕ
form_count (compare o a b) = suc (form_count a + form_count b)
form_count (negate a) = suc (form_count a)
form_count (connect o a b) = suc (form_count a + form_count b)
form_count (quantify q c b) = suc (form_count c + form_count b)
form_count (kind v t) = 1
form_count (num n) = 1
form_count (cell v k) = 1
form_count (size c) = suc (form_count c)
form_count (sum c k) = suc (form_count c)
form_count (combine o a b) = suc (form_count a + form_count b)
form_count (role v r) = 1
form_count (all t) = 1
form_count (select c b) = suc (form_count c + form_count b)

-- the type of a collection's members
unfoldable pub member_type : List Relationship → Form collection → ℕ
member_type relationships (role v r) = far_type relationships r
member_type relationships (all t) = t
member_type relationships (select c b) = member_type relationships c

-- "unknown type, variable, cell or role for the variable's or member's type", by the types of the variables
unfoldable pub well_typed : {s : Sort} → Schema → List ℕ → Form s → Bool
well_typed S types (compare o a b) = well_typed S types a && well_typed S types b
well_typed S types (negate a) = well_typed S types a
well_typed S types (connect o a b) = well_typed S types a && well_typed S types b
well_typed S types (quantify q c b) = well_typed S types c && well_typed S (bind types (member_type S.relationships c)) b
well_typed S types (kind v t) = ltb v (length types) && known_type S.types t
well_typed S types (num n) = fits_word n
well_typed S types (cell v k) = ltb v (length types) && ltb k (cells_of S.types (variable types v))
well_typed S types (size c) = well_typed S types c
well_typed S types (sum c k) = well_typed S types c && ltb k (cells_of S.types (member_type S.relationships c))
well_typed S types (combine o a b) = well_typed S types a && well_typed S types b
well_typed S types (role v r) = ltb v (length types) && known_role S.relationships r && under S.types (variable types v) (near_type S.relationships r)
well_typed S types (all t) = known_type S.types t
well_typed S types (select c b) = well_typed S types c && well_typed S (bind types (member_type S.relationships c)) b

-- "Rules: .. each with a context type and a body of at most 64 forms." A rule's number is its place in the book.
pub record Rule : Type 0 where
  pub context : ℕ
  pub body : Form truth

pub record Book : Type 0 where
  pub schema : Schema
  pub rules : List Rule

-- Refusal 4 and its place, the rule.
unfoldable pub faulty_rule : Schema → ℕ → Option Rule → Rule → Bool
faulty_rule S n previous r =
    not (known_type S.types r.context && well_typed S (r.context ∷ []) r.body && leb (form_count r.body) max_forms)

unfoldable pub rule_fault : Book → Option ℕ
rule_fault k = first_fault (faulty_rule k.schema) k.rules
