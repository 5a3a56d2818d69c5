-- Document 01's marked cases (a) to (m), with the row of NotTooPendingSales and cases of our own beyond them, as one table that the
-- prover computes: what each batch answers, which pairs it lists and which register it leaves; that each rule of (j) to (m) is well
-- typed, and its event list. What no agreement with the full check can refuse, a pair or an event type too many, is refused here.
use Rattle.std.specs.Prelude.{ℕ, ◌-◌, List, [], ◌∷◌, ◌++◌, length, replicate, ℤ, pos, negsuc}
use Rattle.std.proofs.Math.Option.{Option, none, some}
use Rattle.meaning.specs.Limits.{cell_count}
use Rattle.meaning.specs.Schema.{ObjectType, Relationship, Floor, Schema}
use Rattle.meaning.specs.Register.{Object, Link, Register}
use Rattle.meaning.specs.Forms.{truth, le, ge, gt, and, or, forall, exists, add, Form, compare, connect, quantify, kind, num, cell, size, sum, combine, role, all, select, Rule, Book}
use Rattle.meaning.specs.Events.{Event, insert, delete, set, join, part, special, general, Lent, link_of, Refusal}
use Rattle.meaning.specs.Reach.{Pair, pair_of}
use Rattle.meaning.specs.EventList.{EventType, insert_of, delete_of, set_of, join_of, part_of, special_of, event_list}
use Rattle.meaning.specs.Answers.{Answer, accepted, broken_at, refused, book_refusal, Outcome, batch_check}

-- ---- what a case gives and what it must show

-- a batch for a book and a register, or a rule by itself
pub data Given : Type 0 where
  batch_for : Lent → Book → Register → List Event → Given
  rule_for : Schema → Rule → Given

-- the answer, the pairs and the register that a batch check leaves; or whether a rule is refused, and its event list
pub data Result : Type 0 where
  outcome : Outcome → Result
  listing : Option Refusal → List EventType → Result

pub record Case : Type 0 where
  pub given : Given
  pub expected : Result

-- tables to document 01's limits, with so many words for the list; and words without end
abbrev list_of : ℕ → Lent
list_of words = record { objects = 1024; links = 4096; words = words }

abbrev everything : Lent
everything = list_of 100000

-- a book of one rule
abbrev pub one_rule : Schema → Rule → Book
one_rule S r = record { schema = S; rules = r ∷ [] }

unfoldable pub result_of : Given → Result
result_of (batch_for lent k g es) = outcome (batch_check k lent g es)
result_of (rule_for S r) = listing (book_refusal (one_rule S r)) (event_list S r)

-- ---- Book A

abbrev top : ℕ → ObjectType
top n = record { parent = none; cells = n }

abbrev below : ℕ → ℕ → ObjectType
below p n = record { parent = some p; cells = n }

abbrev from_to : ℕ → ℕ → Relationship
from_to s t = record { source = s; target = t }

abbrev object : ℕ → ℕ → List ℤ → Object
object id t cells = record { id = id; type = t; cells = cells ++ replicate (cell_count - length cells) (pos 0) }

abbrev schema_a : Schema
schema_a = record { types = top 1 ∷ top 1 ∷ []; floors = []; relationships = from_to 0 1 ∷ [] }

abbrev sum_rule : Rule
sum_rule = record { context = 0; body = compare le (sum (role 0 0) 0) (cell 0 0) }

-- the body of case (g)
abbrev each_fits : Form truth
each_fits = compare le (cell 1 0) (cell 0 0)

abbrev each_rule : Rule
each_rule = record { context = 0; body = quantify forall (role 0 0) each_fits }

-- the link of Book A
abbrev link_a : List Link
link_a = link_of 0 10 20 ∷ []

-- Book A's objects, with others between, with that value in the cell of object 20
abbrev park_a : List Object → ℤ → List Link → Register
park_a more v links =
    record { objects = object 10 0 (pos 30 ∷ []) ∷ object 11 0 (pos 30 ∷ []) ∷ (more ++ object 20 1 (v ∷ []) ∷ []); links = links }

abbrev register_a : Register
register_a = park_a [] (pos 25) link_a

-- the register after `insert 12 0`
abbrev with_twelve : Register
with_twelve = park_a (object 12 0 [] ∷ []) (pos 25) link_a

-- the register after `delete 20`, which takes the link along
abbrev without_twenty : Register
without_twenty = record { objects = object 10 0 (pos 30 ∷ []) ∷ object 11 0 (pos 30 ∷ []) ∷ []; links = [] }

-- a batch for a book of one rule, and its answer, its pairs and the register that it leaves
abbrev case_by : Schema → Rule → Register → List Event → Answer → List Pair → Register → Case
case_by S r g es answer pairs left =
    record { given = batch_for everything (one_rule S r) g es; expected = outcome (record { answer = answer; pairs = pairs; register = left }) }

abbrev case_a : List Event → Answer → List Pair → Register → Case
case_a es answer pairs left = case_by schema_a sum_rule register_a es answer pairs left

-- ---- the schema of document 000's figure 1.1, as far as its rules go

-- types: 0 Sale (amount, paymentDate), 1 Shipment (plannedShipDate), 2 Product (price, maxDiscount),
-- 3 RestrictedProduct, 4 Category (maxPendingAmount), 5 Customer
-- relationships: 0 DeliveredIn, of Sale to Shipment; 1 BelongsTo, of Customer to Category; 2 Purchases, of Customer to Sale
abbrev shop : Schema
shop =
    record {
      types = top 2 ∷ top 1 ∷ top 2 ∷ below 2 2 ∷ top 1 ∷ top 0 ∷ [];
      floors = [];
      relationships = from_to 0 1 ∷ from_to 5 4 ∷ from_to 5 0 ∷ [];
    }

-- a rule of the shop, which is not refused, and its event list
abbrev case_of : Rule → List EventType → Case
case_of r es = record { given = rule_for shop r; expected = listing none es }

-- self.shipment->forAll(sh | sh.plannedShipDate <= self.paymentDate + 30)
abbrev valid_ship_date : Rule
valid_ship_date =
    record { context = 0; body = quantify forall (role 0 0) (compare le (cell 1 0) (combine add (cell 0 1) (num (pos 30)))) }

-- self.price > 0 and self.maxDiscount <= 60
abbrev correct_product : Rule
correct_product =
    record { context = 2; body = connect and (compare gt (cell 0 0) (num (pos 0))) (compare le (cell 0 1) (num (pos 60))) }

-- self.customer->size() >= 3
abbrev at_least_three_customers : Rule
at_least_three_customers = record { context = 4; body = compare ge (size (role 0 3)) (num (pos 3)) }

-- RestrictedProduct.allInstances()->size() <= 20
abbrev number_of_restricted_products : Rule
number_of_restricted_products = record { context = 3; body = compare le (size (all 3)) (num (pos 20)) }

-- self.customer->forAll(c | c.sale->select(s | s.paymentDate > now)->collect(amount)->sum() <= self.maxPendingAmount)
abbrev not_too_pending_sales : Rule
not_too_pending_sales =
    record {
      context = 4;
      body =
          quantify forall (role 0 3)
          (compare le (sum (select (role 1 4) (compare gt (cell 2 1) (num (pos 1000)))) 0) (cell 0 0));
    }

-- ---- beyond (m): what the reach rules must not select, and what they must though agreement does not ask for it

-- forall over a select of a role of self is not quiet
abbrev select_rule : Rule
select_rule = record { context = 0; body = quantify forall (select (role 0 0) (compare gt (cell 1 0) (num (pos 0)))) each_fits }

-- a type and one below it; a rule that asks the one below
abbrev schema_k : Schema
schema_k = record { types = top 1 ∷ below 0 1 ∷ []; floors = []; relationships = from_to 0 0 ∷ [] }

abbrev register_k : Register
register_k = record { objects = object 10 1 [] ∷ object 11 1 [] ∷ []; links = [] }

abbrev kind_rule : Rule
kind_rule = record { context = 0; body = kind 0 1 }

-- quiet, and yet a set of its cell may turn it false
abbrev quiet_or_cell : Rule
quiet_or_cell =
    record { context = 0; body = connect or (quantify forall (role 0 0) (compare le (cell 1 0) (num (pos 0)))) (compare le (cell 0 0) (num (pos 5))) }

-- a rule on the type below, by a role of the type above: a special into it selects though the body is quiet
abbrev quiet_below : Rule
quiet_below = record { context = 1; body = quantify forall (role 0 0) (compare le (cell 1 0) (num (pos 0))) }

abbrev register_s : Register
register_s = record { objects = object 10 0 [] ∷ object 11 1 (pos 7 ∷ []) ∷ []; links = link_of 0 10 11 ∷ [] }

-- an object of type 0 or of type 1, and nothing else
abbrev single : ℕ → Register
single t = record { objects = object 10 t [] ∷ []; links = [] }

-- rules of the type above: how many objects of a type there are at most, and at least
abbrev most_of : ℕ → ℕ → Rule
most_of t n = record { context = 0; body = compare le (size (all t)) (num (pos n)) }

abbrev some_below : Rule
some_below = record { context = 0; body = compare ge (size (all 1)) (num (pos 1)) }

-- what a role's members are asked: that there is one, and that few have more than 30
abbrev any_rule : Rule
any_rule = record { context = 0; body = quantify exists (role 0 0) (kind 0 0) }

abbrev none_over : Rule
none_over = record { context = 0; body = compare le (size (select (role 0 0) (compare gt (cell 1 0) (num (pos 30))))) (num (pos 0)) }

-- a cell of the object itself
abbrev cell_rule : Rule
cell_rule = record { context = 0; body = compare le (cell 0 0) (num (pos 5)) }

-- ---- deletes that take links along (Req 01)

-- quiet, and yet a loss may turn it false: what is listed of it after an insert is listed for a loss
abbrev some_or_none : Rule
some_or_none = record { context = 0; body = connect or (quantify forall (role 0 0) (kind 0 0)) (quantify exists (role 0 0) (kind 0 0)) }

-- two types, and a relationship between them, or of the first with itself
abbrev schema_d : ℕ → Schema
schema_d target = record { types = top 1 ∷ top 1 ∷ []; floors = []; relationships = from_to 0 target ∷ [] }

abbrev register_d : List Object → List Link → Register
register_d more links = record { objects = object 1 0 [] ∷ more; links = links }

-- a rule that a loss alone turns false
abbrev some_rule : Rule
some_rule = record { context = 0; body = compare ge (size (role 0 0)) (num (pos 1)) }

-- ---- floors (Req 02)

abbrev floor : ℕ → ℕ → Floor
floor t k = record { type = t; cell = k }

-- NotTooPendingSales where a Sale's amount is at least 0
abbrev floored_shop : Schema
floored_shop = record { types = shop.types; floors = floor 0 0 ∷ []; relationships = shop.relationships }

-- a type with two cells and one below it, a relationship from the first type to one of the two, and floors
abbrev schema_f : List Floor → ℕ → Schema
schema_f floors target = record { types = top 2 ∷ below 0 2 ∷ []; floors = floors; relationships = from_to 0 target ∷ [] }

-- the sum over a role is at most, or at least, a number
abbrev at_most : Rule
at_most = record { context = 0; body = compare le (sum (role 0 0) 0) (num (pos 9)) }

abbrev at_least : Rule
at_least = record { context = 0; body = compare ge (sum (role 0 0) 0) (num (pos 1)) }

-- a rule that no event moves
abbrev always : Rule
always = record { context = 0; body = compare le (num (pos 0)) (num (pos 0)) }

-- object 1, and object 2 at the far end of its link
abbrev register_f : ℕ → List ℤ → List Link → Register
register_f t cells links = record { objects = object 1 0 [] ∷ object 2 t cells ∷ []; links = links }

abbrev link_f : List Link
link_f = link_of 0 1 2 ∷ []

-- a batch that meets a refusal
abbrev refused_f : List Floor → ℕ → List ℤ → List Event → ℕ → ℕ → Case
refused_f floors t cells es number place = case_by (schema_f floors 0) always (register_f t cells []) es (refused number place) [] (register_f t cells [])

-- a schema that meets refusal 3: its second relationship is of a type that it lacks
abbrev faulty_book : List Floor → ℕ → Case
faulty_book floors place =
    record {
      given = rule_for (record { types = top 2 ∷ below 0 2 ∷ []; floors = floors; relationships = from_to 0 1 ∷ from_to 0 2 ∷ [] }) always;
      expected = listing (some (record { number = 3; place = place })) (insert_of 0 ∷ []);
    }

-- ---- fewer looks after a special (Req 06)

-- types: 0 drive, 1 servo drive, 2 a kind of servo drive, 3 cabinet; relationships to a cabinet: 0 of the drive, 1 of the servo drive
abbrev drives : Schema
drives = record { types = top 1 ∷ below 0 1 ∷ below 1 1 ∷ top 1 ∷ []; floors = []; relationships = from_to 0 3 ∷ from_to 1 3 ∷ [] }

-- no cabinet at the role is over 5
abbrev low : ℕ → Form truth
low r = quantify forall (role 0 r) (compare le (cell 1 0) (num (pos 5)))

-- the roles to the cabinets: of every drive, and of the servo drive
abbrev of_drive : ℕ
of_drive = 0

abbrev of_servo : ℕ
of_servo = 2

-- drive 10 of a type, and two cabinets of which the second is over 5
abbrev drive_of : ℕ → List Link → Register
drive_of t links = record { objects = object 10 t [] ∷ object 20 3 (pos 5 ∷ []) ∷ object 21 3 (pos 9 ∷ []) ∷ []; links = links }

-- a batch for the drive, with a rule of servo drives
abbrev case_s : Form truth → Register → List Event → Answer → List Pair → Register → Case
case_s body = case_by drives (record { context = 1; body = body })

-- the event list of such a rule
abbrev list_s : Form truth → List EventType → Case
list_s body es = record { given = rule_for drives (record { context = 1; body = body }); expected = listing none es }

-- ---- inspections (Req 08)

-- two servo drives, the second of a kind of its own, and the cabinets
abbrev fleet : List Link → Register
fleet links = record { objects = object 10 1 [] ∷ object 11 2 [] ∷ object 20 3 (pos 5 ∷ []) ∷ object 21 3 (pos 9 ∷ []) ∷ []; links = links }

-- a rule of every drive, a quiet one of servo drives, and one of cabinets that no event touches but an insert
abbrev three_rules : Book
three_rules =
    record {
      schema = drives;
      rules = record { context = 0; body = compare ge (cell 0 0) (num (pos 0)) } ∷ record { context = 1; body = low of_servo } ∷ record { context = 3; body = compare le (num (pos 0)) (num (pos 1)) } ∷ [];
    }

-- a batch for them, with so many words for the list
abbrev case_i : ℕ → Register → List Event → Answer → List Pair → Register → Case
case_i words g es answer pairs left =
    record { given = batch_for (list_of words) three_rules g es; expected = outcome (record { answer = answer; pairs = pairs; register = left }) }

abbrev every_pair : List Pair
every_pair = pair_of 0 10 ∷ pair_of 0 11 ∷ pair_of 1 10 ∷ pair_of 1 11 ∷ pair_of 2 20 ∷ pair_of 2 21 ∷ []

unfoldable pub table : List Case
table =
    -- (a) to (f)
    case_a (set 20 0 (pos 31) ∷ []) (broken_at 0 10) (pair_of 0 10 ∷ []) register_a
    ∷ case_a (set 20 0 (pos 30) ∷ []) accepted (pair_of 0 10 ∷ []) (park_a [] (pos 30) link_a)
    ∷ case_a [] accepted (pair_of 0 10 ∷ pair_of 0 11 ∷ []) register_a
    ∷ case_a (part 0 10 20 ∷ []) accepted (pair_of 0 10 ∷ []) (park_a [] (pos 25) [])
    ∷ case_a (part 0 10 20 ∷ join 0 10 20 ∷ []) accepted (pair_of 0 10 ∷ []) register_a
    ∷ case_a (insert 12 0 ∷ []) accepted (pair_of 0 12 ∷ []) with_twelve
    -- (g) to (i)
    ∷ case_by schema_a each_rule register_a (insert 12 0 ∷ []) accepted [] with_twelve
    ∷ case_a (delete 20 ∷ []) accepted (pair_of 0 10 ∷ []) without_twenty
    ∷ case_a (join 0 10 20 ∷ []) (refused 9 0) [] register_a
    -- (j) to (m), and NotTooPendingSales
    ∷ case_of valid_ship_date (set_of 0 1 ∷ set_of 1 0 ∷ join_of 0 ∷ [])
    ∷ case_of correct_product (insert_of 2 ∷ set_of 2 0 ∷ set_of 2 1 ∷ [])
    ∷ case_of at_least_three_customers (insert_of 4 ∷ delete_of 5 ∷ part_of 1 ∷ [])
    ∷ case_of number_of_restricted_products (insert_of 3 ∷ special_of 3 ∷ [])
    ∷ case_of not_too_pending_sales (delete_of 0 ∷ set_of 0 0 ∷ set_of 0 1 ∷ set_of 4 0 ∷ join_of 1 ∷ join_of 2 ∷ part_of 2 ∷ [])
    -- beyond (m)
    ∷ case_by schema_a select_rule register_a (insert 12 0 ∷ []) accepted (pair_of 0 12 ∷ []) with_twelve
    ∷ case_by schema_k kind_rule register_k (general 10 0 ∷ special 10 1 ∷ []) accepted (pair_of 0 10 ∷ []) register_k
    ∷ case_by schema_k quiet_or_cell register_k (set 10 0 (pos 3) ∷ delete 10 ∷ insert 10 1 ∷ []) accepted (pair_of 0 10 ∷ []) register_k
    ∷ case_by schema_k quiet_or_cell register_k (delete 10 ∷ insert 10 1 ∷ []) accepted [] register_k
    ∷ case_by schema_k quiet_below register_s (special 10 1 ∷ []) (broken_at 0 10) (pair_of 0 10 ∷ []) register_s
    -- what moves `all t`: a special into t and a general out of it, not a special below t
    ∷ case_by schema_k (most_of 1 0) (single 0) (special 10 1 ∷ []) (broken_at 0 10) (pair_of 0 10 ∷ []) (single 0)
    ∷ case_by schema_k some_below (single 1) (general 10 0 ∷ []) (broken_at 0 10) (pair_of 0 10 ∷ []) (single 1)
    ∷ case_by schema_k (most_of 0 9) (single 0) (special 10 1 ∷ []) accepted [] (single 1)
    -- a forall by its body at a member, a select by its condition; exists is not quiet; a general moves no cell
    ∷ case_by schema_a each_rule register_a (set 20 0 (pos 31) ∷ []) (broken_at 0 10) (pair_of 0 10 ∷ []) register_a
    ∷ case_by schema_a none_over register_a (set 20 0 (pos 31) ∷ []) (broken_at 0 10) (pair_of 0 10 ∷ []) register_a
    ∷ case_by schema_a any_rule register_a (insert 12 0 ∷ []) (broken_at 0 12) (pair_of 0 12 ∷ []) register_a
    ∷ case_by schema_k cell_rule (single 1) (general 10 0 ∷ []) accepted [] (single 0)
    -- deletes: the deleted id inserted again; a link of an object to itself; the far object deleted, inserted and joined again
    ∷ case_by (schema_d 1) some_or_none (register_d (object 2 1 [] ∷ []) (link_of 0 1 2 ∷ [])) (delete 1 ∷ insert 1 0 ∷ []) accepted []
    (register_d (object 2 1 [] ∷ []) [])
    ∷ case_by (schema_d 0) some_or_none (register_d [] (link_of 0 1 1 ∷ [])) (delete 1 ∷ insert 1 0 ∷ []) accepted [] (register_d [] [])
    ∷ case_by schema_a some_rule register_a (delete 20 ∷ insert 20 1 ∷ join 0 10 20 ∷ []) accepted (pair_of 0 10 ∷ []) (park_a [] (pos 0) link_a)
    -- floors: document 000's row of NotTooPendingSales; a sum that falls by loss only and rises by gain only, whose set is either
    ∷ record { given = rule_for floored_shop not_too_pending_sales; expected = listing none (set_of 0 0 ∷ set_of 0 1 ∷ set_of 4 0 ∷ join_of 1 ∷ join_of 2 ∷ []) }
    ∷ case_by (schema_f (floor 0 0 ∷ []) 0) at_most (register_f 0 [] link_f) (part 0 1 2 ∷ []) accepted [] (register_f 0 [] [])
    ∷ case_by (schema_f (floor 0 0 ∷ []) 0) at_most (register_f 0 [] []) (join 0 1 2 ∷ []) accepted (pair_of 0 1 ∷ []) (register_f 0 [] link_f)
    ∷ case_by (schema_f (floor 0 0 ∷ []) 0) at_least (register_f 0 [] []) (join 0 1 2 ∷ []) accepted [] (register_f 0 [] link_f)
    ∷ case_by (schema_f (floor 0 0 ∷ []) 0) at_least (register_f 0 (pos 1 ∷ []) link_f) (part 0 1 2 ∷ []) (broken_at 0 1) (pair_of 0 1 ∷ []) (register_f 0 (pos 1 ∷ []) link_f)
    ∷ case_by (schema_f (floor 0 0 ∷ []) 0) at_most (register_f 0 [] link_f) (set 2 0 (pos 3) ∷ []) accepted (pair_of 0 1 ∷ []) (register_f 0 (pos 3 ∷ []) link_f)
    ∷ case_by (schema_f (floor 0 0 ∷ []) 0) at_least (register_f 0 (pos 1 ∷ []) link_f) (set 2 0 (pos 3) ∷ []) accepted (pair_of 0 1 ∷ []) (register_f 0 (pos 3 ∷ []) link_f)
    -- a floor of a type above the members' counts; one of a type below, or of another cell, does not
    ∷ case_by (schema_f (floor 0 0 ∷ []) 1) at_most (register_f 1 [] link_f) (part 0 1 2 ∷ []) accepted [] (register_f 1 [] [])
    ∷ case_by (schema_f (floor 1 0 ∷ []) 0) at_most (register_f 1 [] link_f) (part 0 1 2 ∷ []) accepted (pair_of 0 1 ∷ []) (register_f 1 [] [])
    ∷ case_by (schema_f (floor 0 1 ∷ []) 0) at_most (register_f 0 [] link_f) (part 0 1 2 ∷ []) accepted (pair_of 0 1 ∷ []) (register_f 0 [] [])
    -- 15: a set, of a type below too; a special; after 11; a general out from under a floor is not refused
    ∷ refused_f (floor 0 0 ∷ []) 1 [] (set 2 1 (negsuc 0) ∷ set 2 0 (negsuc 0) ∷ []) 15 1
    ∷ refused_f (floor 1 1 ∷ []) 0 (pos 0 ∷ negsuc 0 ∷ []) (special 2 1 ∷ []) 15 0
    ∷ refused_f (floor 0 0 ∷ []) 0 [] (set 2 2 (negsuc 0) ∷ []) 11 0
    ∷ case_by (schema_f (floor 1 1 ∷ []) 0) always (register_f 1 [] []) (general 2 0 ∷ set 2 1 (negsuc 0) ∷ []) accepted [] (register_f 0 (pos 0 ∷ negsuc 0 ∷ []) [])
    -- 5: a register below a floor; 3: out of order, twice, of an unknown cell or type, before a relationship's fault
    ∷ refused_f (floor 0 0 ∷ []) 1 (negsuc 0 ∷ []) [] 5 1
    ∷ faulty_book (floor 0 1 ∷ floor 0 0 ∷ []) 1
    ∷ faulty_book (floor 0 0 ∷ floor 0 1 ∷ floor 0 1 ∷ []) 2
    ∷ faulty_book (floor 0 2 ∷ []) 0
    ∷ faulty_book (floor 1 0 ∷ floor 2 0 ∷ []) 1
    ∷ faulty_book (floor 0 0 ∷ floor 1 0 ∷ []) 1
    -- a special: by a role of the servo drive no pair and not listed; by a role of the drive both; straight to a type below too
    ∷ case_s (low of_servo) (drive_of 0 []) (special 10 1 ∷ []) accepted [] (drive_of 1 [])
    ∷ case_s (low of_drive) (drive_of 0 []) (special 10 1 ∷ []) accepted (pair_of 0 10 ∷ []) (drive_of 1 [])
    ∷ case_s (low of_servo) (drive_of 0 []) (special 10 2 ∷ []) accepted [] (drive_of 2 [])
    ∷ case_s (low of_drive) (drive_of 0 (link_of 0 10 21 ∷ [])) (special 10 2 ∷ []) (broken_at 0 10) (pair_of 0 10 ∷ []) (drive_of 0 (link_of 0 10 21 ∷ []))
    ∷ list_s (low of_servo) (set_of 3 0 ∷ join_of 1 ∷ [])
    ∷ list_s (low of_drive) (set_of 3 0 ∷ join_of 0 ∷ special_of 1 ∷ [])
    -- `or` needs one part that counts, `and` two
    ∷ case_s (connect or (low of_drive) (low of_servo)) (drive_of 0 []) (special 10 1 ∷ []) accepted [] (drive_of 1 [])
    ∷ case_s (connect and (low of_drive) (low of_servo)) (drive_of 0 []) (special 10 1 ∷ []) accepted (pair_of 0 10 ∷ []) (drive_of 1 [])
    -- an insert keeps the quietness that it has
    ∷ case_s (low of_drive) (drive_of 0 []) (delete 10 ∷ insert 10 1 ∷ []) accepted [] (drive_of 1 [])
    -- general and special again: without its link; with links joined between and after, of which the last breaks the rule
    ∷ case_s (low of_servo) (drive_of 1 (link_of 1 10 20 ∷ [])) (part 1 10 20 ∷ general 10 0 ∷ special 10 1 ∷ []) accepted [] (drive_of 1 [])
    ∷ case_s (low of_servo) (drive_of 1 []) (general 10 0 ∷ join 0 10 21 ∷ special 10 1 ∷ []) accepted [] (drive_of 1 (link_of 0 10 21 ∷ []))
    ∷ case_s (low of_drive) (drive_of 1 []) (general 10 0 ∷ join 0 10 21 ∷ special 10 1 ∷ []) (broken_at 0 10) (pair_of 0 10 ∷ []) (drive_of 1 [])
    ∷ case_s (low of_servo) (drive_of 1 []) (general 10 0 ∷ join 0 10 20 ∷ special 10 1 ∷ join 1 10 21 ∷ []) (broken_at 0 10) (pair_of 0 10 ∷ []) (drive_of 1 [])
    -- an inspection lists every pair, and tells what is broken
    ∷ case_i 12 (fleet []) [] accepted every_pair (fleet [])
    ∷ case_i 12 (fleet (link_of 1 11 21 ∷ [])) [] (broken_at 1 11) every_pair (fleet (link_of 1 11 21 ∷ []))
    -- 14 meets it; a batch of one event that changes nothing is none, though a rule is broken
    ∷ case_i 11 (fleet []) [] (refused 14 0) [] (fleet [])
    ∷ case_i 12 (fleet (link_of 1 11 21 ∷ [])) (set 20 0 (pos 5) ∷ []) accepted [] (fleet (link_of 1 11 21 ∷ []))
    ∷ []
