-- Demand 3, sentence by sentence, and what demand 1 says of a refusal, of a call of `batch::check`: for every lent table, by what the call says (r) and leaves
-- (list', objects', links'). `proofs/Theorems` has one proof for each claim. They rest on the function's promise alone, and `check` here calls it and promises them.
use Rattle.std.specs.Prelude.{ℕ, ◌≡◌, ◌↔◌, Bool, false, not, T, length}
use mathlib.Core.List.{List, flat_map}
use Rattle.std.proofs.Math.Option.{none, some}
use Rattle.std.proofs.Math.ListN.{get_elem?}
use Rattle.meaning.specs.Lists.{◌∈◌, Ascending, Before}
use Rattle.meaning.specs.Register.{Register}
use Rattle.meaning.specs.Forms.{Rule, Book}
use Rattle.meaning.specs.Meaning.{book_holds}
use Rattle.meaning.specs.Events.{after}
use Rattle.meaning.specs.Reach.{Change, change_by, inspection, Pair, pair_key, context_pairs, pair_selected, selected_pairs}
use Rattle.meaning.specs.EventList.{touched}
use Rattle.meaning.specs.Answers.{pair_broken}
use Rattle.rows.specs.Rows.{in_front, padded}
use Rattle.tables.specs.Layouts.{Sheet, book_tables}
use Rattle.tables.specs.Columns.{book_of, register_in, batch_in}
use Rattle.tables.specs.Words.{object_words, link_words}
use Rattle.tables.specs.Refusals.{table_refusal}
use Rattle.tables.specs.Answers.{answer_of}
use Rattle.tables.specs.declared.Counts.{Counts}
use Rattle.tables.specs.declared.Answer.TheVariants.{Accepted, Broken, Refused}
use Rattle.full.specs.Answers.{lent_answer}
use Rattle.pair_list.specs.Pairs.{pair_words}
use Rattle.batch.specs.declared.Checked.{Checked}
use Rattle.batch.specs.Checked.{lent_outcome, Left}

-- ---- a call

-- what was lent: tables with their counts, whether the scratch is too short, and the list; what the call says, and what it leaves
pub record Call : Type 0 where
  pub n : Counts
  pub s : Sheet
  pub short : Bool
  pub list : List ℕ
  pub r : Checked
  pub list' : List ℕ
  pub objects' : List ℕ
  pub links' : List ℕ

-- the promise of `batch::check`
abbrev pub Promised : Call → Type 0
Promised d = Left (lent_outcome d.n d.s d.short (length d.list)) d.list d.s.objects d.s.links d.r d.list' d.objects' d.links'

-- "every batch that is not refused"
abbrev pub NotRefused : Call → Type 0
NotRefused d = (number place : ℕ) → d.r.answer ≡ Refused number place → ⊥

abbrev pub book_in : Call → Book
book_in d = book_of d.n d.s

abbrev pub before : Call → Register
before d = register_in d.n d.s

-- "every event applied in order"
abbrev pub end : Call → Register
end d = after (book_in d).schema (before d) (batch_in d.n d.s)

abbrev pub change : Call → Change
change d = change_by (book_in d).schema (before d) (batch_in d.n d.s)

-- the pairs of the list
abbrev pub listed : Call → List Pair
listed d = selected_pairs (book_in d) (change d)

-- Req 08: a call is an inspection exactly when its count of events is 0
abbrev pub InspectionIsNoEvents : Type 0
InspectionIsNoEvents = (d : Call) → T (inspection (change d)) ↔ (d.n.events ≡ 0)

abbrev pub ForEach : (Call → Type 0) → Type 0
ForEach claim = (d : Call) → Promised d → NotRefused d → claim d

-- ---- the list

-- "the batch check's list names a pair exactly when document 01's reach rules select it, each once, ascending": the words at the front of the lent list are
-- those of these pairs, the others are as they were, and the call says how many pairs there are.
abbrev pub NamesSelected : Call → Type 0
NamesSelected d =
    (d.list' ≡ in_front (pair_words (listed d)) d.list)
    × (d.r.pairs ≡ length (listed d))
    × Ascending (Before pair_key) (listed d)
    × ((p : Pair) → (p ∈ listed d) ↔ T (pair_selected (book_in d) (change d) p))

abbrev pub ListNamesSelected : Type 0
ListNamesSelected = ForEach NamesSelected

-- Req 08: "A batch without events selects every pair of rule and object of its context type."
abbrev pub InspectionNamesAll : Call → Type 0
InspectionNamesAll d =
    T (inspection (change d)) → listed d ≡ context_pairs (book_in d) (before d)

abbrev pub InspectionListsEveryPair : Type 0
InspectionListsEveryPair = ForEach InspectionNamesAll

-- "a rule none of whose listed event types occurs has no pair"; Req 08: "only for other batches" than an inspection
abbrev pub NoneUntouched : Call → Type 0
NoneUntouched d =
    T (not (inspection (change d))) → (n : ℕ) (r : Rule) → get_elem? (book_in d).rules n ≡ some r → T (not (touched (change d) r)) → (p : Pair) → p ∈ listed d → p.rule ≡ n → ⊥

abbrev pub UntouchedHasNoPair : Type 0
UntouchedHasNoPair = ForEach NoneUntouched

-- ---- the answer

-- "The batch check's answer comes from the listed pairs alone, the first of them broken after the batch": a pair exactly when it is listed and broken
-- there, and none listed before it is.
abbrev pub FirstListed : Call → Type 0
FirstListed d =
    (p : Pair)
    → (d.r.answer ≡ Broken p.rule p.id)
    ↔ (p ∈ listed d × T (pair_broken (book_in d) (end d) p) × ((q : Pair) → q ∈ listed d → Before pair_key q p → T (not (pair_broken (book_in d) (end d) q))))

abbrev pub BrokenIsFirstListed : Type 0
BrokenIsFirstListed = ForEach FirstListed

-- "else accepted, whatever held before"
abbrev pub AcceptedElse : Call → Type 0
AcceptedElse d =
    (d.r.answer ≡ Accepted) ↔ ((p : Pair) → p ∈ listed d → T (not (pair_broken (book_in d) (end d) p)))

abbrev pub ElseAccepted : Type 0
ElseAccepted = ForEach AcceptedElse

-- "If every rule holds in the register before the batch, the batch check's answer is that of a full check of the register after the batch": of whatever
-- tables that hold the same book and that register, and are not refused as tables; by the promise of `full::check`.
abbrev pub Agrees : Call → Type 0
Agrees d =
    T (book_holds (book_in d) (before d))
    → (n : Counts) (s : Sheet) → book_of n s ≡ book_in d → register_in n s ≡ end d → table_refusal book_tables n s false ≡ none
    → d.r.answer ≡ answer_of (lent_answer n s)

abbrev pub AgreesWithFullCheck : Type 0
AgreesWithFullCheck = ForEach Agrees

-- Req 08: for an inspection "the agreement with the full check needs no earlier good state": of whatever tables that hold the same book and the register as it
-- was lent, the same tables among them.
abbrev pub InspectionAgrees : Call → Type 0
InspectionAgrees d =
    T (inspection (change d))
    → (n : Counts) (s : Sheet) → book_of n s ≡ book_in d → register_in n s ≡ before d → table_refusal book_tables n s false ≡ none
    → d.r.answer ≡ answer_of (lent_answer n s)

abbrev pub InspectionAgreesWithFullCheck : Type 0
InspectionAgreesWithFullCheck = ForEach InspectionAgrees

-- What is passed over was broken before: a pair that is broken at the end and not listed.
abbrev pub NonePassedOver : Call → Type 0
NonePassedOver d =
    (p : Pair) → T (pair_broken (book_in d) (end d) p) → (p ∈ listed d → ⊥) → T (pair_broken (book_in d) (before d) p)

abbrev pub NothingPassedOver : Type 0
NothingPassedOver = ForEach NonePassedOver

-- ---- what is left

-- "An accepted batch leaves that register": the words of its objects and links, and zeros past them, and its counts.
abbrev pub LeavesEnd : Call → Type 0
LeavesEnd d =
    d.r.answer ≡ Accepted
    → (d.objects' ≡ padded (length d.s.objects) (flat_map object_words (end d).objects))
    × (d.links' ≡ padded (length d.s.links) (flat_map link_words (end d).links))
    × (d.r.objects ≡ length (end d).objects)
    × (d.r.links ≡ length (end d).links)

abbrev pub AcceptedLeavesEnd : Type 0
AcceptedLeavesEnd = ForEach LeavesEnd

-- the register's tables and their counts as they were lent
abbrev pub AsLent : Call → Type 0
AsLent d = (d.objects' ≡ d.s.objects) × (d.links' ≡ d.s.links) × (d.r.objects ≡ d.n.objects) × (d.r.links ≡ d.n.links)

-- "a broken one leaves the register as before it"
abbrev pub LeavesBefore : Call → Type 0
LeavesBefore d =
    (rule id : ℕ) → d.r.answer ≡ Broken rule id → AsLent d

abbrev pub BrokenLeavesBefore : Type 0
BrokenLeavesBefore = ForEach LeavesBefore

-- Demand 1: "the register and the list untouched by a refusal"
abbrev pub LeavesAll : Call → Type 0
LeavesAll d = (number place : ℕ) → d.r.answer ≡ Refused number place → AsLent d × (d.list' ≡ d.list) × (d.r.pairs ≡ 0)

abbrev pub RefusedLeavesAll : Type 0
RefusedLeavesAll = (d : Call) → Promised d → LeavesAll d

-- ---- all of it, of one call: what `check` promises

pub record Demand3 (d : Call) : Type 0 where
  pub list_names_selected : NotRefused d → NamesSelected d
  pub inspection_lists_every_pair : NotRefused d → InspectionNamesAll d
  pub untouched_has_no_pair : NotRefused d → NoneUntouched d
  pub broken_is_first_listed : NotRefused d → FirstListed d
  pub else_accepted : NotRefused d → AcceptedElse d
  pub agrees_with_full_check : NotRefused d → Agrees d
  pub inspection_agrees_with_full_check : NotRefused d → InspectionAgrees d
  pub nothing_passed_over : NotRefused d → NonePassedOver d
  pub accepted_leaves_end : NotRefused d → LeavesEnd d
  pub broken_leaves_before : NotRefused d → LeavesBefore d
  pub refused_leaves_all : LeavesAll d
