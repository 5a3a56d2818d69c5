-- What is proved of the definitions: each claim by its name, as a proposition that can be read alone, with the demand or the clause of
-- document 01 that it answers to. `proofs/Theorems` has one proof for each. The numbers are those of `docs/PROOFS.md`.
use Rattle.std.specs.Prelude.{ℕ, ◌*◌, ◌^◌, ◌≤◌, ◌<◌, ◌≡◌, ◌↔◌, not, List, [], map, T, ℤ, nat_abs, length}
use Rattle.std.proofs.Math.Option.{none, some}
use Rattle.std.proofs.Math.ListN.{get_elem?}
use Rattle.meaning.specs.Lists.{◌∈◌, Ascending, Before}
use Rattle.meaning.specs.Limits.{max_objects, max_forms}
use Rattle.meaning.specs.Register.{Register}
use Rattle.meaning.specs.Forms.{truth, number, Comparison, Form, form_count, well_typed, Rule, Book}
use Rattle.meaning.specs.Meaning.{compared, meaning, book_holds}
use Rattle.meaning.specs.Events.{Event, Lent, Refusal, after, batch_refusal}
use Rattle.meaning.specs.Reach.{Change, change_by, Direction, left_of, right_of, inspection, selected, Pair, pair_key, context_pairs, pair_selected, selected_pairs}
use Rattle.meaning.specs.EventList.{event_type_words, event_list, touched}
use Rattle.meaning.specs.Answers.{accepted, broken_at, refused, refusal, pair_broken, first_broken, full_check, check_refusal, Outcome, batch_check}
use Rattle.meaning.specs.Unmoved.{Unmoved, Through}
use Rattle.meaning.specs.Cases.{Case, result_of, table}

-- ---- what the claims speak of

-- the register after the batch
abbrev pub end_of : Book → Register → List Event → Register
end_of k g es = after k.schema g es

-- the batch, as the reach rules look at it
abbrev pub change_of : Book → Register → List Event → Change
change_of k g es = change_by k.schema g es

-- "for every book and register and every batch that is not refused": refusals 3 to 5 of the book and the register, 7 to 13 and 15 of the events
abbrev pub NotRefused : Book → Lent → Register → List Event → Type 0
NotRefused k lent g es = (refusal k g ≡ none) × (batch_refusal k.schema lent g es ≡ none)

-- a claim about each of them
abbrev pub ForEach : (Book → Register → List Event → Type 0) → Type 0
ForEach claim = (k : Book) (lent : Lent) (g : Register) (es : List Event) → NotRefused k lent g es → claim k g es

-- the same of the batch check's outcome; its refusals are those and 14
abbrev pub ForEachOutcome : (Book → Register → List Event → Outcome → Type 0) → Type 0
ForEachOutcome claim =
    (k : Book) (lent : Lent) (g : Register) (es : List Event) → check_refusal k lent g es ≡ none → claim k g es (batch_check k lent g es)

-- ---- 1: nothing is passed over wrongly

-- Pair by pair: a pair that is broken after the batch and not selected was broken before it already, whatever the other rules did.
abbrev pub NothingPassedOver : Type 0
NothingPassedOver =
    ForEach
    (λ k g es.
    (p : Pair) → T (pair_broken k (end_of k g es) p) → T (not (pair_selected k (change_of k g es) p)) → T (pair_broken k g p))

-- If every rule holds before the batch, the answer by the selected pairs is the full check's of the register after it. It is not asked that
-- there is room for the pairs.
abbrev pub Agreement : Type 0
Agreement =
    ForEach
    (λ k g es. T (book_holds k g) → first_broken k (end_of k g es) (selected_pairs k (change_of k g es)) ≡ full_check k (end_of k g es))

-- Demand 3: "If every rule holds in the register before the batch, the batch check's answer is that of a full check of the register
-- after the batch: accepted, or the same first broken pair."
abbrev pub BatchAgreement : Type 0
BatchAgreement = ForEachOutcome (λ k g es outcome. T (book_holds k g) → outcome.answer ≡ full_check k (end_of k g es))

-- Req 08: "For this batch the agreement with the full check needs no earlier good state": an inspection answers what a full check of the
-- register answers, whatever held.
abbrev pub InspectionAgreement : Type 0
InspectionAgreement = ForEachOutcome (λ k g es outcome. T (inspection (change_of k g es)) → outcome.answer ≡ full_check k g)

-- ---- 2: rules that a batch does not touch

-- Demand 3: "a rule none of whose listed event types occurs has no pair"; Req 08: "only for other batches" than an inspection
abbrev pub Untouched : Type 0
Untouched =
    ForEach
    (λ k g es.
    T (not (inspection (change_of k g es)))
    → (n : ℕ) (r : Rule) → get_elem? k.rules n ≡ some r → T (not (touched (change_of k g es) r)) → (s : ℕ) → T (not (selected (change_of k g es) r s)))

-- "Order: the events' order above, then numbers, none twice"
abbrev pub EventListAscends : Type 0
EventListAscends = (k : Book) (r : Rule) → Ascending (Before event_type_words) (event_list k.schema r)

-- ---- 3: the list

-- Demand 3: "the batch check's list names a pair exactly when document 01's reach rules select it"
abbrev pub ListSelects : Type 0
ListSelects = ForEach (λ k g es. (p : Pair) → (p ∈ selected_pairs k (change_of k g es)) ↔ T (pair_selected k (change_of k g es) p))

-- "each once, ascending", by rule and then id
abbrev pub ListAscends : Type 0
ListAscends = ForEach (λ k g es. Ascending (Before pair_key) (selected_pairs k (change_of k g es)))

-- Req 08: "A batch without events selects every pair of rule and object of its context type."
abbrev pub InspectionLists : Type 0
InspectionLists = ForEach (λ k g es. T (inspection (change_of k g es)) → selected_pairs k (change_of k g es) ≡ context_pairs k g)

-- ---- 4: the register after a batch

-- The register after a batch is one that no check of a book and a register refuses.
abbrev pub AfterNotRefused : Type 0
AfterNotRefused = ForEach (λ k g es. refusal k (end_of k g es) ≡ none)

-- ---- 5: the size of numbers

-- "Numbers are exact; by the limits none passes 2 to the 47th": neither before the batch nor after it.
abbrev pub NumbersBounded : Type 0
NumbersBounded =
    ForEach
    (λ k g es.
    length g.objects ≤ max_objects
    → (ts : List ℕ) (f : Form number)
    → T (well_typed k.schema ts f)
    → form_count f ≤ max_forms
    → (vs : List ℕ)
    → (nat_abs (meaning k.schema.types g f vs) ≤ 2 ^ 47) × (nat_abs (meaning k.schema.types (end_of k g es) f vs) ≤ 2 ^ 47))

-- ---- 6: the six comparisons

-- "What the reach rules say of the six comparisons is proved once, for all six together": where what passes through its parts has not
-- moved, a comparison has not turned.
abbrev pub ComparisonsUnmoved : Type 0
ComparisonsUnmoved =
    (o : Comparison) (d : Direction) (a a' b b' : ℤ)
    → Through (left_of o) (λ e. Unmoved number e a a') d
    → Through (right_of o) (λ e. Unmoved number e b b') d
    → Unmoved truth d (compared o a b) (compared o a' b')

-- ---- 7: the cases

-- "Cases (a) to (m) are proved about the written meanings as one table with one theorem."
abbrev pub CasesHold : Type 0
CasesHold = map (λ (c : Case). result_of c.given) table ≡ map (λ (c : Case). c.expected) table

-- ---- 8: the full check

-- The full check answers a refusal exactly when that refusal of the book or the register is met.
abbrev pub FullCheckRefused : Type 0
FullCheckRefused =
    (k : Book) (g : Register) (r : Refusal) → (full_check k g ≡ refused r.number r.place) ↔ (refusal k g ≡ some r)

-- "A full check answers the first broken pair, lowest rule and then lowest id": a pair exactly when that pair is broken and none before it
-- is.
abbrev pub FullCheckBroken : Type 0
FullCheckBroken =
    (k : Book) (g : Register) (p : Pair)
    → (full_check k g ≡ broken_at p.rule p.id)
    ↔ ((refusal k g ≡ none) × T (pair_broken k g p) × ((q : Pair) → Before pair_key q p → T (not (pair_broken k g q))))

-- Demand 2: "A full check names the first broken pair of rule and object, or none if none is broken." Not refused, it accepts exactly when
-- every rule holds.
abbrev pub FullCheckAccepted : Type 0
FullCheckAccepted = (k : Book) (g : Register) → (full_check k g ≡ accepted) ↔ ((refusal k g ≡ none) × T (book_holds k g))

-- ---- 9: the batch check

-- Demand 1: "the register and the list untouched by a refusal"
abbrev pub BatchRefused : Type 0
BatchRefused =
    (k : Book) (lent : Lent) (g : Register) (es : List Event) (r : Refusal)
    → check_refusal k lent g es ≡ some r
    → batch_check k lent g es ≡ record { answer = refused r.number r.place; pairs = []; register = g }

-- 14: "the pairs .. need more than is lent", two words each; Req 08: it "can now meet an empty batch"
abbrev pub RoomForPairs : Type 0
RoomForPairs =
    (k : Book) (lent : Lent) (g : Register) (es : List Event)
    → NotRefused k lent g es
    → (check_refusal k lent g es ≡ some (record { number = 14; place = 0 })) ↔ (lent.words < 2 * length (selected_pairs k (change_of k g es)))

-- The batch check lists the pairs that claims 1 to 3 speak of.
abbrev pub BatchLists : Type 0
BatchLists = ForEachOutcome (λ k g es outcome. outcome.pairs ≡ selected_pairs k (change_of k g es))

-- Demand 3: "The batch check's answer comes from the listed pairs alone, the first of them broken after the batch": a pair exactly when
-- it is listed and broken there, and none listed before it is.
abbrev pub BatchBroken : Type 0
BatchBroken =
    ForEachOutcome
    (λ k g es outcome.
    (p : Pair)
    → (outcome.answer ≡ broken_at p.rule p.id)
    ↔ (p ∈ outcome.pairs
    × T (pair_broken k (end_of k g es) p)
    × ((q : Pair) → q ∈ outcome.pairs → Before pair_key q p → T (not (pair_broken k (end_of k g es) q)))))

-- "else accepted, whatever held before": exactly when no listed pair is broken after the batch.
abbrev pub BatchAccepted : Type 0
BatchAccepted =
    ForEachOutcome
    (λ k g es outcome. (outcome.answer ≡ accepted) ↔ ((p : Pair) → p ∈ outcome.pairs → T (not (pair_broken k (end_of k g es) p))))

-- Demand 3: "An accepted batch leaves that register, every event applied in order; a broken one leaves the register as before it."
abbrev pub BatchLeaves : Type 0
BatchLeaves =
    ForEachOutcome
    (λ k g es outcome.
    (outcome.answer ≡ accepted → outcome.register ≡ end_of k g es)
    × ((n s : ℕ) → outcome.answer ≡ broken_at n s → outcome.register ≡ g))
