-- Each claim about the batch check's own result, from its promise and the theorems about the definitions.
use Prim.Native.Nat.{ℕ, zero, suc}
use mathlib.Core.Path.{◌≡◌, refl, sym, ap, ap₂, subst, ◌∙◌}
use mathlib.Core.Logic.{◌↔◌, ⊎_elim}
use mathlib.Core.Bool.{false, not}
use mathlib.Core.List.{List, [], flat_map}
use mathlib.Core.Option.{Option, none, some}
use native.Mathlib.Omega.{arith}
use mir.Facts.{T_not}
use lib.Dec.{T}
use lib.ListN.{length, get_elem?}
use Rattle.meaning.specs.Lists.{is_empty, ◌∈◌, Before, holds}
use Rattle.meaning.specs.Schema.{Schema}
use Rattle.meaning.specs.Register.{Register}
use Rattle.meaning.specs.Forms.{Book}
use Rattle.meaning.specs.Events.{Event, Lent, Refusal, batch_refusal}
use Rattle.meaning.specs.Reach.{Change, steps_of, inspection, Pair, pair_key, of_rule, pair_selected, selected}
use Rattle.meaning.specs.Answers as Meaning
use Rattle.meaning.specs.Answers.{accepted, broken_at, refused, refusal, pair_broken, unless_refused, found_answer, first_broken, full_check, check_refusal, Outcome, outcome_of, outcome_unless, batch_check}
use Rattle.meaning.proofs.Lists.{first_of_none, decide}
use Rattle.meaning.proofs.Theorems as Proved
use Rattle.tables.specs.Layouts.{Sheet, layouts, book_tables}
use Rattle.rows.specs.Rows.{in_front, read_rows}
use Rattle.tables.specs.Columns.{book_of, register_in, batch_in, object_row, link_row, event_row}
use Rattle.tables.specs.Words.{object_words, link_words}
use Rattle.tables.specs.Refusals.{table_refusal}
use Rattle.tables.specs.Answers.{answer_of}
use Rattle.tables.specs.declared.Counts.{Counts}
use Rattle.tables.specs.declared.Answer.TheVariants.{Accepted, Broken, Refused}
use Rattle.schema.proofs.Rows.{length_rows}
use Rattle.events.specs.Runs.{lent_by}
use Rattle.full.specs.Answers.{lent_answer}
use Rattle.pair_list.specs.Pairs.{pair_words}
use Rattle.batch.specs.Checked.{lent_outcome, table_after}
use Rattle.batch_claims.specs.Claims.{Call, Promised, Demand3, InspectionIsNoEvents, NotRefused, book_in, before, end, change, listed, AsLent, ListNamesSelected, InspectionListsEveryPair, UntouchedHasNoPair, BrokenIsFirstListed, ElseAccepted, AgreesWithFullCheck, InspectionAgreesWithFullCheck, NothingPassedOver, AcceptedLeavesEnd, BrokenLeavesBefore, RefusedLeavesAll}

module _ (d : Call) where
  abbrev lent : Lent
  lent = lent_by d.s.objects d.s.links (length d.list)

  abbrev met : Option Refusal
  met = check_refusal (book_in d) lent (before d) (batch_in d.n d.s)

  abbrev o : Outcome
  o = lent_outcome d.n d.s d.short (length d.list)

  -- what is not refused meets no refusal
  pub record Unrefused : Type 0 where
    pub none_met_lem : met ≡ none
    pub outcome_is : o ≡ batch_check (book_in d) lent (before d) (batch_in d.n d.s)

  inner : (a b : Option Refusal) (g : Register) (x : Outcome) → ((number place : ℕ) → answer_of (outcome_unless a g (outcome_unless b g x)).answer ≡ Refused number place → ⊥) → (a ≡ none) × (b ≡ none)
  unfolding outcome_unless
  inner none none g x h = (refl, refl)
  inner none (some r) g x h = absurd (h r.number r.place refl)
  inner (some r) b g x h = absurd (h r.number r.place refl)

  pub unrefused : Promised d → NotRefused d → Unrefused
  unfolding lent_outcome batch_check outcome_unless
  unrefused p unless =
      let (tables, rest) =
      inner (table_refusal layouts d.n d.s d.short) met (before d) (outcome_of (book_in d) (before d) (change d)) (λ number place e. unless number place (p.answer_is ∙ e)) in
      record { none_met_lem = rest; outcome_is = rw tables }

  abbrev B : Outcome
  B = batch_check (book_in d) lent (before d) (batch_in d.n d.s)

  ok : Unrefused → (refusal (book_in d) (before d) ≡ none) × (batch_refusal (book_in d).schema lent (before d) (batch_in d.n d.s) ≡ none)
  unfolding check_refusal
  ok u =
      let a = first_of_none (refusal (book_in d) (before d)) _ u.none_met_lem in
      (a.0, (first_of_none (batch_refusal (book_in d).schema lent (before d) (batch_in d.n d.s)) _ a.1).0)

  module _ (p : Promised d) (u : Unrefused) where
    pub says : d.r.answer ≡ answer_of B.answer
    says = p.answer_is ∙ ap (λ (x : Outcome). answer_of x.answer) u.outcome_is

    pub lists : o.pairs ≡ listed d
    lists = ap (λ (x : Outcome). x.pairs) u.outcome_is ∙ Proved.batch_lists (book_in d) lent (before d) (batch_in d.n d.s) u.none_met_lem

-- ---- answers, as the code gives them

as_broken : (a : Meaning.Answer) {x y : ℕ} → answer_of a ≡ Broken x y → a ≡ broken_at x y
as_broken accepted e = cc
as_broken (broken_at rule id) e = cc
as_broken (refused number place) e = cc

as_accepted : (a : Meaning.Answer) → answer_of a ≡ Accepted → a ≡ accepted
as_accepted accepted e = refl
as_accepted (broken_at rule id) e = cc
as_accepted (refused number place) e = cc

as_refused : (a : Meaning.Answer) {x y : ℕ} → answer_of a ≡ Refused x y → a ≡ refused x y
as_refused accepted e = cc
as_refused (broken_at rule id) e = cc
as_refused (refused number place) e = cc

-- ---- the list

none_read : (S : Schema) (g : Register) (read : ℕ → Event) (m : ℕ) → T (is_empty (steps_of S g (read_rows read m))) ↔ (m ≡ 0)
unfolding steps_of
none_read S g read zero = (λ t. refl, λ e. tt)
none_read S g read (suc m) = (λ t. absurd t, λ e. absurd (omega arith))

pub inspection_is_no_events : InspectionIsNoEvents
unfolding inspection
inspection_is_no_events d = none_read (book_in d).schema (before d) (event_row d.s.events) d.n.events

pub list_names_selected : ListNamesSelected
list_names_selected d p unless =
    let u = unrefused d p unless in (
      p.list_is ∙ ap (λ ps. in_front (pair_words ps) d.list) (lists d p u),
      p.pairs_are ∙ ap length (lists d p u),
      Proved.list_ascends (book_in d) (lent d) (before d) (batch_in d.n d.s) (ok d u),
      Proved.list_selects (book_in d) (lent d) (before d) (batch_in d.n d.s) (ok d u),
    )

pub inspection_lists_every_pair : InspectionListsEveryPair
inspection_lists_every_pair d p unless empty =
    let u = unrefused d p unless in
    Proved.inspection_lists (book_in d) (lent d) (before d) (batch_in d.n d.s) (ok d u) empty

pub untouched_has_no_pair : UntouchedHasNoPair
unfolding of_rule
untouched_has_no_pair d p unless events n r e no_event_lem q m same =
    let u = unrefused d p unless in
    let k = book_in d in
    let yes : T (pair_selected k (change d) q) = (Proved.list_selects k (lent d) (before d) (batch_in d.n d.s) (ok d u) q).0 m in
    let not_so = Proved.untouched k (lent d) (before d) (batch_in d.n d.s) (ok d u) events n r e no_event_lem q.id in
    T_not (selected (change d) r q.id) (subst (λ x. T (holds (λ r. selected (change d) r q.id) x)) (ap (get_elem? k.rules) same ∙ e) yes) not_so

-- ---- the answer

pub broken_is_first_listed : BrokenIsFirstListed
broken_is_first_listed d p unless q =
    let u = unrefused d p unless in
    let told = Proved.batch_broken (book_in d) (lent d) (before d) (batch_in d.n d.s) u.none_met_lem q in
    let same : (B d).pairs ≡ listed d = Proved.batch_lists (book_in d) (lent d) (before d) (batch_in d.n d.s) u.none_met_lem in
    let turned =
    subst (λ ps. ((B d).answer ≡ broken_at q.rule q.id) ↔ (q ∈ ps × T (pair_broken (book_in d) (end d) q) × ((x : Pair) → x ∈ ps → Before pair_key x q → T (not (pair_broken (book_in d) (end d) x))))) same told in (
      λ e. turned.0 (as_broken (B d).answer (sym (says d p u) ∙ e)),
      λ h. says d p u ∙ ap answer_of (turned.1 h),
    )

pub else_accepted : ElseAccepted
else_accepted d p unless =
    let u = unrefused d p unless in
    let told = Proved.batch_accepted (book_in d) (lent d) (before d) (batch_in d.n d.s) u.none_met_lem in
    let same : (B d).pairs ≡ listed d = Proved.batch_lists (book_in d) (lent d) (before d) (batch_in d.n d.s) u.none_met_lem in
    let turned = subst (λ ps. ((B d).answer ≡ accepted) ↔ ((x : Pair) → x ∈ ps → T (not (pair_broken (book_in d) (end d) x)))) same told in (
      λ e. turned.0 (as_accepted (B d).answer (sym (says d p u) ∙ e)),
      λ h. says d p u ∙ ap answer_of (turned.1 h),
    )

-- what a full check of tables answers that are not refused as tables
full_is : (n : Counts) (s : Sheet) {k : Book} {g : Register} → book_of n s ≡ k → register_in n s ≡ g → table_refusal book_tables n s false ≡ none → lent_answer n s ≡ full_check k g
unfolding lent_answer unless_refused
full_is n s book register clear = rw clear (ap₂ full_check book register)

pub agrees_with_full_check : AgreesWithFullCheck
agrees_with_full_check d p unless good n s book register clear =
    let u = unrefused d p unless in
    says d p u ∙ ap answer_of (Proved.batch_agreement (book_in d) (lent d) (before d) (batch_in d.n d.s) u.none_met_lem good ∙ sym (full_is n s book register clear))

pub inspection_agrees_with_full_check : InspectionAgreesWithFullCheck
inspection_agrees_with_full_check d p unless empty n s book register clear =
    let u = unrefused d p unless in
    says d p u ∙ ap answer_of (Proved.inspection_agreement (book_in d) (lent d) (before d) (batch_in d.n d.s) u.none_met_lem empty ∙ sym (full_is n s book register clear))

pub nothing_passed_over : NothingPassedOver
nothing_passed_over d p unless q broken unlisted =
    let u = unrefused d p unless in
    let k = book_in d in
    Proved.nothing_passed_over k (lent d) (before d) (batch_in d.n d.s) (ok d u) q broken
    (⊎_elim (λ yes. absurd (unlisted ((Proved.list_selects k (lent d) (before d) (batch_in d.n d.s) (ok d u) q).1 yes))) (λ not_so. not_so) (decide (pair_selected k (change d) q)))

-- ---- what is left

pub accepted_leaves_end : AcceptedLeavesEnd
accepted_leaves_end d p unless e =
    let u = unrefused d p unless in
    let told : (B d).answer ≡ accepted = as_accepted (B d).answer (sym (says d p u) ∙ e) in
    let left : (o d).register ≡ end d = ap (λ (x : Outcome). x.register) u.outcome_is ∙ (Proved.batch_leaves (book_in d) (lent d) (before d) (batch_in d.n d.s) u.none_met_lem).0 told in
    let answer : (o d).answer ≡ accepted = ap (λ (x : Outcome). x.answer) u.outcome_is ∙ told in (
      p.register.objects_are ∙ ap₂ (λ a (g : Register). table_after a (flat_map object_words g.objects) d.s.objects) answer left,
      p.register.links_are ∙ ap₂ (λ a (g : Register). table_after a (flat_map link_words g.links) d.s.links) answer left,
      p.objects_used ∙ ap (λ (g : Register). length g.objects) left,
      p.links_used ∙ ap (λ (g : Register). length g.links) left,
    )

-- the register that an outcome leaves as it was
as_lent : (d : Call) → Promised d → (o d).register ≡ before d → ((x y : List ℕ) → table_after (o d).answer x y ≡ y) → AsLent d
as_lent d p same kept = (
  p.register.objects_are ∙ kept _ _,
  p.register.links_are ∙ kept _ _,
  p.objects_used ∙ ap (λ (g : Register). length g.objects) same ∙ length_rows (object_row d.s.objects) d.n.objects,
  p.links_used ∙ ap (λ (g : Register). length g.links) same ∙ length_rows (link_row d.s.links) d.n.links,
)

pub broken_leaves_before : BrokenLeavesBefore
broken_leaves_before d p unless rule id e =
    let u = unrefused d p unless in
    let told : (B d).answer ≡ broken_at rule id = as_broken (B d).answer (sym (says d p u) ∙ e) in
    let left : (o d).register ≡ before d = ap (λ (x : Outcome). x.register) u.outcome_is ∙ (Proved.batch_leaves (book_in d) (lent d) (before d) (batch_in d.n d.s) u.none_met_lem).1 rule id told in
    let answer : (o d).answer ≡ broken_at rule id = ap (λ (x : Outcome). x.answer) u.outcome_is ∙ told in
    as_lent d p left (λ x y. ap (λ a. table_after a x y) answer)

-- an outcome that is a refusal lists nothing and leaves the register
found_never : (x : Option Pair) {number place : ℕ} → found_answer x ≡ refused number place → ⊥
unfolding found_answer
found_never none e = let z : ◌≡◌ {A = ℕ} 0 1 = cc in omega arith
found_never (some q) e = let z : ◌≡◌ {A = ℕ} 0 1 = cc in omega arith

refused_left : (a b : Option Refusal) (k : Book) (g : Register) (c : Change) {number place : ℕ} → let x = outcome_unless a g (outcome_unless b g (outcome_of k g c)) in
    x.answer ≡ refused number place → (x.pairs ≡ []) × (x.register ≡ g)
unfolding outcome_unless outcome_of first_broken
refused_left none none k g c e = absurd (found_never _ e)
refused_left none (some r) k g c e = (refl, refl)
refused_left (some r) b k g c e = (refl, refl)

pub refused_leaves_all : RefusedLeavesAll
unfolding lent_outcome batch_check pair_words flat_map
refused_leaves_all d p number place e =
    let answer : (o d).answer ≡ refused number place = as_refused (o d).answer (sym p.answer_is ∙ e) in
    let left = refused_left (table_refusal layouts d.n d.s d.short) (met d) (book_in d) (before d) (change d) answer in (
      as_lent d p left.1 (λ x y. ap (λ a. table_after a x y) answer),
      p.list_is ∙ ap (λ ps. in_front (pair_words ps) d.list) left.0,
      p.pairs_are ∙ ap length left.0,
    )

-- ---- all of it

pub demand_3 : (d : Call) → Promised d → Demand3 d
demand_3 d p =
    record {
      list_names_selected = list_names_selected d p;
      inspection_lists_every_pair = inspection_lists_every_pair d p;
      untouched_has_no_pair = untouched_has_no_pair d p;
      broken_is_first_listed = broken_is_first_listed d p;
      else_accepted = else_accepted d p;
      agrees_with_full_check = agrees_with_full_check d p;
      inspection_agrees_with_full_check = inspection_agrees_with_full_check d p;
      nothing_passed_over = nothing_passed_over d p;
      accepted_leaves_end = accepted_leaves_end d p;
      broken_leaves_before = broken_leaves_before d p;
      refused_leaves_all = refused_leaves_all d p;
    }
