-- A proof of each claim of `specs/Claims`, in the order of the claims.
use Prim.Native.Nat.{ℕ, ◌*◌}
use mathlib.Core.Path.{◌≡◌, refl, sym, ap, subst}
use mathlib.Core.Logic.{⊎_elim}
use mathlib.Core.Bool.{Bool, true, false, not, cond}
use mathlib.Core.List.{List, [], ◌∷◌}
use mathlib.Core.Option.{none, some, none-ne-some}
use lib.Dec.{T, ltb}
use lib.ListN.{length, get_elem?}
use mir.Facts.{T_not, ltb_yes, yes_ltb}
use Rattle.meaning.specs.Lists.{holds}
use Rattle.meaning.specs.Register.{Register}
use Rattle.meaning.specs.Forms.{Rule, Book}
use Rattle.meaning.specs.Meaning.{broken}
use Rattle.meaning.specs.Events.{Event, Lent, Refusal, after, batch_refusal}
use Rattle.meaning.specs.Reach.{steps_of, events_select, inspection, selected, Pair, context_pairs, of_rule, pair_selected, selected_pairs}
use Rattle.meaning.specs.EventList.{touched}
use Rattle.meaning.specs.Answers.{Answer, refusal_at, register_refusal, refusal, pair_broken, found_answer, first_broken, unless_refused, full_check, list_refusal, check_refusal, register_left, outcome_of, outcome_unless, batch_check}
use Rattle.meaning.specs.Claims.{end_of, change_of, NotRefused, NothingPassedOver, Agreement, BatchAgreement, InspectionAgreement, InspectionLists, Untouched, EventListAscends, ListSelects, ListAscends, AfterNotRefused, NumbersBounded}
use Rattle.meaning.specs.Claims.{ComparisonsUnmoved, CasesHold, FullCheckRefused, FullCheckBroken, FullCheckAccepted, BatchRefused, RoomForPairs, BatchLists, BatchBroken, BatchAccepted, BatchLeaves}
use Rattle.meaning.proofs.Lists.{decide, cond_yes, keep_from, first_keep, first_of_none, holds_some, some_holds}
use Rattle.meaning.proofs.Registers.{RegisterFits, fits_register}
use Rattle.meaning.proofs.Steps.{Unrefused, unrefused, end_fits, limit_kept, steps_fit}
use Rattle.meaning.proofs.Comparisons.{comparison_unmoved}
use Rattle.meaning.proofs.Agreement.{Checked, checked, passed_over}
use Rattle.meaning.proofs.Touched
use Rattle.meaning.proofs.Touched.{others_select, event_list_ascends}
use Rattle.meaning.proofs.Pairs
use Rattle.meaning.proofs.Pairs.{pairs_ascend, selected_listed}
use Rattle.meaning.proofs.Bounds.{number_bound}
use Rattle.meaning.proofs.Answers
use Rattle.meaning.proofs.Answers.{first_broken_lem, none_broken, holds_unbroken}
use Rattle.meaning.proofs.Cases

-- ---- what no refusal gives

module _ (k : Book) (lent : Lent) (g : Register) (es : List Event) (ok : NotRefused k lent g es) where
  known : Checked k g
  known = checked k g ok.0

  events_fit : Unrefused k.schema lent g es
  events_fit = unrefused k.schema lent g es ok.1

  end_register : RegisterFits k.schema (end_of k g es)
  end_register = end_fits k.schema known.types lent g es known.register events_fit

-- ---- 1

pub nothing_passed_over : NothingPassedOver
unfolding of_rule
nothing_passed_over k lent g es ok p b n =
    let kn = known k lent g es ok in
    let r = holds_some (λ r. broken k.schema.types (end_of k g es) r p.id) (get_elem? k.rules p.rule) b in
    some_holds (λ r. broken k.schema.types g r p.id) r.1
    (passed_over k.schema kn.types lent g kn.register es (events_fit k lent g es ok) r.0 (kn.typed p.rule r.0 r.1) p.id r.2
    (subst (λ o. T (not (holds (λ r. selected (change_of k g es) r p.id) o))) r.1 n))

pub after_not_refused : AfterNotRefused
unfolding refusal register_refusal refusal_at
after_not_refused k lent g es ok =
    let rows = fits_register k.schema (end_of k g es) (end_register k lent g es ok) in
    rw ((known k lent g es ok).book, rows.0, rows.1)

pub agreement : Agreement
unfolding full_check first_broken selected_pairs unless_refused
agreement k lent g es ok h =
    rw (after_not_refused k lent g es ok) (ap found_answer (first_keep _ _ (context_pairs k (end_of k g es)) (λ p m. broken_selected p)))
  where
    -- a pair that is broken at the end is selected, since it was not broken before
    broken_selected : (p : Pair) → T (pair_broken k (end_of k g es) p) → T (pair_selected k (change_of k g es) p)
    broken_selected p b =
        ⊎_elim (λ s. s) (λ s. absurd (T_not (pair_broken k g p) (nothing_passed_over k lent g es ok p b s) (holds_unbroken k g h p)))
        (decide (pair_selected k (change_of k g es) p))

-- the outcome of a batch that is not refused is that of its listed pairs
outcome_is : (k : Book) (lent : Lent) (g : Register) (es : List Event) → check_refusal k lent g es ≡ none → NotRefused k lent g es × (batch_check k lent g es ≡ outcome_of k g (change_of k g es))
unfolding batch_check check_refusal outcome_unless
outcome_is k lent g es e =
    let a = first_of_none (refusal k g) _ e in
    let b = first_of_none (batch_refusal k.schema lent g es) _ a.1 in
    ((a.0, b.0), rw e)

pub batch_agreement : BatchAgreement
unfolding outcome_of
batch_agreement k lent g es e h = let o = outcome_is k lent g es e in rw o.1 (agreement k lent g es o.0 h)

-- whatever held before, the pairs of an inspection are those of the full check
pub inspection_lists : InspectionLists
unfolding inspection steps_of after
inspection_lists k lent g [] ok empty = Pairs.inspection_lists k (change_of k g []) (end_register k lent g [] ok) refl empty
inspection_lists k lent g (e ∷ es) ok empty = absurd empty

pub inspection_agreement : InspectionAgreement
unfolding outcome_of full_check unless_refused inspection steps_of after
inspection_agreement k lent g [] e empty =
    let o = outcome_is k lent g [] e in
    rw (o.1, o.0.0) (ap (first_broken k g) (inspection_lists k lent g [] o.0 empty))
inspection_agreement k lent g (e ∷ es) unrefused empty = absurd empty

-- ---- 2

-- the events of a batch select no pair of a rule that they do not touch
pub untouched_by_events : (k : Book) (lent : Lent) (g : Register) (es : List Event) → NotRefused k lent g es → (n : ℕ) (r : Rule) → get_elem? k.rules n ≡ some r → T (not (touched (change_of k g es) r)) → (s : ℕ) → T (not (events_select (change_of k g es) r s))
untouched_by_events k lent g es ok n r e =
    let kn = known k lent g es ok in
    Touched.untouched (change_of k g es) kn.types (end_register k lent g es ok) (steps_fit k.schema kn.types lent g es kn.register (events_fit k lent g es ok)) r (kn.typed n r e)

pub untouched : Untouched
untouched k lent g es ok events n r e still s =
    subst (λ b. T (not b)) (sym (others_select (change_of k g es) events r s)) (untouched_by_events k lent g es ok n r e still s)

pub event_list_ascending : EventListAscends
event_list_ascending k r = event_list_ascends k.schema r

-- ---- 3

pub list_selects : ListSelects
unfolding selected_pairs of_rule
list_selects k lent g es ok p = (
  λ m. (keep_from (pair_selected k (change_of k g es)) (context_pairs k (end_of k g es)) m).1,
  λ t.
      let r = holds_some (λ r. selected (change_of k g es) r p.id) (get_elem? k.rules p.rule) t in
      selected_listed k (change_of k g es) (end_register k lent g es ok) refl p.rule r.0 r.1 p.id r.2,
)

pub list_ascends : ListAscends
list_ascends k lent g es ok = pairs_ascend k (change_of k g es) (end_register k lent g es ok)

-- ---- 5

pub numbers_bounded : NumbersBounded
numbers_bounded k lent g es ok few ts f w c vs =
    let kn = known k lent g es ok in (
      number_bound k.schema g kn.register few ts f w c vs,
      number_bound k.schema (end_of k g es) (end_register k lent g es ok)
          (limit_kept k.schema kn.types lent g es kn.register (events_fit k lent g es ok) few) ts f w c vs,
    )

-- ---- 6, 7, 8

pub comparisons_unmoved : ComparisonsUnmoved
comparisons_unmoved = comparison_unmoved

pub cases_hold : CasesHold
cases_hold = Cases.cases_hold

pub full_check_refused : FullCheckRefused
full_check_refused = Answers.full_check_refused

pub full_check_broken : FullCheckBroken
full_check_broken = Answers.full_check_broken

pub full_check_accepted : FullCheckAccepted
full_check_accepted = Answers.full_check_accepted

-- ---- 9

pub batch_refused : BatchRefused
unfolding batch_check outcome_unless
batch_refused k lent g es r e = rw e

pub room_for_pairs : RoomForPairs
unfolding check_refusal list_refusal
room_for_pairs k lent g es ok =
    let need = 2 * length (selected_pairs k (change_of k g es)) in
    rw (ok.0, ok.1) (λ e. ltb_yes (met_of (ltb lent.words need) e), λ h. cond_yes (ltb lent.words need) _ none (yes_ltb h))
  where
    -- a refusal is met where the test holds
    met_of : (b : Bool) {r : Refusal} → cond b (some r) none ≡ some r → T b
    met_of true e = tt
    met_of false {r} e = absurd (none-ne-some r e)

pub batch_lists : BatchLists
unfolding outcome_of
batch_lists k lent g es e = rw (outcome_is k lent g es e).1

pub batch_broken : BatchBroken
unfolding outcome_of
batch_broken k lent g es e =
    let o = outcome_is k lent g es e in
    rw o.1 (first_broken_lem k (end_of k g es) (selected_pairs k (change_of k g es)) (list_ascends k lent g es o.0))

pub batch_accepted : BatchAccepted
unfolding outcome_of
batch_accepted k lent g es e = rw (outcome_is k lent g es e).1 (none_broken k (end_of k g es) (selected_pairs k (change_of k g es)))

pub batch_leaves : BatchLeaves
unfolding outcome_of register_left
batch_leaves k lent g es e = rw (outcome_is k lent g es e).1 (λ a. left a, λ n s a. left a)
  where
    left : {answer : Answer} → first_broken k (end_of k g es) (selected_pairs k (change_of k g es)) ≡ answer → register_left (first_broken k (end_of k g es) (selected_pairs k (change_of k g es))) g (end_of k g es) ≡ register_left answer g (end_of k g es)
    left a = ap (λ answer. register_left answer g (end_of k g es)) a
