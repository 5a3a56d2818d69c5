-- A pair that is broken at the end and not selected was broken before the batch already.
use Prim.Native.Nat.{ℕ}
use mathlib.Core.Path.{◌≡◌, refl, subst}
use mathlib.Core.Logic.{⊎_elim}
use mathlib.Core.Bool.{Bool, true, ◌&&◌, ◌||◌, not}
use mathlib.Core.List.{List, [], ◌∷◌}
use mathlib.Core.Option.{Option, none, some, some-ne-none}
use lib.Dec.{T, leb, eqb}
use lib.ListN.{get_elem?}
use mir.Facts.{and_yes, yes_and, or_no, and_no, T_not, not_T, T_not-not}
use Rattle.meaning.specs.Lists.{first_of}
use Rattle.meaning.specs.Limits.{max_forms}
use Rattle.meaning.specs.Schema.{ObjectType, Schema, known_type, near_type, type_fault, floor_fault, relationship_fault}
use Rattle.meaning.specs.Register.{Register, is_under, object_fault, link_fault}
use Rattle.meaning.specs.Forms.{well_typed, form_count, Rule, Book, faulty_rule, rule_fault}
use Rattle.meaning.specs.Meaning.{meaning, broken}
use Rattle.meaning.specs.Events.{Event, Lent, after}
use Rattle.meaning.specs.Reach.{Change, change_by, down, moves, quietly, quiet, own_role, quiet_from, quiet_insert, quiet_special, inserted, specialised, brought_in, events_select, inspection, selected}
use Rattle.meaning.specs.Answers.{refusal_at, book_refusal, register_refusal, refusal}
use Rattle.meaning.proofs.Lists.{decide, first_of_none}
use Rattle.meaning.proofs.Order.{fault_none}
use Rattle.meaning.proofs.Schemas.{TypesFit, types_fit}
use Rattle.meaning.proofs.Registers.{RegisterFits, register_fits}
use Rattle.meaning.proofs.Steps.{Unrefused, at-start}
use Rattle.meaning.proofs.Touched.{inspection_selects, others_select}
use Rattle.meaning.proofs.Movement.{unmoved}
use Rattle.meaning.proofs.Batches.{Kept, leaves, not_brought_in}
use Rattle.meaning.proofs.Quiet.{NoneOlder, insert_new, special_new, quiet_value}

-- ---- what is known of a book and a register that are not refused

pub refusal_at_none : (n : ℕ) (o : Option ℕ) → refusal_at n o ≡ none → o ≡ none
unfolding refusal_at
refusal_at_none n none e = refl
refusal_at_none n (some p) e = absurd (some-ne-none _ e)

pub record Checked (k : Book) (g : Register) : Type 0 where
  pub book : book_refusal k ≡ none
  pub types : TypesFit k.schema.types
  pub typed : (n : ℕ) (r : Rule) → get_elem? k.rules n ≡ some r → T (well_typed k.schema (r.context ∷ []) r.body)
  pub register : RegisterFits k.schema g

pub checked : (k : Book) (g : Register) → refusal k g ≡ none → Checked k g
unfolding refusal book_refusal register_refusal rule_fault faulty_rule
checked k g e =
    record {
      book = top.0;
      types = types_fit k.schema.types schema.0;
      typed = well_typed_lem;
      register = register_fits k.schema g rows.0 rows.1;
    }
  where
    S : Schema
    S = k.schema

    top : (book_refusal k ≡ none) × (register_refusal S g ≡ none)
    top = first_of_none (book_refusal k) (register_refusal S g) e

    parts : (refusal_at 3 (first_of (type_fault S.types) (first_of (floor_fault S) (relationship_fault S))) ≡ none) × (refusal_at 4 (rule_fault k) ≡ none)
    parts = first_of_none (refusal_at 3 (first_of (type_fault S.types) (first_of (floor_fault S) (relationship_fault S)))) (refusal_at 4 (rule_fault k)) top.0

    schema : (type_fault S.types ≡ none) × (first_of (floor_fault S) (relationship_fault S) ≡ none)
    schema = first_of_none (type_fault S.types) (first_of (floor_fault S) (relationship_fault S)) (refusal_at_none 3 _ parts.0)

    rows : (object_fault S.types S.floors g ≡ none) × (link_fault S g ≡ none)
    rows = first_of_none (object_fault S.types S.floors g) (link_fault S g) (refusal_at_none 5 _ top.1)

    well_typed_lem : (n : ℕ) (r : Rule) → get_elem? k.rules n ≡ some r → T (well_typed S (r.context ∷ []) r.body)
    well_typed_lem n r q =
        let f = fault_none (faulty_rule S) k.rules (refusal_at_none 4 (rule_fault k) parts.1) n r q in
        let known = and_yes (known_type S.types r.context && well_typed S (r.context ∷ []) r.body) (leb (form_count r.body) max_forms) (T_not-not (known_type S.types r.context && well_typed S (r.context ∷ []) r.body && leb (form_count r.body) max_forms) f.1) in
        (and_yes (known_type S.types r.context) (well_typed S (r.context ∷ []) r.body) known.0).1

pub broken_under : (types : List ObjectType) (g : Register) (r : Rule) (s : ℕ) → T (broken types g r s) → T (is_under types g s r.context)
unfolding broken
broken_under types g r s b = (and_yes (is_under types g s r.context) (not (meaning types g r.body (s ∷ []))) b).0

-- ---- theorem 1, pair by pair

module _ (S : Schema) (types_fit : TypesFit S.types) (lent : Lent) (g : Register) (fits : RegisterFits S g) (es : List Event) (ok : Unrefused S lent g es) (r : Rule) (typed : T (well_typed S (r.context ∷ []) r.body)) (s : ℕ) where
  abbrev types : List ObjectType
  types = S.types

  abbrev c : Change
  c = change_by S g es

  -- an object that was under the context type all the while, and whose body may not turn false, is no more broken than before
  kept_broken : Kept S types_fit lent g fits es ok s r.context → T (not (moves c r.body (s ∷ []) down)) → T (broken types (after S g es) r s) → T (broken types g r s)
  unfolding broken
  kept_broken h n b =
      let bs = and_yes (is_under types (after S g es) s r.context) (not (meaning types (after S g es) r.body (s ∷ []))) b in
      yes_and (is_under types g s r.context) (not (meaning types g r.body (s ∷ []))) (at-start S _ g es h)
      (not_T (meaning types g r.body (s ∷ [])) (λ true-before. T_not (meaning types (after S g es) r.body (s ∷ [])) (not_turned true-before) bs.1))
    where
      not_turned : T (meaning types g r.body (s ∷ [])) → T (meaning types (after S g es) r.body (s ∷ []))
      not_turned =
          unmoved c g (Kept S types_fit lent g fits es ok) (leaves S types_fit lent g fits es ok) r.body (r.context ∷ []) (s ∷ []) typed
          (h, tt) down n

  -- what came and did not select found the body quiet
  kept_quiet : (came calm : Bool) → T (not (came && not calm)) → T came → T calm
  kept_quiet came calm n h = ⊎_elim (λ no. absurd (T_not came h no)) (T_not-not calm) (and_no came (not calm) n)

  -- after an insert some roles count, after a special those that start at the context type
  insert_counts : T (quiet_insert S r) → (counts : ℕ → Bool) × T (quietly counts r.body true)
  unfolding quiet_insert quiet quiet_from
  insert_counts q = (_, q)

  special_counts : T (quiet_special S r) → T (quietly (own_role S.relationships r.context) r.body true)
  unfolding quiet_special quiet_from
  special_counts q = q

  quiet_entry : T (not (brought_in c r s)) → (T (inserted c s r.context) → T (quiet_insert S r)) × (T (specialised c s r.context) → T (quiet_special S r))
  unfolding brought_in
  quiet_entry n =
      let ns = or_no (inserted c s r.context && not (quiet_insert S r)) (specialised c s r.context && not (quiet_special S r)) n in
      (kept_quiet (inserted c s r.context) (quiet_insert S r) ns.0, kept_quiet (specialised c s r.context) (quiet_special S r) ns.1)

  -- Pair by pair, of what the events select.
  pub events_pass_over : T (broken types (after S g es) r s) → T (not (events_select c r s)) → T (broken types g r s)
  unfolding broken events_select
  events_pass_over b n =
      ⊎_elim (λ h. absurd (T_not (is_under types (after S g es) s r.context) bs.0 h)) not_selected
      (and_no (is_under types (after S g es) s r.context) _ n)
    where
      bs : T (is_under types (after S g es) s r.context) × T (not (meaning types (after S g es) r.body (s ∷ [])))
      bs = and_yes (is_under types (after S g es) s r.context) (not (meaning types (after S g es) r.body (s ∷ []))) b

      -- a body that is quiet by roles without older links is true
      true_there : T (not (moves c r.body (s ∷ []) down)) → (counts : ℕ → Bool) → ((n : ℕ) → T (counts n) → NoneOlder S types_fit lent g fits es ok s n) → T (quietly counts r.body true) → ⊥
      true_there m counts new q =
          T_not (meaning types (after S g es) r.body (s ∷ [])) (quiet_value S types_fit lent g fits es ok s counts new r.body true q m) bs.1

      -- those that count after a special start at the context type
      none_older : T (specialised c s r.context) → (n : ℕ) → T (own_role S.relationships r.context n) → NoneOlder S types_fit lent g fits es ok s n
      none_older i n k =
          let starts : T (eqb (near_type S.relationships n) r.context) = search in
          special_new S types_fit lent g fits es ok s r.context i n starts

      not_selected : T (not (moves c r.body (s ∷ []) down || brought_in c r s)) → T (broken types g r s)
      not_selected h =
          let (still, out) = or_no (moves c r.body (s ∷ []) down) (brought_in c r s) h in
          let (by-insert, by-special) = quiet_entry out in
          ⊎_elim
          (λ i.
          let (counts, quiet) = insert_counts (by-insert i) in
          absurd (true_there still counts (λ n k. insert_new S types_fit lent g fits es ok s r.context i n) quiet))
          (λ i.
          ⊎_elim (λ j. absurd (true_there still (own_role S.relationships r.context) (none_older j) (special_counts (by-special j))))
          (λ j. kept_broken (not_brought_in S types_fit lent g fits es ok s r.context i j bs.0) still b)
          (decide (specialised c s r.context)))
          (decide (inserted c s r.context))

  -- Theorem 1, pair by pair: an inspection passes over no object of the context type.
  pub passed_over : T (broken types (after S g es) r s) → T (not (selected c r s)) → T (broken types g r s)
  passed_over b n =
      ⊎_elim
      (λ empty.
      let not_under = subst (λ x. T (not x)) (inspection_selects c empty r s) n in
      absurd (T_not (is_under types (after S g es) s r.context) (broken_under types (after S g es) r s b) not_under))
      (λ events. events_pass_over b (subst (λ x. T (not x)) (others_select c events r s) n))
      (decide (inspection c))
