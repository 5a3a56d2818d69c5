-- Whether a rule of lent tables is faulty.
use Prim.Native.Nat.{ℕ, ◌^◌, ◌≤◌, ◌<◌}
use mathlib.Core.Path.{◌≡◌, refl, sym, ap, subst, ◌∙◌}
use mathlib.Core.Bool.{Bool, true, false, ◌&&◌, not}
use mathlib.Core.List.{List, [], ◌∷◌}
use mathlib.Core.Option.{Option}
use lib.Dec.{T, leb}
use mir.Facts.{yes_and, yes_leb, no_leb, yes_eqb, no_eqb}
use borrow.Author.Tests.{lt-ltb, le-ltb, le-leb}
use Rattle.meaning.specs.Limits.{max_forms}
use Rattle.meaning.specs.Schema.{Floor, Schema, known_type}
use Rattle.meaning.specs.Forms.{truth, Form, kind, well_typed, form_count, Rule, faulty_rule}
use Rattle.meaning.proofs.Lists.{not_and_left, not_and_right}
use Rattle.meaning.proofs.Floors.{typed_floors}
use Rattle.rows.specs.Rows.{word_at}
use Rattle.tables.specs.Bodies.{BodyRow, as_truth, reads, whole_body, read_body, ending}
use Rattle.tables.specs.Columns.{rule_row, schema_of}
use Rattle.tables.proofs.Readings.{is_truth_lem}
use Rattle.tables.proofs.Forms.{whole_ending_lem, whole_body_lem, body_ending, body_none, body_count}
use Rattle.schema.proofs.Types.{type_known}
use Rattle.body_rows.specs.Marks.{body_of, mark}
use Rattle.typing.specs.Types.{typed_part}
use Rattle.body_rows.proofs.Marks.{reads_mark}
use Rattle.typing.proofs.Types.{lent}

-- ---- whole bodies, by what the scan kept

module _ (rows : ℕ → BodyRow) (n : ℕ) where
  pub too_long_lem : max_forms < n → T (not (whole_body rows n))
  too_long_lem h =
      subst (λ b. T (not b)) (sym (whole_ending_lem rows n))
      (not_and_left (leb n max_forms && reads truth (ending rows n)) _ (not_and_left (leb n max_forms) _ (no_leb h)))

  pub no_truth : (mark (ending rows n) ≡ 0 → ⊥) → T (not (whole_body rows n))
  no_truth h =
      subst (λ b. T (not b)) (sym (whole_ending_lem rows n))
      (not_and_left (leb n max_forms && reads truth (ending rows n)) _
      (not_and_right (leb n max_forms) _ (subst (λ b. T (not b)) (sym (reads_mark truth (ending rows n))) (no_eqb (λ e. h (sym e))))))

  pub not_first : ((ending rows n).start ≡ 0 → ⊥) → T (not (whole_body rows n))
  not_first h =
      subst (λ b. T (not b)) (sym (whole_ending_lem rows n)) (not_and_right (leb n max_forms && reads truth (ending rows n)) _ (no_eqb h))

  pub one_form : n ≤ max_forms → mark (ending rows n) ≡ 0 → (ending rows n).start ≡ 0 → T (whole_body rows n)
  one_form h m s =
      subst T (sym (whole_ending_lem rows n))
      (yes_and (leb n max_forms && reads truth (ending rows n)) _
      (yes_and (leb n max_forms) _ (yes_leb h) (subst T (sym (reads_mark truth (ending rows n))) (yes_eqb (sym m)))) (yes_eqb s))

-- ---- a rule, by the two words of its row

module _ (type_count : ℕ) (types : List ℕ) (relationship_count : ℕ) (relationships rules bodies : List ℕ) (rule : ℕ) (context size : ℕ) (first : context ≡ word_at rules 2 rule 0) (second : size ≡ word_at rules 2 rule 1) (fs : List Floor) (p : Option Rule) where
  abbrev S : Schema
  S = schema_of type_count types fs relationship_count relationships

  abbrev body : Form truth
  body = read_body (body_of bodies rule) size

  abbrev faulty : Bool
  faulty = faulty_rule S rule p (rule_row rules bodies rule)

  -- the three tests of a rule
  tests : not (known_type S.types context && well_typed S (context ∷ []) body && leb (form_count body) max_forms) ≡ faulty
  unfolding faulty_rule rule_row
  tests = λ j. faulty_rule S rule p (record { context = first j; body = read_body (body_of bodies rule) (second j) })

  pub unknown_context : type_count ≤ context → true ≡ faulty
  unknown_context h =
      sym
      (ap (λ a. not (a && well_typed S (context ∷ []) body && leb (form_count body) max_forms))
      (type_known type_count types context ∙ le-ltb context type_count h))
      ∙ tests

  -- rows that are no body are read as one that names variable 1
  pub no_body_lem : T (not (whole_body (body_of bodies rule) size)) → true ≡ faulty
  unfolding well_typed
  no_body_lem h =
      sym
      (ap (λ f. not (known_type S.types context && well_typed S (context ∷ []) f && leb (form_count f) max_forms)) (body_none (body_of bodies rule) size h)
      ∙ refused (known_type S.types context) (leb (form_count (kind 1 0)) max_forms))
      ∙ tests
    where
      refused : (a c : Bool) → not (a && false && c) ≡ true
      refused true c = refl
      refused false c = refl

  pub judged : context < type_count → ((k : ℕ) → (body_of bodies rule k).x < 2 ^ 32) → T (whole_body (body_of bodies rule) size) → (b : Bool) → b ≡ typed_part (lent type_count types relationship_count relationships) (context ∷ []) (ending (body_of bodies rule) size).form → not b ≡ faulty
  unfolding typed_part
  judged h words whole b e =
      let rows = body_of bodies rule in
      let w = whole_body_lem rows size whole in
      let known : true ≡ known_type S.types context = sym (type_known type_count types context ∙ lt-ltb context type_count h) in
      let few : true ≡ leb (form_count body) max_forms = sym (ap (λ n. leb n max_forms) (body_count rows words size whole) ∙ le-leb size max_forms w.few) in
      let same : b ≡ well_typed S (context ∷ []) body =
      e ∙ ap (typed_part (lent type_count types relationship_count relationships) (context ∷ [])) (is_truth_lem (ending rows size).form w.is_truth)
      ∙ typed_floors S.types S.relationships [] fs (context ∷ []) (as_truth (ending rows size).form)
      ∙ ap (well_typed S (context ∷ [])) (sym (body_ending rows size whole)) in
      ap not (sym (all_three b) ∙ (λ j. known j && same j && few j)) ∙ tests
    where
      all_three : (b : Bool) → (true && b && true) ≡ b
      all_three true = refl
      all_three false = refl
