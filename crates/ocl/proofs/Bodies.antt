-- A well-typed rule's body over an indexed register that fits its schema is ready to be evaluated at the row of any object.
use Prim.Native.Nat.{ℕ, ◌+◌, ◌*◌, ◌^◌, ◌≤◌, ◌<◌}
use mathlib.Core.Path.{◌≡◌, sym, ap, subst}
use mathlib.Core.Logic.{⊎_elim}
use mathlib.Core.List.{List, [], ◌∷◌}
use native.Mathlib.Omega.{arith}
use lib.Dec.{T}
use lib.ListN.{length, get_or}
use mir.Facts.{yes_and}
use Rattle.meaning.specs.Limits.{max_forms, max_relationships}
use Rattle.meaning.specs.Schema.{Schema}
use Rattle.meaning.specs.Forms.{truth, well_typed}
use Rattle.meaning.specs.Meaning.{meaning}
use Rattle.meaning.proofs.Lists.{decide}
use Rattle.meaning.proofs.Registers.{RegisterFits}
use Rattle.tables.specs.Bodies.{sort_of, same_sort, as_truth, whole_body, read_body, ending}
use Rattle.tables.proofs.Forms.{whole_body_lem, body_ending, body_none}
use Rattle.link_index.specs.Slots.{Indexed}
use Rattle.body_rows.specs.Marks.{Starts}
use Rattle.walks.specs.Site.{Site, types_at, register_at, rows_at, form_at, id_in}
use Rattle.walks.specs.Values.{truth_of}
use Rattle.ocl.specs.Ready.{scoped, BodyReady}
use Rattle.ocl.proofs.Steady.{steady}
use Rattle.ocl.proofs.Scopes.{in_scope}

module _ (S : Schema) (w : Site) (e context : ℕ) (typed : T (well_typed S (context ∷ []) (read_body (rows_at w) e))) where
  -- rows that are not one whole form are read as a body that is not well typed
  whole : T (whole_body (rows_at w) e)
  unfolding well_typed
  whole =
      ⊎_elim (λ t. t) (λ t. absurd (subst (λ b. T (well_typed S (context ∷ []) b)) (body_none (rows_at w) e t) typed)) (decide (whole_body (rows_at w) e))

  pub body_few : e ≤ max_forms
  body_few = (whole_body_lem (rows_at w) e whole).few

  body_form : read_body (rows_at w) e ≡ as_truth (form_at w e)
  body_form = body_ending (rows_at w) e whole

  -- what the evaluators compute is the meaning of the rule's body
  pub body_is : (row : ℕ) → truth_of w e (row ∷ []) 1 ≡ meaning (types_at w) (register_at w) (read_body (rows_at w) e) (id_in w.objects row ∷ [])
  unfolding truth_of
  body_is row = ap (λ f. meaning (types_at w) (register_at w) f (id_in w.objects row ∷ [])) (sym body_form)

  pub body_ready : length S.relationships ≤ max_relationships → RegisterFits S (register_at w) → Indexed w.counts.objects w.objects w.counts.links w.links w.index → ((j : ℕ) → get_or w.bodies j 0 < 2 ^ 32) → {starts : List ℕ} → Starts (rows_at w) starts e → {row : ℕ} → row < w.counts.objects → BodyReady w starts e row
  body_ready few fits indexed words starts {row} there vars held self =
      let body = whole_body_lem (rows_at w) e whole in
      let short = body_few in
      record {
        steady = steady S (register_at w) fits;
        indexed = indexed;
        words = λ k. words ((w.rule * max_forms + k) * 4 + 1);
        few = short;
        room = omega arith;
        held = held;
        there = λ v h. let zero : v ≡ 0 = omega arith in subst (λ k. get_or vars k 0 < w.counts.objects) (sym zero) (subst (λ k. k < w.counts.objects) (sym self) there);
        right = starts.right;
        read = yes_and (ending (rows_at w) e).sound (same_sort truth (sort_of (form_at w e))) body.sound body.is_truth;
        in_scope = subst (λ f. T (scoped 1 f)) body_form (in_scope S few (context ∷ []) (read_body (rows_at w) e) typed);
      }
