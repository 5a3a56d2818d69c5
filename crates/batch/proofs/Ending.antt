-- What is known at the end of a batch that is not refused: its tables are as no refusal leaves them, and its events select no pair of the rules that they do not touch.
use Prim.Native.Nat.{ℕ, ◌≤◌}
use mathlib.Core.Path.{◌≡◌, refl, sym, ap, subst, ◌∙◌}
use mathlib.Core.Bool.{false, not}
use mathlib.Core.List.{List, []}
use mathlib.Core.Option.{none}
use native.Mathlib.Omega.{arith}
use lib.Dec.{T}
use lib.ListN.{length}
use Rattle.meaning.specs.Lists.{first_of}
use Rattle.meaning.specs.Limits.{max_types}
use Rattle.meaning.specs.Register.{Register}
use Rattle.meaning.specs.Forms.{Book}
use Rattle.meaning.specs.Events.{batch_refusal}
use Rattle.meaning.specs.Reach.{Change, change_by, events_select}
use Rattle.meaning.specs.Answers.{refusal}
use Rattle.meaning.proofs.Lists.{so_false}
use Rattle.meaning.proofs.Registers.{RegisterFits}
use Rattle.meaning.proofs.Agreement.{checked}
use Rattle.meaning.proofs.Theorems.{after_not_refused, untouched_by_events}
use Rattle.schema.proofs.Rows.{length_rows, row_there}
use Rattle.tables.specs.Layouts.{Sheet, layouts, sheet_of}
use Rattle.tables.specs.Columns.{type_row, rule_row, book_of, register_in, batch_in}
use Rattle.tables.specs.Refusals.{refusal_of}
use Rattle.tables.specs.declared.Counts.{Counts}
use Rattle.checks.specs.Given.{Given, EventsLent}
use Rattle.checks.proofs.Given.{given_all, typed, cells}
use Rattle.events.specs.declared.Ran.{Ran}
use Rattle.events.specs.Runs.{lent_by, ran_by, RunLeft}
use Rattle.events.proofs.Answers.{losses_few}
use Rattle.lent_run.specs.Lent.{scratch_short, events_meet, run_refusal}
use Rattle.trace.proofs.Runs.{seen, met_low, low_losses, lost_by}
use Rattle.batch_selection.specs.Ended.{Ended}
use Rattle.batch.proofs.Outcomes.{Unrefused, batch_same}

-- the counts with other rows of objects and links
abbrev pub counts_with : Counts → ℕ → ℕ → Counts
counts_with n objects links =
    record { types = n.types; floors = n.floors; relationships = n.relationships; rules = n.rules; objects = objects; links = links; events = n.events }

-- the tables with other objects and links
abbrev pub sheet_with : Sheet → List ℕ → List ℕ → List ℕ → Sheet
sheet_with s objects links events = sheet_of s.types s.floors s.relationships s.rules s.bodies objects links events

module _ (n : Counts) (s : Sheet) (scratch_objects scratch_links : List ℕ) (words : ℕ) (u : Unrefused n s scratch_objects scratch_links words) {m l : ℕ} {objects links : List ℕ}
    (left : RunLeft (book_of n s).schema (lent_by s.objects s.links 0) (register_in n s) (batch_in n s) m objects l links) where
  abbrev k : Book
  k = book_of n s

  abbrev g : Register
  g = register_in n s

  abbrev c : Change
  c = change_by k.schema g (batch_in n s)

  lower : refusal_of layouts n s (scratch_short s.objects s.links scratch_objects scratch_links) ≡ none
  unfolding refusal_of
  lower = rw u.tables u.contents

  known : Given n s × EventsLent n s
  known = given_all n s (scratch_short s.objects s.links scratch_objects scratch_links) lower

  clear : refusal k (register_in (counts_with n m l) (sheet_with s objects links [])) ≡ none
  clear = ap (refusal k) left.end ∙ after_not_refused k (lent_by s.objects s.links words) g (batch_in n s) (u.contents, u.events)

  pub given_end : Given (counts_with n m l) (sheet_with s objects links [])
  given_end =
      let before = known.0 in
      let now = counts_with n m l in
      let t = sheet_with s objects links [] in
      record {
        few_types = before.few_types;
        few_floors = before.few_floors;
        few_relationships = before.few_relationships;
        few_rules = before.few_rules;
        few_objects = left.fit.objects_few;
        few_links = left.fit.links_few;
        types_lent = before.types_lent;
        floors_lent = before.floors_lent;
        relationships_lent = before.relationships_lent;
        rules_lent = before.rules_lent;
        bodies_lent = before.bodies_lent;
        objects_lent_lem = omega (arith, left.fit.ready.objects_used, left.fit.ready.objects_lent_lem);
        links_lent_lem = omega (arith, left.fit.ready.links_used, left.fit.ready.links_lent_lem);
        clear = clear;
        whole = before.whole;
        typed = typed now t clear;
        cells = cells now t clear;
      }

  taken : batch_refusal k.schema (lent_by s.objects s.links 0) g (batch_in n s) ≡ none
  taken = batch_same k.schema s.objects s.links words g (batch_in n s) ∙ u.events

  few_types : length k.schema.types ≤ max_types
  few_types = omega (arith, length_rows (type_row s.types) n.types, known.0.few_types)

  fits : RegisterFits k.schema g
  fits = (checked k g u.contents).register

  pub ended : {ran : Ran} → ran ≡ ran_by (run_refusal n s scratch_objects scratch_links) k.schema g (batch_in n s)
      → Ended c (counts_with n m l) (sheet_with s objects links s.events) ran.met ran.held.losses ran.losses
  unfolding run_refusal
  ended ran_is =
      let is = ran_is ∙ ap (λ o. ran_by o k.schema g (batch_in n s)) (ap (λ o. first_of o (events_meet n s)) lower ∙ taken) in
      record {
        seen = seen (counts_with n m l) s.types objects links s.events is left fits taken few_types refl refl known.1.few_events;
        schema_is = refl;
        met_low = met_low (counts_with n m l) s.types objects links s.events is left fits taken few_types refl refl known.1.few_events;
        losses_few = losses_few k.schema g (batch_in n s) is left.losses_few;
        losses_low = low_losses (counts_with n m l) s.types objects links s.events is left fits taken few_types refl refl known.1.few_events;
        lost = lost_by (counts_with n m l) s.types objects links s.events is left fits taken few_types refl refl known.1.few_events;
        untouched = λ i h e id.
            let r = rule_row s.rules s.bodies i in
            so_false (events_select c r id)
            (untouched_by_events k (lent_by s.objects s.links words) g (batch_in n s) (u.contents, u.events) i r (row_there (rule_row s.rules s.bodies) n.rules i h) (subst (λ b. T (not b)) (sym e) tt) id);
      }
