-- What no refusal of the lent tables gives a run, and the first refusal of all.
use Prim.Native.Nat.{ℕ}
use Rattle.tables.specs.declared.Refusal as Code
use mathlib.Core.Path.{◌≡◌, refl, sym, ap, ap₂, ◌∙◌}
use mathlib.Core.Bool.{Bool, true, false, ◌||◌, cond}
use mathlib.Core.List.{List, []}
use mathlib.Core.Option.{Option, none, some, some-ne-none}
use native.Mathlib.Omega.{arith}
use lib.ListN.{length}
use borrow.Author.Tests.{ltb-false}
use Rattle.meaning.specs.Lists.{first_of}
use Rattle.meaning.specs.Events.{Refusal}
use Rattle.meaning.specs.Answers.{refusal}
use Rattle.meaning.proofs.Lists.{first_of_none}
use Rattle.meaning.proofs.Agreement.{Checked, checked}
use Rattle.tables.specs.Layouts.{Sheet, layouts}
use Rattle.tables.specs.Columns.{relationship_row, object_row, link_row, book_of, register_in, batch_in}
use Rattle.tables.specs.Refusals.{verdict_of, any_overfull, any_long, not_whole, table_refusal, refusal_of}
use Rattle.tables.specs.declared.Counts.{Counts}
use Rattle.std.specs.Prelude.{Ok, Err}
use Rattle.schema.proofs.Rows.{length_rows}
use Rattle.checks.specs.Given.{Given, EventsLent}
use Rattle.checks.proofs.Given.{given_all}
use Rattle.events.specs.declared.Ran.{Ran}
use Rattle.events.specs.Runs.{lent_by, CanRun, ran_over, ran_by, RunDone}
use Rattle.events.proofs.Answers.{refused_clear, verdict_over, ran_refused}
use Rattle.lent_run.specs.Lent.{shorter, scratch_short, events_meet, run_refusal, LentRun}

or_left : (a b : Bool) → (a || b) ≡ false → a ≡ false
or_left true b e = e
or_left false b e = refl

or_right : (a b : Bool) → (a || b) ≡ false → b ≡ false
or_right true b e = cc
or_right false b e = e

not_refused : (b : Bool) (r : Refusal) (o : Option Refusal) → cond b (some r) o ≡ none → (b ≡ false) × (o ≡ none)
not_refused true r o e = absurd (some-ne-none r e)
not_refused false r o e = (refl, e)

module _ (n : Counts) (s : Sheet) (scratch_objects scratch_links : List ℕ) where
  abbrev short : Bool
  short = scratch_short s.objects s.links scratch_objects scratch_links

  -- A refusal of the tables comes before those of the events; the run that it kept from beginning took no step.
  pub never_ran : {r : Code.Refusal} → Err r ≡ verdict_of (refusal_of layouts n s short) → {ran : Ran} → ran ≡ ran_over (Err r) n.objects n.links []
      → {o l : List ℕ} → LentRun n s scratch_objects scratch_links ran o l
  unfolding run_refusal
  never_ran {r} e {ran} is =
      record {
        ran_is = is
            ∙ ran_refused (first (refusal_of layouts n s short) (events_meet n s) e) (book_of n s).schema (register_in n s) (batch_in n s)
            (length_rows (object_row s.objects) n.objects) (length_rows (link_row s.links) n.links);
        left = λ c. absurd (refused_clear (sym (ap (λ (r : Ran). r.verdict) is ∙ verdict_over (Err r) n.objects n.links []) ∙ c));
      }
    where
      first : (o rest : Option Refusal) → Err r ≡ verdict_of o → first_of o rest ≡ some (record { number = r.number; place = r.place })
      first none rest q = cc
      first (some met) rest q = let a : met.number ≡ r.number = cc in let b : met.place ≡ r.place = cc in ap₂ (λ x y. some (record { number = x; place = y })) a b

  module _ (clear : refusal_of layouts n s short ≡ none) where
    given : Given n s × EventsLent n s
    given = given_all n s short clear

    fit : Checked (book_of n s) (register_in n s)
    fit = checked (book_of n s) (register_in n s) given.0.clear

    -- the scratch is as long as the tables
    long : (shorter scratch_objects s.objects ≡ false) × (shorter scratch_links s.links ≡ false)
    unfolding refusal_of table_refusal
    long =
        let tables = (first_of_none (table_refusal layouts n s short) (refusal (book_of n s) (register_in n s)) clear).0 in
        let two = not_refused (any_overfull layouts n s || any_long s.rules n.rules) _ _ tables in
        let six = not_refused (not_whole layouts s || short) _ _ two.1 in
        let enough = or_right (not_whole layouts s) short six.0 in
        (or_left (shorter scratch_objects s.objects) (shorter scratch_links s.links) enough, or_right (shorter scratch_objects s.objects) (shorter scratch_links s.links) enough)

    pub can_run : CanRun (book_of n s).schema n.objects s.objects n.links s.links scratch_objects scratch_links n.events
    can_run =
        record {
          fit =
              record {
                ready =
                    record {
                      types_fit = fit.types;
                      relationships_few = omega (arith, length_rows (relationship_row s.relationships) n.relationships, given.0.few_relationships);
                      fits = fit.register;
                      objects_lent_lem = omega arith;
                      links_lent_lem = omega arith;
                      objects_used = omega (arith, given.0.objects_lent_lem);
                      links_used = omega (arith, given.0.links_lent_lem);
                    };
                objects_few = given.0.few_objects;
                links_few = given.0.few_links;
              };
          objects_scratch = omega (arith, ltb-false (length scratch_objects) (length s.objects) long.0);
          links_scratch = omega (arith, ltb-false (length scratch_links) (length s.links) long.1);
          events_few = given.1.few_events;
        }

    -- what the events meet is what the batch meets
    pub lent_done : {ran : Ran} {o l : List ℕ} → RunDone (book_of n s).schema (lent_by s.objects s.links 0) (register_in n s) (batch_in n s) ran o l
        → LentRun n s scratch_objects scratch_links ran o l
    unfolding run_refusal
    lent_done done =
        record {
          ran_is = done.ran_is ∙ sym (ap (λ o. ran_by (first_of o (events_meet n s)) (book_of n s).schema (register_in n s) (batch_in n s)) clear);
          left = done.left;
        }
