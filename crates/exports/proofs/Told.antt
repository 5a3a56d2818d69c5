-- The words of a run, and the two tables that it leaves, are what their definitions say.
use Prim.Native.Nat.{ℕ, ◌*◌, ◌-◌, ◌≤◌}
use mathlib.Core.Path.{◌≡◌, refl, sym, ap, ap₂, ◌∙◌}
use mathlib.Core.List.{List, ◌++◌, flat_map}
use mathlib.Core.Option.{Option, none, some}
use native.Mathlib.Omega.{arith}
use lib.ListN.{length, take, replicate}
use lib.Seq.{length-take-le}
use Rattle.meaning.specs.Register.{Register}
use Rattle.meaning.specs.Events.{Refusal}
use Rattle.rows.specs.Rows.{word_at, read_rows, padded, cleared_past}
use Rattle.rows.proofs.Fronts.{rows_words}
use Rattle.tables.specs.Layouts.{Sheet}
use Rattle.tables.specs.Columns.{object_row, link_row, book_of, register_in, batch_in}
use Rattle.tables.specs.Refusals.{verdict_of}
use Rattle.tables.specs.Words.{object_words, link_words}
use Rattle.tables.specs.declared.Counts.{Counts}
use Rattle.tables.proofs.Determined.{Words, object_back, link_back}
use Rattle.events.specs.declared.Ran.{Ran}
use Rattle.events.specs.Runs.{lent_by, ran_over, ran_by, RunLeft}
use Rattle.events.proofs.Answers.{verdict_by}
use Rattle.lent_run.specs.Lent.{run_refusal, LentRun}
use Rattle.told.specs.Coded.{ran_words}
use Rattle.exports.specs.Runs.{end_of, RunTold}

-- the words of the used rows, and zeros past them
module _ {A : Type 0} (width : ℕ) (t : List ℕ) (used : ℕ) (row : ℕ → A) (columns : A → List ℕ) (back : (i : ℕ) → columns (row i) ≡ read_rows (word_at t width i) width)
    (there : used * width ≤ length t) where
  cleared_words : cleared_past t width used ≡ padded (length t) (flat_map columns (read_rows row used))
  unfolding cleared_past
  cleared_words =
      ap (λ m. take (used * width) t ++ replicate (length t - m) 0) (sym (length-take-le (used * width) t there))
      ∙ ap (padded (length t)) (sym (rows_words width t row columns used back there))

module _ {n : Counts} {s : Sheet} {end_objects end_links : List ℕ} {ran : Ran} {objects links : List ℕ} (done : LentRun n s end_objects end_links ran objects links) where
  abbrev refusal : Option Refusal
  refusal = run_refusal n s end_objects end_links

  verdict_is : ran.verdict ≡ verdict_of refusal
  verdict_is = ap (λ (r : Ran). r.verdict) done.ran_is ∙ verdict_by refusal _ _ _

  -- the used rows are told where nothing is refused
  told : (o : Option Refusal) → refusal ≡ o → ran_words (verdict_of refusal) ran.held.objects ran.held.links ≡ ran_words (verdict_of refusal) (length (end_of n s).objects) (length (end_of n s).links)
  unfolding ran_by ran_over
  told none e =
      let is = done.ran_is ∙ ap (λ o. ran_by o (book_of n s).schema (register_in n s) (batch_in n s)) e in
      ap₂ (ran_words (verdict_of refusal)) (ap (λ (r : Ran). r.held.objects) is) (ap (λ (r : Ran). r.held.links) is)
  told (some r) e = ap (λ o. ran_words (verdict_of o) ran.held.objects ran.held.links) e ∙ sym (ap (λ o. ran_words (verdict_of o) (length (end_of n s).objects) (length (end_of n s).links)) e)

  left : refusal ≡ none → RunLeft (book_of n s).schema (lent_by s.objects s.links 0) (register_in n s) (batch_in n s) ran.held.objects objects ran.held.links links
  left e = done.left (verdict_is ∙ ap verdict_of e)

  pub run_told : {words objects' links' : List ℕ} → words ≡ ran_words ran.verdict ran.held.objects ran.held.links → Words objects → length objects ≡ length end_objects
      → length links ≡ length end_links → objects' ≡ cleared_past objects 10 ran.held.objects → links' ≡ cleared_past links 3 ran.held.links → RunTold n s end_objects end_links words objects' links'
  run_told words_are words objects-long links-long objects_are links_are =
      record {
        words_are = words_are ∙ ap (λ v. ran_words v ran.held.objects ran.held.links) verdict_is ∙ told refusal refl;
        objects_are = λ e.
            let l = left e in
            objects_are
            ∙ cleared_words 10 objects ran.held.objects (object_row objects) object_words (λ i. object_back objects i words) (omega (arith, l.fit.ready.objects_used, l.fit.ready.objects_lent_lem))
            ∙ ap₂ (λ k (g : Register). padded k (flat_map object_words g.objects)) objects-long l.end;
        links_are = λ e.
            let l = left e in
            links_are
            ∙ cleared_words 3 links ran.held.links (link_row links) link_words (λ i. link_back links i) (omega (arith, l.fit.ready.links_used, l.fit.ready.links_lent_lem))
            ∙ ap₂ (λ k (g : Register). padded k (flat_map link_words g.links)) links-long l.end;
      }
