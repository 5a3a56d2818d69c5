-- What is left, by the outcome.
use Prim.Native.Nat.{ℕ}
use Rattle.tables.specs.declared.Refusal as Code
use mathlib.Core.Path.{◌≡◌, refl, sym, ap, ap₂, ◌∙◌}
use mathlib.Core.List.{List, flat_map}
use mathlib.Core.Option.{Option, none, some}
use native.Mathlib.Nat.{div-mul-le_self}
use native.Mathlib.Omega.{arith}
use lib.ListN.{length}
use Rattle.meaning.specs.Register.{Register}
use Rattle.meaning.specs.Forms.{Book}
use Rattle.meaning.specs.Events.{Lent, Refusal}
use Rattle.meaning.specs.Reach.{Change, change_by, selected_pairs}
use Rattle.meaning.specs.Answers as Meaning
use Rattle.meaning.specs.Answers.{accepted, broken_at, refused, list_refusal, outcome_of, outcome_unless, register_left}
use Rattle.rows.specs.Rows.{padded}
use Rattle.schema.proofs.Rows.{length_rows}
use Rattle.tables.specs.Layouts.{Sheet}
use Rattle.tables.specs.Columns.{object_row, link_row, book_of, register_in, batch_in}
use Rattle.tables.specs.Words.{object_words, link_words}
use Rattle.tables.specs.Refusals.{verdict_of}
use Rattle.tables.specs.Answers.{answer_of}
use Rattle.tables.specs.declared.Counts.{Counts}
use Rattle.tables.specs.declared.Answer as Answer
use Rattle.tables.specs.declared.Answer.TheVariants as Said
use Rattle.std.specs.Prelude.{Ok, Err}
use Rattle.tables.proofs.Determined.{Words, object_back, link_back}
use Rattle.events.specs.Runs.{lent_by, RunLeft}
use Rattle.lent_run.specs.Lent.{scratch_short, run_refusal}
use Rattle.pair_list.specs.Pairs.{pair_words}
use Rattle.batch_judge.specs.declared.Judged.{Judged}
use Rattle.batch.specs.declared.Checked.{Checked}
use Rattle.batch.specs.Checked.{lent_outcome, table_after, Left}
use Rattle.batch_judge.specs.Judged.{end_outcome, Judges}
use Rattle.batch.specs.Settled.{kept, brought_back, Settles}
use Rattle.batch.proofs.Outcomes.{Unrefused, outcome_end, outcome_refused}
use Rattle.batch.proofs.Back.{back_is}

-- ---- a refusal

-- the refusal that a verdict tells
pub told : (o : Option Refusal) {r : Code.Refusal} → Err r ≡ verdict_of o → o ≡ some (record { number = r.number; place = r.place })
told none e = cc
told (some met) {r} e =
    let a : met.number ≡ r.number = cc in
    let b : met.place ≡ r.place = cc in
    ap₂ (λ x y. some (record { number = x; place = y })) a b

module _ (n : Counts) (s : Sheet) (scratch_objects scratch_links list : List ℕ) where
  pub left_refused : {r : Code.Refusal} {x : Checked} → Err r ≡ verdict_of (run_refusal n s scratch_objects scratch_links)
      → x.answer ≡ Said.Refused r.number r.place → x.pairs ≡ 0 → x.objects ≡ n.objects → x.links ≡ n.links
      → Left (lent_outcome n s (scratch_short s.objects s.links scratch_objects scratch_links) (length list)) list s.objects s.links x list s.objects s.links
  unfolding pair_words flat_map
  left_refused e answer pairs objects links =
      rw (outcome_refused n s scratch_objects scratch_links (length list) (told (run_refusal n s scratch_objects scratch_links) e))
      (record {
        answer_is = answer;
        pairs_are = pairs;
        objects_used = objects ∙ sym (length_rows (object_row s.objects) n.objects);
        links_used = links ∙ sym (length_rows (link_row s.links) n.links);
        list_is = refl;
        register = record { objects_are = refl; links_are = refl };
      })

-- ---- what is settled

-- by an answer that is known
pub kept_known : {A : Type 0} {a b : Answer.Answer} (x y : A) → a ≡ b → kept b x y ≡ kept a x y
kept_known x y e = ap (λ a. kept a x y) (sym e)

-- ---- the end of a batch

-- the register that stays, by the answer
kept_by : {A : Type 0} (a : Meaning.Answer) (f : Register → A) (before end : Register) → kept (answer_of a) (f end) (f before) ≡ f (register_left a before end)
unfolding register_left
kept_by accepted f before end = refl
kept_by (broken_at rule id) f before end = refl
kept_by (refused number place) f before end = refl

table_by : (a : Meaning.Answer) (f : Register → List ℕ) (before end : Register) (table : List ℕ) {back : List ℕ} → back ≡ padded (length table) (f end)
    → kept (answer_of a) back table ≡ table_after a (f (register_left a before end)) table
unfolding register_left
table_by accepted f before end table e = e
table_by (broken_at rule id) f before end table e = refl
table_by (refused number place) f before end table e = refl

register_is : (k : Book) (g : Register) (c : Change) (o : Option Refusal)
    → (outcome_unless o g (outcome_of k g c)).register ≡ register_left (outcome_unless o g (outcome_of k g c)).answer g c.end
unfolding outcome_unless outcome_of register_left
register_is k g c none = refl
register_is k g c (some r) = refl

module _ (n : Counts) (s : Sheet) (scratch_objects scratch_links list : List ℕ) (u : Unrefused n s scratch_objects scratch_links (length list)) (now : Counts) {objects links : List ℕ}
    (left : RunLeft (book_of n s).schema (lent_by s.objects s.links 0) (register_in n s) (batch_in n s) now.objects objects now.links links) (words : Words objects) where
  abbrev k : Book
  k = book_of n s

  abbrev g : Register
  g = register_in n s

  abbrev c : Change
  c = change_by k.schema g (batch_in n s)

  abbrev lent : Lent
  lent = lent_by s.objects s.links (length list)

  abbrev o : Meaning.Outcome
  o = end_outcome k lent g c

  ends : o.register ≡ register_left o.answer g c.end
  ends = register_is k g c (list_refusal lent (selected_pairs k c))

  objects_back : brought_back s.objects objects 10 now.objects ≡ padded (length s.objects) (flat_map object_words c.end.objects)
  objects_back =
      back_is 10 s.objects objects now.objects (object_row objects) object_words (λ i. object_back objects i words)
      (omega (arith, left.fit.ready.objects_used, div-mul-le_self (length s.objects) 10)) (omega (arith, left.fit.ready.objects_used, left.fit.ready.objects_lent_lem))
      ∙ ap (λ (r : Register). padded (length s.objects) (flat_map object_words r.objects)) left.end

  links_back : brought_back s.links links 3 now.links ≡ padded (length s.links) (flat_map link_words c.end.links)
  links_back =
      back_is 3 s.links links now.links (link_row links) link_words (λ i. link_back links i)
      (omega (arith, left.fit.ready.links_used, div-mul-le_self (length s.links) 3)) (omega (arith, left.fit.ready.links_used, left.fit.ready.links_lent_lem))
      ∙ ap (λ (r : Register). padded (length s.links) (flat_map link_words r.links)) left.end

  objects_count : length c.end.objects ≡ now.objects
  objects_count = ap (λ (r : Register). length r.objects) (sym left.end) ∙ length_rows (object_row objects) now.objects

  links_count : length c.end.links ≡ now.links
  links_count = ap (λ (r : Register). length r.links) (sym left.end) ∙ length_rows (link_row links) now.links

  pub left_end : {j : Judged} {x : Checked} {list' objects' links' : List ℕ} → Judges o list j list' → Settles j n now s.objects s.links objects links x objects' links'
      → Left (lent_outcome n s (scratch_short s.objects s.links scratch_objects scratch_links) (length list)) list s.objects s.links x list' objects' links'
  left_end judges settles =
      rw (outcome_end n s scratch_objects scratch_links (length list) u)
      (record {
        answer_is = settles.answer_same ∙ judges.answer_is;
        pairs_are = settles.pairs_same ∙ judges.pairs_are;
        objects_used = settles.objects_used
            ∙ ap₂ (λ a m. kept a m n.objects) judges.answer_is (sym objects_count)
            ∙ ap (kept (answer_of o.answer) (length c.end.objects)) (sym (length_rows (object_row s.objects) n.objects))
            ∙ kept_by o.answer (λ (r : Register). length r.objects) g c.end
            ∙ ap (λ (r : Register). length r.objects) (sym ends);
        links_used = settles.links_used
            ∙ ap₂ (λ a m. kept a m n.links) judges.answer_is (sym links_count)
            ∙ ap (kept (answer_of o.answer) (length c.end.links)) (sym (length_rows (link_row s.links) n.links))
            ∙ kept_by o.answer (λ (r : Register). length r.links) g c.end
            ∙ ap (λ (r : Register). length r.links) (sym ends);
        list_is = judges.list_is;
        register = record {
          objects_are = settles.objects_kept
              ∙ ap (λ a. kept a (brought_back s.objects objects 10 now.objects) s.objects) judges.answer_is
              ∙ table_by o.answer (λ (r : Register). flat_map object_words r.objects) g c.end s.objects objects_back
              ∙ ap (λ (r : Register). table_after o.answer (flat_map object_words r.objects) s.objects) (sym ends);
          links_are = settles.links_kept
              ∙ ap (λ a. kept a (brought_back s.links links 3 now.links) s.links) judges.answer_is
              ∙ table_by o.answer (λ (r : Register). flat_map link_words r.links) g c.end s.links links_back
              ∙ ap (λ (r : Register). table_after o.answer (flat_map link_words r.links) s.links) (sym ends);
        };
      })
