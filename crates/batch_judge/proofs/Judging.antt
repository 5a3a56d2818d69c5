-- What is said of the selected pairs, by what the code found.
use Prim.Native.Nat.{ℕ, ◌*◌, ◌≤◌, ◌<◌}
use mathlib.Core.Path.{◌≡◌, sym, ap, ap₂, ◌∙◌}
use mathlib.Core.List.{List}
use native.Mathlib.Omega.{arith}
use borrow.Author.Tests.{lt-ltb, le-ltb}
use lib.ListN.{length}
use Rattle.meaning.specs.Limits.{max_objects}
use Rattle.meaning.specs.Register.{Register}
use Rattle.meaning.specs.Events.{Lent}
use Rattle.meaning.specs.Reach.{Change, selected_pairs}
use Rattle.meaning.specs.Answers.{list_refusal, outcome_of, outcome_unless, first_broken}
use Rattle.rows.specs.Rows.{in_front}
use Rattle.tables.specs.Layouts.{Sheet}
use Rattle.tables.specs.Columns.{book_of, register_in}
use Rattle.tables.specs.Answers.{answer_of}
use Rattle.tables.specs.declared.Counts.{Counts}
use Rattle.tables.specs.declared.Answer.TheVariants.{Refused}
use Rattle.register.specs.Tables.{ObjectsAscend}
use Rattle.pair_list.specs.Pairs.{marked_pairs, pair_words}
use Rattle.batch_selection.specs.Ended.{Ended, Selects}
use Rattle.batch_selection.proofs.Pairs.{marked_pairs_lem}
use Rattle.batch_judge.specs.declared.Judged.{Judged}
use Rattle.batch_judge.specs.Judged.{end_outcome, Judges}

module _ {c : Change} {n : Counts} {s : Sheet} {met losses : List ℕ} {lost : ℕ} (e : Ended c n s met lost losses) (ascend : ObjectsAscend n.objects s.objects)
    (few : n.objects ≤ max_objects) {marks : List ℕ} {count : ℕ} (selects : Selects c n s marks count) where
  pairs_are : marked_pairs n s.objects marks ≡ selected_pairs (book_of n s) c
  pairs_are = marked_pairs_lem e ascend few selects

  number : length (selected_pairs (book_of n s) c) ≡ count
  number = sym selects.number

  -- so many pairs are marked
  pub marks_number : length (marked_pairs n s.objects marks) ≡ count
  marks_number = ap length pairs_are ∙ number

  module _ (lent : Lent) (g : Register) (list : List ℕ) (words : lent.words ≡ length list) where
    -- 14: there is no room for the pairs
    pub no_room_lem : {r : Judged} {list' : List ℕ} → length list < count * 2 → r.answer ≡ Refused 14 0 → r.pairs ≡ 0 → list' ≡ list → Judges (end_outcome (book_of n s) lent g c) list r list'
    unfolding list_refusal outcome_unless pair_words
    no_room_lem h answer none same =
        let short : lent.words < 2 * length (selected_pairs (book_of n s) c) = omega (arith, number) in
        rw (lt-ltb lent.words (2 * length (selected_pairs (book_of n s) c)) short) (record { answer_is = answer; pairs_are = none; list_is = same })

    -- the pairs are listed, and the first that is broken is found
    pub listed : {r : Judged} {list' : List ℕ} → count * 2 ≤ length list
        → r.answer ≡ answer_of (first_broken (book_of n s) (register_in n s) (marked_pairs n s.objects marks)) → r.pairs ≡ count
        → list' ≡ in_front (pair_words (marked_pairs n s.objects marks)) list
        → Judges (end_outcome (book_of n s) lent g c) list r list'
    unfolding list_refusal outcome_unless outcome_of
    listed h answer pairs words_are =
        let long : 2 * length (selected_pairs (book_of n s) c) ≤ lent.words = omega (arith, number) in
        rw (le-ltb lent.words (2 * length (selected_pairs (book_of n s) c)) long)
        (record {
          answer_is = answer ∙ ap₂ (λ end ps. answer_of (first_broken (book_of n s) end ps)) (sym e.seen.end_is) pairs_are;
          pairs_are = pairs ∙ sym number;
          list_is = words_are ∙ ap (λ ps. in_front (pair_words ps) list) pairs_are;
        })
