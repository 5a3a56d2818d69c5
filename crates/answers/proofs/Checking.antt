-- What is printed of a batch check, and of a read, by what they leave.
use Prim.Native.Nat.{ℕ, ◌*◌, ◌≤◌, ◌<◌}
use Rattle.tables.specs.declared.Refusal as Code
use mathlib.Core.Path.{◌≡◌, sym, ap, ap₂, ◌∙◌, subst}
use mathlib.Core.Bool.{Bool, false}
use mathlib.Core.List.{List, []}
use native.Mathlib.Omega.{arith}
use borrow.Author.Tests.{lt-ltb, le-ltb}
use lib.ListN.{length, drop, length-append}
use Rattle.meaning.specs.Answers as Meaning
use Rattle.meaning.specs.Answers.{Outcome}
use Rattle.tables.specs.Layouts.{Sheet}
use Rattle.tables.specs.declared.Counts.{Counts}
use Rattle.text.specs.Texts.{Reading}
use Rattle.reader.specs.Reads.{lent_reading, read_answer, sheet_after}
use Rattle.std.specs.Prelude.{Ok, Err}
use Rattle.lent_run.specs.Lent.{scratch_short}
use Rattle.pair_list.specs.Pairs.{pair_words}
use Rattle.pair_list.proofs.Words.{words_length}
use Rattle.batch.specs.Checked.{lent_outcome, RegisterLeft, Left}
use Rattle.batch.specs.declared.Checked.{Checked}
use Rattle.printing.specs.Printed.{printed, meant, pairs_in}
use Rattle.answers.specs.Checks.{Room, lent_sheet, outcome_printed, batch_printed, read_printed, reading_printed, text_prints}
use Rattle.printing.proofs.Printed.{meant_back, pairs_back}

-- a scratch that is no shorter than the tables
pub long_enough : (objects links scratch_objects scratch_links : List ℕ) → length objects ≤ length scratch_objects → length links ≤ length scratch_links → scratch_short objects links scratch_objects scratch_links ≡ false
long_enough objects links so sl h k = rw (le-ltb (length so) (length objects) h, le-ltb (length sl) (length links) k)

-- ---- a batch check

module _ {o : Outcome} {list list' objects links objects' links' : List ℕ} {r : Checked} (left : Left o list objects links r list' objects' links') where
  -- its pairs are within the list
  pub pairs_within : 2 * r.pairs ≤ length list'
  pairs_within =
      let words = pair_words o.pairs in
      omega (arith, left.pairs_are, words_length o.pairs, ap length left.list_is, length-append words (drop (length words) list))

  pub outcome_is : printed (meant r.answer) (pairs_in list' r.pairs) ≡ outcome_printed o
  unfolding outcome_printed pair_words
  outcome_is =
      ap₂ printed (ap meant left.answer_is ∙ meant_back o.answer) (ap (pairs_in list') left.pairs_are ∙ pairs_back o.pairs list' list left.list_is)

-- with a scratch that is long enough
pub lent_outcome_lem : (n : Counts) (s : Sheet) {short : Bool} (words : ℕ) → short ≡ false → outcome_printed (lent_outcome n s short words) ≡ batch_printed words n s
unfolding batch_printed
lent_outcome_lem n s words p = ap (λ short. outcome_printed (lent_outcome n s short words)) p

-- the tables that a check with an equal scratch test leaves
pub register_by :
    {objects links objects' links' : List ℕ} (o : Bool → Outcome) {short other : Bool} → short ≡ other
    → RegisterLeft (o short) objects links objects' links' → RegisterLeft (o other) objects links objects' links'
register_by {objects} {links} {objects'} {links'} o e = subst (λ b. RegisterLeft (o b) objects links objects' links') e

-- ---- a read

module _ (room : Room) (show : Counts → Sheet → List ℕ) (text : List ℕ) where
  pub long_text : room.bytes < length text → printed (Meaning.refused 2 0) [] ≡ text_prints room show text
  unfolding text_prints
  long_text h = sym (rw (lt-ltb room.bytes (length text) h))

  abbrev reading : Reading
  reading = lent_reading text (lent_sheet room)

  module _ (h : length text ≤ room.bytes) where
    short_text : reading_printed show reading (lent_sheet room) ≡ text_prints room show text
    unfolding text_prints
    short_text = sym (rw (le-ltb room.bytes (length text) h))

    pub read_refused : {r : Code.Refusal} → Err r ≡ read_answer reading → printed (Meaning.refused r.number r.place) [] ≡ text_prints room show text
    unfolding reading_printed read_printed
    read_refused e = ap (λ a. read_printed show a (sheet_after reading (lent_sheet room))) e ∙ short_text

    pub read_done : {n : Counts} {s : Sheet} → Ok n ≡ read_answer reading → s ≡ sheet_after reading (lent_sheet room) → show n s ≡ text_prints room show text
    unfolding reading_printed read_printed
    read_done e t = ap₂ (read_printed show) e t ∙ short_text
