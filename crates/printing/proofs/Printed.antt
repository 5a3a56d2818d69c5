-- An answer and its pairs: the first line, a line for each pair, and how long they are.
use Prim.Native.Nat.{ℕ, ◌+◌, ◌*◌, ◌^◌, ◌≤◌, ◌<◌}
use mathlib.Core.Path.{◌≡◌, refl, sym, ap, ◌∙◌}
use mathlib.Core.List.{List, [], ◌∷◌, ◌++◌, flat_map}
use native.Mathlib.Omega.{arith}
use lib.Dec.{lit<}
use lib.ListN.{length, get_or, length-append}
use Rattle.meaning.specs.Reach.{Pair, pair_of, pair_key}
use Rattle.meaning.specs.Answers as Meaning
use Rattle.rows.specs.Rows.{word_at, in_front}
use Rattle.tables.specs.Answers.{answer_of}
use Rattle.tables.specs.declared.Answer.{Answer}
use Rattle.tables.specs.declared.Answer.TheVariants.{Accepted, Broken, Refused}
use Rattle.printing.specs.Lines.{line_of}
use Rattle.printing.specs.Printed.{accepted_name, broken_name, refused_name, pair_name, answer_line, pair_line, pair_lines, pairs_shown, printed, meant, pair_in, pairs_in, count_shown, room_for}
use Rattle.printing.proofs.Numbers.{ten_digits}
use Rattle.printing.proofs.Lines.{line_none, two_size}
use Rattle.printing.proofs.Rows.{flat_more, flat_short, rows_back}

-- an answer of the code says what it is the `answer_of` of
pub meant_back : (a : Meaning.Answer) → meant (answer_of a) ≡ a
meant_back Meaning.accepted = refl
meant_back (Meaning.broken_at rule id) = refl
meant_back (Meaning.refused number place) = refl

-- ---- the first line

module _ {answer : Answer} where
  pub accepted_line : answer ≡ Accepted → accepted_name ++ 10 ∷ [] ≡ answer_line (meant answer)
  unfolding answer_line
  accepted_line e = line_none accepted_name ∙ ap (λ a. answer_line (meant a)) (sym e)

  pub accepted_size : answer ≡ Accepted → length (answer_line (meant answer)) ≤ room_for 0
  accepted_size e = omega (arith, ap length (accepted_line e))

  pub broken_line : {rule id : ℕ} → answer ≡ Broken rule id → line_of broken_name (rule ∷ id ∷ []) ≡ answer_line (meant answer)
  unfolding answer_line
  broken_line e = ap (λ a. answer_line (meant a)) (sym e)

  pub broken_size : {rule id : ℕ} → answer ≡ Broken rule id → rule < 2 ^ 32 → id < 2 ^ 32 → length (answer_line (meant answer)) ≤ room_for 0
  broken_size {rule} {id} e h k =
      omega (arith, ap length (broken_line e), two_size 10 broken_name rule id (ten_digits rule h) (ten_digits id k))

  pub refused_line : {number place : ℕ} → answer ≡ Refused number place → line_of refused_name (number ∷ place ∷ []) ≡ answer_line (meant answer)
  unfolding answer_line
  refused_line e = ap (λ a. answer_line (meant a)) (sym e)

  pub refused_size : {number place : ℕ} → answer ≡ Refused number place → number < 2 ^ 32 → place < 2 ^ 32 → length (answer_line (meant answer)) ≤ room_for 0
  refused_size {number} {place} e h k =
      omega (arith, ap length (refused_line e), two_size 10 refused_name number place (ten_digits number h) (ten_digits place k))

-- ---- the pairs

module _ (list : List ℕ) where
  pub no_pairs : pair_lines (pairs_in list 0) ≡ []
  unfolding pair_lines flat_map
  no_pairs = refl

  -- a turn of the loop
  pub more_pairs : (i : ℕ) {name : List ℕ} {rule id : ℕ} → name ≡ pair_name → rule ≡ word_at list 2 i 0 → id ≡ word_at list 2 i 1
      → pair_lines (pairs_in list i) ++ line_of name (rule ∷ id ∷ []) ≡ pair_lines (pairs_in list (i + 1))
  unfolding pair_lines pair_line
  more_pairs i p q r = ap (λ l. pair_lines (pairs_in list i) ++ l) (λ j. line_of (p j) (q j ∷ r j ∷ [])) ∙ flat_more pair_line (pair_in list) i

  -- those that are shown
  pub shown_lines : (answer : Answer) (count : ℕ) → answer_line (meant answer) ++ pair_lines (pairs_in list (count_shown answer count)) ≡ printed (meant answer) (pairs_in list count)
  unfolding printed pairs_shown
  shown_lines Accepted count = refl
  shown_lines (Broken rule id) count = refl
  shown_lines (Refused number place) count = refl

  pub few_shown : (answer : Answer) (count : ℕ) → count_shown answer count ≤ count
  few_shown Accepted count = omega arith
  few_shown (Broken rule id) count = omega arith
  few_shown (Refused number place) count = omega arith

  -- words of 32 bits
  module _ (words : (k : ℕ) → get_or list k 0 < 2 ^ 32) where
    pub pairs_size : (count : ℕ) → length (pair_lines (pairs_in list count)) ≤ 27 * count
    unfolding pair_lines pair_line
    pairs_size count =
        flat_short pair_line (pair_in list) 27 count
        (λ i h. two_size 10 pair_name (word_at list 2 i 0) (word_at list 2 i 1) (ten_digits (word_at list 2 i 0) (words (i * 2 + 0))) (ten_digits (word_at list 2 i 1) (words (i * 2 + 1))))

    pub printed_size : (answer : Answer) (count : ℕ) → length (answer_line (meant answer)) ≤ room_for 0 → length (printed (meant answer) (pairs_in list count)) ≤ room_for count
    printed_size answer count h =
        let shown = count_shown answer count in
        omega (arith, ap length (shown_lines answer count), length-append (answer_line (meant answer)) (pair_lines (pairs_in list shown)), pairs_size shown, few_shown answer count)

-- pairs whose words are at the front of a list are its first pairs
pub pairs_back : (ps : List Pair) (list before : List ℕ) → list ≡ in_front (flat_map pair_key ps) before → pairs_in list (length ps) ≡ ps
pairs_back ps list before e =
    rows_back 2 pair_key (λ p. refl) list (pair_in list) (λ j p s k. pair_of (s 0 (lit< tt) k) (s 1 (lit< tt) k)) ps before e
