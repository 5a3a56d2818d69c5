-- What a word says of the rows that it marks, and of the rules; and one mark more.
use Prim.Native.Nat.{ℕ, zero, suc, ◌+◌, ◌-◌, ◌*◌, ◌/◌, ◌%◌, ◌≤◌, ◌<◌}
use mathlib.Core.Path.{◌≡◌, refl, sym, ap, ap₂, ◌∙◌}
use mathlib.Core.Logic.{⊎_elim}
use mathlib.Core.Bool.{Bool, true, false, ◌&&◌, ◌||◌, or-false, false≢true}
use mathlib.Core.List.{List}
use native.Mathlib.Nat.{eq-or-lt_of_le}
use native.Mathlib.Omega.{arith}
use borrow.Author.Tests.{eq-eqb, ne_eqb, eqb-true, eqb-false}
use lib.Dec.{ltb, eqb}
use lib.ListN.{length, get_or, set}
use lib.Seq.{get_or-set_same, get_or-set_other}
use mir.Facts.{ltb_yes, ltb_no}
use Rattle.meaning.specs.Lists.{any}
use Rattle.meaning.specs.Limits.{max_objects}
use Rattle.meaning.proofs.Lists.{decide}
use Rattle.rows.specs.Rows.{rows_from}
use Rattle.bits.specs.Bits.{bit_at}
use Rattle.pair_marks.specs.Marks.{marked, has_mark, Next}
use Rattle.pair_marks.proofs.Bits.{zero_bit}

-- ---- no mark, or one, among rows

any_none : (p : ℕ → Bool) (j k : ℕ) → ((x : ℕ) → j ≤ x → x < j + k → p x ≡ false) → any p (rows_from (λ x. x) j k) ≡ false
any_none p j zero none = refl
any_none p j (suc k) none = rw (none j (omega arith) (omega arith)) (any_none p (suc j) k (λ x low less. none x (omega arith) (omega arith)))

any_one : (p : ℕ → Bool) (x j k : ℕ) → j ≤ x → x < j + k → p x ≡ true → any p (rows_from (λ x. x) j k) ≡ true
any_one p x j zero low less e = absurd (omega arith)
any_one p x j (suc k) low less e =
    ⊎_elim
    (λ (q : j ≡ x). rw (q, e))
    (λ (on : j < x). step (p j) (any_one p x (suc j) k (omega arith) (omega arith) e))
    (eq-or-lt_of_le low)
  where
    step : (b : Bool) → any p (rows_from (λ x. x) (suc j) k) ≡ true → (b || any p (rows_from (λ x. x) (suc j) k)) ≡ true
    step true rest = refl
    step false rest = rest

module _ (marks : List ℕ) where
  -- words of 0 mark nothing
  pub no_marks : ((k : ℕ) → get_or marks k 0 ≡ 0) → (rule row : ℕ) → marked marks rule row ≡ false
  unfolding marked
  no_marks zeros rule row = ap (λ w. bit_at w (row % 32)) (zeros (rule * 32 + row / 32)) ∙ zero_bit (row % 32)

  -- ---- the rows of a word

  module _ (rule row : ℕ) where
    abbrev word : ℕ
    word = get_or marks (rule * 32 + row / 32) 0

    in_word : (j : ℕ) → row % 32 + j < 32 → marked marks rule (row + j) ≡ bit_at word (row % 32 + j)
    unfolding marked
    in_word j h =
        let same : (row + j) / 32 ≡ row / 32 = omega arith in
        let on : (row + j) % 32 ≡ row % 32 + j = omega arith in
        ap₂ (λ a b. bit_at (get_or marks (rule * 32 + a) 0) b) same on

    -- the word's bits from the row's on, and the lowest of them
    module _ (left : ℕ) (bits : (j : ℕ) → bit_at left j ≡ bit_at word (row % 32 + j)) {low : ℕ} (first : Next (bit_at left) 32 0 low) where
      -- up to it no row is marked
      pub none_before : (x : ℕ) → row ≤ x → x < row + low → x < (row / 32 + 1) * 32 → marked marks rule x ≡ false
      none_before x above less here =
          let at : x ≡ row + (x - row) = omega arith in
          ap (marked marks rule) at ∙ in_word (x - row) (omega arith) ∙ sym (bits (x - row)) ∙ first.passed (x - row) (omega arith) (omega arith)

      -- and it is that of a row of the word
      module _ (high : (j : ℕ) → 32 ≤ j → bit_at word j ≡ false) (some : low < 32) where
        pub same_word : row % 32 + low < 32
        same_word =
            ⊎_elim (λ t. ltb_yes t)
            (λ t. absurd (false≢true (sym (high (row % 32 + low) (ltb_no t)) ∙ sym (bits low) ∙ first.found some)))
            (decide (ltb (row % 32 + low) 32))

        pub here : marked marks rule (row + low) ≡ true
        here = in_word low same_word ∙ sym (bits low) ∙ first.found some

  -- ---- the rules of the words before one

  -- no bit of the word is set
  abbrev pub Unmarked : ℕ → Type 0
  Unmarked k = (j : ℕ) → j < 32 → bit_at (get_or marks k 0) j ≡ false

  pub rule_passed : (from word : ℕ) → ((k : ℕ) → from * 32 ≤ k → k < word → Unmarked k) → (rule : ℕ) → from ≤ rule → rule < word / 32 → has_mark marks rule ≡ false
  unfolding marked
  rule_passed from word none rule low less = any_none (marked marks rule) 0 max_objects (λ row l h. none (rule * 32 + row / 32) (omega arith) (omega arith) (row % 32) (omega arith))

  -- a bit of a word is the mark of a row of its rule
  pub rule_found : (word low : ℕ) → low < 32 → bit_at (get_or marks word 0) low ≡ true → has_mark marks (word / 32) ≡ true
  unfolding marked
  rule_found word low h e =
      let row = word % 32 * 32 + low in
      let at : word / 32 * 32 + row / 32 ≡ word = omega arith in
      let bit : row % 32 ≡ low = omega arith in
      any_one (marked marks (word / 32)) row 0 max_objects (omega arith) (omega arith) (ap₂ (λ a b. bit_at (get_or marks a 0) b) at bit ∙ e)

  -- ---- one mark more

  module _ (rule row new : ℕ) (low : row < max_objects) (here : rule * 32 + row / 32 < length marks)
      (is : (k : ℕ) → bit_at new k ≡ (bit_at (get_or marks (rule * 32 + row / 32) 0) k || eqb (row % 32) k)) where
    abbrev at : ℕ
    at = rule * 32 + row / 32

    -- a bit of the word is that of the row
    same_bit : (i j : ℕ) → j < max_objects → i * 32 + j / 32 ≡ at → eqb (row % 32) (j % 32) ≡ (eqb i rule && eqb j row)
    same_bit i j h e = step (eqb j row) refl ∙ sym (ap (λ b. b && eqb j row) (eq-eqb i rule (omega arith)))
      where
        step : (b : Bool) → eqb j row ≡ b → eqb (row % 32) (j % 32) ≡ b
        step true q = eq-eqb (row % 32) (j % 32) (ap (λ x. x % 32) (sym (eqb-true j row q)))
        step false q = ne_eqb (row % 32) (j % 32) (λ r. eqb-false j row q (omega arith))

    -- another word has neither the rule's nor the row's bit
    other : (i j : ℕ) → (i * 32 + j / 32 ≡ at → ⊥) → (eqb i rule && eqb j row) ≡ false
    other i j away = step (eqb i rule) (eqb j row) refl refl
      where
        step : (a b : Bool) → eqb i rule ≡ a → eqb j row ≡ b → (a && b) ≡ false
        step false b p q = refl
        step true false p q = refl
        step true true p q = absurd (away (ap₂ (λ x y. x * 32 + y / 32) (eqb-true i rule p) (eqb-true j row q)))

    pub marked_more : (i j : ℕ) → j < max_objects → marked (set marks at new) i j ≡ (marked marks i j || (eqb i rule && eqb j row))
    unfolding marked
    marked_more i j h = step (eqb (i * 32 + j / 32) at) refl
      where
        place : ℕ
        place = i * 32 + j / 32

        step : (b : Bool) → eqb place at ≡ b → bit_at (get_or (set marks at new) place 0) (j % 32) ≡ (bit_at (get_or marks place 0) (j % 32) || (eqb i rule && eqb j row))
        step true q =
            let e = eqb-true place at q in
            ap (λ k. bit_at (get_or (set marks at new) k 0) (j % 32)) e
            ∙ ap (λ w. bit_at w (j % 32)) (get_or-set_same marks at new 0 here)
            ∙ is (j % 32)
            ∙ ap₂ (λ k b. bit_at (get_or marks k 0) (j % 32) || b) (sym e) (same_bit i j h e)
        step false q =
            let away = eqb-false place at q in
            ap (λ w. bit_at w (j % 32)) (get_or-set_other marks at place new 0 away)
            ∙ sym (ap (λ b. bit_at (get_or marks place 0) (j % 32) || b) (other i j away) ∙ or-false (bit_at (get_or marks place 0) (j % 32)))
