-- Values that are words, one after the other.
use Prim.Native.Nat.{ℕ, suc, ◌+◌, ◌≤◌, ◌<◌}
use mathlib.Core.Path.{◌≡◌, sym, ap, ◌∙◌}
use mathlib.Core.Bool.{true, false, ◌&&◌}
use mathlib.Core.List.{List, [], ◌∷◌, ◌++◌}
use native.Mathlib.Numerals.{add-one}
use native.Mathlib.Omega.{arith}
use lib.ListN.{length, get_or, take, drop, set, length-set, drop_of_length-le}
use lib.Seq.{drop-cons, take-suc, take-suc-set, take_all}
use borrow.Author.Tests.{lt-ltb, le-ltb}
use Rattle.meaning.specs.Lists.{every}
use Rattle.text.specs.Tokens.{dash, is_word}

-- the first i values are taken over, and whether all are words is left to the others
pub record Taken (values words : List ℕ) (i : ℕ) : Type 0 where
  pub few : i ≤ 10
  pub held : length words ≡ 10
  pub taken : take i words ≡ take i values
  pub rest : every is_word values ≡ every is_word (drop i values)

module _ {values words : List ℕ} {i : ℕ} (t : Taken values words i) (size : length values ≡ 10) (h : i < 10) where
  here : every is_word (drop i values) ≡ is_word (get_or values i 0) && every is_word (drop (suc i) values)
  here = ap (every is_word) (drop-cons values i 0 (omega (arith, size, h)))

  pub taken_bad : dash ≤ get_or values i 0 → false ≡ every is_word values
  taken_bad large = sym (t.rest ∙ here ∙ ap (λ b. b && every is_word (drop (suc i) values)) (le-ltb (get_or values i 0) dash large))

  pub taken_one : get_or values i 0 < dash → {v : ℕ} → v ≡ get_or values i 0 → Taken values (set words i v) (i + 1)
  taken_one small {v} same =
      record {
        few = omega (arith, h);
        held = length-set words i v ∙ t.held;
        taken =
            ap (λ n. take n (set words i v)) (add-one i)
            ∙ take-suc-set words i v (omega (arith, t.held, h))
            ∙ ap (λ l. l ++ v ∷ []) t.taken
            ∙ ap (λ x. take i values ++ x ∷ []) same
            ∙ sym (take-suc values i 0 (omega (arith, size, h)))
            ∙ ap (λ n. take n values) (sym (add-one i));
        rest = t.rest ∙ here ∙ ap (λ b. b && every is_word (drop (suc i) values)) (lt-ltb (get_or values i 0) dash small) ∙ ap (λ n. every is_word (drop n values)) (sym (add-one i));
      }

module _ {values words : List ℕ} {i : ℕ} (t : Taken values words i) (size : length values ≡ 10) (h : 10 ≤ i) where
  pub taken_words : true ≡ every is_word values
  taken_words = sym (t.rest ∙ ap (every is_word) (drop_of_length-le values {i = i} (omega (arith, size, h))))

  pub taken_same : words ≡ values
  taken_same = sym (take_all i words (omega (arith, t.held, h))) ∙ t.taken ∙ take_all i values (omega (arith, size, h))
