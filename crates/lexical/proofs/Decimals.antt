-- A number is read as it was written, and written as it was read.
use Prim.Native.Nat.{ℕ, suc, ◌+◌, ◌-◌, ◌^◌, ◌≤◌, ◌<◌}
use mathlib.Core.Path.{◌≡◌, refl, sym, ap, ◌∙◌, subst}
use mathlib.Core.Bool.{Bool, true, false, ◌&&◌, cond, false≢true}
use mathlib.Core.List.{List, [], ◌∷◌, ◌++◌}
use mathlib.Core.Option.{Option, none, some}
use native.Mathlib.Omega.{arith}
use borrow.Author.Tests.{lt-ltb, le-leb, ltb-true, leb-true, ne_eqb, eqb-true}
use lib.Dec.{eqb, ltb, leb}
use lib.IntN.{ℤ, pos, negsuc}
use lib.Signed.{mag}
use lib.ListN.{length, get_or, take}
use Rattle.meaning.specs.Limits.{fits_word}
use Rattle.meaning.specs.Lists.{every}
use Rattle.rows.specs.Rows.{signed, word_of}
use Rattle.rows.proofs.Words.{word_signed, signed_fits, signed_word, word_fits}
use Rattle.lexical.specs.Decimals.{leading, digits_of, decimal_of, is_digit, digits_in, value_of, plain, Numeral, positive, negative, number_in, number_at}
use Rattle.std.specs.Prelude.{Some}
use Rattle.std.proofs.lemmas.Option.{same_Some}
use Rattle.lexical.specs.declared.Number.{Number}
use Rattle.lexical.proofs.Runs.{both, take_run, run_passes, after_run, run_append}
use Rattle.lexical.proofs.Spelling.{digit_is, value_digits, every_digits, plain_digits, digits_value}

-- ---- read after write

after_minus : (ds rest : List ℕ) → every is_digit ds ≡ true → is_digit (get_or rest 0 0) ≡ false → number_in (45 ∷ ds ++ rest) ≡ negative ds
unfolding number_in
after_minus ds rest e h = ap negative (run_append is_digit ds rest 0 e h)

no_minus : (ds rest : List ℕ) → every is_digit ds ≡ true → plain ds ≡ true → is_digit (get_or rest 0 0) ≡ false → number_in (ds ++ rest) ≡ positive ds
unfolding number_in
no_minus [] rest e p h = absurd (false≢true p)
no_minus (d ∷ ds) rest e p h =
    let k = digit_is d (both (is_digit d) (every is_digit ds) e).0 in
    rw (ne_eqb d 45 (λ q. omega (arith, k.low))) (ap positive (run_append is_digit (d ∷ ds) rest 0 e h))

-- a number of signed 32 bits, before anything but a digit, is read as it was written
pub read_written : (z : ℤ) (rest : List ℕ) → fits_word z ≡ true → is_digit (get_or rest 0 0) ≡ false
    → number_in (decimal_of z ++ rest) ≡ some (record { value = z; size = length (decimal_of z) })
unfolding decimal_of fits_word positive negative
read_written (pos n) rest f h =
    no_minus (digits_of n) rest (every_digits n) (plain_digits n) h ∙ rw (plain_digits n, value_digits n, f)
read_written (negsuc n) rest f h =
    after_minus (digits_of (suc n)) rest (every_digits (suc n)) h
    ∙ rw (plain_digits (suc n), value_digits (suc n), lt-ltb 0 (suc n) (omega arith), le-leb (suc n) (2 ^ 31) (ltb-true n (2 ^ 31) f))
    (ap (λ (m : ℕ). some (record { value = negsuc m; size = suc (length (digits_of (suc n))) })) (omega arith))

-- ---- write after read

-- what was read is the text of its value, which is of signed 32 bits, and no digit follows
pub record Spelled (l : List ℕ) (m : Numeral) : Type 0 where
  pub text : take m.size l ≡ decimal_of m.value
  pub fits : fits_word m.value ≡ true
  pub ends : is_digit (get_or l m.size 0) ≡ false

chosen : (b : Bool) {x m : Numeral} → cond b (some x) none ≡ some m → (b ≡ true) × (x ≡ m)
chosen true e = (refl, cc)
chosen false {x} {m} e = absurd (let z : ◌≡◌ {A = ℕ} 0 1 = cc in omega arith)

spelled_plus : (l : List ℕ) (m : Numeral) → positive (digits_in l) ≡ some m → Spelled l m
unfolding positive decimal_of fits_word
spelled_plus l m e =
    let ds = digits_in l in
    let f = chosen (plain ds && ltb (value_of ds) (2 ^ 31)) e in
    let g = both (plain ds) (ltb (value_of ds) (2 ^ 31)) f.0 in
    subst (Spelled l) f.1
    (record {
      text = take_run is_digit l ∙ sym (digits_value ds (run_passes is_digit l) g.0);
      fits = g.1;
      ends = after_run is_digit 0 refl l;
    })

spelled_minus : (l : List ℕ) (m : Numeral) → negative (digits_in l) ≡ some m → Spelled (45 ∷ l) m
unfolding negative decimal_of fits_word
spelled_minus l m e =
    let ds = digits_in l in
    let v = value_of ds in
    let f = chosen (plain ds && (ltb 0 v && leb v (2 ^ 31))) e in
    let g = both (plain ds) (ltb 0 v && leb v (2 ^ 31)) f.0 in
    let k = both (ltb 0 v) (leb v (2 ^ 31)) g.1 in
    let low : 0 < v = ltb-true 0 v k.0 in
    let high : v ≤ 2 ^ 31 = leb-true v (2 ^ 31) k.1 in
    let s : suc (v - 1) ≡ v = omega arith in
    subst (Spelled (45 ∷ l)) f.1
    (record {
      text = ap (λ (r : List ℕ). 45 ∷ r) (take_run is_digit l ∙ sym (rw s (digits_value ds (run_passes is_digit l) g.0)));
      fits = lt-ltb (v - 1) (2 ^ 31) (omega arith);
      ends = after_run is_digit 0 refl l;
    })

pub written_read : (l : List ℕ) (m : Numeral) → number_in l ≡ some m → Spelled l m
unfolding number_in
written_read [] m e = absurd (let z : ◌≡◌ {A = ℕ} 0 1 = cc in omega arith)
written_read (b ∷ l) m e = go (eqb b 45) refl e
  where
    go : (q : Bool) → eqb b 45 ≡ q → cond q (negative (digits_in l)) (positive (digits_in (b ∷ l))) ≡ some m → Spelled (b ∷ l) m
    go true h e' = rw (eqb-true b 45 h) (spelled_minus l m e')
    go false h e' = spelled_plus (b ∷ l) m e'

-- no two spellings: texts that are read as one value are the same bytes
pub one_spelling : (k l : List ℕ) (m n : Numeral) → number_in k ≡ some m → number_in l ≡ some n → m.value ≡ n.value
    → take m.size k ≡ take n.size l
one_spelling k l m n e f h = (written_read k m e).text ∙ ap decimal_of h ∙ sym (written_read l n f).text

-- ---- the same of words, as the reader answers

abbrev pub number : ℕ → ℕ → Number
number w next = record { word = w; next = next }

pub read_word : (w at : ℕ) (rest : List ℕ) → w < 2 ^ 32 → is_digit (get_or rest 0 0) ≡ false
    → number_at at (number_in (decimal_of (signed w) ++ rest)) ≡ Some (number w (at + length (decimal_of (signed w))))
unfolding fits_word
read_word w at rest h k =
    rw (read_written (signed w) rest (lt-ltb (mag (signed w)) (2 ^ 31) (signed_fits w)) k)
    (ap (λ (v : ℕ). Some (number v (at + length (decimal_of (signed w))))) (word_signed w h))

-- the bytes from the place up to the next are the word's decimal, and no digit follows
pub record SpelledWord (l : List ℕ) (at w next : ℕ) : Type 0 where
  pub text : take (next - at) l ≡ decimal_of (signed w)
  pub fits : w < 2 ^ 32
  pub ends : is_digit (get_or l (next - at) 0) ≡ false

pub word_read : (l : List ℕ) (at w next : ℕ) → number_at at (number_in l) ≡ Some (number w next) → SpelledWord l at w next
unfolding fits_word
word_read l at w next e = go (number_in l) refl e
  where
    go : (o : Option Numeral) → number_in l ≡ o → number_at at o ≡ Some (number w next) → SpelledWord l at w next
    go none f g = absurd (grind arith)
    go (some m) f g =
        let s = written_read l m f in
        let small : mag m.value < 2 ^ 31 = ltb-true (mag m.value) (2 ^ 31) s.fits in
        let same = same_Some _ _ g in
        let word : word_of m.value ≡ w = ap (λ (n : Number). n.word) same in
        let end : at + m.size ≡ next = ap (λ (n : Number). n.next) same in
        let size : next - at ≡ m.size = omega arith in
        let back : signed w ≡ m.value = ap signed (sym word) ∙ signed_word m.value small in
        record {
          text = rw (size, back) s.text;
          fits = omega (arith, word_fits m.value small);
          ends = rw size s.ends;
        }

-- ---- texts that were read: 0, -2^31, 12 before a bracket; and that are none: 007, -0, 2^31, a bare `-`

numeral : ℤ → ℕ → Option Numeral
numeral z n = some (record { value = z; size = n })

examples : (number_in (48 ∷ []) ≡ numeral (pos 0) 1)
    × (number_in (45 ∷ 50 ∷ 49 ∷ 52 ∷ 55 ∷ 52 ∷ 56 ∷ 51 ∷ 54 ∷ 52 ∷ 56 ∷ []) ≡ numeral (negsuc 2147483647) 11)
    × (number_in (49 ∷ 50 ∷ 93 ∷ []) ≡ numeral (pos 12) 2)
    × (number_in (48 ∷ 48 ∷ 55 ∷ []) ≡ none)
    × (number_in (45 ∷ 48 ∷ []) ≡ none)
    × (number_in (50 ∷ 49 ∷ 52 ∷ 55 ∷ 52 ∷ 56 ∷ 51 ∷ 54 ∷ 52 ∷ 56 ∷ []) ≡ none)
    × (number_in (45 ∷ []) ≡ none)
unfolding number_in numeral positive negative
examples = (refl, refl, refl, refl, refl, refl, refl)

written_examples : (decimal_of (negsuc 2147483647) ≡ 45 ∷ 50 ∷ 49 ∷ 52 ∷ 55 ∷ 52 ∷ 56 ∷ 51 ∷ 54 ∷ 52 ∷ 56 ∷ []) × (decimal_of (pos 0) ≡ 48 ∷ [])
unfolding decimal_of digits_of leading
written_examples = (refl, refl)
