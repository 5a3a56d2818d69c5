-- The digits of a number: what they are made of, and what they say.
use Prim.Native.Nat.{ℕ, zero, suc, ◌+◌, ◌-◌, ◌*◌, ◌/◌, ◌%◌, ◌^◌, ◌≤◌, ◌<◌}
use mathlib.Core.Path.{◌≡◌, refl, sym, ap, ◌∙◌}
use mathlib.Core.Bool.{true, false≢true, or-true}
use mathlib.Core.List.{List, [], ◌∷◌, ◌++◌, append-nil, append_assoc}
use native.Mathlib.Nat.{not-suc-le-zero, le_refl, pow-suc}
use native.Mathlib.Numerals.{add-one}
use native.Mathlib.Omega.{arith}
use borrow.Author.Tests.{lt-ltb, le-ltb, le-leb, leb-true, ne_eqb, eqb-false, not-true}
use lib.Dec.{eqb, leb, eqb-suc-zero}
use lib.ListN.{length, drop, set, length-append, drop_of_length-le}
use Rattle.meaning.specs.Lists.{every}
use Rattle.rows.specs.Rows.{signed}
use Rattle.lexical.specs.Decimals.{leading, digits_of, decimal_of, is_digit, value_from, value_of, plain}
use Rattle.lexical.proofs.Runs.{both}
use Rattle.lexical.proofs.Writing.{drop_set}

-- ---- a byte that is a digit

pub record Digit (b : ℕ) : Type 0 where
  pub low : 48 ≤ b
  pub high : b ≤ 57

pub digit_is : (b : ℕ) → is_digit b ≡ true → Digit b
digit_is b e =
    let f = both (leb 48 b) (leb b 57) e in
    record { low = leb-true 48 b f.0; high = leb-true b 57 f.1 }

pub is_digit_lem : (b : ℕ) → 48 ≤ b → b ≤ 57 → is_digit b ≡ true
is_digit_lem b h k = rw (le-leb 48 b h, le-leb b 57 k)

-- ---- the digits of q, none of 0

abbrev pub lead : ℕ → List ℕ
lead q = leading q q

enough : (k j q : ℕ) → q ≤ k → q ≤ j → leading k q ≡ leading j q
unfolding leading
enough zero zero q h l = refl
enough zero (suc j) zero h l = refl
enough zero (suc j) (suc q) h l = absurd (not-suc-le-zero h)
enough (suc k) zero zero h l = refl
enough (suc k) zero (suc q) h l = absurd (not-suc-le-zero l)
enough (suc k) (suc j) zero h l = refl
enough (suc k) (suc j) (suc q) h l = ap (λ (s : List ℕ). s ++ ((48 + suc q % 10) ∷ [])) (enough k j (suc q / 10) (omega arith) (omega arith))

pub lead_zero : lead 0 ≡ []
unfolding leading
lead_zero = refl

pub lead_step : (q : ℕ) → 0 < q → lead q ≡ lead (q / 10) ++ ((48 + q % 10) ∷ [])
unfolding leading
lead_step zero h = absurd (not-suc-le-zero h)
lead_step (suc q) h = ap (λ (s : List ℕ). s ++ ((48 + suc q % 10) ∷ [])) (enough q (suc q / 10) (suc q / 10) (omega arith) (omega arith))

lead_digits : (q : ℕ) → 0 < q → lead q ≡ digits_of q
unfolding digits_of
lead_digits = lead_step

-- one digit more
lead_more : (a x : ℕ) → 0 < a * 10 + x → x < 10 → lead (a * 10 + x) ≡ lead a ++ ((48 + x) ∷ [])
lead_more a x h k =
    let q : (a * 10 + x) / 10 ≡ a = omega arith in
    let r : (a * 10 + x) % 10 ≡ x = omega arith in
    lead_step (a * 10 + x) h ∙ rw (q, r)

lead_one : (x : ℕ) → 0 < x → x < 10 → lead x ≡ (48 + x) ∷ []
lead_one x h k =
    let q : x / 10 ≡ 0 = omega arith in
    let r : x % 10 ≡ x = omega arith in
    lead_step x h ∙ rw (q, r, lead_zero)

-- induction on a number's digits
tens : (P : ℕ → Type 0) → P 0 → ((q : ℕ) → 0 < q → P (q / 10) → P q) → (q : ℕ) → P q
tens P base step q = go q q (le_refl q)
  where
    go : (k m : ℕ) → m ≤ k → P m
    go zero zero h = base
    go zero (suc m) h = absurd (not-suc-le-zero h)
    go (suc k) zero h = base
    go (suc k) (suc m) h = step (suc m) (omega arith) (go k (suc m / 10) (omega arith))

-- ---- what digits say

value_last : (v d : ℕ) (xs : List ℕ) → value_from v (xs ++ (d ∷ [])) ≡ value_from v xs * 10 + (d - 48)
value_last v d [] = refl
value_last v d (x ∷ xs) = value_last (v * 10 + (x - 48)) d xs

every_last : (d : ℕ) (xs : List ℕ) → is_digit d ≡ true → every is_digit xs ≡ true → every is_digit (xs ++ (d ∷ [])) ≡ true
every_last d [] h e = rw h
every_last d (x ∷ xs) h e =
    let f = both (is_digit x) (every is_digit xs) e in
    rw (f.0, every_last d xs h f.1)

value_grows : (v : ℕ) (ds : List ℕ) → 0 < v → 0 < value_from v ds
value_grows v [] h = h
value_grows v (d ∷ ds) h = value_grows (v * 10 + (d - 48)) ds (omega arith)

value_lead : (q : ℕ) → value_of (lead q) ≡ q
value_lead = tens (λ q. value_of (lead q) ≡ q) (rw lead_zero) (λ q h e. rw (lead_step q h, value_last 0 (48 + q % 10) (lead (q / 10)), e) (omega arith))

last_digit : (q : ℕ) → is_digit (48 + q % 10) ≡ true
last_digit q = is_digit_lem (48 + q % 10) (omega arith) (omega arith)

every_lead : (q : ℕ) → every is_digit (lead q) ≡ true
every_lead = tens (λ q. every is_digit (lead q) ≡ true) (rw lead_zero) (λ q h e. rw (lead_step q h, every_last (48 + q % 10) (lead (q / 10)) (last_digit q) e))

-- no zero stands first
plain_lead : (q : ℕ) → 0 < q → (r : List ℕ) → plain (lead q ++ r) ≡ true
plain_lead = tens (λ q. 0 < q → (r : List ℕ) → plain (lead q ++ r) ≡ true) (λ h. absurd (not-suc-le-zero h)) step
  where
    first : (q m : ℕ) → 0 < q → q / 10 ≡ m → (0 < m → (r : List ℕ) → plain (lead m ++ r) ≡ true) → (r : List ℕ) → plain (lead m ++ ((48 + q % 10) ∷ r)) ≡ true
    first q zero h e ih r = rw (lead_zero, ne_eqb (48 + q % 10) 48 (omega arith)) (or-true (eqb (length r) 0))
    first q (suc m) h e ih r = ih (omega arith) ((48 + q % 10) ∷ r)

    step : (q : ℕ) → 0 < q → (0 < q / 10 → (r : List ℕ) → plain (lead (q / 10) ++ r) ≡ true) → 0 < q → (r : List ℕ) → plain (lead q ++ r) ≡ true
    step q h ih _ r = rw (lead_step q h, append_assoc) (first q (q / 10) h refl ih r)

-- as many digits as the power of ten below which the number is
pub short_lead : (k q : ℕ) → q < 10 ^ k → length (lead q) ≤ k
short_lead zero q h =
    let e : q ≡ 0 = omega arith in
    rw (e, lead_zero) (le_refl 0)
short_lead (suc k) zero h = rw lead_zero (omega arith)
short_lead (suc k) (suc q) h =
    let p : suc q < 10 ^ k * 10 = rw pow-suc at h in
    rw (lead_step (suc q) (omega arith), length-append) (omega (arith, short_lead k (suc q / 10) (omega arith)))

-- ---- a number spelled from its end: the digits of rest are still to be put before place i

pub lead_longer : (q : ℕ) → 0 < q → length (lead q) ≡ length (lead (q / 10)) + 1
lead_longer q h = rw (lead_step q h, length-append)

pub spell_more : (b : List ℕ) (i rest : ℕ) {s : List ℕ} → lead rest ++ drop i b ≡ s → 0 < rest → 0 < i → i ≤ length b
    → lead (rest / 10) ++ drop (i - 1) (set b (i - 1) (48 + rest % 10)) ≡ s
spell_more b i rest e h k l =
    let j : i - 1 + 1 ≡ i = omega arith in
    rw (drop_set b (i - 1) (48 + rest % 10) (omega arith), j)
    (sym (append_assoc (lead (rest / 10)) ((48 + rest % 10) ∷ []) (drop i b)) ∙ ap (λ (r : List ℕ). r ++ drop i b) (sym (lead_step rest h)) ∙ e)

pub spell_first : (b : List ℕ) (n : ℕ) → length b ≡ 11 → lead (n / 10) ++ drop 10 (set b 10 (48 + n % 10)) ≡ digits_of n
unfolding digits_of
spell_first b n h = rw (drop_set b 10 (48 + n % 10) (omega arith), drop_of_length-le b {i = 11} (omega arith))

-- the decimal of a word, by its sign
pub decimal_low : (w : ℕ) → w < 2 ^ 31 → decimal_of (signed w) ≡ digits_of w
unfolding decimal_of
decimal_low w h = rw (lt-ltb w (2 ^ 31) h)

pub decimal_high : (w : ℕ) → 2 ^ 31 ≤ w → decimal_of (signed w) ≡ 45 ∷ digits_of (2 ^ 32 - 1 - w + 1)
unfolding decimal_of
decimal_high w h = rw (le-ltb w (2 ^ 31) h, add-one)

-- ---- the digits of any number

pub value_digits : (n : ℕ) → value_of (digits_of n) ≡ n
unfolding digits_of
value_digits n = rw (value_last 0 (48 + n % 10) (lead (n / 10)), value_lead (n / 10)) (omega arith)

pub every_digits : (n : ℕ) → every is_digit (digits_of n) ≡ true
unfolding digits_of
every_digits n = every_last (48 + n % 10) (lead (n / 10)) (last_digit n) (every_lead (n / 10))

pub plain_digits : (n : ℕ) → plain (digits_of n) ≡ true
unfolding digits_of
plain_digits n = go (n / 10)
  where
    go : (m : ℕ) → plain (lead m ++ ((48 + n % 10) ∷ [])) ≡ true
    go zero = rw lead_zero
    go (suc m) = plain_lead (suc m) (omega arith) ((48 + n % 10) ∷ [])

-- plain digits are the digits of what they say
lead_value : (a : ℕ) (ds : List ℕ) → 0 < a → every is_digit ds ≡ true → lead (value_from a ds) ≡ lead a ++ ds
lead_value a [] h e = sym (append-nil (lead a))
lead_value a (d ∷ ds) h e =
    let f = both (is_digit d) (every is_digit ds) e in
    let k = digit_is d f.0 in
    let b : 48 + (d - 48) ≡ d = omega (arith, k.low) in
    lead_value (a * 10 + (d - 48)) ds (omega arith) f.1
    ∙ rw (lead_more a (d - 48) (omega arith) (omega (arith, k.high)), b, append_assoc)

pub digits_value : (ds : List ℕ) → every is_digit ds ≡ true → plain ds ≡ true → digits_of (value_of ds) ≡ ds
unfolding digits_of
digits_value [] e p = absurd (false≢true p)
digits_value (d ∷ []) e p =
    let k = digit_is d (both (is_digit d) true e).0 in
    let v : 0 * 10 + (d - 48) ≡ d - 48 = omega arith in
    let q : (d - 48) / 10 ≡ 0 = omega (arith, k.high) in
    let r : 48 + (d - 48) % 10 ≡ d = omega (arith, k.low, k.high) in
    rw (v, q, r, lead_zero)
digits_value (d ∷ x ∷ ds) e p =
    let f = both (is_digit d) (every is_digit (x ∷ ds)) e in
    let k = digit_is d f.0 in
    let n : d ≡ 48 → ⊥ = eqb-false d 48 (not-true (eqb d 48) (rw (eqb-suc-zero (length ds)) at p)) in
    let v : 0 * 10 + (d - 48) ≡ d - 48 = omega arith in
    let b : 48 + (d - 48) ≡ d = omega (arith, k.low) in
    let h : 0 < d - 48 = omega (arith, k.low) in
    rw v
    (sym (lead_digits (value_from (d - 48) (x ∷ ds)) (value_grows (d - 48) (x ∷ ds) h))
    ∙ lead_value (d - 48) (x ∷ ds) h f.1
    ∙ rw (lead_one (d - 48) h (omega (arith, k.high)), b))
