-- The words and rows of a table after a row is put in, taken out, or changed from a column on.
use mathlib.Core.Path.{◌≡◌, sym, ap, ◌∙◌}
use mathlib.Core.Logic.{⊎_elim}
use mathlib.Core.Bool.{not}
use mathlib.Core.List.{List, [], ◌++◌, append_assoc, append-nil}
use Prim.Native.Nat.{ℕ, suc, ◌+◌, ◌-◌, ◌*◌, ◌≤◌, ◌<◌}
use native.Mathlib.Nat.{suc-mul, eq-or-lt_of_le}
use native.Mathlib.Omega.{arith}
use lib.ListN.{length, get_or, take, drop, replicate, length-append, length-drop, length-replicate, length-set, get_or-replicate, get_or-append}
use lib.Seq.{length-take-le, get_or-take, get_or-drop, take_at, drop_at, get_or-append_right, get_or-set_same, get_or-set_other}
use lib.Dec.{T, ltb}
use mir.Facts.{ltb_yes, ltb_no}
use borrow.Author.Tests.{eq-eqb, le-leb, lt-ltb}
use Rattle.meaning.proofs.Lists.{decide}
use Rattle.rows.specs.Rows.{word_at, with_row, with_word, without_columns, with_gap, without_row}
use Rattle.rows.proofs.Offsets.{next_place_lem, row_before}

-- past the seam of two lists stands the second
pub get_d_past : (xs ys : List ℕ) (n k : ℕ) → length xs ≡ n → n ≤ k → get_or (xs ++ ys) k 0 ≡ get_or ys (k - n) 0
get_d_past xs ys n k e h = get_or-append_right xs ys k 0 (omega arith) ∙ ap (λ m. get_or ys (k - m) 0) e

-- ---- two pieces in the place of a part of a list, as many words as they replace

abbrev pub framed : List ℕ → List ℕ → List ℕ → ℕ → ℕ → List ℕ
framed t p q a e = take a t ++ p ++ q ++ drop e t

module _ (t p q : List ℕ) (a e : ℕ) (s : a + length p + length q ≡ e) (h : e ≤ length t) where
  front_length : length (take a t) ≡ a
  front_length = length-take-le a t (omega arith)

  first_end : length (take a t ++ p) ≡ a + length p
  first_end = length-append (take a t) p ∙ ap (λ n. n + length p) front_length

  second_end : length (take a t ++ p ++ q) ≡ e
  second_end = length-append (take a t ++ p) q ∙ ap (λ n. n + length q) first_end ∙ s

  pub framed_length : length (framed t p q a e) ≡ length t
  framed_length = omega (arith, length-append (take a t ++ p ++ q) (drop e t), second_end, length-drop e t)

  pub framed_front : (k : ℕ) → k < a → get_or (framed t p q a e) k 0 ≡ get_or t k 0
  framed_front k l =
      get_or-append (take a t ++ p ++ q) (drop e t) 0 k (omega (arith, second_end))
      ∙ get_or-append (take a t ++ p) q 0 k (omega (arith, first_end))
      ∙ get_or-append (take a t) p 0 k (omega (arith, front_length))
      ∙ get_or-take a t k 0 l

  pub framed_first : (k : ℕ) → k < length p → get_or (framed t p q a e) (a + k) 0 ≡ get_or p k 0
  framed_first k l =
      get_or-append (take a t ++ p ++ q) (drop e t) 0 (a + k) (omega (arith, second_end))
      ∙ get_or-append (take a t ++ p) q 0 (a + k) (omega (arith, first_end))
      ∙ get_d_past (take a t) p a (a + k) front_length (omega arith)
      ∙ ap (λ n. get_or p n 0) (omega arith)

  pub framed_second : (k : ℕ) → k < length q → get_or (framed t p q a e) (a + length p + k) 0 ≡ get_or q k 0
  framed_second k l =
      get_or-append (take a t ++ p ++ q) (drop e t) 0 (a + length p + k) (omega (arith, second_end))
      ∙ get_d_past (take a t ++ p) q (a + length p) (a + length p + k) first_end (omega arith)
      ∙ ap (λ n. get_or q n 0) (omega arith)

  pub framed_past : (k : ℕ) → e ≤ k → get_or (framed t p q a e) k 0 ≡ get_or t k 0
  framed_past k l =
      get_d_past (take a t ++ p ++ q) (drop e t) e k second_end l ∙ get_or-drop e t (k - e) 0 ∙ ap (λ n. get_or t n 0) (omega arith)

abbrev zeros : ℕ → List ℕ
zeros n = replicate n 0

zeros_length : (n : ℕ) → length (zeros n) ≡ n
zeros_length n = length-replicate n 0

-- the words of a part
part_length : (t : List ℕ) (a m : ℕ) → a + m ≤ length t → length (take m (drop a t)) ≡ m
part_length t a m h = length-take-le m (drop a t) (omega (arith, length-drop a t))

part_word : (t : List ℕ) (a m k : ℕ) → k < m → get_or (take m (drop a t)) k 0 ≡ get_or t (a + k) 0
part_word t a m k h = get_or-take m (drop a t) k 0 h ∙ get_or-drop a t k 0

-- ---- a row put in

-- the used rows with one more at its place
abbrev pub inserted : List ℕ → ℕ → ℕ → ℕ → List ℕ → List ℕ
inserted t width at used words = with_row (with_gap t width at used) width at words

module _ (t : List ℕ) (width at used : ℕ) (words : List ℕ) (h : at ≤ used) (room : (used + 1) * width ≤ length t) (full : length words ≡ width) where
  abbrev a : ℕ
  a = at * width

  abbrev m : ℕ
  m = used * width - at * width

  abbrev e : ℕ
  e = (used + 1) * width

  abbrev moved : List ℕ
  moved = take m (drop a t)

  -- where the row starts and ends, and where the used rows end
  record Spots : Type 0 where
    row_used : at * width ≤ used * width
    end_is : (used + 1) * width ≡ used * width + width

  spots : Spots
  spots =
      let end = next_place_lem used width in
      let row = row_before at (used + 1) width (omega arith) in
      record { row_used = omega arith; end_is = end }

  moved_length : length moved ≡ m
  moved_length = let s = spots in part_length t a m (omega (arith, s.row_used, s.end_is))

  gap : with_gap t width at used ≡ framed t (zeros width) moved a e
  unfolding with_gap
  gap = rw (le-leb _ _ h, le-leb _ _ room)

  gap_sum : a + length (zeros width) + length moved ≡ e
  gap_sum = let s = spots in omega (arith, s.row_used, s.end_is, moved_length, zeros_length width)

  words_sum : a + length words + length moved ≡ e
  words_sum = let s = spots in omega (arith, s.row_used, s.end_is, moved_length)

  inserted_is : inserted t width at used words ≡ framed t words moved a e
  unfolding with_row
  inserted_is =
      let s = spots in
      let long : a + width ≤ length (framed t (zeros width) moved a e) =
      omega (arith, s.row_used, s.end_is, framed_length t (zeros width) moved a e gap_sum room) in
      let front : length (take a t) ≡ a = length-take-le a t (omega (arith, s.row_used, s.end_is)) in
      let back : length (take a t ++ zeros width) ≡ a + width =
      omega (arith, length-append (take a t) (zeros width), zeros_length width) in
      let regroup : framed t (zeros width) moved a e ≡ (take a t ++ zeros width) ++ (moved ++ drop e t) = append_assoc (take a t ++ zeros width) moved (drop e t) in
      let taken : take a (framed t (zeros width) moved a e) ≡ take a t =
      ap (take a) (regroup ∙ append_assoc (take a t) (zeros width) (moved ++ drop e t)) ∙ take_at (take a t) (zeros width ++ (moved ++ drop e t)) a front in
      let dropped : drop (a + width) (framed t (zeros width) moved a e) ≡ moved ++ drop e t =
      ap (drop (a + width)) regroup ∙ drop_at (take a t ++ zeros width) (moved ++ drop e t) (a + width) back in
      rw (gap, eq-eqb _ _ full, le-leb _ _ long, taken, dropped) (sym (append_assoc (take a t ++ words) moved (drop e t)))

  pub inserted_length : length (inserted t width at used words) ≡ length t
  inserted_length = ap length inserted_is ∙ framed_length t words moved a e words_sum room

  inserted_at_place : (k : ℕ) → get_or (inserted t width at used words) k 0 ≡ get_or (framed t words moved a e) k 0
  inserted_at_place k = ap (λ l. get_or l k 0) inserted_is

  pub inserted_before : (i c : ℕ) → i < at → c < width → word_at (inserted t width at used words) width i c ≡ word_at t width i c
  inserted_before i c l k =
      let r = row_before i at width l in
      inserted_at_place (i * width + c) ∙ framed_front t words moved a e words_sum room (i * width + c) (omega arith)

  pub inserted_row : (c : ℕ) → c < width → word_at (inserted t width at used words) width at c ≡ get_or words c 0
  inserted_row c k = inserted_at_place (a + c) ∙ framed_first t words moved a e words_sum room c (omega arith)

  pub inserted_after : (i c : ℕ) → at ≤ i → i < used → c < width → word_at (inserted t width at used words) width (suc i) c ≡ word_at t width i c
  inserted_after i c l b k =
      let next = suc-mul i width in
      let low = row_before at (suc i) width (omega arith) in
      let high = row_before i used width b in
      let start : suc i * width + c ≡ a + length words + (i * width + c - a) = omega arith in
      inserted_at_place (suc i * width + c) ∙ ap (λ n. get_or (framed t words moved a e) n 0) start
      ∙ framed_second t words moved a e words_sum room (i * width + c - a) (omega (arith, moved_length))
      ∙ part_word t a m (i * width + c - a) (omega arith) ∙ ap (λ n. get_or t n 0) (omega arith)

  pub inserted_past : (k : ℕ) → (used + 1) * width ≤ k → get_or (inserted t width at used words) k 0 ≡ get_or t k 0
  inserted_past k l = inserted_at_place k ∙ framed_past t words moved a e words_sum room k l

-- ---- a row taken out

module _ (t : List ℕ) (width at used : ℕ) (h : at < used) (lent : used * width ≤ length t) where
  abbrev from : ℕ
  from = at * width

  abbrev count : ℕ
  count = used * width - (at * width + width)

  abbrev rest : List ℕ
  rest = take count (drop (from + width) t)

  row_within : at * width + width ≤ used * width
  row_within = row_before at used width h

  rest_length : length rest ≡ count
  rest_length = part_length t (from + width) count (omega (arith, row_within))

  without_sum : from + length rest + length (zeros width) ≡ used * width
  without_sum = omega (arith, row_within, rest_length, zeros_length width)

  without_is : without_row t width at used ≡ framed t rest (zeros width) from (used * width)
  unfolding without_row
  without_is = rw (lt-ltb _ _ h, le-leb _ _ lent)

  pub without_length : length (without_row t width at used) ≡ length t
  without_length = ap length without_is ∙ framed_length t rest (zeros width) from (used * width) without_sum lent

  without_at : (k : ℕ) → get_or (without_row t width at used) k 0 ≡ get_or (framed t rest (zeros width) from (used * width)) k 0
  without_at k = ap (λ l. get_or l k 0) without_is

  pub without_before : (i c : ℕ) → i < at → c < width → word_at (without_row t width at used) width i c ≡ word_at t width i c
  without_before i c l k =
      let r = row_before i at width l in
      without_at (i * width + c) ∙ framed_front t rest (zeros width) from (used * width) without_sum lent (i * width + c) (omega arith)

  pub without_after : (i c : ℕ) → at ≤ i → suc i < used → c < width → word_at (without_row t width at used) width i c ≡ word_at t width (suc i) c
  without_after i c l b k =
      let next = suc-mul i width in
      let low = row_before at (suc i) width (omega arith) in
      let high = row_before (suc i) used width b in
      let start : i * width + c ≡ from + (i * width + c - from) = omega arith in
      without_at (i * width + c) ∙ ap (λ n. get_or (framed t rest (zeros width) from (used * width)) n 0) start
      ∙ framed_first t rest (zeros width) from (used * width) without_sum lent (i * width + c - from) (omega (arith, rest_length))
      ∙ part_word t (from + width) count (i * width + c - from) (omega arith) ∙ ap (λ n. get_or t n 0) (omega arith)

  -- the words past the rows that are left: the last used row is zeros, and what stood past it stands
  pub without_past : (k : ℕ) → used * width ≤ k → get_or (without_row t width at used) k 0 ≡ get_or t k 0
  without_past k l = without_at k ∙ framed_past t rest (zeros width) from (used * width) without_sum lent k l

  pub without_last : (k : ℕ) → used * width ≤ k + width → k < used * width → get_or (without_row t width at used) k 0 ≡ 0
  without_last k l b =
      let w = row_within in
      let start : k ≡ from + length rest + (k + width - used * width) = omega (arith, rest_length) in
      without_at k ∙ ap (λ n. get_or (framed t rest (zeros width) from (used * width)) n 0) start
      ∙ framed_second t rest (zeros width) from (used * width) without_sum lent (k + width - used * width) (omega (arith, zeros_length width))
      ∙ get_or-replicate width (k + width - used * width) 0 0 (omega arith)

-- ---- words of a row changed

-- words of two rows, or of two columns, stand at different places
apart : (width i row c column : ℕ) → c < width → column < width → (i ≡ row → c ≡ column → ⊥) → i * width + c ≡ row * width + column → ⊥
apart width i row c column h k d e =
    ⊎_elim
    (λ (l : T (ltb i row)). let r = row_before i row width (ltb_yes l) in omega arith)
    (λ (l : T (not (ltb i row))).
    ⊎_elim
    (λ (q : row ≡ i). let same : row * width ≡ i * width = ap (λ n. n * width) q in d (sym q) (omega arith))
    (λ (q : row < i). let r = row_before row i width q in omega arith)
    (eq-or-lt_of_le (ltb_no l)))
    (decide (ltb i row))

module _ (t : List ℕ) (width row column w : ℕ) where
  pub word_length : length (with_word t width row column w) ≡ length t
  unfolding with_word
  word_length = length-set t (row * width + column) w

  pub word_own : row * width + column < length t → word_at (with_word t width row column w) width row column ≡ w
  unfolding with_word
  word_own h = get_or-set_same t (row * width + column) w 0 h

  pub word_other : (i c : ℕ) → c < width → column < width → (i ≡ row → c ≡ column → ⊥) → word_at (with_word t width row column w) width i c ≡ word_at t width i c
  unfolding with_word
  word_other i c h k d = get_or-set_other t (row * width + column) (i * width + c) w 0 (apart width i row c column h k d)

  pub word_past : (k : ℕ) → row * width + column < k → get_or (with_word t width row column w) k 0 ≡ get_or t k 0
  unfolding with_word
  word_past k h = get_or-set_other t (row * width + column) k w 0 (λ e. omega arith)

module _ (t : List ℕ) (width row column : ℕ) (h : column ≤ width) (lent : row * width + width ≤ length t) where
  abbrev zeroed : List ℕ
  zeroed = framed t (zeros (width - column)) [] (row * width + column) (row * width + width)

  cleared_is : without_columns t width row column ≡ zeroed
  unfolding without_columns
  cleared_is = rw (le-leb _ _ h, le-leb _ _ lent, append-nil)

  cleared_sum : row * width + column + length (zeros (width - column)) + length {A = ℕ} [] ≡ row * width + width
  cleared_sum = omega (arith, zeros_length (width - column))

  pub cleared_length : length (without_columns t width row column) ≡ length t
  cleared_length = ap length cleared_is ∙ framed_length t (zeros (width - column)) [] (row * width + column) (row * width + width) cleared_sum lent

  cleared_at : (k : ℕ) → get_or (without_columns t width row column) k 0 ≡ get_or zeroed k 0
  cleared_at k = ap (λ l. get_or l k 0) cleared_is

  -- a column before that one, and a row before this one
  pub cleared_front : (k : ℕ) → k < row * width + column → get_or (without_columns t width row column) k 0 ≡ get_or t k 0
  cleared_front k l = cleared_at k ∙ framed_front t (zeros (width - column)) [] (row * width + column) (row * width + width) cleared_sum lent k l

  pub cleared_past_lem : (k : ℕ) → row * width + width ≤ k → get_or (without_columns t width row column) k 0 ≡ get_or t k 0
  cleared_past_lem k l = cleared_at k ∙ framed_past t (zeros (width - column)) [] (row * width + column) (row * width + width) cleared_sum lent k l

  pub cleared_column : (c : ℕ) → column ≤ c → c < width → word_at (without_columns t width row column) width row c ≡ 0
  cleared_column c l b =
      let start : row * width + c ≡ row * width + column + (c - column) = omega arith in
      cleared_at (row * width + c) ∙ ap (λ n. get_or zeroed n 0) start
      ∙ framed_first t (zeros (width - column)) [] (row * width + column) (row * width + width) cleared_sum lent (c - column) (omega (arith, zeros_length (width - column)))
      ∙ get_or-replicate (width - column) (c - column) 0 0 (omega arith)

  pub cleared_row : (i c : ℕ) → (i ≡ row → ⊥) → c < width → word_at (without_columns t width row column) width i c ≡ word_at t width i c
  cleared_row i c d k =
      ⊎_elim
      (λ (l : T (ltb i row)). let r = row_before i row width (ltb_yes l) in cleared_front (i * width + c) (omega arith))
      (λ (l : T (not (ltb i row))).
      ⊎_elim
      (λ (q : row ≡ i). absurd (d (sym q)))
      (λ (q : row < i). let r = row_before row i width q in cleared_past_lem (i * width + c) (omega arith))
      (eq-or-lt_of_le (ltb_no l)))
      (decide (ltb i row))
