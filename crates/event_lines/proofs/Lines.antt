-- The line of an event list, by the words of its event types.
use Prim.Native.Nat.{ℕ, zero, suc, ◌+◌, ◌*◌, ◌^◌, ◌≤◌, ◌<◌}
use mathlib.Core.Path.{◌≡◌, refl, sym, ap, ◌∙◌}
use mathlib.Core.Bool.{cond}
use mathlib.Core.List.{List, [], ◌∷◌, ◌++◌, append_assoc, flat_map}
use native.Mathlib.Nat.{add-zero}
use native.Mathlib.Omega.{arith}
use borrow.Author.Tests.{eq-eqb, ne_eqb}
use lib.Dec.{lit<, lit≤}
use lib.ListN.{length, get_or, length-append}
use Rattle.meaning.specs.EventList.{EventType, insert_of, delete_of, set_of, join_of, part_of, special_of, general_of, event_type_words}
use Rattle.rows.specs.Rows.{word_at, in_front}
use Rattle.lexical.specs.Decimals.{digits_of}
use Rattle.text.specs.Names.{names, name_of, first_event}
use Rattle.printing.specs.Lines.{spaced}
use Rattle.event_lines.specs.Events.{events_name, kind_shown, event_shown, events_shown, events_line, cell_shown, event_type_of, event_type_in, event_types_in, room_for_events}
use Rattle.printing.proofs.Numbers.{ten_digits, five_digits}
use Rattle.printing.proofs.Lines.{spaced_one, spaced_size}
use Rattle.printing.proofs.Rows.{flat_more, flat_short, rows_back, each_row}

-- ---- an event type

by_kind : (kind x cell : ℕ) → kind < 7 → kind_shown kind (x ∷ cell_shown kind cell) ≡ event_shown (event_type_of kind x cell)
unfolding event_shown cell_shown event_type_of
by_kind zero x cell h = refl
by_kind (suc zero) x cell h = refl
by_kind (suc (suc zero)) x cell h = refl
by_kind (suc (suc (suc zero))) x cell h = refl
by_kind (suc (suc (suc (suc zero)))) x cell h = refl
by_kind (suc (suc (suc (suc (suc zero))))) x cell h = refl
by_kind (suc (suc (suc (suc (suc (suc zero)))))) x cell h = refl
by_kind (suc (suc (suc (suc (suc (suc (suc kind))))))) x cell h = absurd (omega arith)

abbrev name_shown : ℕ → List ℕ
name_shown kind = 32 ∷ name_of (first_event + kind)

-- a set with its cell, and any other without
pub set_shown : (kind x cell : ℕ) → kind < 7 → kind ≡ 2 → (name_shown kind ++ 32 ∷ digits_of x) ++ 32 ∷ digits_of cell ≡ event_shown (event_type_of kind x cell)
unfolding kind_shown cell_shown spaced
set_shown kind x cell h e =
    append_assoc (name_shown kind) (32 ∷ digits_of x) (32 ∷ digits_of cell)
    ∙ ap (λ l. name_shown kind ++ ((32 ∷ digits_of x) ++ l)) (spaced_one cell)
    ∙ ap (λ b. name_shown kind ++ spaced (x ∷ cond b (cell ∷ []) [])) (sym (eq-eqb kind 2 e))
    ∙ by_kind kind x cell h

pub other_shown : (kind x cell : ℕ) → kind < 7 → (kind ≡ 2 → ⊥) → name_shown kind ++ 32 ∷ digits_of x ≡ event_shown (event_type_of kind x cell)
unfolding kind_shown cell_shown
other_shown kind x cell h n =
    ap (λ l. name_shown kind ++ l) (spaced_one x)
    ∙ ap (λ b. name_shown kind ++ spaced (x ∷ cond b (cell ∷ []) [])) (sym (ne_eqb kind 2 n))
    ∙ by_kind kind x cell h

-- ---- the event types of a list

module _ (list : List ℕ) where
  pub no_events : events_shown (event_types_in list 0) ≡ []
  unfolding events_shown flat_map
  no_events = refl

  -- a turn of the loop
  pub more_events : (i : ℕ) {kind x cell : ℕ} → kind ≡ get_or list (i * 3) 0 → x ≡ get_or list (i * 3 + 1) 0 → cell ≡ get_or list (i * 3 + 2) 0
      → events_shown (event_types_in list i) ++ event_shown (event_type_of kind x cell) ≡ events_shown (event_types_in list (i + 1))
  unfolding events_shown
  more_events i p q r =
      let first = p ∙ ap (λ k. get_or list k 0) (sym (add-zero (i * 3))) in
      ap (λ l. events_shown (event_types_in list i) ++ l) (λ j. event_shown (event_type_of (first j) (q j) (r j))) ∙ flat_more event_shown (event_type_in list) i

pub kind_known : (list : List ℕ) (i : ℕ) {kind : ℕ} → kind ≡ get_or list (i * 3) 0 → word_at list 3 i 0 < 7 → kind < 7
kind_known list i e h = omega (arith, ap (λ k. get_or list k 0) (add-zero (i * 3)))

-- ---- the line

pub line_is : (rule : ℕ) (es : List EventType) → ((events_name ++ 32 ∷ digits_of rule) ++ events_shown es) ++ 10 ∷ [] ≡ events_line rule es
unfolding events_line
line_is rule es = ap (λ l. ((events_name ++ l) ++ events_shown es) ++ 10 ∷ []) (spaced_one rule)

-- ---- how long it is

-- a set's name is short, and the others name no cell
name_size : (kind cell : ℕ) → kind < 7 → length (digits_of cell) ≤ 5 → length (name_of (first_event + kind)) + length (spaced (cell_shown kind cell)) ≤ 9
unfolding names cell_shown spaced
name_size zero cell h d = lit≤ tt
name_size (suc zero) cell h d = lit≤ tt
name_size (suc (suc zero)) cell h d = omega (arith, length-append (32 ∷ digits_of cell) [])
name_size (suc (suc (suc zero))) cell h d = lit≤ tt
name_size (suc (suc (suc (suc zero)))) cell h d = lit≤ tt
name_size (suc (suc (suc (suc (suc zero))))) cell h d = lit≤ tt
name_size (suc (suc (suc (suc (suc (suc zero)))))) cell h d = lit≤ tt
name_size (suc (suc (suc (suc (suc (suc (suc kind))))))) cell h d = absurd (omega arith)

event_size : (kind x cell : ℕ) → kind < 7 → x < 2 ^ 16 → cell < 2 ^ 16 → length (event_shown (event_type_of kind x cell)) ≤ 16
unfolding kind_shown
event_size kind x cell h n c =
    let cells : List ℕ = cell_shown kind cell in
    omega (
      arith,
      ap length (by_kind kind x cell h),
      length-append (name_shown kind) (spaced (x ∷ cells)),
      spaced_size x cells,
      five_digits x n,
      name_size kind cell h (five_digits cell c),
    )

module _ (rule : ℕ) (list : List ℕ) (fits : rule < 2 ^ 32) (words : (k : ℕ) → get_or list k 0 < 2 ^ 16) where
  pub line_long : (count : ℕ) → ((i : ℕ) → i < count → word_at list 3 i 0 < 7) → length (events_line rule (event_types_in list count)) ≤ room_for_events count
  unfolding events_shown
  line_long count known =
      let es = event_types_in list count in
      let first : List ℕ = events_name ++ 32 ∷ digits_of rule in
      omega (
        arith,
        ap length (line_is rule es),
        length-append (first ++ events_shown es) (10 ∷ []),
        length-append first (events_shown es),
        length-append events_name (32 ∷ digits_of rule),
        ten_digits rule fits,
        flat_short event_shown (event_type_in list) 16 count
            (λ i h. event_size (word_at list 3 i 0) (word_at list 3 i 1) (word_at list 3 i 2) (known i h) (words (i * 3 + 1)) (words (i * 3 + 2))),
      )

-- ---- event types whose words are at the front of a list are its first event types

three : (e : EventType) → length (event_type_words e) ≡ 3
unfolding event_type_words
three (insert_of t) = refl
three (delete_of t) = refl
three (set_of t k) = refl
three (join_of r) = refl
three (part_of r) = refl
three (special_of t) = refl
three (general_of t) = refl

type_back : (e : EventType) → event_type_of (get_or (event_type_words e) 0 0) (get_or (event_type_words e) 1 0) (get_or (event_type_words e) 2 0) ≡ e
unfolding event_type_words event_type_of
type_back (insert_of t) = refl
type_back (delete_of t) = refl
type_back (set_of t k) = refl
type_back (join_of r) = refl
type_back (part_of r) = refl
type_back (special_of t) = refl
type_back (general_of t) = refl

type_kind : (e : EventType) → get_or (event_type_words e) 0 0 < 7
unfolding event_type_words
type_kind (insert_of t) = lit< tt
type_kind (delete_of t) = lit< tt
type_kind (set_of t k) = lit< tt
type_kind (join_of r) = lit< tt
type_kind (part_of r) = lit< tt
type_kind (special_of t) = lit< tt
type_kind (general_of t) = lit< tt

module _ (es : List EventType) (list before : List ℕ) (e : list ≡ in_front (flat_map event_type_words es) before) where
  pub types_back : event_types_in list (length es) ≡ es
  types_back =
      rows_back 3 event_type_words three list (event_type_in list)
      (λ j e s. (λ k. event_type_of (s 0 (lit< tt) k) (s 1 (lit< tt) k) (s 2 (lit< tt) k)) ∙ type_back e)
      es before e

  pub kinds_known : (i : ℕ) → i < length es → word_at list 3 i 0 < 7
  kinds_known = each_row 3 event_type_words three list (λ i. word_at list 3 i 0 < 7) (λ j e s. omega (arith, s 0 (lit< tt), type_kind e)) es before e
