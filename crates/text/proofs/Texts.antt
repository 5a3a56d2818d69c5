-- A whole text and its lines determine each other: what is spelled is read, and a text that is read is the spelling of its lines.
use Prim.Native.Nat.{ℕ, zero, suc, ◌+◌, ◌≤◌, ◌<◌}
use mathlib.Core.Path.{◌≡◌, refl, sym, ap, ap₂, ◌∙◌}
use mathlib.Core.Bool.{Bool, true, false, ◌&&◌, not, cond, false≢true}
use mathlib.Core.List.{List, [], ◌∷◌, ◌++◌, append-nil, append_assoc}
use mathlib.Core.Option.{Option, none, some}
use native.Mathlib.Omega.{arith}
use lib.Dec.{ltb, leb}
use lib.ListN.{length, get_or, drop, length-append, length-drop, get_or-eq_default}
use lib.Seq.{drop-cons}
use borrow.Author.Tests.{ltb-true, ltb-false, eqb-true, le-ltb}
use Rattle.lexical.specs.Lines.{line_in, line_ended}
use Rattle.lexical.proofs.Lines.{line_split, line_append, ended_append}
use Rattle.lexical.proofs.Runs.{both}
use Rattle.text.specs.Tokens.{dash, spell_bracket}
use Rattle.text.specs.Entries.{Entry, section_of, last_section, spell_entry, entry_in}
use Rattle.text.specs.Texts.{max_text, spell_from, spelled, no_room, Reading, taken, refused, entry_then, line_then, after_line, read_from, reading}
use Rattle.text.proofs.Entries.{sayable, entry_read, ReadFrom, entry_spelled, entry_inner}

-- every line can be said after those before it, in order, and has a row
abbrev pub fit_from : List ℕ → List Entry → List Entry → Bool
fit_from lent before [] = true
fit_from lent before (e ∷ es) =
    sayable before e && (leb (last_section 0 before) (section_of e) && (not (no_room lent before e) && fit_from lent (before ++ e ∷ []) es))

abbrev pub fit : List ℕ → List Entry → Bool
fit lent es = fit_from lent [] es

not_so : (b : Bool) → not b ≡ true → b ≡ false
not_so true h = absurd (false≢true h)
not_so false h = refl

-- a line and its byte 10, before what follows
module _ (lent : List ℕ) (n : ℕ) (before : List Entry) (e : Entry) (rest : List ℕ) (few : length before < dash) (fits : sayable before e ≡ true) where
  abbrev text : List ℕ
  text = spell_entry before e ++ 10 ∷ rest

  line_is : line_in text ≡ spell_entry before e
  line_is = line_append (spell_entry before e) rest (entry_inner before e few fits)

  after_is : after_line text ≡ rest
  after_is = ap (λ l. drop (suc (length l)) text) line_is ∙ drop_past (spell_entry before e)
    where
      drop_past : (l : List ℕ) → drop (suc (length l)) (l ++ 10 ∷ rest) ≡ rest
      drop_past [] = refl
      drop_past (x ∷ l) = drop_past l

  line_then_lem : (more : Entry → Reading) → leb (last_section 0 before) (section_of e) ≡ true → no_room lent before e ≡ false → line_then lent n before more text ≡ more e
  unfolding line_then entry_then spell_entry spell_bracket
  line_then_lem more ordered room =
      ap (λ b. cond b (entry_then lent n before more (entry_in before (line_in text))) (refused 1 n)) (ended_append (spell_entry before e) rest (entry_inner before e few fits))
      ∙ ap (λ l. entry_then lent n before more (entry_in before l)) line_is
      ∙ ap (λ o. entry_then lent n before more o) (entry_read before e few ordered fits)
      ∙ ap (λ b. cond b (refused 2 n) (more e)) room

length_one : (before : List Entry) (e : Entry) → length (before ++ e ∷ []) ≡ suc (length before)
length_one before e = length-append before (e ∷ []) ∙ omega arith

spelled_reads : (lent : List ℕ) (es : List Entry) (fuel n : ℕ) (before : List Entry) → length es ≤ fuel → length before + length es < dash → fit_from lent before es ≡ true → read_from fuel lent n before (spell_from before es) ≡ taken (before ++ es)
unfolding read_from spell_from line_then
spelled_reads lent [] zero n before h few fits = ap taken (sym (append-nil before))
spelled_reads lent [] (suc fuel) n before h few fits = ap taken (sym (append-nil before))
spelled_reads lent (e ∷ es) zero n before h few fits = absurd (omega (arith, h))
spelled_reads lent (e ∷ es) (suc fuel) n before h few fits =
    let (said, more) = both (sayable before e) _ fits in
    let (ordered, more2) = both (leb (last_section 0 before) (section_of e)) _ more in
    let (room, rest) = both (not (no_room lent before e)) _ more2 in
    let small : length before < dash = omega (arith, few) in
    line_then_lem lent n before e (spell_from (before ++ e ∷ []) es) small said _ ordered (not_so (no_room lent before e) room)
    ∙ ap (read_from fuel lent (suc n) (before ++ e ∷ [])) (after_is lent n before e (spell_from (before ++ e ∷ []) es) small said)
    ∙ spelled_reads lent es fuel (suc n) (before ++ e ∷ []) (omega (arith, h)) (omega (arith, few, length_one before e)) rest
    ∙ ap taken (append_assoc before (e ∷ []) es)

-- ---- a text that is read

-- the lines of a text after those before it
pub record Lines (lent : List ℕ) (before : List Entry) (text : List ℕ) (all : List Entry) : Type 0 where
  pub lines : List Entry
  pub together : before ++ lines ≡ all
  pub spelling : spell_from before lines ≡ text
  pub fits : fit_from lent before lines ≡ true

line_text : (text : List ℕ) → line_ended text ≡ true → line_in text ++ 10 ∷ after_line text ≡ text
line_text text h = step (ltb k (length text)) refl
  where
    k : ℕ
    k = length (line_in text)

    ten : get_or text k 0 ≡ 10
    ten = eqb-true (get_or text k 0) 10 h

    step : (b : Bool) → ltb k (length text) ≡ b → line_in text ++ 10 ∷ drop (suc k) text ≡ text
    step true q = ap (λ b. line_in text ++ b ∷ drop (suc k) text) (sym ten) ∙ ap (λ l. line_in text ++ l) (sym (drop-cons text k 0 (ltb-true k (length text) q))) ∙ sym (line_split text)
    step false q = absurd (omega (arith, ten, get_or-eq_default text 0 (ltb-false k (length text) q)))

taken_same : {k l : List Entry} → taken k ≡ taken l → k ≡ l
taken_same q = cc

abbrev is_taken : Reading → Bool
is_taken (taken es) = true
is_taken (refused m n) = false

module _ (lent : List ℕ) (n : ℕ) (before : List Entry) (more : Entry → Reading) (all : List Entry) where
  entry_taken : (o : Option Entry) → entry_then lent n before more o ≡ taken all → (e : Entry) × (o ≡ some e) × (no_room lent before e ≡ false) × (more e ≡ taken all)
  unfolding entry_then
  entry_taken none q = absurd (false≢true (ap is_taken q))
  entry_taken (some e) q = step (no_room lent before e) refl q
    where
      step : (b : Bool) → no_room lent before e ≡ b → cond b (refused 2 n) (more e) ≡ taken all → (f : Entry) × (some e ≡ some f) × (no_room lent before f ≡ false) × (more f ≡ taken all)
      step true r q = absurd (false≢true (ap is_taken q))
      step false r q = (e, refl, r, q)

  line_taken : (ended : Bool) (o : Option Entry) → cond ended (entry_then lent n before more o) (refused 1 n) ≡ taken all → (ended ≡ true) × (entry_then lent n before more o ≡ taken all)
  line_taken true o q = (refl, q)
  line_taken false o q = absurd (false≢true (ap is_taken q))

read_lines : (fuel : ℕ) (lent : List ℕ) (n : ℕ) (before : List Entry) (text : List ℕ) (all : List Entry) → length text ≤ fuel → read_from fuel lent n before text ≡ taken all → Lines lent before text all
unfolding read_from line_then spell_from
read_lines zero lent n before [] all h q = record { lines = []; together = append-nil before ∙ taken_same q; spelling = refl; fits = refl }
read_lines zero lent n before (b ∷ l) all h q = absurd (omega (arith, h))
read_lines (suc fuel) lent n before [] all h q = record { lines = []; together = append-nil before ∙ taken_same q; spelling = refl; fits = refl }
read_lines (suc fuel) lent n before (b ∷ l) all h q =
    let text = b ∷ l in
    let more : Entry → Reading = λ e. read_from fuel lent (suc n) (before ++ e ∷ []) (after_line text) in
    let (ended, q2) = line_taken lent n before more all (line_ended text) (entry_in before (line_in text)) q in
    let (e, found, room, q3) = entry_taken lent n before more all (entry_in before (line_in text)) q2 in
    let said : ReadFrom before (line_in text) e = entry_spelled before (line_in text) e found in
    let left : length (after_line text) ≤ fuel = omega (arith, h, length-drop (suc (length (line_in text))) text) in
    let rest : Lines lent (before ++ e ∷ []) (after_line text) all = read_lines fuel lent (suc n) (before ++ e ∷ []) (after_line text) all left q3 in
    record {
      lines = e ∷ rest.lines;
      together = sym (append_assoc before (e ∷ []) rest.lines) ∙ rest.together;
      spelling = ap₂ (λ s r. s ++ 10 ∷ r) said.spelling rest.spelling ∙ line_text text ended;
      fits = ap₂ (λ x y. x && y) said.fits (ap₂ (λ x y. x && y) said.ordered (ap₂ (λ x y. not x && y) room rest.fits));
    }

-- ---- the theorems

short_lines : (before es : List Entry) → length es ≤ length (spell_from before es)
unfolding spell_from
short_lines before [] = omega arith
short_lines before (e ∷ es) =
    let rest = spell_from (before ++ e ∷ []) es in
    omega (arith, short_lines (before ++ e ∷ []) es, length-append (spell_entry before e) (10 ∷ rest))

-- Read after write: the spelling of lines that can be said and have their rows is read as these lines.
pub read_after_write : (lent : List ℕ) (es : List Entry) → fit lent es ≡ true → length (spelled es) ≤ max_text → reading lent (spelled es) ≡ taken es
unfolding reading spelled
read_after_write lent es fits short =
    ap (λ b. cond b (refused 2 0) (read_from (length (spelled es)) lent 1 [] (spelled es))) (le-ltb max_text (length (spelled es)) short)
    ∙ spelled_reads lent es (length (spelled es)) 1 [] (short_lines [] es) (omega (arith, short, short_lines [] es)) fits

-- Write after read: a text that is read is the spelling of its lines, and of these only.
pub record Spelling (lent : List ℕ) (text : List ℕ) (es : List Entry) : Type 0 where
  pub spelling : spelled es ≡ text
  pub fits : fit lent es ≡ true
  pub short : length text ≤ max_text

pub write_after_read : (lent text : List ℕ) (es : List Entry) → reading lent text ≡ taken es → Spelling lent text es
unfolding reading spelled
write_after_read lent text es q = step (ltb max_text (length text)) refl q
  where
    step : (b : Bool) → ltb max_text (length text) ≡ b → cond b (refused 2 0) (read_from (length text) lent 1 [] text) ≡ taken es → Spelling lent text es
    step true r q = absurd (false≢true (ap is_taken q))
    step false r q =
        let l : Lines lent [] text es = read_lines (length text) lent 1 [] text es (omega arith) q in
        record {
          spelling = ap (spell_from []) (sym l.together) ∙ l.spelling;
          fits = ap (fit_from lent []) (sym l.together) ∙ l.fits;
          short = ltb-false max_text (length text) r;
        }

-- No two texts say the same lines.
pub one_text : (lent other text words : List ℕ) (es : List Entry) → reading lent text ≡ taken es → reading other words ≡ taken es → text ≡ words
one_text lent other text words es p q = sym (write_after_read lent text es p).spelling ∙ (write_after_read other words es q).spelling
