-- A text looked through line by line: what is left to read, after the lines before.
use Prim.Native.Nat.{ℕ, zero, suc, ◌+◌, ◌-◌, ◌*◌, min, ◌≤◌, ◌<◌}
use mathlib.Core.Path.{◌≡◌, refl, sym, ap, ap₂, subst, ◌∙◌}
use mathlib.Core.Bool.{Bool, true, false, ◌&&◌, ◌||◌, not, cond, false≢true}
use mathlib.Core.List.{List, [], ◌∷◌, ◌++◌, append-nil}
use mathlib.Core.Option.{Option as Maybe, none, some}
use Rattle.std.specs.Prelude.{Option, Some, None, Result, Ok, Err}
use Rattle.std.proofs.lemmas.Option.{none-some, same_Some}
use native.Mathlib.Numerals.{add-one}
use native.Mathlib.Omega.{arith}
use lib.Dec.{ltb, leb, eqb}
use lib.ListN.{length, get_or, drop, set, replicate, length-append, length-drop, length-set, drop_of_length-le, get_or-append}
use lib.Seq.{drop-drop, get_or-set_same, get_or-set_other, get_or-append-add}
use denote.Floats.{is_true}
use borrow.Author.Tests.{not-true, leb-true, ltb-false, eqb-true, eqb-false, lt-ltb, le-ltb}
use Rattle.meaning.specs.Limits.{max_forms}
use Rattle.meaning.proofs.Lists.{every_get_d}
use Rattle.lexical.specs.Lines.{is_inner, line_in, line_ended}
use Rattle.lexical.proofs.Runs.{both, run_within}
use Rattle.rows.specs.Rows.{word_at}
use Rattle.text.specs.Names.{type_name, relationship_name, rule_name}
use Rattle.text.specs.Bodies.{padded}
use Rattle.text.specs.Entries.{Entry, row, rule, section_of, entry_words, count_of, table_of, cells_in, last_section, entry_in}
use Rattle.tables.specs.Layouts.{section_count, limit_of}
use Rattle.text.specs.Texts.{max_text, too_long, no_room, Reading, taken, refused, entry_then, line_then, after_line, read_from, reading}
use Rattle.text.proofs.Entries.{sayable, row_fits, by_section_lem, entry_spelled}
use Rattle.text.proofs.Determined.{last_one}
use Rattle.text.proofs.Blocks.{count_append, table_append}
use Rattle.line_reader.specs.declared.line.Row.{Row}
use Rattle.tables.specs.declared.Refusal.{Refusal}
use Rattle.reading.specs.declared.look.Seen.{Seen}
use Rattle.line_reader.specs.Rows.{row_held, Follows}
use Rattle.line_reader.proofs.Flat.{value_padded}
use Rattle.reading.specs.Looks.{Shown}

-- ---- one line of a reading

reading_line : (fuel : ℕ) (lent : List ℕ) (n : ℕ) (before : List Entry) (text : List ℕ) → 0 < length text → length text ≤ fuel → read_from fuel lent n before text ≡ cond (line_ended text) (entry_then lent n before (λ e. read_from (fuel - 1) lent (suc n) (before ++ e ∷ []) (after_line text)) (entry_in before (line_in text))) (refused 1 n)
unfolding read_from line_then
reading_line fuel lent n before [] h g = absurd (omega (arith, h))
reading_line zero lent n before (b ∷ l) h g = absurd (omega (arith, g))
reading_line (suc fuel) lent n before (b ∷ l) h g =
    let one_less_lem : fuel ≡ suc fuel - 1 = omega arith in
    ap (λ f. cond (line_ended (b ∷ l)) (entry_then lent n before (λ e. read_from f lent (suc n) (before ++ e ∷ []) (after_line (b ∷ l))) (entry_in before (line_in (b ∷ l)))) (refused 1 n)) one_less_lem

reading_end : (fuel : ℕ) (lent : List ℕ) (n : ℕ) (before : List Entry) → read_from fuel lent n before [] ≡ taken before
unfolding read_from line_then
reading_end zero lent n before = refl
reading_end (suc fuel) lent n before = refl

-- ---- an entry of a line

-- every section is one of the text's, and a row of a type has two words
pub section_small : (before : List Entry) (e : Entry) → sayable before e ≡ true → section_of e < section_count
unfolding sayable section_of
section_small before (row s words) h = by_section_lem before s words (λ s. s < section_count) (λ h. omega arith) (λ h. omega arith) (λ h. omega arith) (λ h. omega arith) (λ h. omega arith) (λ h. omega arith) h
section_small before (rule t body) h = omega arith

type_wide : (before : List Entry) (e : Entry) → sayable before e ≡ true → section_of e ≡ type_name → length (entry_words e) ≡ 2
unfolding sayable section_of entry_words
type_wide before (row s words) h q = eqb-true (length words) 2 (both (eqb (length words) 2) _ (ap (λ k. row_fits before k words) (sym q) ∙ h)).0
type_wide before (rule t body) h q = refl

-- a body's size, as the row has it
long_body_lem : (before : List Entry) (e : Entry) → sayable before e ≡ true → too_long e ≡ (eqb (section_of e) rule_name && ltb max_forms (get_or (padded 10 (entry_words e)) 1 0))
unfolding sayable section_of entry_words too_long
long_body_lem before (row s words) h = by_section_lem before s words (λ s. false ≡ (eqb s rule_name && ltb max_forms (get_or (padded 10 words) 1 0))) (λ h. refl) (λ h. refl) (λ h. refl) (λ h. refl) (λ h. refl) (λ h. refl) h
long_body_lem before (rule t body) h = refl

-- the entry of a row that was held
row_entry_lem : (o : Maybe Entry) {held : Row} → Some held ≡ row_held o → (e : Entry) × (o ≡ some e) × (held.section ≡ section_of e) × (held.words ≡ padded 10 (entry_words e))
unfolding row_held
row_entry_lem none {held} q = absurd (none-some held (sym q))
row_entry_lem (some e) {held} q =
    let same = same_Some held _ q in
    (e, refl, ap (λ (r : Row). r.section) same, ap (λ (r : Row). r.words) same)

no_entry : (o : Maybe Entry) → None ≡ row_held o → o ≡ none
unfolding row_held
no_entry none q = refl
no_entry (some e) q = absurd (none-some _ q)

or_none : (a b : Bool) → (a || b) ≡ false → a ≡ false
or_none true b h = h
or_none false b h = refl

pub limit_small : (s : ℕ) → limit_of s ≤ 4096
unfolding limit_of
limit_small s = leb-true (limit_of s) 4096 (is_true (leb (limit_of s) 4096) (every_get_d (λ n. leb n 4096) (32 ∷ 256 ∷ 32 ∷ 32 ∷ 1024 ∷ 4096 ∷ 256 ∷ []) s 0 tt tt))

-- ---- what is kept

pub record Looking (text lent : List ℕ) (at n : ℕ) (counts cells : List ℕ) (section : ℕ) : Type 0 where
  pub before : List Entry
  pub fuel : ℕ
  pub left : length (drop at text) ≤ fuel
  pub same : read_from fuel lent n before (drop at text) ≡ read_from (length text) lent 1 [] text
  pub few : n ≤ at + 1
  pub counts_held : length counts ≡ section_count
  pub cells_held : length cells ≡ 32
  pub rows : (s : ℕ) → s < section_count → get_or counts s 0 ≡ count_of s before
  pub within : (s : ℕ) → s < section_count → get_or counts s 0 ≤ limit_of s
  pub wide : length (table_of type_name before) ≡ count_of type_name before * 2
  pub cells_of_lem : (t : ℕ) → t < count_of type_name before → get_or cells t 0 ≡ cells_in before t
  pub section_is : section ≡ last_section 0 before

zeros : (n s : ℕ) → get_or {A = ℕ} (replicate n 0) s 0 ≡ 0
zeros zero s = refl
zeros (suc n) zero = refl
zeros (suc n) (suc s) = zeros n s

pub look_starts : (text lent : List ℕ) → Looking text lent 0 1 (replicate section_count 0) (replicate 32 0) 0
unfolding count_of table_of last_section
look_starts text lent =
    record {
      before = [];
      fuel = length text;
      left = omega arith;
      same = refl;
      few = omega arith;
      counts_held = refl;
      cells_held = refl;
      rows = λ s h. zeros section_count s;
      within = λ s h. omega (arith, zeros section_count s);
      wide = refl;
      cells_of_lem = λ t h. absurd (omega (arith, h));
      section_is = refl;
    }

pub starts_before : (text lent : List ℕ) → (look_starts text lent).before ≡ []
unfolding look_starts
starts_before text lent = refl

-- what a reading shows
shown : (text lent : List ℕ) (r : Reading) → length text ≤ max_text → read_from (length text) lent 1 [] text ≡ r → (seen : Result Seen Refusal) → Shown r seen → Shown (reading lent text) seen
unfolding reading
shown text lent r short q seen is =
    subst (λ r. Shown r seen) (sym (ap (λ b. cond b (refused 2 0) (read_from (length text) lent 1 [] text)) (le-ltb max_text (length text) short) ∙ q)) is

abbrev is_taken : Reading → Bool
is_taken (taken es) = true
is_taken (refused m n) = false

pub taken_same : {k l : List Entry} → taken k ≡ taken l → k ≡ l
taken_same q = cc

-- a text that is short and taken
pub read_short : (text lent : List ℕ) {es : List Entry} → length text ≤ max_text → reading lent text ≡ taken es → read_from (length text) lent 1 [] text ≡ taken es
unfolding reading
read_short text lent short q = sym (ap (λ b. cond b (refused 2 0) (read_from (length text) lent 1 [] text)) (le-ltb max_text (length text) short)) ∙ q

module _ {text lent : List ℕ} {at n : ℕ} {counts cells : List ℕ} {section : ℕ} (k : Looking text lent at n counts cells section) where
  pub look_follows : Follows k.before (get_or counts type_name 0) (get_or counts relationship_name 0) (get_or counts rule_name 0) cells section
  unfolding limit_of
  look_follows =
      record {
        types_are = k.rows type_name (omega arith);
        relationships_are = k.rows relationship_name (omega arith);
        rules_are = k.rows rule_name (omega arith);
        types_few = k.within type_name (omega arith);
        cells_are = λ t h. k.cells_of_lem t (omega (arith, h, k.rows type_name (omega arith)));
        section_is = k.section_is;
      }

  pub look_done : length text ≤ at → read_from (length text) lent 1 [] text ≡ taken k.before
  look_done h = sym k.same ∙ ap (read_from k.fuel lent n k.before) (drop_of_length-le text h) ∙ reading_end k.fuel lent n k.before

  pub look_ends : length text ≤ at → length text ≤ max_text → Shown (reading lent text) (Ok (record { counts = counts; cells = cells }))
  look_ends h short = shown text lent (taken k.before) short (look_done h) _ (record { rows = k.rows; cells_of_lem = k.cells_of_lem })

  -- ---- a line

  module _ (h : at < length text) (short : length text ≤ max_text) where
    abbrev rest : List ℕ
    rest = drop at text

    some_left : 0 < length rest
    some_left = omega (arith, h, length-drop at text)

    line_fits : length (line_in rest) ≤ length text - at
    line_fits = run_within is_inner text at

    pub line_short : {line : List ℕ} → line ≡ line_in rest → length line ≤ max_text
    line_short l = omega (arith, ap length l, line_fits, short)

    pub end_within : {end : ℕ} → end ≡ at + length (line_in rest) → end ≤ length text
    end_within q = omega (arith, q, line_fits, h)

    abbrev more : Entry → Reading
    more e = read_from (k.fuel - 1) lent (suc n) (k.before ++ e ∷ []) (after_line rest)

    one_line : read_from (length text) lent 1 [] text ≡ cond (line_ended rest) (entry_then lent n k.before more (entry_in k.before (line_in rest))) (refused 1 n)
    one_line = sym k.same ∙ reading_line k.fuel lent n k.before rest some_left k.left

    refusing : (number : ℕ) → read_from (length text) lent 1 [] text ≡ refused number n → Shown (reading lent text) (Err (record { number = number; place = n }))
    refusing number q = shown text lent (refused number n) short q _ refl

    -- a text that is taken ends its line
    pub ended_fine : {es : List Entry} → read_from (length text) lent 1 [] text ≡ taken es → line_ended rest ≡ true
    ended_fine q = step (line_ended rest) _ (sym one_line ∙ q)
      where
        step : (b : Bool) (o : Reading) {es : List Entry} → cond b o (refused 1 n) ≡ taken es → b ≡ true
        step true o q = refl
        step false o q = absurd (false≢true (ap is_taken q))

    pub look_unended : {ended : Bool} → ended ≡ line_ended rest → not ended ≡ true → Shown (reading lent text) (Err (record { number = 1; place = n }))
    look_unended {ended} q g = refusing 1 (one_line ∙ ap (λ b. cond b (entry_then lent n k.before more (entry_in k.before (line_in rest))) (refused 1 n)) (sym q ∙ not-true ended g))

-- the line at a place, which is ended, and the row that it was found to say, if any
pub record LineRead {text lent : List ℕ} {at n : ℕ} {counts cells : List ℕ} {section : ℕ} (k : Looking text lent at n counts cells section) (held : Option Row) : Type 0 where
  pub inside : at < length text
  pub short : length text ≤ max_text
  pub ended : line_ended (drop at text) ≡ true
  pub held_is : held ≡ row_held (entry_in k.before (line_in (drop at text)))

pub line_read : {text lent : List ℕ} {at n : ℕ} {counts cells : List ℕ} {section : ℕ} (k : Looking text lent at n counts cells section) {held : Option Row} {line : List ℕ} → at < length text → length text ≤ max_text
    → line_ended (drop at text) ≡ true → line ≡ line_in (drop at text) → held ≡ row_held (entry_in k.before line) → LineRead k held
line_read k inside short ended l r =
    record { inside = inside; short = short; ended = ended; held_is = r ∙ ap (λ l. row_held (entry_in k.before l)) l }

module _ {text lent : List ℕ} {at n : ℕ} {counts cells : List ℕ} {section : ℕ} {k : Looking text lent at n counts cells section} where
  abbrev onwards : {held : Option Row} → LineRead k held → Entry → Reading
  onwards line = more k line.inside line.short

  at_entry : {held : Option Row} (line : LineRead k held) → read_from (length text) lent 1 [] text ≡ entry_then lent n k.before (onwards line) (entry_in k.before (line_in (drop at text)))
  at_entry line =
      one_line k line.inside line.short
      ∙ ap (λ b. cond b (entry_then lent n k.before (onwards line) (entry_in k.before (line_in (drop at text)))) (refused 1 n)) line.ended

  -- a line that says no row is refused, so a text that is taken has none
  no_row_lem : (line : LineRead k None) → read_from (length text) lent 1 [] text ≡ refused 1 n
  unfolding entry_then
  no_row_lem line = at_entry line ∙ ap (entry_then lent n k.before (onwards line)) (no_entry (entry_in k.before (line_in (drop at text))) line.held_is)

  pub look_bad : LineRead k None → Shown (reading lent text) (Err (record { number = 1; place = n }))
  look_bad line = refusing k line.inside line.short 1 (no_row_lem line)

  pub row_there : {es : List Entry} → LineRead k None → read_from (length text) lent 1 [] text ≡ taken es → ⊥
  row_there line t = false≢true (ap is_taken (sym (no_row_lem line) ∙ t))

module _ {text lent : List ℕ} {at n : ℕ} {counts cells : List ℕ} {section : ℕ} {k : Looking text lent at n counts cells section} {held : Row} (line : LineRead k (Some held)) where
  pub e : Entry
  e = (row_entry_lem (entry_in k.before (line_in (drop at text))) line.held_is).0

  pub found : entry_in k.before (line_in (drop at text)) ≡ some e
  unfolding e
  found = (row_entry_lem (entry_in k.before (line_in (drop at text))) line.held_is).1

  pub section_of_lem : held.section ≡ section_of e
  unfolding e
  section_of_lem = (row_entry_lem (entry_in k.before (line_in (drop at text))) line.held_is).2

  pub words_are : held.words ≡ padded 10 (entry_words e)
  unfolding e
  words_are = (row_entry_lem (entry_in k.before (line_in (drop at text))) line.held_is).3

  pub said : sayable k.before e ≡ true
  said = (entry_spelled k.before (line_in (drop at text)) e found).fits

  pub section_fine : held.section < section_count
  section_fine = omega (arith, section_of_lem, section_small k.before e said)

  module _ {full : Bool} (f : full ≡ (ltb (min (limit_of held.section) (get_or lent held.section 0)) (suc (get_or counts held.section 0)) || (eqb held.section rule_name && ltb max_forms (get_or held.words 1 0)))) where
    full_is : full ≡ no_room lent k.before e
    unfolding no_room
    full_is =
        f
        ∙ ap₂ (λ c w. ltb (min (limit_of held.section) (get_or lent held.section 0)) (suc c) || (eqb held.section rule_name && ltb max_forms (get_or w 1 0))) (k.rows held.section section_fine) words_are
        ∙ ap (λ s. ltb (min (limit_of s) (get_or lent s 0)) (suc (count_of s k.before)) || (eqb s rule_name && ltb max_forms (get_or (padded 10 (entry_words e)) 1 0))) section_of_lem
        ∙ ap (λ b. ltb (min (limit_of (section_of e)) (get_or lent (section_of e) 0)) (suc (count_of (section_of e) k.before)) || b) (sym (long_body_lem k.before e said))

    at_row : read_from (length text) lent 1 [] text ≡ cond full (refused 2 n) (onwards line e)
    unfolding entry_then
    at_row = at_entry line ∙ ap (entry_then lent n k.before (onwards line)) found ∙ ap (λ b. cond b (refused 2 n) (onwards line e)) (sym full_is)

    pub row_fine : {es : List Entry} → read_from (length text) lent 1 [] text ≡ taken es → full ≡ false
    row_fine t = step full _ (sym at_row ∙ t)
      where
        step : (b : Bool) (o : Reading) {es : List Entry} → cond b (refused 2 n) o ≡ taken es → b ≡ false
        step true o q = absurd (false≢true (ap is_taken q))
        step false o q = refl

    pub look_full : full ≡ true → Shown (reading lent text) (Err (record { number = 2; place = n }))
    look_full t = refusing k line.inside line.short 2 (at_row ∙ ap (λ b. cond b (refused 2 n) (onwards line e)) t)

    -- ---- a line with a row

    module _ (room : full ≡ false) where
      pub count_less : suc (get_or counts held.section 0) ≤ limit_of held.section
      count_less = let left = ltb-false (min (limit_of held.section) (get_or lent held.section 0)) (suc (get_or counts held.section 0)) (or_none _ _ (sym f ∙ room)) in omega (arith, left)

      pub count_small : get_or counts held.section 0 < 4096
      count_small = omega (arith, count_less, limit_small held.section)

      abbrev S : ℕ
      S = held.section

      abbrev next : List Entry
      next = k.before ++ e ∷ []

      here_or : (s : ℕ) → eqb S s ≡ eqb (section_of e) s
      here_or s = ap (λ k. eqb k s) section_of_lem

      count_next : (s : ℕ) → count_of s next ≡ cond (eqb S s) (count_of s k.before + 1) (count_of s k.before)
      unfolding count_of
      count_next s = count_append s k.before (e ∷ []) ∙ ap (λ b. count_of s k.before + length (cond b (e ∷ []) [])) (sym (here_or s)) ∙ step (eqb S s)
        where
          step : (b : Bool) → count_of s k.before + length (cond b (e ∷ []) []) ≡ cond b (count_of s k.before + 1) (count_of s k.before)
          step true = refl
          step false = omega arith

      table_next : table_of type_name next ≡ table_of type_name k.before ++ cond (eqb S type_name) (entry_words e) []
      unfolding table_of
      table_next = table_append type_name k.before (e ∷ []) ∙ ap (λ l. table_of type_name k.before ++ l) (ap (λ b. cond b (entry_words e ++ []) []) (sym (here_or type_name)) ∙ step (eqb S type_name))
        where
          step : (b : Bool) → cond b (entry_words e ++ []) [] ≡ cond b (entry_words e) []
          step true = append-nil (entry_words e)
          step false = refl

      count_here : (s : ℕ) → s < section_count → get_or (set counts S (get_or counts S 0 + 1)) s 0 ≡ cond (eqb S s) (get_or counts s 0 + 1) (get_or counts s 0)
      count_here t h = step (eqb S t) refl
        where
          step : (b : Bool) → eqb S t ≡ b → get_or (set counts S (get_or counts S 0 + 1)) t 0 ≡ cond b (get_or counts t 0 + 1) (get_or counts t 0)
          step true q = ap (λ k. get_or (set counts S (get_or counts S 0 + 1)) k 0) (sym (eqb-true S t q)) ∙ get_or-set_same counts S (get_or counts S 0 + 1) 0 (omega (arith, section_fine, k.counts_held)) ∙ ap (λ k. get_or counts k 0 + 1) (eqb-true S t q)
          step false q = get_or-set_other counts S t (get_or counts S 0 + 1) 0 (λ e. eqb-false S t q (sym e))

      rows_next : (s : ℕ) → s < section_count → get_or (set counts S (get_or counts S 0 + 1)) s 0 ≡ count_of s next
      rows_next t h = count_here t h ∙ ap (λ c. cond (eqb S t) (c + 1) c) (k.rows t h) ∙ sym (count_next t)

      within_next : (s : ℕ) → s < section_count → get_or (set counts S (get_or counts S 0 + 1)) s 0 ≤ limit_of s
      within_next t h = subst (λ c. c ≤ limit_of t) (sym (count_here t h)) (step (eqb S t) refl)
        where
          step : (b : Bool) → eqb S t ≡ b → cond b (get_or counts t 0 + 1) (get_or counts t 0) ≤ limit_of t
          step true q = subst (λ t. get_or counts t 0 + 1 ≤ limit_of t) (eqb-true S t q) (omega (arith, count_less))
          step false q = k.within t h

      wide_next : length (table_of type_name next) ≡ count_of type_name next * 2
      wide_next = ap length table_next ∙ length-append (table_of type_name k.before) (cond (eqb S type_name) (entry_words e) []) ∙ step (eqb S type_name) refl
        where
          step : (b : Bool) → eqb S type_name ≡ b → length (table_of type_name k.before) + length (cond b (entry_words e) []) ≡ count_of type_name next * 2
          step true q = omega (arith, k.wide, type_wide k.before e said (sym section_of_lem ∙ eqb-true S type_name q), count_next type_name ∙ ap (λ b. cond b (count_of type_name k.before + 1) (count_of type_name k.before)) q)
          step false q = omega (arith, k.wide, count_next type_name ∙ ap (λ b. cond b (count_of type_name k.before + 1) (count_of type_name k.before)) q)

      cells_next : (t : ℕ) → t < count_of type_name next → get_or (cond (eqb S type_name && ltb (get_or counts type_name 0) 32) (set cells (get_or counts type_name 0) (get_or held.words 1 0)) cells) t 0 ≡ cells_in next t
      unfolding limit_of
      cells_next t h = by_section_of (eqb S type_name) refl
        where
          table : List ℕ
          table = table_of type_name k.before

          size : ℕ
          size = get_or held.words 1 0

          N : ℕ
          N = get_or counts type_name 0

          N-is : N ≡ count_of type_name k.before
          N-is = k.rows type_name (omega arith)

          before_it : t < N → get_or cells t 0 ≡ get_or table (t * 2 + 1) 0
          before_it l = k.cells_of_lem t (omega (arith, l, N-is))

          size_is : size ≡ get_or (entry_words e) 1 0
          size_is = ap (λ w. get_or w 1 0) words_are ∙ value_padded (entry_words e) (10 - length (entry_words e)) 1

          at_type : N < 32 → (b : Bool) → eqb t N ≡ b → t < N + 1 → get_or (set cells N size) t 0 ≡ get_or (table ++ entry_words e) (t * 2 + 1) 0
          at_type few true q l =
              let same : t ≡ N = eqb-true t N q in
              let place : t * 2 + 1 ≡ length table + 1 = omega (arith, same, N-is, k.wide) in
              ap (λ i. get_or (set cells N size) i 0) same
              ∙ get_or-set_same cells N size 0 (omega (arith, few, k.cells_held))
              ∙ size_is
              ∙ sym (ap (λ i. get_or (table ++ entry_words e) i 0) place ∙ get_or-append-add table (entry_words e) 1 0)
          at_type few false q l =
              let less : t < N = omega (arith, l, eqb-false t N q) in
              get_or-set_other cells N t size 0 (eqb-false t N q)
              ∙ before_it less
              ∙ sym (get_or-append table (entry_words e) 0 (t * 2 + 1) (omega (arith, less, N-is, k.wide)))

          limit_here : limit_of type_name ≡ 32
          limit_here = refl

          by_section_of : (b : Bool) → eqb S type_name ≡ b → get_or (cond (b && ltb N 32) (set cells N size) cells) t 0 ≡ cells_in next t
          by_section_of true q =
              let few : N < 32 = omega (arith, subst (λ i. suc (get_or counts i 0) ≤ limit_of i) (eqb-true S type_name q) count_less, limit_here) in
              let one_more : count_of type_name next ≡ count_of type_name k.before + 1 = count_next type_name ∙ ap (λ b. cond b (count_of type_name k.before + 1) (count_of type_name k.before)) q in
              ap (λ b. get_or (cond b (set cells N size) cells) t 0) (lt-ltb N 32 few)
              ∙ at_type few (eqb t N) refl (omega (arith, h, one_more, N-is))
              ∙ sym (ap (λ l. word_at l 2 t 1) (table_next ∙ ap (λ b. table ++ cond b (entry_words e) []) q))
          by_section_of false q =
              let none_more : count_of type_name next ≡ count_of type_name k.before = count_next type_name ∙ ap (λ b. cond b (count_of type_name k.before + 1) (count_of type_name k.before)) q in
              before_it (omega (arith, h, none_more, N-is))
              ∙ sym (ap (λ l. word_at l 2 t 1) (table_next ∙ ap (λ b. table ++ cond b (entry_words e) []) q ∙ append-nil table))

      goes_on : {after : ℕ} → after ≡ at + length (line_in (drop at text)) + 1 → Looking text lent after (n + 1) (set counts S (get_or counts S 0 + 1)) (cond (eqb S type_name && ltb (get_or counts type_name 0) 32) (set cells (get_or counts type_name 0) (get_or held.words 1 0)) cells) S
      goes_on {after} a =
          let place : after ≡ at + suc (length (line_in (drop at text))) = omega (arith, a) in
          let there : drop after text ≡ after_line (drop at text) = ap (λ m. drop m text) place ∙ sym (drop-drop (suc (length (line_in (drop at text)))) at text) in
          record {
            before = next;
            fuel = k.fuel - 1;
            left = omega (arith, a, line.inside, k.left, length-drop after text, length-drop at text);
            same = ap₂ (λ m t. read_from (k.fuel - 1) lent m next t) (add-one n) there ∙ sym (at_row ∙ ap (λ b. cond b (refused 2 n) (onwards line e)) room);
            few = omega (arith, a, k.few);
            counts_held = length-set counts S (get_or counts S 0 + 1) ∙ k.counts_held;
            cells_held = step (eqb S type_name && ltb (get_or counts type_name 0) 32);
            rows = rows_next;
            within = within_next;
            wide = wide_next;
            cells_of_lem = cells_next;
            section_is = section_of_lem ∙ sym (last_one 0 k.before e);
          }
        where
          step : (b : Bool) → length (cond b (set cells (get_or counts type_name 0) (get_or held.words 1 0)) cells) ≡ 32
          step true = length-set cells (get_or counts type_name 0) (get_or held.words 1 0) ∙ k.cells_held
          step false = k.cells_held

      pub look_goes_on : {end : ℕ} {more_counts more_cells : List ℕ} → end ≡ at + length (line_in (drop at text)) → more_counts ≡ set counts S (get_or counts S 0 + 1) → more_cells ≡ cond (eqb S type_name && ltb (get_or counts type_name 0) 32) (set cells (get_or counts type_name 0) (get_or held.words 1 0)) cells → Looking text lent (end + 1) (n + 1) more_counts more_cells S
      look_goes_on {end} {more_counts} {more_cells} a c d =
          subst (λ l. Looking text lent (end + 1) (n + 1) l more_cells S) (sym c)
          (subst (λ l. Looking text lent (end + 1) (n + 1) (set counts S (get_or counts S 0 + 1)) l S) (sym d) (goes_on {after = end + 1} (ap (λ m. m + 1) a)))

      -- the same, with the lines before it
      pub look_with : {end : ℕ} {more_counts more_cells : List ℕ} → end ≡ at + length (line_in (drop at text)) → more_counts ≡ set counts S (get_or counts S 0 + 1) → more_cells ≡ cond (eqb S type_name && ltb (get_or counts type_name 0) 32) (set cells (get_or counts type_name 0) (get_or held.words 1 0)) cells → (m : Looking text lent (end + 1) (n + 1) more_counts more_cells S) × (m.before ≡ next)
      unfolding goes_on
      look_with {end} {more_counts} {more_cells} a c d =
          subst (λ l. (m : Looking text lent (end + 1) (n + 1) l more_cells S) × (m.before ≡ next)) (sym c)
          (subst (λ l. (m : Looking text lent (end + 1) (n + 1) (set counts S (get_or counts S 0 + 1)) l S) × (m.before ≡ next)) (sym d) (goes_on {after = end + 1} (ap (λ m. m + 1) a), refl))
