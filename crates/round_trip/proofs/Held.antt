-- The tables of lines that were read: so many words for each line, all of 32 bits, and each body in its 64 rows with zeros after it. So tables
-- that hold the same book, register and batch are of the same lines.
use Prim.Native.Nat.{ℕ, zero, suc, ◌+◌, ◌*◌, ◌-◌, ◌^◌, min, ◌≤◌, ◌<◌}
use mathlib.Core.Path.{◌≡◌, refl, sym, ap, ap₂, subst, ◌∙◌}
use mathlib.Core.Logic.{◌≢◌}
use mathlib.Core.Bool.{Bool, true, false, ◌&&◌, ◌||◌, not, cond, false≢true}
use mathlib.Core.List.{List, [], ◌∷◌, ◌++◌}
use mathlib.Core.Option.{Option, none, some, none-ne-some, map}
use native.Mathlib.Omega.{arith}
use lib.Dec.{T, ltb, leb, eqb}
use lib.ListN.{length, get_or, get_elem?, replicate, length-append, get_or-append, get_or-eq_default}
use lib.Seq.{get_or-append-add}
use denote.Floats.{passes}
use borrow.Author.Tests.{ltb-true, ltb-false, eqb-true, lt-ltb, ne_eqb}
use mir.Facts.{ltb_yes}
use Rattle.meaning.specs.Lists.{every, keep}
use Rattle.meaning.specs.Limits.{max_forms}
use Rattle.meaning.specs.Answers.{refusal}
use Rattle.meaning.proofs.Lists.{every_get_d, every_append, every_replicate}
use Rattle.meaning.proofs.Agreement.{checked}
use Rattle.rows.specs.Rows.{word_at}
use Rattle.rows.proofs.Zeros.{past_zero}
use Rattle.tables.specs.Layouts.{section_count, limit_of, width_of}
use Rattle.tables.specs.Codes.{Operator, operators, operator_of, shape_of}
use Rattle.tables.specs.Columns.{no_event, event_row, book_of, register_in, batch_in}
use Rattle.tables.proofs.Determined.{Clean, CleanBodies, types_determined, floors_determined, relationships_determined, objects_determined, links_determined, events_determined, rules_determined}
use Rattle.lexical.proofs.Runs.{both}
use Rattle.checks.proofs.Given.{bodies_whole}
use Rattle.text.specs.Names.{rule_name}
use Rattle.text.specs.Tokens.{dash, is_word}
use Rattle.text.specs.Bodies as Bodies
use Rattle.text.specs.Bodies.{Written, Need, need_of, need, well_written, forms_in, padded, row_of, rows_of, meets}
use Rattle.text.specs.Entries.{Entry, row, rule, event_section, section_of, entry_words, is_of, count_of, table_of, bodies_of, last_section}
use Rattle.text.specs.Texts.{too_long, no_room}
use Rattle.text.proofs.Bodies.{meets_need, well_both, rows_length}
use Rattle.text.proofs.Entries.{row_fits, sayable, by_section_lem, padded_length}
use Rattle.text.proofs.Texts.{fit_from}
use Rattle.text.proofs.Determined.{Same}
use Rattle.reader.specs.Reads.{counts_of}
use Rattle.round_trip.proofs.Models.{filled_word, exact}

-- ---- what a line holds

pub record GoodRow (q : ℕ) (words : List ℕ) : Type 0 where
  pub below : q < section_count
  pub other : eqb q rule_name ≡ false
  pub wide : length words ≡ width_of q
  pub small : T (every is_word words)

pub record GoodRule (context : ℕ) (body : Written) : Type 0 where
  pub small : T (is_word context)
  pub well : well_written body ≡ true
  pub few : forms_in body ≤ max_forms

abbrev pub GoodLine : Entry → Type 0
GoodLine (row q words) = GoodRow q words
GoodLine (rule t body) = GoodRule t body

abbrev pub Good : List Entry → Type 0
Good [] = Unit
Good (e ∷ es) = GoodLine e × Good es

two_words : (words : List ℕ) → length words ≡ 2 → T (is_word (get_or words 0 0)) → T (is_word (get_or words 1 0)) → T (every is_word words)
two_words [] e a b = absurd (omega (arith, e))
two_words (x ∷ []) e a b = absurd (omega (arith, e))
two_words (x ∷ y ∷ []) e a b = every_append is_word (x ∷ []) (y ∷ []) (every_append is_word (x ∷ []) [] (every_replicate is_word 1 x a) tt) (every_replicate is_word 1 y b)
two_words (x ∷ y ∷ z ∷ words) e a b = absurd (omega (arith, e))

-- a parent's word: a number below 2^31, or the word for none
parent_word_lem : (w : ℕ) → (ltb w (2 ^ 31) || eqb w (2 ^ 32 - 1)) ≡ true → T (is_word w)
parent_word_lem w h = step (ltb w (2 ^ 31)) refl h
  where
    step : (b : Bool) → ltb w (2 ^ 31) ≡ b → (b || eqb w (2 ^ 32 - 1)) ≡ true → T (is_word w)
    step true q h = passes _ (lt-ltb w dash (omega (arith, ltb-true w (2 ^ 31) q)))
    step false q h = passes _ (lt-ltb w dash (omega (arith, eqb-true w (2 ^ 32 - 1) h)))

-- the length of a row's words, and what else is asked of them
sized : (words : List ℕ) (k : ℕ) (more : Bool) → (eqb (length words) k && more) ≡ true → (length words ≡ k) × (more ≡ true)
sized words k more h = let (long, rest) = both (eqb (length words) k) more h in (eqb-true (length words) k long, rest)

good_row_lem : (before : List Entry) (q : ℕ) (words : List ℕ) → row_fits before q words ≡ true → GoodRow q words
unfolding width_of
good_row_lem before q words h =
    by_section_lem before q words (λ q. GoodRow q words)
    (λ h.
    let (long, rest) = sized words 2 _ h in
    let (parent, cells) = both (ltb (get_or words 0 0) (2 ^ 31) || eqb (get_or words 0 0) (2 ^ 32 - 1)) _ rest in
    record { below = omega arith; other = refl; wide = long; small = two_words words long (parent_word_lem (get_or words 0 0) parent) (passes _ cells) })
    (λ h. let (long, rest) = sized words 2 _ h in record { below = omega arith; other = refl; wide = long; small = passes _ rest })
    (λ h. let (long, rest) = sized words 2 _ h in record { below = omega arith; other = refl; wide = long; small = passes _ rest })
    (λ h.
    let (long, rest) = sized words 10 _ h in
    record { below = omega arith; other = refl; wide = long; small = passes _ (both (every is_word words) _ rest).0 })
    (λ h. let (long, rest) = sized words 3 _ h in record { below = omega arith; other = refl; wide = long; small = passes _ rest })
    (λ h.
    let (long, rest) = sized words 4 _ h in
    record { below = omega arith; other = refl; wide = long; small = passes _ (both (every is_word words) _ rest).0 })
    h

not_over : (full over : Bool) → not (full || over) ≡ true → over ≡ false
not_over true over h = absurd (false≢true h)
not_over false true h = absurd (false≢true h)
not_over false false h = refl

pub fit_good : (lent : List ℕ) (before es : List Entry) → fit_from lent before es ≡ true → Good es
unfolding sayable no_room too_long section_of
fit_good lent before [] h = tt
fit_good lent before (row q words ∷ es) h =
    let e = row q words in
    let (said, more) = both (sayable before e) _ h in
    let (ordered, more2) = both (leb (last_section 0 before) (section_of e)) _ more in
    let (room, rest) = both (not (no_room lent before e)) _ more2 in
    (good_row_lem before q words said, fit_good lent (before ++ e ∷ []) es rest)
fit_good lent before (rule t body ∷ es) h =
    let e = rule t body in
    let (said, more) = both (sayable before e) _ h in
    let (ordered, more2) = both (leb (last_section 0 before) (section_of e)) _ more in
    let (room, rest) = both (not (no_room lent before e)) _ more2 in
    let (context, well) = both (is_word t) (well_written body) said in
    let full = ltb (min (limit_of rule_name) (get_or lent rule_name 0)) (suc (count_of rule_name before)) in (
      record { small = passes _ context; well = well; few = ltb-false max_forms (forms_in body) (not_over full (ltb max_forms (forms_in body)) room) },
      fit_good lent (before ++ e ∷ []) es rest,
    )

-- ---- a line's words

line_below : (e : Entry) → GoodLine e → section_of e < section_count
unfolding section_of
line_below (row q words) g = g.below
line_below (rule t body) g = omega arith

line_wide : (e : Entry) → GoodLine e → length (entry_words e) ≡ width_of (section_of e)
unfolding section_of entry_words width_of
line_wide (row q words) g = g.wide
line_wide (rule t body) g = refl

line_small : (e : Entry) → GoodLine e → T (every is_word (entry_words e))
unfolding entry_words
line_small (row q words) g = g.small
line_small (rule t body) g = two_words (t ∷ forms_in body ∷ []) refl g.small (passes _ (lt-ltb (forms_in body) dash (omega (arith, g.few))))

-- ---- the tables

module _ (q : ℕ) where
  table_length : (es : List Entry) → Good es → length (table_of q es) ≡ count_of q es * width_of q
  unfolding table_of count_of
  table_length [] g = let none_there : 0 ≡ 0 * width_of q = omega arith in none_there
  table_length (e ∷ es) g = step (eqb (section_of e) q) refl (table_length es g.1)
    where
      step : (b : Bool) → eqb (section_of e) q ≡ b → length (table_of q es) ≡ length (keep (is_of q) es) * width_of q
          → length (cond b (entry_words e ++ table_of q es) (table_of q es)) ≡ length (cond b (e ∷ keep (is_of q) es) (keep (is_of q) es)) * width_of q
      step true h rest =
          let one : length (entry_words e) ≡ width_of q = line_wide e g.0 ∙ ap width_of (eqb-true (section_of e) q h) in
          let more : width_of q + length (keep (is_of q) es) * width_of q ≡ suc (length (keep (is_of q) es)) * width_of q = omega arith in
          length-append (entry_words e) (table_of q es) ∙ ap₂ (λ x y. x + y) one rest ∙ more
      step false h rest = rest

  table_small : (es : List Entry) → Good es → T (every is_word (table_of q es))
  unfolding table_of
  table_small [] g = tt
  table_small (e ∷ es) g = step (is_of q e) (table_small es g.1)
    where
      step : (b : Bool) → T (every is_word (table_of q es)) → T (every is_word (cond b (entry_words e ++ table_of q es) (table_of q es)))
      step true rest = every_append is_word (entry_words e) (table_of q es) (line_small e g.0) rest
      step false rest = rest

  -- no line is of a section that is not there
  none_past : (es : List Entry) → Good es → section_count ≤ q → count_of q es ≡ 0
  unfolding count_of
  none_past [] g h = refl
  none_past (e ∷ es) g h =
      let other : eqb (section_of e) q ≡ false = ne_eqb (section_of e) q (λ k. omega (arith, line_below e g.0, h, k)) in
      rw other (none_past es g.1 h)

  table_words : (es : List Entry) → Good es → (k : ℕ) → get_or (table_of q es) k 0 < 2 ^ 32
  table_words es g k = ltb_yes (every_get_d is_word (table_of q es) k 0 (table_small es g) tt)

  pub table_clean : (es : List Entry) → Good es → Clean (width_of q) (count_of q es) (table_of q es)
  table_clean es g =
      record {
        words = table_words es g;
        unused = past_zero (table_of q es) (width_of q) (count_of q es)
            (λ k h. get_or-eq_default (table_of q es) 0 (omega (arith, h, table_length es g)));
      }

-- ---- the bodies

element_below : {A : Type 0} (l : List A) (k : ℕ) (x : A) → get_elem? l k ≡ some x → k < length l
element_below [] k x e = absurd (none-ne-some x e)
element_below (y ∷ l) zero x e = omega arith
element_below (y ∷ l) (suc k) x e = omega (arith, element_below l k x e)

code_small : (k : ℕ) (n : Need) → need k ≡ some n → T (is_word k)
unfolding need operator_of operators
code_small k n e = passes _ (lt-ltb k dash (below (get_elem? operators k) refl e))
  where
    below : (o : Option Operator) → get_elem? operators k ≡ o → map (λ p. need_of (shape_of p)) o ≡ some n → k < 2 ^ 32
    below none q e = absurd (none-ne-some n e)
    below (some o) q e = omega (arith, element_below operators k o q)

row_small : (k p : ℕ) (fs : List ℕ) → meets k p fs ≡ true → T (every is_word (row_of k fs))
unfolding row_of
row_small k p fs h =
    let (known, words) = meets_need k p fs h in
    every_append is_word (k ∷ []) (padded 3 fs) (every_replicate is_word 1 k (code_small k _ known))
    (every_append is_word fs (replicate (3 - length fs) 0) (passes _ words) (every_replicate is_word (3 - length fs) 0 tt))

rows_small : (w : Written) → well_written w ≡ true → T (every is_word (rows_of w))
unfolding well_written rows_of
rows_small (Bodies.leaf k fs) h = row_small k 0 fs h
rows_small (Bodies.over k a fs) h =
    let (own, first) = both (meets k 1 fs) (well_written a) h in
    every_append is_word (rows_of a) (row_of k fs) (rows_small a first) (row_small k 1 fs own)
rows_small (Bodies.both k a b fs) h =
    let (own, first, second) = well_both k a b fs h in
    every_append is_word (rows_of a ++ rows_of b) (row_of k fs)
    (every_append is_word (rows_of a) (rows_of b) (rows_small a first) (rows_small b second)) (row_small k 2 fs own)

-- a rule's rows, at most 64
rows_few : {t : ℕ} {body : Written} → GoodRule t body → length (rows_of body) ≤ 256
rows_few {t} {body} g = omega (arith, rows_length body g.well, g.few)

slot_length : {t : ℕ} {body : Written} → GoodRule t body → length (padded 256 (rows_of body)) ≡ 256
slot_length {t} {body} g = padded_length 256 (rows_of body) (rows_few g)

-- a line that is no rule's counts for none, and adds nothing to the rules' table
other_count : (q : ℕ) (words : List ℕ) (es : List Entry) → GoodRow q words → count_of rule_name (row q words ∷ es) ≡ count_of rule_name es
unfolding count_of section_of
other_count q words es g = rw g.other

other_table : (q : ℕ) (words : List ℕ) (es : List Entry) → GoodRow q words → table_of rule_name (row q words ∷ es) ≡ table_of rule_name es
unfolding table_of section_of
other_table q words es g = rw g.other

rule_count : (t : ℕ) (body : Written) (es : List Entry) → count_of rule_name (rule t body ∷ es) ≡ suc (count_of rule_name es)
unfolding count_of section_of
rule_count t body es = refl

rule_table_lem : (t : ℕ) (body : Written) (es : List Entry) → table_of rule_name (rule t body ∷ es) ≡ t ∷ forms_in body ∷ table_of rule_name es
unfolding table_of section_of entry_words
rule_table_lem t body es = refl

pub bodies_length : (es : List Entry) → Good es → length (bodies_of es) ≡ count_of rule_name es * 256
unfolding bodies_of count_of
bodies_length [] g = refl
bodies_length (row q words ∷ es) g = bodies_length es g.1 ∙ ap (λ k. k * 256) (sym (other_count q words es g.0))
bodies_length (rule t body ∷ es) g =
    omega (
      arith,
      length-append (padded 256 (rows_of body)) (bodies_of es),
      slot_length g.0,
      bodies_length es g.1,
      rule_count t body es,
    )

bodies_small : (es : List Entry) → Good es → T (every is_word (bodies_of es))
unfolding bodies_of
bodies_small [] g = tt
bodies_small (row q words ∷ es) g = bodies_small es g.1
bodies_small (rule t body ∷ es) g =
    let zeros = 256 - length (rows_of body) in
    every_append is_word (padded 256 (rows_of body)) (bodies_of es)
    (every_append is_word (rows_of body) (replicate zeros 0) (rows_small body g.0.well) (every_replicate is_word zeros 0 tt))
    (bodies_small es g.1)

-- after a body's rows its slot has zeros
rest_zero : (es : List Entry) → Good es → (i j : ℕ) → i < count_of rule_name es → word_at (table_of rule_name es) 2 i 1 * 4 ≤ j → j < 256
    → get_or (bodies_of es) (i * 256 + j) 0 ≡ 0
unfolding bodies_of count_of
rest_zero [] g i j h past small = absurd (omega (arith, h))
rest_zero (row q words ∷ es) g i j h past small =
    rest_zero es g.1 i j (omega (arith, h, other_count q words es g.0))
    (subst (λ l. word_at l 2 i 1 * 4 ≤ j) (other_table q words es g.0) past) small
rest_zero (rule t body ∷ es) g zero j h past small =
    let rows = rows_of body in
    let here : zero * 256 + j ≡ j = omega arith in
    let long : length rows ≤ j = omega (arith, rows_length body g.0.well, subst (λ l. word_at l 2 zero 1 * 4 ≤ j) (rule_table_lem t body es) past) in
    ap (λ k. get_or (padded 256 rows ++ bodies_of es) k 0) here
    ∙ get_or-append (padded 256 rows) (bodies_of es) 0 j (omega (arith, slot_length g.0, small))
    ∙ filled_word 256 rows j
    ∙ get_or-eq_default rows 0 long
rest_zero (rule t body ∷ es) g (suc i) j h past small =
    let slot = padded 256 (rows_of body) in
    let there : suc i * 256 + j ≡ length slot + (i * 256 + j) = omega (arith, slot_length g.0) in
    let next : suc i * 2 + 1 ≡ suc (suc (i * 2 + 1)) = omega arith in
    let left : word_at (table_of rule_name es) 2 i 1 * 4 ≤ j =
    subst (λ k. get_or (t ∷ forms_in body ∷ table_of rule_name es) k 0 * 4 ≤ j) next (subst (λ l. word_at l 2 (suc i) 1 * 4 ≤ j) (rule_table_lem t body es) past) in
    ap (λ k. get_or (slot ++ bodies_of es) k 0) there
    ∙ get_or-append-add slot (bodies_of es) (i * 256 + j) 0
    ∙ rest_zero es g.1 i j (omega (arith, h, rule_count t body es)) left small

bodies_clean : (es : List Entry) → Good es → refusal (book_of (counts_of es) (exact es)) (register_in (counts_of es) (exact es)) ≡ none
    → CleanBodies (count_of rule_name es) (table_of rule_name es) (bodies_of es)
bodies_clean es g clear =
    record {
      words = λ k. ltb_yes (every_get_d is_word (bodies_of es) k 0 (bodies_small es g) tt);
      whole = bodies_whole (counts_of es) (exact es) (checked _ _ clear);
      rest = rest_zero es g;
      past = λ k h. get_or-eq_default (bodies_of es) 0 (omega (arith, h, bodies_length es g));
    }

-- ---- the same book, register and batch: the same tables

empty : {A : Type 0} (l : List A) → length l ≡ 0 → l ≡ []
empty [] e = refl
empty (x ∷ l) e = absurd (omega (arith, e))

module _ (es fs : List Entry) (g : Good es) (h : Good fs) (counts : counts_of es ≡ counts_of fs)
    (book : book_of (counts_of es) (exact es) ≡ book_of (counts_of es) (exact fs))
    (register : register_in (counts_of es) (exact es) ≡ register_in (counts_of es) (exact fs))
    (batch : batch_in (counts_of es) (exact es) ≡ batch_in (counts_of es) (exact fs))
    (clear : refusal (book_of (counts_of es) (exact es)) (register_in (counts_of es) (exact es)) ≡ none)
    (clear_too : refusal (book_of (counts_of fs) (exact fs)) (register_in (counts_of fs) (exact fs)) ≡ none)
    (known : (i : ℕ) → i < count_of event_section es → event_row (table_of event_section es) i ≢ no_event) where
  same_count : (q : ℕ) → count_of q es ≡ count_of q fs
  same_count zero = ap (λ n. n.types) counts
  same_count (suc zero) = ap (λ n. n.floors) counts
  same_count (suc (suc zero)) = ap (λ n. n.relationships) counts
  same_count (suc (suc (suc zero))) = ap (λ n. n.rules) counts
  same_count (suc (suc (suc (suc zero)))) = ap (λ n. n.objects) counts
  same_count (suc (suc (suc (suc (suc zero))))) = ap (λ n. n.links) counts
  same_count (suc (suc (suc (suc (suc (suc zero)))))) = ap (λ n. n.events) counts
  same_count (suc (suc (suc (suc (suc (suc (suc q))))))) =
      let k = suc (suc (suc (suc (suc (suc (suc q)))))) in
      none_past k es g (omega arith) ∙ sym (none_past k fs h (omega arith))

  same_length : (q : ℕ) → length (table_of q es) ≡ length (table_of q fs)
  same_length q = table_length q es g ∙ ap (λ k. k * width_of q) (same_count q) ∙ sym (table_length q fs h)

  clean_too : (q : ℕ) → Clean (width_of q) (count_of q es) (table_of q fs)
  clean_too q = subst (λ k. Clean (width_of q) k (table_of q fs)) (sym (same_count q)) (table_clean q fs h)

  rules : (table_of rule_name es ≡ table_of rule_name fs) × (bodies_of es ≡ bodies_of fs)
  unfolding width_of
  rules =
      let used = count_of rule_name es in
      rules_determined used (table_of rule_name es) (table_of rule_name fs) (bodies_of es) (bodies_of fs) (same_length rule_name)
      (bodies_length es g ∙ ap (λ k. k * 256) (same_count rule_name) ∙ sym (bodies_length fs h))
      (table_clean rule_name es g) (clean_too rule_name) (bodies_clean es g clear)
      (subst (λ k. CleanBodies k (table_of rule_name fs) (bodies_of fs)) (sym (same_count rule_name)) (bodies_clean fs h clear_too))
      (omega (arith, bodies_length es g)) (ap (λ b. b.rules) book)

  same_table : (q : ℕ) → table_of q es ≡ table_of q fs
  unfolding width_of
  same_table zero = types_determined (count_of 0 es) (table_of 0 es) (table_of 0 fs) (same_length 0) (table_clean 0 es g) (clean_too 0) (ap (λ b. b.schema.types) book)
  same_table (suc zero) = floors_determined (count_of 1 es) (table_of 1 es) (table_of 1 fs) (same_length 1) (table_clean 1 es g) (clean_too 1) (ap (λ b. b.schema.floors) book)
  same_table (suc (suc zero)) =
      relationships_determined (count_of 2 es) (table_of 2 es) (table_of 2 fs) (same_length 2) (table_clean 2 es g) (clean_too 2) (ap (λ b. b.schema.relationships) book)
  same_table (suc (suc (suc zero))) = rules.0
  same_table (suc (suc (suc (suc zero)))) =
      objects_determined (count_of 4 es) (table_of 4 es) (table_of 4 fs) (same_length 4) (table_clean 4 es g) (clean_too 4) (ap (λ r. r.objects) register)
  same_table (suc (suc (suc (suc (suc zero))))) =
      links_determined (count_of 5 es) (table_of 5 es) (table_of 5 fs) (same_length 5) (table_clean 5 es g) (clean_too 5) (ap (λ r. r.links) register)
  same_table (suc (suc (suc (suc (suc (suc zero)))))) =
      events_determined (count_of 6 es) (table_of 6 es) (table_of 6 fs) (same_length 6) (table_clean 6 es g) (clean_too 6) known batch
  same_table (suc (suc (suc (suc (suc (suc (suc q))))))) =
      let k = suc (suc (suc (suc (suc (suc (suc q)))))) in
      let none_of : (ds : List Entry) → Good ds → table_of k ds ≡ [] =
      λ ds d.
      let count = none_past k ds d (omega arith) in
      let nothing : 0 * width_of k ≡ 0 = omega arith in
      empty (table_of k ds) (table_length k ds d ∙ ap (λ m. m * width_of k) count ∙ nothing) in
      none_of es g ∙ sym (none_of fs h)

  pub same_lines : Same es fs
  same_lines = record { counts = same_count; tables = same_table; bodies = rules.1 }
