-- The tables that a text is read into determine its lines, and so the text: no two texts read to the same tables.
use Prim.Native.Nat.{ℕ, suc, ◌*◌, min, ◌≤◌, ◌<◌}
use mathlib.Core.Path.{◌≡◌, refl, sym, ap, ap₂, subst, ◌∙◌}
use mathlib.Core.Bool.{Bool, true, false, ◌&&◌, ◌||◌, not, cond, false≢true}
use mathlib.Core.List.{List, [], ◌∷◌, ◌++◌}
use native.Mathlib.Omega.{arith}
use lib.Dec.{ltb, leb, eqb}
use lib.ListN.{length, get_or}
use borrow.Author.Tests.{ltb-true, ltb-false, leb-true, eqb-true, le-leb, eq-eqb, ne_eqb}
use Rattle.meaning.specs.Limits.{max_forms}
use Rattle.lexical.proofs.Runs.{both}
use Rattle.tables.specs.Layouts.{body_words, limit_of, width_of}
use Rattle.tables.proofs.Forms.{halves}
use Rattle.text.specs.Names.{rule_name}
use Rattle.text.specs.Tokens.{is_word}
use Rattle.text.specs.Bodies.{Written, well_written, forms_in, padded, rows_of}
use Rattle.text.specs.Entries.{Entry, row, rule, section_of, entry_words, count_of, table_of, bodies_of, last_section}
use Rattle.text.specs.Texts.{too_long, no_room, taken, reading}
use Rattle.text.proofs.Bodies.{rows_length, rows_determine}
use Rattle.text.proofs.Entries.{row_fits, sayable, padded_length, by_section_lem}
use Rattle.text.proofs.Texts.{fit_from, write_after_read, one_text}

-- what an entry's rows look like
abbrev shaped : Entry → Bool
shaped (row s words) = not (eqb s rule_name) && eqb (length words) (width_of s)
shaped (rule t body) = well_written body && leb (forms_in body) max_forms

-- entries of such shapes, their sections ascending from s on
abbrev orderly : ℕ → List Entry → Bool
orderly s [] = true
orderly s (e ∷ es) = leb s (section_of e) && (shaped e && orderly (section_of e) es)

row_shaped : (before : List Entry) (s : ℕ) (words : List ℕ) → row_fits before s words ≡ true → shaped (row s words) ≡ true
unfolding width_of
row_shaped before s words h =
    by_section_lem before s words (λ s. shaped (row s words) ≡ true)
    (λ h. (both (eqb (length words) 2) _ h).0)
    (λ h. (both (eqb (length words) 2) _ h).0)
    (λ h. (both (eqb (length words) 2) _ h).0)
    (λ h. (both (eqb (length words) 10) _ h).0)
    (λ h. (both (eqb (length words) 3) _ h).0)
    (λ h. (both (eqb (length words) 4) _ h).0)
    h

not_so : (b : Bool) → not b ≡ true → b ≡ false
not_so true h = absurd (false≢true h)
not_so false h = refl

entry_shaped : (lent : List ℕ) (before : List Entry) (e : Entry) → sayable before e ≡ true → not (no_room lent before e) ≡ true → shaped e ≡ true
unfolding sayable no_room too_long section_of
entry_shaped lent before (row s words) h room = row_shaped before s words h
entry_shaped lent before (rule t body) h room = ap₂ (λ x y. x && y) (both (is_word t) (well_written body) h).1 (not_over (ltb (min (limit_of rule_name) (get_or lent rule_name 0)) (suc (count_of rule_name before))) room)
  where
    not_over : (full : Bool) → not (full || ltb max_forms (forms_in body)) ≡ true → leb (forms_in body) max_forms ≡ true
    not_over true h = absurd (false≢true h)
    not_over false h = le-leb (forms_in body) max_forms (ltb-false max_forms (forms_in body) (not_so (ltb max_forms (forms_in body)) h))

pub last_one : (s : ℕ) (before : List Entry) (e : Entry) → last_section s (before ++ e ∷ []) ≡ section_of e
unfolding last_section
last_one s [] e = refl
last_one s (x ∷ before) e = last_one (section_of x) before e

fit_orderly : (lent : List ℕ) (before es : List Entry) → fit_from lent before es ≡ true → orderly (last_section 0 before) es ≡ true
fit_orderly lent before [] h = refl
fit_orderly lent before (e ∷ es) h =
    let (said, more) = both (sayable before e) _ h in
    let (ordered, more2) = both (leb (last_section 0 before) (section_of e)) _ more in
    let (room, rest) = both (not (no_room lent before e)) _ more2 in
    ap₂ (λ x y. x && y) ordered (ap₂ (λ x y. x && y) (entry_shaped lent before e said room) (ap (λ s. orderly s es) (sym (last_one 0 before e)) ∙ fit_orderly lent (before ++ e ∷ []) es rest))

-- ---- one entry more

count_same : (s : ℕ) (e : Entry) (es : List Entry) → eqb (section_of e) s ≡ true → count_of s (e ∷ es) ≡ suc (count_of s es)
unfolding count_of
count_same s e es h = rw h

count_other : (s : ℕ) (e : Entry) (es : List Entry) → eqb (section_of e) s ≡ false → count_of s (e ∷ es) ≡ count_of s es
unfolding count_of
count_other s e es h = rw h

-- no entry of a section below
none_below : (s : ℕ) (es : List Entry) (from : ℕ) → s < from → orderly from es ≡ true → count_of s es ≡ 0
unfolding count_of
none_below s [] from h o = refl
none_below s (e ∷ es) from h o =
    let (up, more) = both (leb from (section_of e)) _ o in
    let above : s < section_of e = omega (arith, h, leb-true from (section_of e) up) in
    count_other s e es (ne_eqb (section_of e) s (λ q. omega (arith, above, q))) ∙ none_below s es (section_of e) above (both (shaped e) _ more).1

-- the first section is the same
first_section : (e f : Entry) (es fs : List Entry) (s : ℕ) → orderly s (f ∷ fs) ≡ true → count_of (section_of e) (e ∷ es) ≡ count_of (section_of e) (f ∷ fs) → section_of f ≤ section_of e
first_section e f es fs s o counts = step (ltb (section_of e) (section_of f)) refl
  where
    step : (b : Bool) → ltb (section_of e) (section_of f) ≡ b → section_of f ≤ section_of e
    step true q =
        let below = ltb-true (section_of e) (section_of f) q in
        let (shape, rest) = both (shaped f) _ (both (leb s (section_of f)) _ o).1 in
        absurd (omega (arith, count_same (section_of e) e es (eq-eqb (section_of e) (section_of e) refl), counts, count_other (section_of e) f fs (ne_eqb (section_of f) (section_of e) (λ p. omega (arith, below, p))), none_below (section_of e) fs (section_of f) below rest))
    step false q = ltb-false (section_of e) (section_of f) q

-- two bodies whose rows, padded, are the same, and that have as many forms
body_same : (a b : Written) → (well_written a && leb (forms_in a) max_forms) ≡ true → (well_written b && leb (forms_in b) max_forms) ≡ true → forms_in a ≡ forms_in b → padded body_words (rows_of a) ≡ padded body_words (rows_of b) → a ≡ b
body_same a b h g forms q =
    let wa = (both (well_written a) _ h).0 in
    let wb = (both (well_written b) _ g).0 in
    let long : length (rows_of a) ≡ length (rows_of b) = rows_length a wa ∙ ap (λ n. 4 * n) forms ∙ sym (rows_length b wb) in
    rows_determine a b wa wb (halves (rows_of a) _ (rows_of b) _ long q).0

-- ---- the tables determine the entries

pub record Same (es fs : List Entry) : Type 0 where
  pub counts : (s : ℕ) → count_of s es ≡ count_of s fs
  pub tables : (s : ℕ) → table_of s es ≡ table_of s fs
  pub bodies : bodies_of es ≡ bodies_of fs

-- ---- what follows the first entries

module _ {e f : Entry} {es fs : List Entry} (section : section_of e ≡ section_of f) (long : length (entry_words e) ≡ length (entry_words f)) (same : Same (e ∷ es) (f ∷ fs)) where
  here : eqb (section_of e) (section_of e) ≡ true
  here = eq-eqb (section_of e) (section_of e) refl

  there : eqb (section_of f) (section_of e) ≡ true
  there = eq-eqb (section_of f) (section_of e) (sym section)

  table_here : (g : Entry) (gs : List Entry) (s : ℕ) → eqb (section_of g) s ≡ true → table_of s (g ∷ gs) ≡ entry_words g ++ table_of s gs
  unfolding table_of
  table_here g gs s h = ap (λ b. cond b (entry_words g ++ table_of s gs) (table_of s gs)) h

  table_other : (g : Entry) (gs : List Entry) (s : ℕ) → eqb (section_of g) s ≡ false → table_of s (g ∷ gs) ≡ table_of s gs
  unfolding table_of
  table_other g gs s h = ap (λ b. cond b (entry_words g ++ table_of s gs) (table_of s gs)) h

  parts : (entry_words e ≡ entry_words f) × (table_of (section_of e) es ≡ table_of (section_of e) fs)
  parts = halves (entry_words e) (table_of (section_of e) es) (entry_words f) (table_of (section_of e) fs) long (sym (table_here e es (section_of e) here) ∙ same.tables (section_of e) ∙ table_here f fs (section_of e) there)

  words_same : entry_words e ≡ entry_words f
  words_same = parts.0

  counts_after : (s : ℕ) → count_of s es ≡ count_of s fs
  counts_after s = step (eqb (section_of e) s) refl
    where
      other : eqb (section_of e) s ≡ false → eqb (section_of f) s ≡ false
      other h = ap (λ k. eqb k s) (sym section) ∙ h

      step : (b : Bool) → eqb (section_of e) s ≡ b → count_of s es ≡ count_of s fs
      step true h = omega (arith, count_same s e es h, same.counts s, count_same s f fs (ap (λ k. eqb k s) (sym section) ∙ h))
      step false h = sym (count_other s e es h) ∙ same.counts s ∙ count_other s f fs (other h)

  tables_after : (s : ℕ) → table_of s es ≡ table_of s fs
  tables_after s = step (eqb (section_of e) s) refl
    where
      step : (b : Bool) → eqb (section_of e) s ≡ b → table_of s es ≡ table_of s fs
      step true h = subst (λ k. table_of k es ≡ table_of k fs) (eqb-true (section_of e) s h) parts.1
      step false h = sym (table_other e es s h) ∙ same.tables s ∙ table_other f fs s (ap (λ k. eqb k s) (sym section) ∙ h)

rule_words : {t u a b : ℕ} → t ∷ a ∷ [] ≡ u ∷ b ∷ [] → (t ≡ u) × (a ≡ b)
rule_words q = (ap (λ l. get_or l 0 0) q, ap (λ l. get_or l 1 0) q)

-- the entries that come first are the same, and so is what follows
entry_same : (e f : Entry) (es fs : List Entry) → shaped e ≡ true → shaped f ≡ true → section_of e ≡ section_of f → Same (e ∷ es) (f ∷ fs) → (e ≡ f) × Same es fs
unfolding section_of entry_words bodies_of
entry_same (row s words) (row t others) es fs h g q same =
    let long : length words ≡ length others = eqb-true (length words) (width_of s) (both (not (eqb s rule_name)) _ h).1 ∙ ap width_of q ∙ sym (eqb-true (length others) (width_of t) (both (not (eqb t rule_name)) _ g).1) in
    (ap₂ (λ s l. row s l) q (words_same {e = row s words} {f = row t others} q long same), record { counts = counts_after {e = row s words} {f = row t others} q long same; tables = tables_after {e = row s words} {f = row t others} q long same; bodies = same.bodies })
entry_same (row s words) (rule t body) es fs h g q same = absurd (false≢true (ap not (sym (eq-eqb s rule_name q)) ∙ (both (not (eqb s rule_name)) _ h).0))
entry_same (rule t body) (row s words) es fs h g q same = absurd (false≢true (ap not (sym (eq-eqb s rule_name (sym q))) ∙ (both (not (eqb s rule_name)) _ g).0))
entry_same (rule t body) (rule u other) es fs h g q same =
    let (contexts, forms) = rule_words (words_same {e = rule t body} {f = rule u other} refl refl same) in
    let size : (b : Written) → (well_written b && leb (forms_in b) max_forms) ≡ true → length (padded body_words (rows_of b)) ≡ body_words = λ b h. padded_length body_words (rows_of b) (omega (arith, rows_length b (both (well_written b) _ h).0, leb-true (forms_in b) max_forms (both (well_written b) _ h).1)) in
    let (rows, rest) = halves (padded body_words (rows_of body)) (bodies_of es) (padded body_words (rows_of other)) (bodies_of fs) (size body h ∙ sym (size other g)) same.bodies in
    (ap₂ (λ c b. rule c b) contexts (body_same body other h g forms rows), record { counts = counts_after {e = rule t body} {f = rule u other} refl refl same; tables = tables_after {e = rule t body} {f = rule u other} refl refl same; bodies = rest })

none_in : (s : ℕ) → count_of s [] ≡ 0
unfolding count_of
none_in s = refl

entries_determined : (es fs : List Entry) (s t : ℕ) → orderly s es ≡ true → orderly t fs ≡ true → Same es fs → es ≡ fs
entries_determined [] [] s t h g same = refl
entries_determined [] (f ∷ fs) s t h g same = absurd (omega (arith, none_in (section_of f), same.counts (section_of f), count_same (section_of f) f fs (eq-eqb (section_of f) (section_of f) refl)))
entries_determined (e ∷ es) [] s t h g same = absurd (omega (arith, none_in (section_of e), same.counts (section_of e), count_same (section_of e) e es (eq-eqb (section_of e) (section_of e) refl)))
entries_determined (e ∷ es) (f ∷ fs) s t h g same =
    let (shape, more) = both (shaped e) _ (both (leb s (section_of e)) _ h).1 in
    let (shape2, more2) = both (shaped f) _ (both (leb t (section_of f)) _ g).1 in
    let section : section_of e ≡ section_of f = omega (arith, first_section e f es fs t g (same.counts (section_of e)), first_section f e fs es s h (sym (same.counts (section_of f)))) in
    let (first, rest) = entry_same e f es fs shape shape2 section same in
    ap₂ (λ x l. x ∷ l) first (entries_determined es fs (section_of e) (section_of f) more more2 rest)

-- "the reader takes no other text for them": texts that are read to the same tables are the same text
pub one_spelling : (lent other text words : List ℕ) (es fs : List Entry) → reading lent text ≡ taken es → reading other words ≡ taken fs → Same es fs → text ≡ words
unfolding last_section
one_spelling lent other text words es fs p q same =
    let same_lines : es ≡ fs = entries_determined es fs 0 0 (fit_orderly lent [] es (write_after_read lent text es p).fits) (fit_orderly other [] fs (write_after_read other words fs q).fits) same in
    one_text lent other text words es p (q ∙ ap taken (sym same_lines))
