-- The tables filled line by line.
use Prim.Native.Nat.{ℕ, zero, suc, ◌+◌, ◌-◌, ◌*◌, ◌/◌, min, ◌≤◌, ◌<◌}
use Rattle.std.specs.Prelude.{Option, Some, None, IsSome}
use borrow.Author.Rules.{rules}
use mathlib.Core.Path.{◌≡◌, refl, sym, ap, ap₂, subst, ◌∙◌}
use mathlib.Core.Bool.{Bool, true, false, ◌&&◌, ◌||◌, cond, false≢true}
use mathlib.Core.List.{List, [], ◌∷◌, ◌++◌, append-nil, append_assoc}
use mathlib.Core.Option.{some}
use native.Mathlib.Nat.{add-mul, one-mul, div-mul-le_self, mul-le-mul_right}
use native.Mathlib.Omega.{arith}
use lib.Dec.{ltb, leb, eqb}
use lib.ListN.{length, get_or, take, drop, set, replicate, length-append, replicate-append-replicate}
use lib.Seq.{drop-drop, take_at, drop_at}
use denote.Floats.{is_true}
use borrow.Author.Tests.{leb-true, eqb-true, eqb-false, ltb-false, eq-eqb, ne_eqb}
use Rattle.meaning.proofs.Lists.{every_get_d}
use Rattle.lexical.specs.Lines.{line_in}
use Rattle.lexical.proofs.Runs.{both}
use Rattle.rows.specs.Rows.{with_row}
use Rattle.rows.proofs.Fronts.{row_put_lem}
use Rattle.tables.specs.Layouts.{Sheet, sheet_of, Layout, type_table, floor_table, relationship_table, rule_table, object_table, link_table, event_table, body_words, section_count, limit_of, width_of, lines_lent}
use Rattle.text.specs.Tokens.{is_word}
use Rattle.text.specs.Names.{type_name, rule_name}
use Rattle.text.specs.Bodies.{Written, padded, forms_in, rows_of, well_written}
use Rattle.text.specs.Entries.{Entry, row, rule, section_of, entry_words, count_of, table_of, bodies_of, entry_in}
use Rattle.text.specs.Texts.{max_text, taken, read_from, reading, filled}
use Rattle.text.proofs.Bodies.{rows_length}
use Rattle.text.proofs.Entries.{sayable, row_fits, by_section_lem, padded_length}
use Rattle.text.proofs.Blocks.{count_append, table_append}
use Rattle.brackets.specs.Whole.{WholeBody, rows_put}
use Rattle.line_reader.specs.declared.line.Row.{Row}
use Rattle.line_reader.specs.Rows.{row_held, body_place}
use Rattle.filling.specs.Fills.{row_put, LinePut, sheet_with}
use Rattle.line_reader.proofs.Bodied.{whole_body_lem}
use Rattle.reading.proofs.Looking.{Looking, LineRead, line_read, row_there, look_starts, starts_before, look_done, look_with, ended_fine, section_fine, row_fine, e, found, section_of_lem, words_are, said, count_small, read_short, taken_same}

-- ---- words put after those of a table

drop_zeros : (a n : ℕ) → drop {A = ℕ} a (replicate n 0) ≡ replicate (n - a) 0
drop_zeros zero n = let all : n ≡ n - 0 = omega arith in ap (λ k. replicate k 0) all
drop_zeros (suc a) zero = let empty : 0 ≡ 0 - suc a = omega arith in ap (λ k. replicate k 0) empty
drop_zeros (suc a) (suc n) = let less : n - a ≡ suc n - suc a = omega arith in drop_zeros a n ∙ ap (λ k. replicate k 0) less

-- a table that starts with some words, zeros after them
module _ (t used : List ℕ) (is : t ≡ filled (length t) used) (at : ℕ) (wide : length used ≡ at) where
  put_filled : (words : List ℕ) → rows_put t at words ≡ filled (length t) (used ++ words)
  put_filled words =
      let rest : List ℕ = replicate (length t - length used) 0 in
      let fewer : length t - length used - length words ≡ length t - length (used ++ words) = omega (arith, length-append used words) in
      ap (λ l. rows_put l at words) is
      ∙ ap₂ (λ a b. a ++ words ++ b) (take_at used rest at wide)
      (sym (drop-drop (length words) at (used ++ rest))
      ∙ ap (drop (length words)) (drop_at used rest at wide)
      ∙ drop_zeros (length words) (length t - length used)
      ∙ ap (λ k. replicate k 0) fewer)

  row_filled : (width count : ℕ) (words : List ℕ) → count * width ≡ at → length words ≡ width → at + width ≤ length t → with_row t width count words ≡ filled (length t) (used ++ words)
  row_filled width count words placed long room =
      row_put_lem t words width count long (omega (arith, placed))
      ∙ ap₂ (λ a n. take a t ++ words ++ drop (a + n) t) placed (sym long)
      ∙ put_filled words

  pad_filled : (width : ℕ) (words : List ℕ) → length words ≤ width → at + width ≤ length t → filled (length t) (used ++ words) ≡ filled (length t) (used ++ padded width words)
  pad_filled width words fits room =
      let z = width - length words in
      let m = length t - length (used ++ padded width words) in
      let sizes : length t - length (used ++ words) ≡ z + m = omega (arith, fits, room, wide, length-append used words, length-append used (padded width words), padded_length width words fits) in
      ap (λ k. used ++ words ++ replicate k 0) sizes
      ∙ ap (λ l. used ++ words ++ l) (sym (replicate-append-replicate z m 0))
      ∙ sym (append_assoc (used ++ words) (replicate z 0) (replicate m 0))
      ∙ ap (λ l. l ++ replicate m 0) (append_assoc used words (replicate z 0))

filled_length : (n : ℕ) (words : List ℕ) → length words ≤ n → length (filled n words) ≡ n
filled_length n words fits = padded_length n words fits

-- ---- what is kept of a table

-- as long as it was, with these words from the front and zeros after them; they are so many
pub record Filled (words : List ℕ) (size : ℕ) (old t : List ℕ) : Type 0 where
  pub same : length t ≡ length old
  pub is : t ≡ filled (length t) words
  pub wide : length words ≡ size

-- the rows of the table's section
abbrev pub Held : Layout → List Entry → Sheet → Sheet → Type 0
Held l es old s = Filled (table_of l.section es) (count_of l.section es * l.width) (l.words old) (l.words s)

abbrev pub HeldBodies : List Entry → Sheet → Sheet → Type 0
HeldBodies es old s = Filled (bodies_of es) (count_of rule_name es * body_words) old.bodies s.bodies

width_small : (s : ℕ) → width_of s ≤ 10
unfolding width_of
width_small s = leb-true (width_of s) 10 (is_true (leb (width_of s) 10) (every_get_d (λ n. leb n 10) (2 ∷ 2 ∷ 2 ∷ 2 ∷ 10 ∷ 3 ∷ 4 ∷ []) s 0 tt tt))

row_wide : (before : List Entry) (e : Entry) → sayable before e ≡ true → length (entry_words e) ≡ width_of (section_of e)
unfolding sayable section_of entry_words width_of
row_wide before (row s words) h =
    by_section_lem before s words (λ s. length words ≡ width_of s)
    (λ h. eqb-true (length words) 2 (both (eqb (length words) 2) _ h).0)
    (λ h. eqb-true (length words) 2 (both (eqb (length words) 2) _ h).0)
    (λ h. eqb-true (length words) 2 (both (eqb (length words) 2) _ h).0)
    (λ h. eqb-true (length words) 10 (both (eqb (length words) 10) _ h).0)
    (λ h. eqb-true (length words) 3 (both (eqb (length words) 3) _ h).0)
    (λ h. eqb-true (length words) 4 (both (eqb (length words) 4) _ h).0)
    h
row_wide before (rule t body) h = refl

-- ---- one more line

module _ (before : List Entry) (e : Entry) where
  abbrev next : List Entry
  next = before ++ e ∷ []

  count_next : (s : ℕ) → count_of s next ≡ count_of s before + cond (eqb (section_of e) s) 1 0
  unfolding count_of
  count_next s = count_append s before (e ∷ []) ∙ ap (λ n. count_of s before + n) (step (eqb (section_of e) s))
    where
      step : (b : Bool) → length (cond b (e ∷ []) []) ≡ cond b 1 0
      step true = refl
      step false = refl

  table_next : (s : ℕ) → table_of s next ≡ table_of s before ++ cond (eqb (section_of e) s) (entry_words e) []
  unfolding table_of
  table_next s = table_append s before (e ∷ []) ∙ ap (λ l. table_of s before ++ l) (step (eqb (section_of e) s))
    where
      step : (b : Bool) → cond b (entry_words e ++ []) [] ≡ cond b (entry_words e) []
      step true = append-nil (entry_words e)
      step false = refl

  -- a table, as `put_line` leaves it
  module _ (fits : sayable before e ≡ true) {held : Row} (here : held.section ≡ section_of e) (holds : held.words ≡ padded 10 (entry_words e)) where
    abbrev S : ℕ
    S = held.section

    module _ (l : Layout) (sized : width_of l.section ≡ l.width)
        {old t : List ℕ} (k : Filled (table_of l.section before) (count_of l.section before * l.width) old t)
        (room : S ≡ l.section → count_of l.section before * l.width + l.width ≤ length old)
        {rows : ℕ} (counted : rows ≡ count_of l.section before) where
      abbrev table : List Entry → List ℕ
      table = table_of l.section

      abbrev count : List Entry → ℕ
      count = count_of l.section

      abbrev After : List ℕ → Type 0
      After u = Filled (table next) (count next * l.width) old u

      more : (b : Bool) → eqb S l.section ≡ b → table next ≡ table before ++ cond b (entry_words e) []
      more b q = table_next l.section ∙ ap (λ b. table before ++ cond b (entry_words e) []) (ap (λ n. eqb n l.section) (sym here) ∙ q)

      one_more : (b : Bool) → eqb S l.section ≡ b → count next ≡ count before + cond b 1 0
      one_more b q = count_next l.section ∙ ap (λ b. count before + cond b 1 0) (ap (λ n. eqb n l.section) (sym here) ∙ q)

      one_row : (n : ℕ) → (n + 1) * l.width ≡ n * l.width + l.width
      one_row n = add-mul n 1 l.width ∙ ap (λ m. n * l.width + m) (one-mul l.width)

      put_so : S ≡ l.section → {u : List ℕ} → u ≡ with_row t l.width rows (take l.width held.words) → After u
      put_so it {u} left =
          let q = eq-eqb S l.section it in
          let width = l.width in
          let long : length (entry_words e) ≡ width = row_wide before e fits ∙ ap width_of (sym here ∙ it) ∙ sized in
          let taken_words : take width held.words ≡ entry_words e =
          ap (take width) holds ∙ take_at (entry_words e) (replicate (10 - length (entry_words e)) 0) width long in
          let left_room : count before * width + width ≤ length t =
          subst (λ n. count before * width + width ≤ n) (sym k.same) (room it) in
          let put : u ≡ filled (length t) (table before ++ entry_words e) =
          left
          ∙ ap₂ (λ c w. with_row t width c w) counted taken_words
          ∙ row_filled t (table before) k.is (count before * width) k.wide width (count before) (entry_words e) refl long left_room in
          let size : length (table before ++ entry_words e) ≡ count before * width + width =
          length-append (table before) (entry_words e) ∙ ap₂ (λ a b. a + b) k.wide long in
          let as_long : length u ≡ length t =
          ap length put ∙ filled_length (length t) (table before ++ entry_words e) (subst (λ n. n ≤ length t) (sym size) left_room) in
          record {
            same = as_long ∙ k.same;
            is = put ∙ ap₂ (λ n l. filled n l) (sym as_long) (sym (more true q));
            wide = ap length (more true q) ∙ size ∙ sym (ap (λ n. n * width) (one_more true q) ∙ one_row (count before));
          }

      kept_so : eqb S l.section ≡ false → {u : List ℕ} → u ≡ t → After u
      kept_so q {u} left =
          let none_more : table next ≡ table before = more false q ∙ append-nil (table before) in
          let none_counted : count next ≡ count before = one_more false q ∙ omega arith in
          record {
            same = ap length left ∙ k.same;
            is = left ∙ k.is ∙ ap₂ (λ n l. filled n l) (ap length (sym left)) (sym none_more);
            wide = ap length none_more ∙ k.wide ∙ ap (λ n. n * l.width) (sym none_counted);
          }

      pub table_goes_on : {u : List ℕ} → u ≡ cond (eqb S l.section) (with_row t l.width rows (take l.width held.words)) t → After u
      table_goes_on {u} left = step (eqb S l.section) refl left
        where
          step : (b : Bool) → eqb S l.section ≡ b → u ≡ cond b (with_row t l.width rows (take l.width held.words)) t → After u
          step true q left = put_so (eqb-true S l.section q) left
          step false q left = kept_so q left

-- ---- the bodies

bodies_append : (a b : List Entry) → bodies_of (a ++ b) ≡ bodies_of a ++ bodies_of b
unfolding bodies_of
bodies_append [] b = refl
bodies_append (row s words ∷ a) b = bodies_append a b
bodies_append (rule t w ∷ a) b = ap (λ l. padded 256 (rows_of w) ++ l) (bodies_append a b) ∙ sym (append_assoc (padded 256 (rows_of w)) (bodies_of a) (bodies_of b))

-- what a line adds to the bodies
abbrev body_of : Entry → List ℕ
body_of (row s words) = []
body_of (rule t w) = padded 256 (rows_of w)

bodies_next : (before : List Entry) (e : Entry) → bodies_of (before ++ e ∷ []) ≡ bodies_of before ++ body_of e
unfolding bodies_of
bodies_next before e = bodies_append before (e ∷ []) ∙ ap (λ l. bodies_of before ++ l) (step e)
  where
    step : (e : Entry) → bodies_of (e ∷ []) ≡ body_of e
    step (row s words) = refl
    step (rule t w) = append-nil (padded 256 (rows_of w))

-- a line of the section of rules is a rule's
a_rule : (before : List Entry) (e : Entry) → sayable before e ≡ true → section_of e ≡ rule_name → (t : ℕ) × (w : Written) × (e ≡ rule t w)
unfolding sayable section_of
a_rule before (row s words) h q = absurd (false≢true (ap (λ s. row_fits before s words) (sym q) ∙ h))
a_rule before (rule t w) h q = (t, w, refl)

no_body_lem : (e : Entry) → (section_of e ≡ rule_name → ⊥) → body_of e ≡ []
unfolding section_of
no_body_lem (row s words) h = refl
no_body_lem (rule t w) h = absurd (h refl)

well_rule : (before : List Entry) (t : ℕ) (w : Written) → sayable before (rule t w) ≡ true → well_written w ≡ true
unfolding sayable
well_rule before t w h = (both (is_word t) (well_written w) h).1

forms_held : (t : ℕ) (w : Written) → get_or (padded 10 (entry_words (rule t w))) 1 0 ≡ forms_in w
unfolding entry_words
forms_held t w = refl

module _ (before : List Entry) (e : Entry) (fits : sayable before e ≡ true) {S : ℕ} (here : S ≡ section_of e) {words : List ℕ} (holds : words ≡ padded 10 (entry_words e)) (few : S ≡ rule_name → get_or words 1 0 ≤ 64) (line : List ℕ) (there : entry_in before line ≡ some e) where
  -- its form, as it is written
  abbrev as_rule : S ≡ rule_name → (t : ℕ) × (w : Written) × (e ≡ rule t w)
  as_rule q = a_rule before e fits (sym here ∙ q)

  few_forms : (t : ℕ) (w : Written) → S ≡ rule_name → e ≡ rule t w → forms_in w ≤ 64
  few_forms t w q is = subst (λ n. n ≤ 64) (ap (λ l. get_or l 1 0) (holds ∙ ap (λ e. padded 10 (entry_words e)) is) ∙ forms_held t w) (few q)

  pub body_whole : S ≡ rule_name → (t : ℕ) × (w : Written) × WholeBody (drop (body_place line) line) t w
  body_whole q =
      let (t, w, is) = as_rule q in
      (t, w, whole_body_lem before line t w (there ∙ ap some is) (few_forms t w q is))

  -- the bodies, as `put_line` leaves them
  module _ {old t : List ℕ} (k : Filled (bodies_of before) (count_of rule_name before * 256) old t)
      (room : S ≡ rule_name → count_of rule_name before * 256 + 256 ≤ length old) where
    abbrev next' : List Entry
    next' = before ++ e ∷ []

    abbrev Next : List ℕ → Type 0
    Next u = Filled (bodies_of next') (count_of rule_name next' * 256) old u

    counts : (b : Bool) → eqb S rule_name ≡ b → count_of rule_name next' ≡ count_of rule_name before + cond b 1 0
    counts b q = count_next before e rule_name ∙ ap (λ b. count_of rule_name before + cond b 1 0) (ap (λ n. eqb n rule_name) (sym here) ∙ q)

    body_put : (it : S ≡ rule_name) (c : ℕ) (w : Written) → e ≡ rule c w → {u : List ℕ} → u ≡ rows_put t (count_of rule_name before * 256) (rows_of w) → Next u
    body_put it c w is {u} put =
        let at = count_of rule_name before * 256 in
        let body = padded 256 (rows_of w) in
        let more : bodies_of next' ≡ bodies_of before ++ body = bodies_next before e ∙ ap (λ e. bodies_of before ++ body_of e) is in
        let well = well_rule before c w (ap (sayable before) (sym is) ∙ fits) in
        let short : length (rows_of w) ≤ 256 = omega (arith, rows_length w well, few_forms c w it is) in
        let left_room : at + 256 ≤ length t = subst (λ n. at + 256 ≤ n) (sym k.same) (room it) in
        let now : u ≡ filled (length t) (bodies_of before ++ body) =
        put
        ∙ put_filled t (bodies_of before) k.is at k.wide (rows_of w)
        ∙ pad_filled t (bodies_of before) k.is at k.wide 256 (rows_of w) short left_room in
        let size : length (bodies_of before ++ body) ≡ at + 256 =
        length-append (bodies_of before) body ∙ ap₂ (λ a b. a + b) k.wide (padded_length 256 (rows_of w) short) in
        let as_long : length u ≡ length t =
        ap length now ∙ filled_length (length t) (bodies_of before ++ body) (subst (λ n. n ≤ length t) (sym size) left_room) in
        record {
          same = as_long ∙ k.same;
          is = now ∙ ap₂ (λ n l. filled n l) (sym as_long) (sym more);
          wide = ap length more ∙ size ∙ omega (arith, counts true (eq-eqb S rule_name it));
        }

    body_kept : (S ≡ rule_name → ⊥) → {u : List ℕ} → u ≡ t → Next u
    body_kept not_it {u} left =
        let none_more : bodies_of next' ≡ bodies_of before =
        bodies_next before e ∙ ap (λ l. bodies_of before ++ l) (no_body_lem e (λ r. not_it (here ∙ r))) ∙ append-nil (bodies_of before) in
        record {
          same = ap length left ∙ k.same;
          is = left ∙ k.is ∙ ap₂ (λ n l. filled n l) (ap length (sym left)) (sym none_more);
          wide = ap length none_more ∙ k.wide ∙ omega (arith, counts false (ne_eqb S rule_name not_it));
        }

    pub bodies_go_on : {count : ℕ} → count ≡ count_of rule_name before → {u : List ℕ}
        → ((c : ℕ) (w : Written) → S ≡ rule_name → WholeBody (drop (body_place line) line) c w → u ≡ rows_put t (count * 256) (rows_of w))
        → ((S ≡ rule_name → ⊥) → u ≡ t) → Next u
    bodies_go_on {count} counted {u} put kept = step (eqb S rule_name) refl
      where
        step : (b : Bool) → eqb S rule_name ≡ b → Next u
        step true q =
            let it : S ≡ rule_name = eqb-true S rule_name q in
            let (c, w, is) = as_rule it in
            let whole = whole_body_lem before line c w (there ∙ ap some is) (few_forms c w it is) in
            body_put it c w is (put c w it whole ∙ ap (λ n. rows_put t (n * 256) (rows_of w)) counted)
        step false q = let not_it : S ≡ rule_name → ⊥ = eqb-false S rule_name q in body_kept not_it (kept not_it)

-- ---- what is kept

-- the lines before, as they were looked through, and their rows in the tables, which were lent as `old`
pub record Filling (text : List ℕ) (old : Sheet) (at : ℕ) (counts cells : List ℕ) (section : ℕ) (s : Sheet) : Type 0 where
  pub n : ℕ
  pub looking : Looking text (lines_lent old) at n counts cells section
  pub types_held : Held type_table looking.before old s
  pub floors_held : Held floor_table looking.before old s
  pub relationships_held : Held relationship_table looking.before old s
  pub rules_held : Held rule_table looking.before old s
  pub bodies_held : HeldBodies looking.before old s
  pub objects_held : Held object_table looking.before old s
  pub links_held : Held link_table looking.before old s
  pub events_held : Held event_table looking.before old s

pub fill_starts : (text : List ℕ) {s : Sheet} → s ≡ sheet_with [] s → Filling text s 0 (replicate section_count 0) (replicate 32 0) 0 s
unfolding table_of bodies_of count_of
fill_starts text {s} k =
    record {
      n = 1;
      looking = look_starts text lent;
      types_held = starts type_table (ap (λ s. s.types) k);
      floors_held = starts floor_table (ap (λ s. s.floors) k);
      relationships_held = starts relationship_table (ap (λ s. s.relationships) k);
      rules_held = starts rule_table (ap (λ s. s.rules) k);
      bodies_held = subst (λ es. HeldBodies es s s) none_before (record { same = refl; is = ap (λ s. s.bodies) k; wide = refl });
      objects_held = starts object_table (ap (λ s. s.objects) k);
      links_held = starts link_table (ap (λ s. s.links) k);
      events_held = starts event_table (ap (λ s. s.events) k);
    }
  where
    lent : List ℕ
    lent = lines_lent s

    none_before : [] ≡ (look_starts text lent).before
    none_before = sym (starts_before text lent)

    starts : (l : Layout) → l.words s ≡ filled (length (l.words s)) (table_of l.section []) → Held l (look_starts text lent).before s s
    starts l h = subst (λ es. Held l es s s) none_before (record { same = refl; is = h; wide = omega arith })

full : {words : List ℕ} {size : ℕ} {old t : List ℕ} → Filled words size old t → t ≡ filled (length old) words
full {words} f = f.is ∙ ap (λ n. filled n words) f.same

or_no : (a b : Bool) → (a || b) ≡ false → (a ≡ false) × (b ≡ false)
or_no true b h = absurd (false≢true (sym h))
or_no false b h = (refl, h)

module _ {text : List ℕ} {old : Sheet} {at : ℕ} {counts cells : List ℕ} {section : ℕ} {s : Sheet}
    (k : Filling text old at counts cells section s) (short : length text ≤ max_text) where
  abbrev lent : List ℕ
  lent = lines_lent old

  abbrev before : List Entry
  before = k.looking.before

  -- every line is read
  pub fill_ends : length text ≤ at → (es : List Entry) → reading lent text ≡ taken es → s ≡ sheet_with es old
  fill_ends h es q =
      let all : s ≡ sheet_with before old =
      λ j. sheet_of (full k.types_held j) (full k.floors_held j) (full k.relationships_held j) (full k.rules_held j) (full k.bodies_held j)
      (full k.objects_held j) (full k.links_held j) (full k.events_held j) in
      all ∙ ap (λ es. sheet_with es old) (taken_same (sym (look_done k.looking h) ∙ read_short text lent short q))

  -- a line, which is a row since the text is taken
  pub fill_row : at < length text → {es : List Entry} → reading lent text ≡ taken es → {line : List ℕ} → line ≡ line_in (drop at text) → (o : Option Row) → o ≡ row_held (entry_in before line) → IsSome o
  fill_row h q l None r =
      let t = read_short text lent short q in
      absurd (row_there (line_read k.looking h short (ended_fine k.looking h short t) l r) t)
  fill_row h q l (Some held) r = search rules

  module _ (h : at < length text) {es : List Entry} (q : reading lent text ≡ taken es) {line : List ℕ} (l : line ≡ line_in (drop at text))
      {held : Row} (r : Some held ≡ row_held (entry_in before line)) where
    abbrev is_taken_lem : read_from (length text) lent 1 [] text ≡ taken es
    is_taken_lem = read_short text lent short q

    read : LineRead k.looking (Some held)
    read = line_read k.looking h short (ended_fine k.looking h short is_taken_lem) l r

    abbrev S' : ℕ
    S' = held.section

    pub fill_section : S' < section_count
    fill_section = section_fine read

    abbrev E : Entry
    E = e read

    fits : sayable before E ≡ true
    fits = said read

    in_section : S' ≡ section_of E
    in_section = section_of_lem read

    words_held : held.words ≡ padded 10 (entry_words E)
    words_held = words_are read

    there : entry_in before line ≡ some E
    there = ap (entry_in before) l ∙ found read

    abbrev full_rows : Bool
    full_rows = ltb (min (limit_of S') (get_or lent S' 0)) (suc (get_or counts S' 0))

    abbrev long_body_lem : Bool
    long_body_lem = eqb S' rule_name && ltb 64 (get_or held.words 1 0)

    not_full : (full_rows || long_body_lem) ≡ false
    not_full = row_fine read refl is_taken_lem

    pub fill_count : get_or counts S' 0 < 4096
    fill_count = count_small read refl not_full

    left_here : suc (get_or counts S' 0) ≤ get_or lent S' 0
    left_here =
        let least = ltb-false (min (limit_of S') (get_or lent S' 0)) (suc (get_or counts S' 0)) (or_no full_rows long_body_lem not_full).0 in
        omega (arith, least)

    row_left : (s : ℕ) → s < section_count → S' ≡ s → suc (count_of s before) ≤ get_or lent s 0
    row_left s g is =
        subst (λ n. suc n ≤ get_or lent s 0) (k.looking.rows s g) (subst (λ s. suc (get_or counts s 0) ≤ get_or lent s 0) is left_here)

    few : S' ≡ rule_name → get_or held.words 1 0 ≤ 64
    few is =
        ltb-false 64 (get_or held.words 1 0)
        (sym (ap (λ b. b && ltb 64 (get_or held.words 1 0)) (eq-eqb S' rule_name is)) ∙ (or_no full_rows long_body_lem not_full).1)

    -- a row is left in the table of a line's section
    room_in : (l : Layout) → l.section < section_count → get_or lent l.section 0 * l.width ≤ length (l.words old) → S' ≡ l.section → count_of l.section before * l.width + l.width ≤ length (l.words old)
    room_in l g fits q =
        let n = count_of l.section before in
        let one_row : (n + 1) * l.width ≡ n * l.width + l.width = add-mul n 1 l.width ∙ ap (λ m. n * l.width + m) (one-mul l.width) in
        let rows : n + 1 ≤ get_or lent l.section 0 = omega (arith, row_left l.section g q) in
        omega (arith, one_row, mul-le-mul_right l.width rows, fits)

    room_rules : S' ≡ rule_name → count_of rule_name before * 2 + 2 ≤ length old.rules
    unfolding lines_lent
    room_rules q = omega (arith, row_left rule_name (omega arith) q, div-mul-le_self (length old.rules) 2)

    room_bodies : S' ≡ rule_name → count_of rule_name before * 256 + 256 ≤ length old.bodies
    unfolding lines_lent
    room_bodies q = omega (arith, row_left rule_name (omega arith) q, div-mul-le_self (length old.bodies) 256)

    pub fill_body : S' ≡ rule_name → (t : ℕ) × (w : Written) × WholeBody (drop (body_place line) line) t w
    fill_body = body_whole before E fits in_section words_held few line there

    pub fill_body_room : S' ≡ rule_name → (get_or counts rule_name 0 + 1) * 256 ≤ length s.bodies
    fill_body_room is = omega (arith, room_bodies is, k.looking.rows rule_name (omega arith), k.bodies_held.same)

    -- a table, with the line's row where it is of the table's section
    held_after : (after : Sheet) {es : List Entry} → es ≡ before ++ E ∷ [] → (l : Layout) → width_of l.section ≡ l.width → l.section < section_count
        → Held l before old s → (S' ≡ l.section → count_of l.section before * l.width + l.width ≤ length (l.words old))
        → l.words after ≡ row_put l held counts (l.words s) → Held l es old after
    held_after after went l sized g kept room put =
        subst (λ es. Held l es old after) (sym went)
        (table_goes_on before E fits in_section words_held l sized kept room (k.looking.rows l.section g) put)

    -- the line's row is put in its table
    pub fill_goes_on : {after : Sheet} → LinePut line held counts s after → {end : ℕ} {more_counts more_cells : List ℕ}
        → end ≡ at + length (line_in (drop at text))
        → more_counts ≡ set counts S' (get_or counts S' 0 + 1)
        → more_cells ≡ cond (eqb S' type_name && ltb (get_or counts type_name 0) 32) (set cells (get_or counts type_name 0) (get_or held.words 1 0)) cells
        → Filling text old (end + 1) more_counts more_cells S' after
    unfolding width_of lines_lent
    fill_goes_on {after} put a c d =
        let (m, went) = look_with read refl not_full a c d in
        let lies : (t : List ℕ) (width : ℕ) → length t / width * width ≤ length t = λ t width. div-mul-le_self (length t) width in
        record {
          n = k.n + 1;
          looking = m;
          types_held = held_after after went type_table refl (omega arith) k.types_held (room_in type_table (omega arith) (lies old.types 2)) put.types_put;
          floors_held = held_after after went floor_table refl (omega arith) k.floors_held (room_in floor_table (omega arith) (lies old.floors 2)) put.floors_put;
          relationships_held = held_after after went relationship_table refl (omega arith) k.relationships_held (room_in relationship_table (omega arith) (lies old.relationships 2)) put.relationships_put;
          rules_held = held_after after went rule_table refl (omega arith) k.rules_held room_rules put.rules_put;
          bodies_held = subst (λ es. HeldBodies es old after) (sym went)
              (bodies_go_on before E fits in_section words_held few line there k.bodies_held room_bodies (k.looking.rows rule_name (omega arith)) put.bodies_put put.bodies_kept);
          objects_held = held_after after went object_table refl (omega arith) k.objects_held (room_in object_table (omega arith) (lies old.objects 10)) put.objects_put;
          links_held = held_after after went link_table refl (omega arith) k.links_held (room_in link_table (omega arith) (lies old.links 3)) put.links_put;
          events_held = held_after after went event_table refl (omega arith) k.events_held (room_in event_table (omega arith) (lies old.events 4)) put.events_put;
        }
