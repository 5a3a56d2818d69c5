-- Lines of one section after the other: what they count, and that they can be said.
use Prim.Native.Nat.{ℕ, zero, suc, ◌+◌, min, ◌≤◌, ◌<◌}
use mathlib.Core.Path.{◌≡◌, refl, sym, ap, ap₂, subst, ◌∙◌}
use mathlib.Core.Bool.{Bool, true, false, ◌&&◌, ◌||◌, not, cond}
use mathlib.Core.List.{List, [], ◌∷◌, ◌++◌, append-nil, append_assoc}
use native.Mathlib.Omega.{arith}
use lib.Dec.{leb, eqb}
use lib.ListN.{length, get_or, length-append}
use borrow.Author.Tests.{le-ltb, le-leb, eq-eqb, ne_eqb}
use Rattle.meaning.specs.Lists.{keep}
use Rattle.rows.specs.Rows.{rows_from, read_rows}
use Rattle.tables.specs.Layouts.{limit_of}
use Rattle.lexical.proofs.Runs.{both}
use Rattle.text.specs.Entries.{Entry, section_of, entry_words, is_of, count_of, table_of, last_section}
use Rattle.text.specs.Texts.{too_long, no_room}
use Rattle.text.proofs.Entries.{sayable}
use Rattle.text.proofs.Texts.{fit_from}

-- ---- lists of entries put together

keep_append : {A : Type 0} (p : A → Bool) (a b : List A) → keep p (a ++ b) ≡ keep p a ++ keep p b
keep_append p [] b = refl
keep_append p (x ∷ a) b = step (p x) (keep_append p a b)
  where
    step : (q : Bool) → keep p (a ++ b) ≡ keep p a ++ keep p b → cond q (x ∷ keep p (a ++ b)) (keep p (a ++ b)) ≡ cond q (x ∷ keep p a) (keep p a) ++ keep p b
    step true rest = ap (λ l. x ∷ l) rest
    step false rest = rest

pub count_append : (s : ℕ) (a b : List Entry) → count_of s (a ++ b) ≡ count_of s a + count_of s b
unfolding count_of
count_append s a b = ap length (keep_append (is_of s) a b) ∙ length-append (keep (is_of s) a) (keep (is_of s) b)

pub table_append : (s : ℕ) (a b : List Entry) → table_of s (a ++ b) ≡ table_of s a ++ table_of s b
unfolding table_of
table_append s [] b = refl
table_append s (e ∷ a) b = step (is_of s e) (table_append s a b)
  where
    step : (q : Bool) → table_of s (a ++ b) ≡ table_of s a ++ table_of s b → cond q (entry_words e ++ table_of s (a ++ b)) (table_of s (a ++ b)) ≡ cond q (entry_words e ++ table_of s a) (table_of s a) ++ table_of s b
    step true rest = ap (λ l. entry_words e ++ l) rest ∙ sym (append_assoc (entry_words e) (table_of s a) (table_of s b))
    step false rest = rest

pub fit_append : (lent : List ℕ) (es fs before : List Entry) → fit_from lent before es ≡ true → fit_from lent (before ++ es) fs ≡ true → fit_from lent before (es ++ fs) ≡ true
fit_append lent [] fs before h g = subst (λ b. fit_from lent b fs ≡ true) (append-nil before) g
fit_append lent (e ∷ es) fs before h g =
    let (said, more) = both (sayable before e) _ h in
    let (ordered, more2) = both (leb (last_section 0 before) (section_of e)) _ more in
    let (room, rest) = both (not (no_room lent before e)) _ more2 in
    ap₂ (λ x y. x && y) said (ap₂ (λ x y. x && y) ordered (ap₂ (λ x y. x && y) room (fit_append lent es fs (before ++ e ∷ []) rest (subst (λ b. fit_from lent b fs ≡ true) (sym (append_assoc before (e ∷ []) es)) g))))

-- ---- a block: rows of one section

-- no line is of the section q or a later one yet
pub record At (q : ℕ) (before : List Entry) : Type 0 where
  pub none_yet : (s : ℕ) → q ≤ s → count_of s before ≡ 0
  pub last : last_section 0 before ≤ q

pub at-start : At 0 []
unfolding count_of last_section
at-start = record { none_yet = λ s h. refl; last = omega arith }

module _ (q : ℕ) (read : ℕ → Entry) (of : (i : ℕ) → section_of (read i) ≡ q) where
  pub count_block : (s j m : ℕ) → count_of s (rows_from read j m) ≡ cond (eqb q s) m 0
  unfolding count_of
  count_block s j m = step (eqb q s) refl j m
    where
      step : (b : Bool) → eqb q s ≡ b → (j m : ℕ) → count_of s (rows_from read j m) ≡ cond b m 0
      step true h j zero = refl
      step false h j zero = refl
      step true h j (suc m) = ap (λ b. length (cond b (read j ∷ keep (is_of s) (rows_from read (suc j) m)) (keep (is_of s) (rows_from read (suc j) m)))) (ap (λ k. eqb k s) (of j) ∙ h) ∙ ap suc (step true h (suc j) m)
      step false h j (suc m) = ap (λ b. length (cond b (read j ∷ keep (is_of s) (rows_from read (suc j) m)) (keep (is_of s) (rows_from read (suc j) m)))) (ap (λ k. eqb k s) (of j) ∙ h) ∙ step false h (suc j) m

  pub table_other : (s j m : ℕ) → eqb q s ≡ false → table_of s (rows_from read j m) ≡ []
  unfolding table_of
  table_other s j zero h = refl
  table_other s j (suc m) h = ap (λ b. cond b (entry_words (read j) ++ table_of s (rows_from read (suc j) m)) (table_of s (rows_from read (suc j) m))) (ap (λ k. eqb k s) (of j) ∙ h) ∙ table_other s (suc j) m h

  last_block : (b : List Entry) (s j m : ℕ) → last_section s b ≤ q → last_section s (b ++ rows_from read j m) ≤ q
  unfolding last_section
  last_block [] s j zero h = h
  last_block [] s j (suc m) h = last_block [] (section_of (read j)) (suc j) m (omega (arith, of j))
  last_block (e ∷ b) s j m h = last_block b (section_of e) j m h

  pub at_block : (b : List Entry) (m : ℕ) → At q b → At (suc q) (b ++ read_rows read m)
  at_block b m at =
      record {
        none_yet = λ s h. count_append s b (read_rows read m) ∙ ap₂ (λ x y. x + y) (at.none_yet s (omega (arith, h))) (count_block s 0 m ∙ ap (λ c. cond c m 0) (ne_eqb q s (λ e. omega (arith, h, e))));
        last = omega (arith, last_block b 0 0 m at.last);
      }

  -- every row of the block can be said
  module _ (lent : List ℕ) (used : ℕ) (P : List Entry → Type 0)
      (keeps : (b : List Entry) (i : ℕ) → P b → P (b ++ read i ∷ []))
      (said : (b : List Entry) (i : ℕ) → i < used → P b → sayable b (read i) ≡ true)
      (short : (i : ℕ) → i < used → too_long (read i) ≡ false)
      (room : used ≤ min (limit_of q) (get_or lent q 0)) where
    fits_from : (m j : ℕ) (b : List Entry) → j + m ≡ used → count_of q b ≡ j → last_section 0 b ≤ q → P b → fit_from lent b (rows_from read j m) ≡ true
    unfolding no_room last_section
    fits_from zero j b h n l p = refl
    fits_from (suc m) j b h n l p =
        let inside : j < used = omega (arith, h) in
        let next = b ++ read j ∷ [] in
        let one : count_of q (read j ∷ []) ≡ 1 = count_block q j 1 ∙ ap (λ c. cond c 1 0) (eq-eqb q q refl) in
        ap₂ (λ x y. x && y) (said b j inside p)
        (ap₂ (λ x y. x && y) (le-leb (last_section 0 b) (section_of (read j)) (omega (arith, l, of j)))
        (ap₂ (λ x y. x && y) (ap₂ (λ x y. not (x || y)) (le-ltb (min (limit_of (section_of (read j))) (get_or lent (section_of (read j)) 0)) (suc (count_of (section_of (read j)) b)) (subst (λ s. suc (count_of s b) ≤ min (limit_of s) (get_or lent s 0)) (sym (of j)) (omega (arith, n, inside, room)))) (short j inside))
        (fits_from m (suc j) next (omega (arith, h)) (count_append q b (read j ∷ []) ∙ omega (arith, n, one)) (last_block b 0 j 1 l) (keeps b j p))))

    pub block_fits : (b : List Entry) → At q b → P b → fit_from lent b (read_rows read used) ≡ true
    block_fits b at p = fits_from used 0 b (omega arith) (at.none_yet q (omega arith)) at.last p

    pub block_keeps : (b : List Entry) (j m : ℕ) → P b → P (b ++ rows_from read j m)
    block_keeps b j zero p = subst P (sym (append-nil b)) p
    block_keeps b j (suc m) p = subst P (append_assoc b (read j ∷ []) (rows_from read (suc j) m)) (block_keeps (b ++ read j ∷ []) (suc j) m (keeps b j p))
