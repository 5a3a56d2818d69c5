-- The rows of a body, put one after the other: what the tokens that follow put, by the codes of the open forms and the words of the row so far.
use Prim.Native.Nat.{ℕ, zero, suc, ◌+◌, ◌-◌, ◌*◌, ◌≤◌, ◌<◌}
use mathlib.Core.Path.{◌≡◌, refl, sym, ap, ◌∙◌}
use mathlib.Core.Logic.{◌⊎◌, inl, inr}
use Rattle.std.specs.Prelude.{None}
use mathlib.Core.Bool.{true, cond}
use mathlib.Core.List.{List, [], ◌∷◌, ◌++◌, append_assoc, append-nil}
use mathlib.Core.Option.{Option as Maybe, none, some, map, bind-eq-some_iff}
use native.Mathlib.Omega.{arith}
use borrow.Author.Tests.{ltb-true, le-leb, eq-eqb}
use lib.ListN.{length, get_or, take, drop, set, replicate, length-append, length-drop, length-set}
use borrow.Rule.Slice.PartMut.{mid_of, put_mid}
use lib.Seq.{take_all, take_at, drop_at, drop-drop, drop-length}
use Rattle.meaning.specs.Lists.{every}
use Rattle.meaning.specs.Limits.{max_forms}
use Rattle.rows.specs.Rows.{with_row}
use Rattle.rows.proofs.Parts.{put_back}
use Rattle.lexical.proofs.Runs.{both as halves}
use Rattle.text.specs.Names.{first_operator}
use Rattle.text.specs.Tokens.{Token, begin, item, end, dash, is_word, token_in, tokens_in}
use Rattle.text.specs.Bodies.{Written, leaf, over, both, meets, well_written, forms_in, row_of, rows_of, closing, tokens_of, form_in}
use Rattle.text.specs.Entries.{rule, only_end, body_in}
use Rattle.text.proofs.Bodies.{meets_need, well_both, form_spelled, rows_length}
use Rattle.text.proofs.Entries.{end_is, rule_if}
use Rattle.tokens.specs.Tokens.{found_at}
use Rattle.tables.specs.Layouts.{body_words}
use Rattle.brackets.specs.Whole.{WholeBody, rows_put}
use Rattle.tokens.proofs.Tokens.{Stands, found_bad}
use Rattle.brackets.proofs.Machine.{need_few}
use Rattle.brackets.proofs.Stack.{under, under_put, under_got}

-- a row that has no words yet
abbrev pub clear : List ℕ
clear = 0 ∷ 0 ∷ 0 ∷ 0 ∷ []

-- the tokens up to the rule's own closed bracket put all rows, after those that are done; each has room
pub Puts : List Token → (codes words : List ℕ) (column : ℕ) (done all : List ℕ) → Type 0
Puts [] codes words column done all = ⊥
Puts (begin name ∷ ts) codes words column done all = (first_operator ≤ name) × (length codes < max_forms) × Puts ts ((name - first_operator) ∷ codes) words column done all
Puts (item v ∷ ts) codes words column done all = (v < dash) × (column < 4) × Puts ts codes (set words column v) (column + 1) done all
Puts (end ∷ ts) [] words column done all = done ≡ all
Puts (end ∷ ts) (k ∷ codes) words column done all = (length done + 4 ≤ body_words) × Puts ts codes clear 1 (done ++ set words 0 k) all

-- ---- the tokens of a form

meets_few : (k p : ℕ) (fs : List ℕ) → meets k p fs ≡ true → (length fs ≤ 2) × (every is_word fs ≡ true)
meets_few k p fs e = let m = meets_need k p fs e in ((need_few k _ m.0).1, m.1)

module _ (k : ℕ) (rest : List Token) (codes all : List ℕ) where
  close_puts : (fs done : List ℕ) → length fs ≤ 2 → every is_word fs ≡ true → length done + 4 ≤ body_words → Puts rest codes clear 1 (done ++ row_of k fs) all
      → Puts (closing fs ++ rest) (k ∷ codes) clear 1 done all
  unfolding Puts row_of
  close_puts [] done h e r p = (r, p)
  close_puts (x ∷ []) done h e r p = let f = halves (is_word x) true e in (ltb-true x dash f.0, omega arith, (r, p))
  close_puts (x ∷ y ∷ []) done h e r p =
      let f = halves (is_word x) (every is_word (y ∷ [])) e in
      let g = halves (is_word y) true f.1 in
      (ltb-true x dash f.0, omega arith, (ltb-true y dash g.0, omega arith, (r, p)))
  close_puts (x ∷ y ∷ z ∷ fs) done h e r p = absurd (omega arith)

open_puts : (k : ℕ) (ts : List Token) (codes done all : List ℕ) → length codes < max_forms → Puts ts (k ∷ codes) clear 1 done all → Puts (begin (first_operator + k) ∷ ts) codes clear 1 done all
unfolding Puts
open_puts k ts codes done all h p =
    let back : first_operator + k - first_operator ≡ k = omega arith in
    (omega arith, h, rw back p)

-- each open form and each form to come puts a row
form_puts : (w : Written) (rest : List Token) (codes done all : List ℕ) → well_written w ≡ true → 4 * length codes + length done + 4 * forms_in w ≤ body_words
    → Puts rest codes clear 1 (done ++ rows_of w) all → Puts (tokens_of w ++ rest) codes clear 1 done all
unfolding well_written tokens_of rows_of forms_in
form_puts (leaf k fs) rest codes done all e h p =
    let m = meets_few k 0 fs e in
    open_puts k (closing fs ++ rest) codes done all (omega arith) (close_puts k rest codes all fs done m.0 m.1 (omega arith) p)
form_puts (over k a fs) rest codes done all e h p =
    let g = halves (meets k 1 fs) (well_written a) e in
    let m = meets_few k 1 fs g.0 in
    let n = rows_length a g.1 in
    let before = done ++ rows_of a in
    let size = length-append done (rows_of a) in
    rw (append_assoc (tokens_of a) (closing fs) rest)
    (open_puts k (tokens_of a ++ (closing fs ++ rest)) codes done all (omega arith)
    (form_puts a (closing fs ++ rest) (k ∷ codes) done all g.1 (omega arith)
    (close_puts k rest codes all fs before m.0 m.1 (omega arith) (rw (append_assoc done (rows_of a) (row_of k fs)) p))))
form_puts (both k a b fs) rest codes done all e h p =
    let w = well_both k a b fs e in
    let m = meets_few k 2 fs w.0 in
    let first = done ++ rows_of a in
    let second = first ++ rows_of b in
    let n = rows_length a w.1 in
    let o = rows_length b w.2 in
    let size = length-append done (rows_of a) in
    let more = length-append first (rows_of b) in
    rw (append_assoc (tokens_of a ++ tokens_of b) (closing fs) rest, append_assoc (tokens_of a) (tokens_of b) (closing fs ++ rest))
    (open_puts k (tokens_of a ++ (tokens_of b ++ (closing fs ++ rest))) codes done all (omega arith)
    (form_puts a (tokens_of b ++ (closing fs ++ rest)) (k ∷ codes) done all w.1 (omega arith)
    (form_puts b (closing fs ++ rest) (k ∷ codes) first all w.2 (omega arith)
    (close_puts k rest codes all fs second m.0 m.1 (omega arith) (rw (append_assoc first (rows_of b) (row_of k fs), append_assoc done (rows_of a) (rows_of b ++ row_of k fs), ← append_assoc (rows_of a) (rows_of b) (row_of k fs)) p)))))

-- ---- the tokens of a body

-- its form's tokens and the rule's closed bracket
body_tokens : (t : ℕ) (ts : List Token) (w : Written) → body_in t ts ≡ some (rule t w) → (ts ≡ tokens_of w ++ end ∷ []) × (well_written w ≡ true)
unfolding body_in
body_tokens t ts w e =
    let q = (bind-eq-some_iff (form_in (length ts) ts) (λ f. cond (only_end f.rest) (some (rule t f.form)) none)).0 e in
    let f = q.0 in
    let r = rule_if (only_end f.rest) t f.form (rule t w) q.2 in
    let s = form_spelled (length ts) ts f q.1 in
    let same : f.form ≡ w = cc r.1 in
    let last = end_is f.rest r.0 in
    (s.0 ∙ rw (same, last), rw (← same) s.1)

pub PutsOn : Maybe (List Token) → (codes words : List ℕ) (column : ℕ) (done all : List ℕ) → Type 0
PutsOn none codes words column done all = ⊥
PutsOn (some ts) codes words column done all = Puts ts codes words column done all

body_puts : (l : List ℕ) (t : ℕ) (w : Written) → WholeBody l t w → PutsOn (tokens_in l) [] clear 1 [] (rows_of w)
unfolding PutsOn Puts
body_puts l t w b =
    let q = (bind-eq-some_iff (tokens_in l) (body_in t)).0 b.read in
    let s = body_tokens t q.0 w q.2 in
    let few = b.few in
    rw (q.1, s.0) (form_puts w (end ∷ []) [] [] (rows_of w) s.1 (omega arith) refl)

-- ---- one token

module _ (words : List ℕ) (column : ℕ) (done all : List ℕ) where
  puts_begin : (k : ℕ) (o : Maybe (List Token)) (codes : List ℕ) → PutsOn (map (λ ts. begin k ∷ ts) o) codes words column done all
      → (first_operator ≤ k) × (length codes < max_forms) × PutsOn o ((k - first_operator) ∷ codes) words column done all
  unfolding PutsOn Puts
  puts_begin k none codes p = absurd p
  puts_begin k (some ts) codes p = p

  puts_item : (v : ℕ) (o : Maybe (List Token)) (codes : List ℕ) → PutsOn (map (λ ts. item v ∷ ts) o) codes words column done all
      → (v < dash) × (column < 4) × PutsOn o codes (set words column v) (column + 1) done all
  unfolding PutsOn Puts
  puts_item v none codes p = absurd p
  puts_item v (some ts) codes p = p

  puts_end : (k : ℕ) (o : Maybe (List Token)) (codes : List ℕ) → PutsOn (map (λ ts. end ∷ ts) o) (k ∷ codes) words column done all
      → (length done + 4 ≤ body_words) × PutsOn o codes clear 1 (done ++ set words 0 k) all
  unfolding PutsOn Puts
  puts_end k none codes p = absurd p
  puts_end k (some ts) codes p = p

  puts_last : (o : Maybe (List Token)) → PutsOn (map (λ ts. end ∷ ts) o) [] words column done all → done ≡ all
  unfolding PutsOn Puts
  puts_last none p = absurd p
  puts_last (some ts) p = p

  puts_bad : (o : Maybe (List Token)) (codes : List ℕ) → (o ≡ none) ⊎ (o ≡ some []) → PutsOn o codes words column done all → ⊥
  unfolding PutsOn Puts
  puts_bad o codes (inl e) p = rw e at p
  puts_bad o codes (inr e) p = rw e at p

-- ---- the table

-- one row more
row_put_lem : (done first row : List ℕ) (n : ℕ) → length done ≡ 4 * n → length row ≡ 4 → length done + 4 ≤ body_words → body_words ≤ length first
    → with_row (done ++ drop (length done) first) 4 n row ≡ (done ++ row) ++ drop (length (done ++ row)) first
unfolding with_row
row_put_lem done first row n d r h b =
    let place : n * 4 ≡ length done = omega arith in
    let size = length-append done (drop (length done) first) in
    let left = length-drop (length done) first in
    rw (eq-eqb (length row) 4 r, place, le-leb (length done + 4) (length (done ++ drop (length done) first)) (omega arith), take_at done (drop (length done) first) (length done) refl)
    (after ∙ sym (append_assoc done row (drop (length (done ++ row)) first)))
  where
    tail : drop (length done + 4) (done ++ drop (length done) first) ≡ drop (length (done ++ row)) first
    tail =
        sym (drop-drop 4 (length done) (done ++ drop (length done) first))
        ∙ ap (drop 4) (drop_at done (drop (length done) first) (length done) refl)
        ∙ drop-drop 4 (length done) first
        ∙ ap (λ m. drop m first) (sym (length-append done row ∙ ap (λ m. length done + m) r))

    after : (done ++ row) ++ drop (length done + 4) (done ++ drop (length done) first) ≡ done ++ (row ++ drop (length (done ++ row)) first)
    after = rw tail (append_assoc done row (drop (length (done ++ row)) first))

-- ---- the loop

under_length : (codes : List ℕ) (d : ℕ) → length (under codes d) ≡ d
unfolding under
under_length codes zero = refl
under_length codes (suc d) = ap suc (under_length codes d)

-- so many rows are done, before what the table held at first; the tokens from i on put the others
pub record Putting (t : List ℕ) (first : List ℕ) (i : ℕ) (codes : List ℕ) (depth : ℕ) (words : List ℕ) (column row : ℕ) (table all : List ℕ) : Type 0 where
  pub room : length codes ≡ max_forms
  pub deep : depth ≤ max_forms
  pub wide : length words ≡ 4
  pub done : List ℕ
  pub many : length done ≡ 4 * row
  pub inside : length done ≤ length first
  pub held : table ≡ done ++ drop (length done) first
  pub gives : PutsOn (tokens_in (drop i t)) (under codes depth) words column done all

pub putting_first : (t first : List ℕ) (at k : ℕ) (w : Written) → WholeBody (drop at t) k w → Putting t first at (replicate max_forms 0) 0 clear 1 0 first (rows_of w)
unfolding under
putting_first t first at k w b =
    record { room = refl; deep = omega arith; wide = refl; done = []; many = refl; inside = omega arith; held = refl; gives = body_puts (drop at t) k w b }

module _ {t first : List ℕ} {i : ℕ} {codes : List ℕ} {depth : ℕ} {words : List ℕ} {column row : ℕ} {table all : List ℕ} (r : Putting t first i codes depth words column row table all) where
  on_begin : (k next : ℕ) → Stands t i (begin k) next → (first_operator ≤ k) × (length (under codes depth) < max_forms) × PutsOn (tokens_in (drop next t)) ((k - first_operator) ∷ under codes depth) words column r.done all
  on_begin k next s = puts_begin words column r.done all k (tokens_in (drop next t)) (under codes depth) (rw s.tokens at r.gives)

  pub begin_fits : (k next : ℕ) → Stands t i (begin k) next → (first_operator ≤ k) × (depth < max_forms)
  begin_fits k next s = let p = on_begin k next s in (p.0, omega (arith, under_length codes depth, p.1))

  pub putting_begin : (k next : ℕ) → Stands t i (begin k) next → Putting t first next (set codes depth (k - first_operator)) (depth + 1) words column row table all
  putting_begin k next s =
      let fits = begin_fits k next s in
      let size = r.room in
      record {
        room = length-set codes depth (k - first_operator) ∙ size;
        deep = omega (arith, fits.1);
        wide = r.wide;
        done = r.done;
        many = r.many;
        inside = r.inside;
        held = r.held;
        gives = rw (under_put codes depth (k - first_operator) (omega (arith, fits.1))) (on_begin k next s).2;
      }

  on_item : (v next : ℕ) → Stands t i (item v) next → (v < dash) × (column < 4) × PutsOn (tokens_in (drop next t)) (under codes depth) (set words column v) (column + 1) r.done all
  on_item v next s = puts_item words column r.done all v (tokens_in (drop next t)) (under codes depth) (rw s.tokens at r.gives)

  pub item_fits : (v next : ℕ) → Stands t i (item v) next → (v < dash) × (column < 4)
  item_fits v next s = let p = on_item v next s in (p.0, p.1)

  pub putting_item : (v next : ℕ) → Stands t i (item v) next → Putting t first next codes depth (set words column v) (column + 1) row table all
  putting_item v next s =
      record {
        room = r.room;
        deep = r.deep;
        wide = length-set words column v ∙ r.wide;
        done = r.done;
        many = r.many;
        inside = r.inside;
        held = r.held;
        gives = (on_item v next s).2;
      }

  on_end : (next : ℕ) → Stands t i end next → 1 ≤ depth → (length r.done + 4 ≤ body_words) × PutsOn (tokens_in (drop next t)) (under codes (depth - 1)) clear 1 (r.done ++ set words 0 (get_or codes (depth - 1) 0)) all
  on_end next s h =
      puts_end words column r.done all (get_or codes (depth - 1) 0) (tokens_in (drop next t)) (under codes (depth - 1)) (rw (s.tokens, under_got codes depth h) at r.gives)

  pub end_fits : (next : ℕ) → Stands t i end next → 1 ≤ depth → row < max_forms
  end_fits next s h = omega (arith, (on_end next s h).0, r.many)

  pub putting_end : (next : ℕ) → Stands t i end next → 1 ≤ depth → body_words ≤ length first
      → Putting t first next codes (depth - 1) clear 1 (row + 1) (with_row table 4 row (set words 0 (get_or codes (depth - 1) 0))) all
  putting_end next s h b =
      let p = on_end next s h in
      let new = set words 0 (get_or codes (depth - 1) 0) in
      let four : length new ≡ 4 = length-set words 0 (get_or codes (depth - 1) 0) ∙ r.wide in
      let many = r.many in
      let deep = r.deep in
      record {
        room = r.room;
        deep = omega arith;
        wide = refl;
        done = r.done ++ new;
        many = omega (arith, length-append r.done new);
        inside = omega (arith, length-append r.done new, p.0);
        held = rw r.held (row_put_lem r.done first new row r.many four p.0 b);
        gives = p.1;
      }

  pub putting_last : (next : ℕ) → Stands t i end next → depth < 1 → table ≡ rows_put first 0 all
  unfolding under
  putting_last next s h =
      let z : depth ≡ 0 = omega arith in
      let e = puts_last words column r.done all (tokens_in (drop next t)) (rw (s.tokens, z) at r.gives) in
      let n : 0 + length all ≡ length all = omega arith in
      r.held ∙ rw (e, n)

  pub putting_bad : None ≡ found_at i (token_in (drop i t)) → ⊥
  putting_bad e = puts_bad words column r.done all (tokens_in (drop i t)) (under codes depth) (found_bad t i e) r.gives

-- ---- a rule's place

-- rows at the start of the part from a place on
pub rows_placed : (t : List ℕ) (a : ℕ) (rows : List ℕ) → a ≤ length t → put_mid a (length t - a) t (rows_put (mid_of a (length t - a) t) 0 rows) ≡ rows_put t a rows
rows_placed t a rows h =
    let all : mid_of a (length t - a) t ≡ drop a t = take_all (length t - a) (drop a t) (rw length-drop (omega arith)) in
    let n : 0 + length rows ≡ length rows = omega arith in
    put_back t a (length t) h (rows_put (mid_of a (length t - a) t) 0 rows)
    ∙ rw (all, n, drop-drop (length rows) a t, drop-length, append-nil) (sym (append_assoc (take a t) rows (drop (a + length rows) t)))
