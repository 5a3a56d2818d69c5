-- A line is read as it was spelled, and spelled as it was read.
use Prim.Native.Nat.{ℕ, zero, suc, ◌+◌, ◌^◌, ◌≤◌, ◌<◌}
use mathlib.Core.Path.{◌≡◌, refl, sym, ap, ◌∙◌, subst}
use mathlib.Core.Bool.{Bool, true, false, cond}
use mathlib.Core.List.{List, [], ◌∷◌, ◌++◌}
use mathlib.Core.Option.{Option, none, some, bind, map, none-ne-some, some-injective, map-eq-some_iff, bind-eq-some_iff}
use native.Mathlib.Nat.{not-suc-le-zero, le_refl}
use native.Mathlib.Omega.{arith}
use borrow.Author.Tests.{lt-ltb, le-leb, ltb-true, leb-true, ne_eqb, eqb-true, eqb-false}
use lib.Dec.{eqb, ltb, leb}
use lib.IntN.{ℤ, pos, negsuc}
use lib.Signed.{mag}
use lib.ListN.{length, get_or, take, drop, length-append, length-take, length-drop, take-append-drop}
use lib.Seq.{drop-append_seam}
use Rattle.meaning.specs.Limits.{fits_word}
use Rattle.meaning.specs.Lists.{every}
use Rattle.rows.specs.Rows.{signed, word_of}
use Rattle.rows.proofs.Words.{word_signed, signed_fits, signed_word, word_fits}
use Rattle.lexical.specs.Decimals.{digits_of, decimal_of, is_digit, Numeral, positive, negative, number_in}
use Rattle.lexical.specs.Lines.{is_inner}
use Rattle.lexical.proofs.Runs.{both, take_run, run_append}
use Rattle.lexical.proofs.Spelling.{digit_is, every_digits}
use Rattle.lexical.proofs.Decimals.{read_written, written_read}
use Rattle.text.specs.Names.{name_count, name_of, is_letter, letters_in, place_of}
use Rattle.text.specs.Tokens.{Token, dash, spell_item, spell_token, spell_tokens, Lexed, lexed, dash_in, item_or, after_space, token_in, first_and, tokens_from, tokens_in, Bracket, spell_bracket, bracket_in}
use Rattle.text.specs.Tokens.Token.{begin, item, end}
use Rattle.text.proofs.Names.{name_placed, name_letters, name_found}

-- a token that has a spelling: a name of the table, a word or `-`
abbrev pub valid_token : Token → Bool
valid_token (begin k) = ltb k name_count
valid_token (item v) = leb v dash
valid_token end = true

-- ---- a token that was read

-- its bytes are its spelling, and it is valid
record Spelled (l : List ℕ) (t : Lexed) : Type 0 where
  text : take t.size l ≡ spell_token t.token
  valid : valid_token t.token ≡ true

spelled_name : (l : List ℕ) (k : ℕ) → place_of (letters_in l) ≡ some k → Spelled (32 ∷ 40 ∷ l) (lexed (begin k) (2 + length (letters_in l)))
unfolding spell_token
spelled_name l k e =
    let f = name_found (letters_in l) k e in
    let s : 2 + length (letters_in l) ≡ suc (suc (length (letters_in l))) = omega arith in
    record { text = rw s (ap (λ (r : List ℕ). 32 ∷ 40 ∷ r) (take_run is_letter l ∙ sym f.0)); valid = lt-ltb k name_count f.1 }

spelled_number : (l : List ℕ) (n : Numeral) → number_in l ≡ some n → Spelled (32 ∷ l) (lexed (item (word_of n.value)) (suc n.size))
unfolding spell_token spell_item fits_word
spelled_number l n e =
    let s = written_read l n e in
    let small : mag n.value < 2 ^ 31 = ltb-true (mag n.value) (2 ^ 31) s.fits in
    let word : word_of n.value < dash = word_fits n.value small in
    record {
      text = rw (ne_eqb (word_of n.value) dash (omega arith), signed_word n.value small) (ap (λ (r : List ℕ). 32 ∷ r) s.text);
      valid = le-leb (word_of n.value) dash (omega arith);
    }

spelled_dash : (l : List ℕ) (t : Lexed) → dash_in l ≡ some t → Spelled (32 ∷ l) t
unfolding spell_token spell_item dash_in
spelled_dash [] t e = absurd (none-ne-some t e)
spelled_dash (b ∷ l) t e = go (eqb b 45) refl e
  where
    go : (q : Bool) → eqb b 45 ≡ q → cond q (some (lexed (item dash) 2)) none ≡ some t → Spelled (32 ∷ b ∷ l) t
    go true h f =
        subst (Spelled (32 ∷ b ∷ l)) (some-injective (lexed (item dash) 2) t f)
        (record { text = rw (eqb-true b 45 h); valid = refl })
    go false h f = absurd (none-ne-some t f)

spelled_item : (l : List ℕ) (t : Lexed) → item_or (number_in l) (dash_in l) ≡ some t → Spelled (32 ∷ l) t
unfolding item_or
spelled_item l t e = go (number_in l) refl e
  where
    go : (o : Option Numeral) → number_in l ≡ o → item_or o (dash_in l) ≡ some t → Spelled (32 ∷ l) t
    go none h f = spelled_dash l t f
    go (some n) h f = subst (Spelled (32 ∷ l)) (some-injective (lexed (item (word_of n.value)) (suc n.size)) t f) (spelled_number l n h)

spelled_after : (l : List ℕ) (t : Lexed) → after_space l ≡ some t → Spelled (32 ∷ l) t
unfolding after_space
spelled_after [] t e = absurd (none-ne-some t e)
spelled_after (b ∷ l) t e = go (eqb b 40) refl e
  where
    go : (q : Bool) → eqb b 40 ≡ q
        → cond q (map (λ k. lexed (begin k) (2 + length (letters_in l))) (place_of (letters_in l))) (item_or (number_in (b ∷ l)) (dash_in (b ∷ l))) ≡ some t
        → Spelled (32 ∷ b ∷ l) t
    go true h f =
        let g = (map-eq-some_iff (λ k. lexed (begin k) (2 + length (letters_in l))) (place_of (letters_in l))).0 f in
        rw (eqb-true b 40 h) (subst (Spelled (32 ∷ 40 ∷ l)) g.2 (spelled_name l g.0 g.1))
    go false h f = spelled_item (b ∷ l) t f

token_spelled : (l : List ℕ) (t : Lexed) → token_in l ≡ some t → Spelled l t
unfolding token_in spell_token
token_spelled [] t e = absurd (none-ne-some t e)
token_spelled (b ∷ l) t e = go (eqb b 41) (eqb b 32) refl refl e
  where
    go : (p q : Bool) → eqb b 41 ≡ p → eqb b 32 ≡ q → cond p (some (lexed end 1)) (cond q (after_space l) none) ≡ some t → Spelled (b ∷ l) t
    go true q h k f =
        subst (Spelled (b ∷ l)) (some-injective (lexed end 1) t f) (record { text = rw (eqb-true b 41 h); valid = refl })
    go false true h k f = rw (eqb-true b 32 k) (spelled_after l t f)
    go false false h k f = absurd (none-ne-some t f)

-- so it takes a byte at least, and less is left
spelling_long : (t : Token) → 0 < length (spell_token t)
unfolding spell_token
spelling_long (begin k) = omega arith
spelling_long (item v) = omega arith
spelling_long end = omega arith

rest_short : (b : ℕ) (l : List ℕ) (t : Lexed) → token_in (b ∷ l) ≡ some t → length (drop t.size (b ∷ l)) ≤ length l
rest_short b l t e =
    omega (arith, ap length (token_spelled (b ∷ l) t e).text, length-take t.size (b ∷ l), length-drop t.size (b ∷ l), spelling_long t.token)

-- ---- fuel

-- two readers of what follows the first token that agree on shorter texts
after_first : (f g : List ℕ → Option (List Token)) (b : ℕ) (l : List ℕ) → ((r : List ℕ) → length r ≤ length l → f r ≡ g r)
    → first_and f (b ∷ l) ≡ first_and g (b ∷ l)
unfolding first_and bind
after_first f g b l h = go (token_in (b ∷ l)) refl
  where
    go : (o : Option Lexed) → token_in (b ∷ l) ≡ o
        → bind o (λ t. map (λ ts. t.token ∷ ts) (f (drop t.size (b ∷ l)))) ≡ bind o (λ t. map (λ ts. t.token ∷ ts) (g (drop t.size (b ∷ l))))
    go none e = refl
    go (some t) e = ap (λ (o : Option (List Token)). map (λ ts. t.token ∷ ts) o) (h (drop t.size (b ∷ l)) (rest_short b l t e))

enough : (m n : ℕ) (l : List ℕ) → length l ≤ m → length l ≤ n → tokens_from m l ≡ tokens_from n l
unfolding tokens_from first_and
enough zero zero l h k = refl
enough zero (suc n) [] h k = refl
enough zero (suc n) (b ∷ l) h k = absurd (not-suc-le-zero h)
enough (suc m) zero [] h k = refl
enough (suc m) zero (b ∷ l) h k = absurd (not-suc-le-zero k)
enough (suc m) (suc n) [] h k = refl
enough (suc m) (suc n) (b ∷ l) h k = after_first (tokens_from m) (tokens_from n) b l (λ r s. enough m n r (omega arith) (omega arith))

pub tokens_fuel : (fuel : ℕ) (l : List ℕ) → length l ≤ fuel → tokens_from fuel l ≡ tokens_in l
unfolding tokens_in
tokens_fuel fuel l h = enough fuel (length l) l h (le_refl (length l))

pub tokens_none : tokens_in [] ≡ some []
unfolding tokens_in tokens_from first_and
tokens_none = refl

pub tokens_step : (l : List ℕ) → 0 < length l → tokens_in l ≡ bind (token_in l) (λ t. map (λ ts. t.token ∷ ts) (tokens_in (drop t.size l)))
unfolding tokens_in tokens_from first_and
tokens_step [] h = absurd (not-suc-le-zero h)
tokens_step (b ∷ l) h = after_first (tokens_from (length l)) tokens_in b l (tokens_fuel (length l))

-- ---- read after write

-- what may follow a token: no digit and no letter
record Ends (rest : List ℕ) : Type 0 where
  digit : is_digit (get_or rest 0 0) ≡ false
  letter : is_letter (get_or rest 0 0) ≡ false

spelling_ends : (ts : List Token) → Ends (spell_tokens ts)
unfolding spell_tokens spell_token
spelling_ends [] = record { digit = refl; letter = refl }
spelling_ends (begin k ∷ ts) = record { digit = refl; letter = refl }
spelling_ends (item v ∷ ts) = record { digit = refl; letter = refl }
spelling_ends (end ∷ ts) = record { digit = refl; letter = refl }

read_name : (k : ℕ) (rest : List ℕ) → k < name_count → Ends rest → letters_in (name_of k ++ rest) ≡ name_of k
read_name k rest h e = run_append is_letter (name_of k) rest 0 (name_letters k h) e.letter

-- where a number is, no bracket starts
number_item : (l : List ℕ) (n : Numeral) → number_in l ≡ some n → after_space l ≡ some (lexed (item (word_of n.value)) (suc n.size))
unfolding after_space item_or number_in positive
number_item [] n e = absurd (none-ne-some n e)
number_item (b ∷ l) n e = go (eqb b 40) refl
  where
    go : (q : Bool) → eqb b 40 ≡ q → after_space (b ∷ l) ≡ some (lexed (item (word_of n.value)) (suc n.size))
    go true h = absurd (none-ne-some n (subst (λ (c : ℕ). number_in (c ∷ l) ≡ some n) (eqb-true b 40 h) e))
    go false h = rw (h, e)

read_item : (v : ℕ) (rest : List ℕ) → v ≤ dash → Ends rest → after_space (spell_item v ++ rest) ≡ some (lexed (item v) (suc (length (spell_item v))))
unfolding after_space spell_item item_or dash_in number_in negative fits_word
read_item v rest h e = go (eqb v dash) refl
  where
    go : (q : Bool) → eqb v dash ≡ q
        → after_space (cond q (45 ∷ []) (decimal_of (signed v)) ++ rest) ≡ some (lexed (item v) (suc (length (cond q (45 ∷ []) (decimal_of (signed v))))))
    go true k = rw (run_append is_digit [] rest 0 refl e.digit, eqb-true v dash k)
    go false k =
        let word : v < dash = omega (arith, eqb-false v dash k) in
        number_item (decimal_of (signed v) ++ rest) (record { value = signed v; size = length (decimal_of (signed v)) })
        (read_written (signed v) rest (lt-ltb (mag (signed v)) (2 ^ 31) (signed_fits v)) e.digit)
        ∙ ap (λ (w : ℕ). some (lexed (item w) (suc (length (decimal_of (signed v)))))) (word_signed v word)

token_read : (t : Token) (rest : List ℕ) → valid_token t ≡ true → Ends rest → token_in (spell_token t ++ rest) ≡ some (lexed t (length (spell_token t)))
unfolding token_in spell_token after_space
token_read (begin k) rest h e =
    let s : 2 + length (name_of k) ≡ suc (suc (length (name_of k))) = omega arith in
    let f = ltb-true k name_count h in
    rw (read_name k rest f e, name_placed k f, s)
token_read (item v) rest h e = read_item v rest (leb-true v dash h) e
token_read end rest h e = refl

pub tokens_read : (ts : List Token) → every valid_token ts ≡ true → tokens_in (spell_tokens ts) ≡ some ts
unfolding spell_tokens bind
tokens_read [] h = tokens_none
tokens_read (t ∷ ts) h =
    let f = both (valid_token t) (every valid_token ts) h in
    tokens_step (spell_token t ++ spell_tokens ts) (rw length-append (omega (arith, spelling_long t)))
    ∙ rw (token_read t (spell_tokens ts) f.0 (spelling_ends ts), drop-append_seam, tokens_read ts f.1)

-- ---- write after read

-- the tokens spell the text, and all are valid
abbrev Spells : List ℕ → List Token → Type 0
Spells l ts = (spell_tokens ts ≡ l) × (every valid_token ts ≡ true)

first_spelled : (rest : List ℕ → Option (List Token)) → ((l : List ℕ) (ts : List Token) → rest l ≡ some ts → Spells l ts)
    → (l : List ℕ) (ts : List Token) → first_and rest l ≡ some ts → Spells l ts
unfolding first_and spell_tokens bind-eq-some_iff
first_spelled rest h [] ts e = rw (← some-injective [] ts e) (refl, refl)
first_spelled rest h (b ∷ l) ts e =
    let f = (bind-eq-some_iff (token_in (b ∷ l)) (λ t. map (λ ts. t.token ∷ ts) (rest (drop t.size (b ∷ l))))).0 e in
    let g = (map-eq-some_iff (λ ts. f.0.token ∷ ts) (rest (drop f.0.size (b ∷ l)))).0 f.2 in
    let s = token_spelled (b ∷ l) f.0 f.1 in
    let r = h (drop f.0.size (b ∷ l)) g.0 g.1 in
    subst (Spells (b ∷ l)) g.2 (rw (← s.text, r.0) (take-append-drop f.0.size (b ∷ l)), rw (s.valid, r.1))

-- with any fuel: where there is too little, nothing was read
spelled_from : (fuel : ℕ) (l : List ℕ) (ts : List Token) → tokens_from fuel l ≡ some ts → Spells l ts
unfolding tokens_from
spelled_from zero l ts e = first_spelled (λ r. none) (λ l ts e. absurd (none-ne-some ts e)) l ts e
spelled_from (suc fuel) l ts e = first_spelled (λ r. tokens_from fuel r) (spelled_from fuel) l ts e

pub tokens_spelled : (l : List ℕ) (ts : List Token) → tokens_in l ≡ some ts → (spell_tokens ts ≡ l) × (every valid_token ts ≡ true)
unfolding tokens_in
tokens_spelled l ts e = spelled_from (length l) l ts e

-- ---- a whole line

pub bracket_read : (b : Bracket) → b.name < name_count → every valid_token b.tokens ≡ true → bracket_in (spell_bracket b) ≡ some b
unfolding bracket_in spell_bracket bind
bracket_read b h e =
    rw (
      read_name b.name (spell_tokens b.tokens) h (spelling_ends b.tokens),
      name_placed b.name h,
      drop-append_seam (name_of b.name) (spell_tokens b.tokens),
      tokens_read b.tokens e,
    )

pub bracket_spelled : (l : List ℕ) (b : Bracket) → bracket_in l ≡ some b → (spell_bracket b ≡ l) × ((b.name < name_count) × (every valid_token b.tokens ≡ true))
unfolding bracket_in spell_bracket bind-eq-some_iff
bracket_spelled [] b e = absurd (none-ne-some b e)
bracket_spelled (c ∷ l) b e = go (eqb c 40) refl e
  where
    rest : List ℕ
    rest = drop (length (letters_in l)) l

    line : ℕ → Option Bracket
    line k = map (λ ts. record { name = k; tokens = ts }) (tokens_in rest)

    go : (q : Bool) → eqb c 40 ≡ q → cond q (bind (place_of (letters_in l)) line) none ≡ some b
        → (spell_bracket b ≡ c ∷ l) × ((b.name < name_count) × (every valid_token b.tokens ≡ true))
    go true h f =
        let g = (bind-eq-some_iff (place_of (letters_in l)) line).0 f in
        let m = (map-eq-some_iff {B = Bracket} (λ ts. record { name = g.0; tokens = ts }) (tokens_in rest)).0 g.2 in
        let n = name_found (letters_in l) g.0 g.1 in
        let s = tokens_spelled rest m.0 m.1 in
        let text : name_of g.0 ++ rest ≡ l =
        ap (λ (r : List ℕ). r ++ rest) (n.0 ∙ sym (take_run is_letter l)) ∙ take-append-drop (length (letters_in l)) l in
        subst (λ (d : Bracket). (spell_bracket d ≡ c ∷ l) × ((d.name < name_count) × (every valid_token d.tokens ≡ true))) m.2
        (rw (eqb-true c 40 h, s.0) (ap (λ (r : List ℕ). 40 ∷ r) text), (n.1, s.1))
    go false h f = absurd (none-ne-some b f)

-- ---- no byte 10

-- bytes that pass a test which implies another, before bytes that pass the other
every_more : (p q : ℕ → Bool) → ((x : ℕ) → p x ≡ true → q x ≡ true) → (s rest : List ℕ) → every p s ≡ true → every q rest ≡ true → every q (s ++ rest) ≡ true
every_more p q h [] rest e f = f
every_more p q h (x ∷ s) rest e f =
    let k = both (p x) (every p s) e in
    rw (h x k.0, every_more p q h s rest k.1 f)

inner : (b : ℕ) → 10 < b → is_inner b ≡ true
inner b h = rw (ne_eqb b 10 (omega arith))

letters_inner : (s rest : List ℕ) → every is_letter s ≡ true → every is_inner rest ≡ true → every is_inner (s ++ rest) ≡ true
letters_inner = every_more is_letter is_inner (λ b e. inner b (omega (arith, leb-true 97 b (both (leb 97 b) (leb b 122) e).0)))

digits_inner : (n : ℕ) (rest : List ℕ) → every is_inner rest ≡ true → every is_inner (digits_of n ++ rest) ≡ true
digits_inner n rest = every_more is_digit is_inner (λ b e. inner b (omega (arith, (digit_is b e).low))) (digits_of n) rest (every_digits n)

decimal_inner : (z : ℤ) (rest : List ℕ) → every is_inner rest ≡ true → every is_inner (decimal_of z ++ rest) ≡ true
unfolding decimal_of
decimal_inner (pos n) rest e = digits_inner n rest e
decimal_inner (negsuc n) rest e = digits_inner (suc n) rest e

item_inner : (v : ℕ) (rest : List ℕ) → every is_inner rest ≡ true → every is_inner (spell_item v ++ rest) ≡ true
unfolding spell_item
item_inner v rest e = go (eqb v dash)
  where
    go : (q : Bool) → every is_inner (cond q (45 ∷ []) (decimal_of (signed v)) ++ rest) ≡ true
    go true = e
    go false = decimal_inner (signed v) rest e

tokens_inner : (ts : List Token) → every valid_token ts ≡ true → every is_inner (spell_tokens ts) ≡ true
unfolding spell_tokens spell_token
tokens_inner [] h = refl
tokens_inner (begin k ∷ ts) h =
    let f = both (ltb k name_count) (every valid_token ts) h in
    letters_inner (name_of k) (spell_tokens ts) (name_letters k (ltb-true k name_count f.0)) (tokens_inner ts f.1)
tokens_inner (item v ∷ ts) h = item_inner v (spell_tokens ts) (tokens_inner ts (both (leb v dash) (every valid_token ts) h).1)
tokens_inner (end ∷ ts) h = tokens_inner ts h

pub bracket_inner : (b : Bracket) → b.name < name_count → every valid_token b.tokens ≡ true → every is_inner (spell_bracket b) ≡ true
unfolding spell_bracket
bracket_inner b h e = letters_inner (name_of b.name) (spell_tokens b.tokens) (name_letters b.name h) (tokens_inner b.tokens e)
