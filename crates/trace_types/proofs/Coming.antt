-- The types that an event's object comes into or goes out of, by the words of its row.
use Prim.Native.Nat.{ℕ, zero, suc, ◌≤◌, ◌<◌}
use mathlib.Core.Path.{◌≡◌, refl, sym, ap, ap₂, subst, ◌∙◌}
use mathlib.Core.Bool.{Bool, true, false, ◌&&◌, ◌||◌, not, cond, and-true, or-false}
use mathlib.Core.List.{List}
use native.Mathlib.Omega.{arith}
use lib.Dec.{eqb}
use borrow.Author.Tests.{ne_eqb}
use Rattle.meaning.specs.Schema.{ObjectType, under}
use Rattle.meaning.specs.Events.{Event, insert, delete, special, general}
use Rattle.meaning.specs.Reach.{inserts, deletes, specials, generals, among}
use Rattle.tables.specs.Columns.{no_event, event_of}
use Rattle.trace_places.specs.Questions.{met_under}
use Rattle.trace_places.specs.Making.{comes_into, goes_from, delete_words, comes_by, goes_by}
use Rattle.trace_places.proofs.Questions.{type_words_lem}

-- ---- truths

-- the object is one of them, whichever way it came
comes_apart : (a b z u v w : Bool) → ((a && (z && (w && u))) || (b && (z && (w && v)))) ≡ (((a && (z && u)) || (b && (z && v))) && w)
comes_apart true true true true true true = refl
comes_apart true true true true false true = refl
comes_apart true true true false true true = refl
comes_apart true true true false false true = refl
comes_apart true true true true true false = refl
comes_apart true true true true false false = refl
comes_apart true true true false true false = refl
comes_apart true true true false false false = refl
comes_apart true true false u v w = refl
comes_apart true false true true v true = refl
comes_apart true false true true v false = refl
comes_apart true false true false v true = refl
comes_apart true false true false v false = refl
comes_apart true false false u v w = refl
comes_apart false true true u true true = refl
comes_apart false true true u true false = refl
comes_apart false true true u false true = refl
comes_apart false true true u false false = refl
comes_apart false true false u v w = refl
comes_apart false false z u v w = refl

pub comes_words : (ts : List ObjectType) (kind x y z met t : ℕ) (whom : ℕ → Bool) → comes_into ts (event_of kind x y z) met t whom ≡ (comes_by kind z (under ts y t) (met_under ts met t) && whom x)
unfolding comes_into
comes_words ts kind x y z met t whom =
    let into = under ts y t in
    let had = met_under ts met t in
    ap₂ ◌||◌
    (type_words_lem inserts (λ id u n. whom id && under ts u t) x y z refl refl refl refl kind)
    (type_words_lem specials (λ id u n. whom id && (under ts u t && not had)) x y z refl refl refl refl kind)
    ∙ comes_apart (eqb 0 kind) (eqb 5 kind) (eqb z 0) into (into && not had) (whom x)

pub delete_words_lem : (kind x y z : ℕ) (had : Bool) → among deletes (λ id u n. had) (event_of kind x y z) ≡ (delete_words kind z && had)
unfolding event_of
delete_words_lem kind x y z had = step kind
  where
    test : Event → Bool
    test e = among deletes (λ id u n. had) e

    either_way_lem : (e : Event) → test e ≡ false → (b : Bool) → test (cond b e no_event) ≡ (not b && had)
    either_way_lem e h true = h
    either_way_lem e h false = refl

    both : (a b : Bool) → test (cond a (cond b (delete x) no_event) no_event) ≡ had
    both true true = refl
    both true false = refl
    both false b = refl

    step : (kind : ℕ) → test (event_of kind x y z) ≡ (delete_words kind z && had)
    step zero = either_way_lem (insert x y) refl (eqb z 0)
    step (suc zero) = both (eqb y 0) (eqb z 0)
    step (suc (suc zero)) = refl
    step (suc (suc (suc zero))) = refl
    step (suc (suc (suc (suc zero)))) = refl
    step (suc (suc (suc (suc (suc zero))))) = either_way_lem (special x y) refl (eqb z 0)
    step (suc (suc (suc (suc (suc (suc zero)))))) = either_way_lem (general x y) refl (eqb z 0)
    step (suc (suc (suc (suc (suc (suc (suc k))))))) = refl

pub goes_words : (ts : List ObjectType) (kind x y z met t : ℕ) → goes_from ts (event_of kind x y z) met t ≡ goes_by kind z (under ts y t) (met_under ts met t)
unfolding goes_from
goes_words ts kind x y z met t =
    ap₂ ◌||◌ (delete_words_lem kind x y z (met_under ts met t)) (type_words_lem generals (λ id u n. met_under ts met t && not (under ts u t)) x y z refl refl refl refl kind)

-- ---- what the code looks at, in its order

module _ (kind z : ℕ) (into had : Bool) where
  abbrev in_words : Bool
  in_words = comes_by kind z into had

  abbrev out_words : Bool
  out_words = goes_by kind z into had

  both_off : (a b : Bool) → ((a && false) || (b && false)) ≡ false
  both_off true true = refl
  both_off true false = refl
  both_off false true = refl
  both_off false false = refl

  pub comes_spoiled : (z ≡ 0 → ⊥) → in_words ≡ false
  comes_spoiled h = rw (ne_eqb z 0 h) (both_off (eqb 0 kind) (eqb 5 kind))

  pub comes_insert : kind ≡ 0 → z ≡ 0 → in_words ≡ into
  comes_insert k h = rw (k, h) (or-false (into))

  pub comes_other : (kind ≡ 0 → ⊥) → (kind ≡ 5 → ⊥) → in_words ≡ false
  comes_other i s = rw (ne_eqb 0 kind (λ q. i (sym q)), ne_eqb 5 kind (λ q. s (sym q)))

  pub comes_still : kind ≡ 5 → had ≡ true → in_words ≡ false
  comes_still k h = rw (k, h) (off (eqb z 0) (into))
    where
      off : (a b : Bool) → (a && (b && false)) ≡ false
      off true true = refl
      off true false = refl
      off false b = refl

  pub comes_special : kind ≡ 5 → z ≡ 0 → had ≡ false → in_words ≡ into
  comes_special k h m = rw (k, h, m) (and-true (into))

  pub goes_still : had ≡ false → out_words ≡ false
  goes_still h = rw h (off (delete_words kind z) (eqb 6 kind) (eqb z 0))
    where
      off : (a b c : Bool) → ((a && false) || (b && (c && false))) ≡ false
      off true true true = refl
      off true true false = refl
      off true false c = refl
      off false true true = refl
      off false true false = refl
      off false false c = refl

  pub goes_delete : delete_words kind z ≡ true → had ≡ true → out_words ≡ true
  goes_delete d h = rw (d, h)

  pub goes_other : delete_words kind z ≡ false → (kind ≡ 6 → ⊥) → out_words ≡ false
  goes_other d g = rw (d, ne_eqb 6 kind (λ q. g (sym q)))

  pub goes_general : delete_words kind z ≡ false → kind ≡ 6 → had ≡ true → out_words ≡ not (into)
  goes_general d k h = rw (d, h, k) (step (eqb z 0) (sym (ap (λ j. delete_words j z) k) ∙ d))
    where
      step : (b : Bool) → not b ≡ false → (b && not (into)) ≡ not (into)
      step true e = refl
      step false e = absurd (subst (λ b. cond b ℕ ⊥) e 0)

-- a row that is read as a delete, by ranges of its kind
pub delete_own : {kind : ℕ} (z : ℕ) → kind ≡ 1 → true ≡ delete_words kind z
delete_own z e = rw e

pub delete_past : (kind z : ℕ) → 6 < kind → true ≡ delete_words kind z
delete_past zero z h = absurd (omega arith)
delete_past (suc zero) z h = refl
delete_past (suc (suc zero)) z h = absurd (omega arith)
delete_past (suc (suc (suc zero))) z h = absurd (omega arith)
delete_past (suc (suc (suc (suc zero)))) z h = absurd (omega arith)
delete_past (suc (suc (suc (suc (suc zero))))) z h = absurd (omega arith)
delete_past (suc (suc (suc (suc (suc (suc zero)))))) z h = absurd (omega arith)
delete_past (suc (suc (suc (suc (suc (suc (suc k))))))) z h = refl

pub delete_low : (kind z : ℕ) → kind < 2 → (kind ≡ 1 → ⊥) → not (eqb z 0) ≡ delete_words kind z
delete_low zero z h d = refl
delete_low (suc zero) z h d = absurd (d refl)
delete_low (suc (suc k)) z h d = absurd (omega arith)

pub delete_high : (kind z : ℕ) → 4 < kind → kind ≤ 6 → not (eqb z 0) ≡ delete_words kind z
delete_high zero z h l = absurd (omega arith)
delete_high (suc zero) z h l = absurd (omega arith)
delete_high (suc (suc zero)) z h l = absurd (omega arith)
delete_high (suc (suc (suc zero))) z h l = absurd (omega arith)
delete_high (suc (suc (suc (suc zero)))) z h l = absurd (omega arith)
delete_high (suc (suc (suc (suc (suc zero))))) z h l = refl
delete_high (suc (suc (suc (suc (suc (suc zero)))))) z h l = refl
delete_high (suc (suc (suc (suc (suc (suc (suc k))))))) z h l = absurd (omega arith)

pub delete_mid : (kind z : ℕ) → 2 ≤ kind → kind ≤ 4 → false ≡ delete_words kind z
delete_mid zero z h l = absurd (omega arith)
delete_mid (suc zero) z h l = absurd (omega arith)
delete_mid (suc (suc zero)) z h l = refl
delete_mid (suc (suc (suc zero))) z h l = refl
delete_mid (suc (suc (suc (suc zero)))) z h l = refl
delete_mid (suc (suc (suc (suc (suc k))))) z h l = absurd (omega arith)

-- what a negated test says
pub not_so : (b : Bool) → not b ≡ true → b ≡ false
not_so true e = sym e
not_so false e = refl

pub so_not : (b : Bool) → not b ≡ false → b ≡ true
so_not true e = refl
so_not false e = sym e
