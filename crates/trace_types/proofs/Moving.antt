-- The sets of directions in which all objects of a type move: of one type, of all types, and by one event more.
use Prim.Native.Nat.{ℕ, zero, suc, ◌+◌, ◌*◌, ◌≤◌, ◌<◌}
use mathlib.Core.Path.{◌≡◌, refl, sym, ap, subst, ◌∙◌}
use mathlib.Core.Bool.{Bool, true, false, ◌&&◌, ◌||◌, or-false, or_assoc}
use mathlib.Core.List.{List}
use mathlib.Core.Logic.{⊎_elim}
use native.Mathlib.Nat.{eq-or-lt_of_le, le_of_suc-le-suc}
use native.Mathlib.Omega.{arith}
use lib.Dec.{eqb}
use lib.ListN.{length, get_or, set}
use lib.Seq.{get_or-set_same, get_or-set_other}
use borrow.Author.Tests.{eqb-true, eqb-false}
use Rattle.meaning.specs.Limits.{max_types}
use Rattle.meaning.specs.Schema.{ObjectType, under}
use Rattle.meaning.specs.Register.{Register, is_under}
use Rattle.meaning.specs.Reach.{Direction, up, down}
use Rattle.tables.specs.Columns.{event_of}
use Rattle.directions.specs.Sets.{holds_one, has}
use Rattle.trace_places.specs.Questions.{met_under}
use Rattle.trace_places.specs.Traces.{all_set}
use Rattle.trace_places.specs.Making.{ForTypes, comes_by, goes_by, either_way, event_moves, SetWith, SetsWith}
use Rattle.trace_types.proofs.Coming.{comes_words, goes_words, comes_other, goes_other, delete_mid}

-- ---- a set by its two directions

set_words : (x y : ℕ) → x < 2 → y < 2 → (d : Direction) → has (x + y * 2) d ≡ either_way (eqb x 1) (eqb y 1) d
set_words zero zero h l up = refl
set_words zero zero h l down = refl
set_words zero (suc zero) h l up = refl
set_words zero (suc zero) h l down = refl
set_words (suc zero) zero h l up = refl
set_words (suc zero) zero h l down = refl
set_words (suc zero) (suc zero) h l up = refl
set_words (suc zero) (suc zero) h l down = refl
set_words zero (suc (suc y)) h l d = absurd (omega arith)
set_words (suc zero) (suc (suc y)) h l d = absurd (omega arith)
set_words (suc (suc x)) y h l d = absurd (omega arith)

pub words_with : (set x y : ℕ) (gain loss : Bool) → x < 2 → y < 2 → eqb x 1 ≡ (holds_one set 1 || gain) → eqb y 1 ≡ (holds_one set 2 || loss)
    → (d : Direction) → has (x + y * 2) d ≡ (has set d || either_way gain loss d)
words_with set x y gain loss h l a b up = set_words x y h l up ∙ a
words_with set x y gain loss h l a b down = set_words x y h l down ∙ b

-- ---- the set of a type

pub set_put : (trace : List ℕ) → length trace ≡ 16675 → (t : ℕ) → t < max_types → {word : ℕ} {moved : Direction → Bool} → word < 4
    → ((d : Direction) → has word d ≡ (has (all_set trace t) d || moved d)) → SetWith trace (set trace (1536 + t) word) t moved
set_put trace room t h {word} low is =
    let own : all_set (set trace (1536 + t) word) t ≡ word = get_or-set_same trace (1536 + t) word 0 (omega arith) in
    record {
      set_is = λ d. ap (λ w. has w d) own ∙ is d;
      small = subst (λ w. w < 4) (sym own) low;
      other = λ k d. get_or-set_other trace (1536 + t) k word 0 d;
    }

-- ---- the sets of all types

pub sets_none : (trace : List ℕ) (moved : ℕ → Direction → Bool) → SetsWith trace trace moved 0
sets_none trace moved = record { sets_are = λ t h d. absurd (omega arith); small = λ t h. h; below = λ k h. refl; above = λ k h. refl }

pub sets_more : {before trace more : List ℕ} {moved : ℕ → Direction → Bool} {also : Direction → Bool} (t : ℕ) → SetsWith before trace moved t → SetWith trace more t also → also ≡ moved t → SetsWith before more moved (suc t)
sets_more {before} {trace} {more} {moved} {also} t b own same =
    record {
      sets_are = λ u h d.
          ⊎_elim
          (λ (q : u ≡ t). subst (λ k. has (all_set more k) d ≡ (has (all_set before k) d || moved k d)) (sym q) (own.set_is d ∙ (λ k. has (b.above (1536 + t) (omega arith) k) d || same k d)))
          (λ (q : u < t). ap (λ w. has w d) (own.other (1536 + u) (λ e. omega arith)) ∙ b.sets_are u q d)
          (eq-or-lt_of_le (le_of_suc-le-suc h));
      small = λ u h. low u h (eqb u t) refl;
      below = λ k h. own.other k (λ e. omega arith) ∙ b.below k h;
      above = λ k h. own.other k (λ e. omega arith) ∙ b.above k (omega arith);
    }
  where
    low : (u : ℕ) → all_set before u < 4 → (c : Bool) → eqb u t ≡ c → all_set more u < 4
    low u h true e = subst (λ k. all_set more k < 4) (sym (eqb-true u t e)) own.small
    low u h false e = subst (λ w. w < 4) (sym (own.other (1536 + u) (λ q. eqb-false u t e (omega arith)))) (b.small u h)

pub sets_as : {before after : List ℕ} {f g : ℕ → Direction → Bool} {n : ℕ} → SetsWith before after f n → ((t : ℕ) → t < n → (d : Direction) → f t d ≡ g t d) → SetsWith before after g n
sets_as {before} b same =
    record {
      sets_are = λ t h d. b.sets_are t h d ∙ ap (λ x. has (all_set before t) d || x) (same t h d);
      small = b.small;
      below = b.below;
      above = b.above;
    }

pub sets_still : (trace : List ℕ) (moved : ℕ → Direction → Bool) (n : ℕ) → ((t : ℕ) (d : Direction) → moved t d ≡ false) → SetsWith trace trace moved n
sets_still trace moved n still =
    record {
      sets_are = λ t h d. sym (ap (λ x. has (all_set trace t) d || x) (still t d) ∙ or-false (has (all_set trace t) d));
      small = λ t h. h;
      below = λ k h. refl;
      above = λ k h. refl;
    }

pub sets_then : {one two three : List ℕ} {f g : ℕ → Direction → Bool} {n : ℕ} → SetsWith one two f n → SetsWith two three g n → SetsWith one three (λ t d. f t d || g t d) n
sets_then {one} {f = f} {g = g} a b =
    record {
      sets_are = λ t h d. b.sets_are t h d ∙ ap (λ x. x || g t d) (a.sets_are t h d) ∙ or_assoc (has (all_set one t) d) (f t d) (g t d);
      small = λ t h. b.small t (a.small t h);
      below = λ k h. b.below k h ∙ a.below k h;
      above = λ k h. b.above k h ∙ a.above k h;
    }

-- ---- an event by its words

-- what moves a type, by whether it is above the type that an event names, the one that it met, and the object's at the end
abbrev pub truths_move : ℕ → ℕ → Bool → Bool → Bool → Direction → Bool
truths_move kind z into had there = either_way (comes_by kind z into had && there) (goes_by kind z into had)

module _ (ts : List ObjectType) (g : Register) (kind x y z met : ℕ) where
  moves_words : (t : ℕ) (d : Direction) → event_moves ts g (event_of kind x y z) met t d ≡ truths_move kind z (under ts y t) (met_under ts met t) (is_under ts g x t) d
  moves_words t up = comes_words ts kind x y z met t (λ u. is_under ts g u t)
  moves_words t down = goes_words ts kind x y z met t

  pub moves_truths : {into had there : List Bool} → ForTypes into (under ts y) → ForTypes had (met_under ts met) → ForTypes there (is_under ts g x)
      → (t : ℕ) → t < max_types → (d : Direction) → truths_move kind z (get_or into t false) (get_or had t false) (get_or there t false) d ≡ event_moves ts g (event_of kind x y z) met t d
  moves_truths a b c t h d = (λ k. truths_move kind z (a.each t h k) (b.each t h k) (c.each t h k) d) ∙ sym (moves_words t d)

  -- a set, a join or a part moves no type
  pub moves_none : 2 ≤ kind → kind ≤ 4 → (t : ℕ) (d : Direction) → event_moves ts g (event_of kind x y z) met t d ≡ false
  moves_none l h t up = moves_words t up ∙ ap (λ b. b && is_under ts g x t) (comes_other kind z (under ts y t) (met_under ts met t) (λ q. omega arith) (λ q. omega arith))
  moves_none l h t down = moves_words t down ∙ goes_other kind z (under ts y t) (met_under ts met t) (sym (delete_mid kind z l h)) (λ q. omega arith)
