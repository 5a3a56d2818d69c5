-- `register::search::put_guess` meets its contract.
use Prim.Native.Nat.{ℕ, ◌%◌}
use mathlib.Core.Path.{◌≡◌, sym, ap, ◌∙◌}
use mathlib.Core.Bool.{Bool}
use mathlib.Core.List.{List}
use lib.Dec.{eqb}
use lib.ListN.{get_or, set}
use mir.Facts.{yes_eqb, no_eqb}
use Rattle.meaning.proofs.Lists.{cond_yes, cond_no}
use Rattle.register.specs.Guesses.{guess_place, with_guess}
use Rattle.register.proofs.search.put_guess.Goals as goal

module _ (table : List ℕ) (id row : ℕ) where
  abbrev put : ℕ → List ℕ
  put i = set table i (row % 65536)

  abbrev free : Bool
  free = eqb (get_or table (guess_place id 0) 0) 0

  at_first : {i : ℕ} → i ≡ guess_place id 0 → get_or table i 0 ≡ 0 → put i ≡ with_guess table id row
  unfolding with_guess
  at_first p e = ap put p ∙ sym (cond_yes free (put (guess_place id 0)) (put (guess_place id 1)) (yes_eqb (sym (ap (λ i. get_or table i 0) p) ∙ e)))

  at_second : {i j : ℕ} → i ≡ guess_place id 0 → (get_or table i 0 ≡ 0 → ⊥) → j ≡ guess_place id 1 → put j ≡ with_guess table id row
  unfolding with_guess
  at_second p d q = ap put q ∙ sym (cond_no free (put (guess_place id 0)) (put (guess_place id 1)) (no_eqb (λ e. d (ap (λ i. get_or table i 0) p ∙ e))))

pub returns-then-table-first-eq0 : goal.returns-then-table-first-eq0
returns-then-table-first-eq0 c =
    let x = c.args in
    at_first x.table.now x.id x.row c.place-first.ensures c.if-table-first-eq0.true

pub returns-else-table-first-eq0 : goal.returns-else-table-first-eq0
returns-else-table-first-eq0 c =
    let x = c.args in
    at_second x.table.now x.id x.row c.place-first.ensures c.if-table-first-eq0.false c.place.ensures
