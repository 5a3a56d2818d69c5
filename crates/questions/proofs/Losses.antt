-- The losses of an object, by the chain of its row.
use Prim.Native.Nat.{ℕ, zero, suc, ◌<◌}
use mathlib.Core.Path.{◌≡◌, refl, sym, ap, ap₂, subst, ◌∙◌}
use mathlib.Core.Bool.{Bool, true, false, ◌&&◌, ◌||◌, or-true}
use mathlib.Core.List.{List}
use mathlib.Core.Logic.{⊎_elim}
use mathlib.Core.Option.{some}
use native.Mathlib.Nat.{eq-or-lt_of_le, le_of_suc-le-suc}
use native.Mathlib.Omega.{arith}
use lib.Dec.{T, eqb}
use mir.Facts.{eqb_yes}
use borrow.Author.Tests.{eq-eqb, ne_eqb, eqb-true}
use Rattle.meaning.specs.Reach.{Change, some_step, taken}
use Rattle.rows.specs.Rows.{word_at}
use Rattle.tables.specs.Losses.{loss_is, lost_in}
use Rattle.tables.specs.declared.Counts.{Counts}
use Rattle.walks.specs.Site.{id_in}
use Rattle.trace_places.specs.Questions.{taken_from, question_of}
use Rattle.trace_places.specs.Traces.{row_lost, loss_role, loss_count, Traced}
use Rattle.questions.proofs.Asking.{row_names, names_row}

-- no delete answers another question
pub not_taken : (c : Change) (x u question : ℕ) → (question ≡ 2 → ⊥) → taken_from c (question_of question x) u ≡ false
not_taken c x u zero d = refl
not_taken c x u (suc zero) d = refl
not_taken c x u (suc (suc zero)) d = absurd (d refl)
not_taken c x u (suc (suc (suc zero))) d = refl
not_taken c x u (suc (suc (suc (suc zero)))) d = refl
not_taken c x u (suc (suc (suc (suc (suc code))))) d = refl

-- ---- one of the first rows, or none

module _ (losses : List ℕ) (r u : ℕ) where
  one_lost : (n j : ℕ) → j < n → loss_is losses r u j ≡ true → lost_in losses n r u ≡ true
  one_lost zero j h e = absurd (omega arith)
  one_lost (suc n) j h e =
      ⊎_elim
      (λ (q : j ≡ n). ap (λ b. lost_in losses n r u || b) (ap (loss_is losses r u) (sym q) ∙ e) ∙ or-true (lost_in losses n r u))
      (λ (l : j < n). ap (λ b. b || loss_is losses r u n) (one_lost n j l e))
      (eq-or-lt_of_le (le_of_suc-le-suc h))

  none_lost : (n : ℕ) → ((j : ℕ) → j < n → loss_is losses r u j ≡ false) → lost_in losses n r u ≡ false
  none_lost zero h = refl
  none_lost (suc n) h = ap₂ ◌||◌ (none_lost n (λ j l. h j (omega arith))) (h n (omega arith))

-- ---- by the chain of a row

module _ {c : Change} {n : Counts} {types objects links events trace : List ℕ} (traced : Traced c n types objects links events trace) {row : ℕ} (there : row < n.objects) (r : ℕ) where
  abbrev u : ℕ
  u = id_in objects row

  abbrev losses : List ℕ
  losses = traced.losses

  -- a loss of the role in the row's chain
  pub lost_found : (j : ℕ) → j < loss_count trace → row_lost trace j ≡ row → loss_role trace j ≡ r → true ≡ some_step c (taken r u)
  lost_found j h k e =
      sym (one_lost losses r u (loss_count trace) j h
      (ap₂ ◌&&◌ (eq-eqb (word_at losses 2 j 0) r (sym (traced.lost.role_is j h) ∙ e)) (eq-eqb (word_at losses 2 j 1) u (sym (eqb_yes (row_names traced there (some (word_at losses 2 j 1)) (sym (traced.lost.row_is j h) ∙ k)))))))
      ∙ traced.lost.lost_is r u

  -- no loss of the row's chain is of the role
  pub lost_none : ((j : ℕ) → j < loss_count trace → row_lost trace j ≡ row → eqb (loss_role trace j) r ≡ false) → false ≡ some_step c (taken r u)
  lost_none h = sym (none_lost losses r u (loss_count trace) still) ∙ traced.lost.lost_is r u
    where
      still : (j : ℕ) → j < loss_count trace → loss_is losses r u j ≡ false
      still j l = step (eqb (word_at losses 2 j 1) u) refl
        where
          step : (b : Bool) → eqb (word_at losses 2 j 1) u ≡ b → loss_is losses r u j ≡ false
          step true e =
              let id_is = eqb-true (word_at losses 2 j 1) u e in
              ap₂ ◌&&◌ (ap (λ w. eqb w r) (sym (traced.lost.role_is j l)) ∙ h j l (traced.lost.row_is j l ∙ names_row traced there (some (word_at losses 2 j 1)) (eq-eqb u (word_at losses 2 j 1) (sym id_is)))) e
          step false e = ap (λ b. eqb (word_at losses 2 j 0) r && b) e ∙ none (eqb (word_at losses 2 j 0) r)
            where
              none : (b : Bool) → (b && false) ≡ false
              none true = refl
              none false = refl

-- ---- sets that hold the row of every loss of a role hold every object from which the role lost a link

pub lost_covers : {c : Change} {n : Counts} {types objects links events trace : List ℕ} (traced : Traced c n types objects links events trace) (r : ℕ) (marked : ℕ → Bool)
    → ((j : ℕ) → j < loss_count trace → row_lost trace j < n.objects → loss_role trace j ≡ r → marked (row_lost trace j) ≡ true)
    → (row : ℕ)
    → row < n.objects
    → some_step c (taken r (id_in objects row)) ≡ true
    → marked row ≡ true
lost_covers {c} {n} {types} {objects} {links} {events} {trace} traced r marked each row there lost = step (marked row) refl
  where
    step : (b : Bool) → marked row ≡ b → marked row ≡ true
    step true e = e
    step false e = absurd (subst T (sym lost ∙ sym (lost_none traced there r silent)) tt)
      where
        silent : (j : ℕ) → j < loss_count trace → row_lost trace j ≡ row → eqb (loss_role trace j) r ≡ false
        silent j h is = ne_eqb (loss_role trace j) r (λ q. subst T (sym (each j h (subst (λ v. v < n.objects) (sym is) there) q) ∙ ap marked is ∙ e) tt)
