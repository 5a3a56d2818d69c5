-- The ids that an event names, by the words of its row.
use Prim.Native.Nat.{ℕ, zero, suc, ◌<◌, ◌≤◌}
use mathlib.Core.Path.{◌≡◌, refl, ap, ◌∙◌}
use mathlib.Core.Bool.{Bool, true, false, cond}
use mathlib.Core.Option.{none, some}
use native.Mathlib.Omega.{arith}
use lib.Dec.{eqb}
use borrow.Author.Tests.{ne_eqb, eq-eqb}
use Rattle.meaning.specs.Events.{insert, delete, special, general}
use Rattle.tables.specs.Columns.{no_event, event_of}
use Rattle.trace_places.specs.Traces.{named_at}

module _ (x y z : ℕ) where
  -- a set; a join or a part
  pub set_names : {kind : ℕ} → kind ≡ 2 → named_at (event_of kind x y z) 0 ≡ some x
  unfolding event_of
  set_names e = rw e

  pub join_names : {kind : ℕ} → kind ≡ 3 → named_at (event_of kind x y z) 0 ≡ some y
  unfolding event_of
  join_names e = rw e

  pub part_names : {kind : ℕ} → kind ≡ 4 → named_at (event_of kind x y z) 0 ≡ some y
  unfolding event_of
  part_names e = rw e

  -- no event: a field that is not used is not 0, or there is no such kind
  module _ (used : z ≡ 0 → ⊥) where
    pub spoiled_names : (kind : ℕ) → (kind ≡ 2 → ⊥) → (kind ≡ 3 → ⊥) → (kind ≡ 4 → ⊥) → named_at (event_of kind x y z) 0 ≡ some 0
    unfolding event_of
    spoiled_names zero s j p = ap (λ b. named_at (cond b (insert x y) no_event) 0) (ne_eqb z 0 used)
    spoiled_names (suc zero) s j p = ap (λ d. named_at (cond (eqb y 0) (cond d (delete x) no_event) no_event) 0) (ne_eqb z 0 used) ∙ step (eqb y 0)
      where
        step : (b : Bool) → named_at (cond b no_event no_event) 0 ≡ some 0
        step true = refl
        step false = refl
    spoiled_names (suc (suc zero)) s j p = absurd (s refl)
    spoiled_names (suc (suc (suc zero))) s j p = absurd (j refl)
    spoiled_names (suc (suc (suc (suc zero)))) s j p = absurd (p refl)
    spoiled_names (suc (suc (suc (suc (suc zero))))) s j p = ap (λ b. named_at (cond b (special x y) no_event) 0) (ne_eqb z 0 used)
    spoiled_names (suc (suc (suc (suc (suc (suc zero)))))) s j p = ap (λ b. named_at (cond b (general x y) no_event) 0) (ne_eqb z 0 used)
    spoiled_names (suc (suc (suc (suc (suc (suc (suc k))))))) s j p = refl

  pub past_names : (kind : ℕ) → 6 < kind → named_at (event_of kind x y z) 0 ≡ some 0
  unfolding event_of
  past_names (suc (suc (suc (suc (suc (suc (suc k))))))) h = refl
  past_names zero h = absurd (omega arith)
  past_names (suc zero) h = absurd (omega arith)
  past_names (suc (suc zero)) h = absurd (omega arith)
  past_names (suc (suc (suc zero))) h = absurd (omega arith)
  past_names (suc (suc (suc (suc zero)))) h = absurd (omega arith)
  past_names (suc (suc (suc (suc (suc zero))))) h = absurd (omega arith)
  past_names (suc (suc (suc (suc (suc (suc zero)))))) h = absurd (omega arith)

  -- a delete
  pub deleted_none : {kind : ℕ} → kind ≡ 1 → (y ≡ 0 → ⊥) → named_at (event_of kind x y z) 0 ≡ some 0
  unfolding event_of
  deleted_none e u = rw (e, ne_eqb y 0 u)

  pub deleted_names : {kind : ℕ} → kind ≡ 1 → y ≡ 0 → z ≡ 0 → named_at (event_of kind x y z) 0 ≡ some x
  unfolding event_of
  deleted_names e u v = rw (e, u, v)

  -- an event that gives its object a type
  pub typed_names : (kind : ℕ) → kind ≤ 6 → (kind ≡ 1 → ⊥) → (kind ≡ 2 → ⊥) → (kind ≡ 3 → ⊥) → (kind ≡ 4 → ⊥) → z ≡ 0 → named_at (event_of kind x y z) 0 ≡ some x
  unfolding event_of
  typed_names zero h d s j p e = ap (λ b. named_at (cond b (insert x y) no_event) 0) (eq-eqb z 0 e)
  typed_names (suc zero) h d s j p e = absurd (d refl)
  typed_names (suc (suc zero)) h d s j p e = absurd (s refl)
  typed_names (suc (suc (suc zero))) h d s j p e = absurd (j refl)
  typed_names (suc (suc (suc (suc zero)))) h d s j p e = absurd (p refl)
  typed_names (suc (suc (suc (suc (suc zero))))) h d s j p e = ap (λ b. named_at (cond b (special x y) no_event) 0) (eq-eqb z 0 e)
  typed_names (suc (suc (suc (suc (suc (suc zero)))))) h d s j p e = ap (λ b. named_at (cond b (general x y) no_event) 0) (eq-eqb z 0 e)
  typed_names (suc (suc (suc (suc (suc (suc (suc k))))))) h d s j p e = absurd (omega arith)

  -- ---- the second place

  pub join_second : {kind : ℕ} → kind ≡ 3 → named_at (event_of kind x y z) 1 ≡ some z
  unfolding event_of
  join_second e = rw e

  pub part_second : {kind : ℕ} → kind ≡ 4 → named_at (event_of kind x y z) 1 ≡ some z
  unfolding event_of
  part_second e = rw e

  pub no_second : (kind : ℕ) → (kind ≡ 3 → ⊥) → (kind ≡ 4 → ⊥) → named_at (event_of kind x y z) 1 ≡ none
  unfolding event_of
  no_second zero j p = step (eqb z 0)
    where
      step : (b : Bool) → named_at (cond b (insert x y) no_event) 1 ≡ none
      step true = refl
      step false = refl
  no_second (suc zero) j p = step (eqb y 0) (eqb z 0)
    where
      step : (a b : Bool) → named_at (cond a (cond b (delete x) no_event) no_event) 1 ≡ none
      step true true = refl
      step true false = refl
      step false b = refl
  no_second (suc (suc zero)) j p = refl
  no_second (suc (suc (suc zero))) j p = absurd (j refl)
  no_second (suc (suc (suc (suc zero)))) j p = absurd (p refl)
  no_second (suc (suc (suc (suc (suc zero))))) j p = step (eqb z 0)
    where
      step : (b : Bool) → named_at (cond b (special x y) no_event) 1 ≡ none
      step true = refl
      step false = refl
  no_second (suc (suc (suc (suc (suc (suc zero)))))) j p = step (eqb z 0)
    where
      step : (b : Bool) → named_at (cond b (general x y) no_event) 1 ≡ none
      step true = refl
      step false = refl
  no_second (suc (suc (suc (suc (suc (suc (suc k))))))) j p = refl
