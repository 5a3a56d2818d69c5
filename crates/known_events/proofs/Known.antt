-- Which events are known, by their kinds and fields.
use Prim.Native.Nat.{ℕ, zero, suc, ◌≤◌, ◌<◌}
use mathlib.Core.Path.{◌≡◌, refl, ◌∙◌}
use mathlib.Core.Bool.{Bool, true, false, ◌&&◌, cond, false≢true}
use mathlib.Core.List.{List}
use native.Mathlib.Omega.{arith}
use native.Mathlib.Decide.{dec_le}
use lib.Dec.{ltb, eqb}
use Rattle.meaning.specs.Limits.{cell_count, valid_id, fits_word}
use Rattle.meaning.specs.Schema.{Floor, Schema, known_type, known_relationship}
use Rattle.meaning.specs.Events.{Event, insert, delete, special, general, known_event}
use Rattle.rows.specs.Rows.{signed}
use Rattle.tables.specs.Columns.{no_event, event_of, schema_of}

module _ (S : Schema) where
  -- no event is known where a field is used that is not its
  guarded : (b : Bool) (e : Event) {k : Bool} → k ≡ known_event S e → (b && k) ≡ known_event S (cond b e no_event)
  unfolding known_event valid_id
  guarded true e h = h
  guarded false e h = refl

module _ (n : ℕ) (types : List ℕ) (fs : List Floor) (m : ℕ) (relationships : List ℕ) (x y z : ℕ) where
  abbrev S : Schema
  S = schema_of n types fs m relationships

  pub unknown_kind : (kind : ℕ) → 7 ≤ kind → false ≡ known_event S (event_of kind x y z)
  unfolding event_of known_event valid_id
  unknown_kind zero h = absurd (omega arith)
  unknown_kind (suc zero) h = absurd (omega arith)
  unknown_kind (suc (suc zero)) h = absurd (omega arith)
  unknown_kind (suc (suc (suc zero))) h = absurd (omega arith)
  unknown_kind (suc (suc (suc (suc zero)))) h = absurd (omega arith)
  unknown_kind (suc (suc (suc (suc (suc zero))))) h = absurd (omega arith)
  unknown_kind (suc (suc (suc (suc (suc (suc zero)))))) h = absurd (omega arith)
  unknown_kind (suc (suc (suc (suc (suc (suc (suc k))))))) h = refl

  pub known_delete : (kind : ℕ) → kind ≡ 1 → (eqb y 0 && (eqb z 0 && valid_id x)) ≡ known_event S (event_of kind x y z)
  unfolding event_of known_event
  known_delete kind e = rw e (guarded S (eqb y 0) (cond (eqb z 0) (delete x) no_event) (guarded S (eqb z 0) (delete x) refl))

  pub known_set : (kind : ℕ) → kind ≡ 2 → (valid_id x && ltb y cell_count && fits_word (signed z)) ≡ known_event S (event_of kind x y z)
  unfolding event_of known_event
  known_set kind e = rw e refl

  pub known_join : (kind : ℕ) → kind ≡ 3 → (known_relationship S.relationships x && valid_id y && valid_id z) ≡ known_event S (event_of kind x y z)
  unfolding event_of known_event
  known_join kind e = rw e refl

  pub known_part : (kind : ℕ) → kind ≡ 4 → (known_relationship S.relationships x && valid_id y && valid_id z) ≡ known_event S (event_of kind x y z)
  unfolding event_of known_event
  known_part kind e = rw e refl

  pub known_typed : (kind : ℕ) → kind < 7 → (kind ≡ 1 → ⊥) → (kind ≡ 2 → ⊥) → (kind ≡ 3 → ⊥) → (kind ≡ 4 → ⊥) → (eqb z 0 && (valid_id x && known_type S.types y)) ≡ known_event S (event_of kind x y z)
  unfolding event_of known_event
  known_typed zero h a b d e = guarded S (eqb z 0) (insert x y) refl
  known_typed (suc zero) h a b d e = absurd (a refl)
  known_typed (suc (suc zero)) h a b d e = absurd (b refl)
  known_typed (suc (suc (suc zero))) h a b d e = absurd (d refl)
  known_typed (suc (suc (suc (suc zero)))) h a b d e = absurd (e refl)
  known_typed (suc (suc (suc (suc (suc zero))))) h a b d e = guarded S (eqb z 0) (special x y) refl
  known_typed (suc (suc (suc (suc (suc (suc zero)))))) h a b d e = guarded S (eqb z 0) (general x y) refl
  known_typed (suc (suc (suc (suc (suc (suc (suc k))))))) h a b d e = absurd (omega arith)

  -- a known event is of a known kind
  pub kind_known : (kind : ℕ) → known_event S (event_of kind x y z) ≡ true → kind < 7
  kind_known kind e = go (dec_le 7 kind)
    where
      go : Dec (7 ≤ kind) → kind < 7
      go (yes h) = absurd (false≢true (unknown_kind kind h ∙ e))
      go (no h) = omega arith
