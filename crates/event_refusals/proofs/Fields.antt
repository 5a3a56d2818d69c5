-- A row of the table of events that is no event of document 01: refusal 7 meets it.
use Prim.Native.Nat.{ℕ, zero, suc}
use mathlib.Core.Path.{◌≡◌, refl, sym, ap, subst, ◌∙◌}
use mathlib.Core.Bool.{Bool, true, false, cond}
use mathlib.Core.Option.{some}
use lib.Dec.{eqb}
use borrow.Author.Tests.{ne_eqb}
use Rattle.meaning.specs.Limits.{valid_id}
use Rattle.meaning.specs.Schema.{Schema}
use Rattle.meaning.specs.Register.{Register}
use Rattle.meaning.specs.Events.{Event, Lent, insert, delete, set, join, part, special, general, first_met, known_event, checks, event_refusal}
use Rattle.rows.specs.Rows.{signed}
use Rattle.tables.specs.Columns.{no_event, event_of}
use Rattle.tables.specs.Refusals.{found_of}
use Rattle.std.specs.Prelude as Std
use Rattle.std.specs.Prelude.{Some}

module _ (S : Schema) (lent : Lent) (g : Register) where
  pub no_event_refused : event_refusal S lent g no_event ≡ some 7
  unfolding event_refusal checks first_met known_event valid_id
  no_event_refused = refl

  pub refused : {e : Event} → e ≡ no_event → Some 7 ≡ found_of (event_refusal S lent g e)
  refused q = sym (ap (λ e. found_of (event_refusal S lent g e)) q ∙ ap found_of no_event_refused)

-- a refusal of an event that is the row's
pub as_event : (S : Schema) (lent : Lent) (g : Register) {r : Std.Option ℕ} {e d : Event} → d ≡ e → r ≡ found_of (event_refusal S lent g e) → r ≡ found_of (event_refusal S lent g d)
as_event S lent g q p = p ∙ sym (ap (λ e. found_of (event_refusal S lent g e)) q)

-- of two tests of which the second fails, neither has its way
neither : {A : Type 0} (u v : Bool) (a b : A) → v ≡ false → cond u (cond v a b) b ≡ b
neither true v a b e = ap (λ w. cond w a b) e
neither false v a b e = refl

module _ (x y z : ℕ) where
  -- only a set, a join and a part use the third field
  pub third_unused : (kind : ℕ) → (kind ≡ 2 → ⊥) → (kind ≡ 3 → ⊥) → (kind ≡ 4 → ⊥) → (z ≡ 0 → ⊥) → event_of kind x y z ≡ no_event
  unfolding event_of
  third_unused zero a b c d = rw (ne_eqb z 0 d)
  third_unused (suc zero) a b c d = neither (eqb y 0) (eqb z 0) (delete x) no_event (ne_eqb z 0 d)
  third_unused (suc (suc zero)) a b c d = absurd (a refl)
  third_unused (suc (suc (suc zero))) a b c d = absurd (b refl)
  third_unused (suc (suc (suc (suc zero)))) a b c d = absurd (c refl)
  third_unused (suc (suc (suc (suc (suc zero))))) a b c d = rw (ne_eqb z 0 d)
  third_unused (suc (suc (suc (suc (suc (suc zero)))))) a b c d = rw (ne_eqb z 0 d)
  third_unused (suc (suc (suc (suc (suc (suc (suc kind))))))) a b c d = refl

  -- none of the seven kinds
  pub kind_unknown : (kind : ℕ) → (kind ≡ 0 → ⊥) → (kind ≡ 1 → ⊥) → (kind ≡ 2 → ⊥) → (kind ≡ 3 → ⊥) → (kind ≡ 4 → ⊥) → (kind ≡ 5 → ⊥) → (kind ≡ 6 → ⊥) → event_of kind x y z ≡ no_event
  unfolding event_of
  kind_unknown zero a b c d e f g = absurd (a refl)
  kind_unknown (suc zero) a b c d e f g = absurd (b refl)
  kind_unknown (suc (suc zero)) a b c d e f g = absurd (c refl)
  kind_unknown (suc (suc (suc zero))) a b c d e f g = absurd (d refl)
  kind_unknown (suc (suc (suc (suc zero)))) a b c d e f g = absurd (e refl)
  kind_unknown (suc (suc (suc (suc (suc zero))))) a b c d e f g = absurd (f refl)
  kind_unknown (suc (suc (suc (suc (suc (suc zero)))))) a b c d e f g = absurd (g refl)
  kind_unknown (suc (suc (suc (suc (suc (suc (suc kind))))))) a b c d e f g = refl

module _ {kind : ℕ} (x y z : ℕ) where
  pub kind_set : kind ≡ 2 → event_of kind x y z ≡ set x y (signed z)
  unfolding event_of
  kind_set e = rw e

  pub kind_join : kind ≡ 3 → event_of kind x y z ≡ join x y z
  unfolding event_of
  kind_join e = rw e

  pub kind_part : kind ≡ 4 → event_of kind x y z ≡ part x y z
  unfolding event_of
  kind_part e = rw e

  pub kind_insert : kind ≡ 0 → z ≡ 0 → event_of kind x y z ≡ insert x y
  unfolding event_of
  kind_insert e f = rw (e, f)

  pub kind_special : kind ≡ 5 → z ≡ 0 → event_of kind x y z ≡ special x y
  unfolding event_of
  kind_special e f = rw (e, f)

  pub kind_general : kind ≡ 6 → z ≡ 0 → event_of kind x y z ≡ general x y
  unfolding event_of
  kind_general e f = rw (e, f)

  pub kind_delete : kind ≡ 1 → y ≡ 0 → z ≡ 0 → event_of kind x y z ≡ delete x
  unfolding event_of
  kind_delete e f g = rw (e, f, g)

  -- a delete does not use the second field
  pub second_unused : kind ≡ 1 → (y ≡ 0 → ⊥) → event_of kind x y z ≡ no_event
  unfolding event_of
  second_unused e d = rw (e, ne_eqb y 0 d)

-- of a kind that has an unused field, a row that is some event is one of that kind
other_than : (b : Bool) (e : Event) → (cond b e no_event ≡ no_event → ⊥) → cond b e no_event ≡ e
other_than true e d = refl
other_than false e d = absurd (d refl)

module _ {kind : ℕ} (x y z : ℕ) (some_event : event_of kind x y z ≡ no_event → ⊥) where
  pub is_insert : kind ≡ 0 → event_of kind x y z ≡ insert x y
  unfolding event_of
  is_insert e = subst (λ k. (event_of k x y z ≡ no_event → ⊥) → event_of k x y z ≡ insert x y) (sym e) (other_than (eqb z 0) (insert x y)) some_event

  pub is_special : kind ≡ 5 → event_of kind x y z ≡ special x y
  unfolding event_of
  is_special e = subst (λ k. (event_of k x y z ≡ no_event → ⊥) → event_of k x y z ≡ special x y) (sym e) (other_than (eqb z 0) (special x y)) some_event

  pub is_general : kind ≡ 6 → event_of kind x y z ≡ general x y
  unfolding event_of
  is_general e = subst (λ k. (event_of k x y z ≡ no_event → ⊥) → event_of k x y z ≡ general x y) (sym e) (other_than (eqb z 0) (general x y)) some_event

  pub is_delete : kind ≡ 1 → event_of kind x y z ≡ delete x
  unfolding event_of
  is_delete e = subst (λ k. (event_of k x y z ≡ no_event → ⊥) → event_of k x y z ≡ delete x) (sym e) (both (eqb y 0) (eqb z 0)) some_event
    where
      both : (u v : Bool) → (cond u (cond v (delete x) no_event) no_event ≡ no_event → ⊥) → cond u (cond v (delete x) no_event) no_event ≡ delete x
      both true v d = other_than v (delete x) d
      both false v d = absurd (d refl)
