-- The losses of a batch in its trace, from none to all: one loss more at the head of its row's chain.
use Prim.Native.Nat.{ℕ, suc, ◌+◌, ◌*◌, ◌≤◌, ◌<◌}
use mathlib.Core.Path.{◌≡◌, refl, subst, ◌∙◌}
use mathlib.Core.Logic.{⊎_elim}
use mathlib.Core.List.{List, []}
use mathlib.Core.Option.{some}
use native.Mathlib.Nat.{eq-or-lt_of_le}
use native.Mathlib.Omega.{arith}
use lib.ListN.{length, get_or, set}
use lib.Seq.{get_or-set_same, get_or-set_other}
use Rattle.meaning.specs.Limits.{max_objects}
use Rattle.rows.specs.Rows.{word_at}
use Rattle.chains.specs.Chains.{pushed}
use Rattle.chains.proofs.Chains.{chained_none, Pushed, chained_more}
use Rattle.chains.proofs.Pushes.{pushed_room, pushed_other, pushed_row, pushed_next, pushed_head}
use Rattle.trace_places.specs.Traces.{next_loss, loss_role, loss_count, first_loss, loss_slot, row_lost, loss_row}
use Rattle.trace_places.specs.Making.{loss_put, LossesPut}
use Rattle.trace_places.proofs.Placing.{or_past_lem}

-- ---- the words of the table with one loss more

module _ (trace : List ℕ) (j row role : ℕ) where
  abbrev chain : List ℕ
  chain = pushed trace (loss_slot j) row 4352 (14626 + 2 * row)

  beside_role : (k : ℕ) → (k ≡ 10272 + j → ⊥) → get_or (loss_put trace j row role) k 0 ≡ get_or chain k 0
  beside_role k d = get_or-set_other chain (10272 + j) k role 0 d

  put_other : (k : ℕ) → (k ≡ 1568 + j → ⊥) → (k ≡ 5920 + j → ⊥) → (k ≡ 14626 + 2 * row → ⊥) → (k ≡ 10272 + j → ⊥) → get_or (loss_put trace j row role) k 0 ≡ get_or trace k 0
  put_other k a b c d = beside_role k d ∙ pushed_other trace (loss_slot j) row 4352 (14626 + 2 * row) k a (λ e. b (omega arith)) c

  module _ (room : length trace ≡ 16675) (h : j < 4352) (l : row ≤ 1024) where
    put_row : row_lost (loss_put trace j row role) j ≡ row
    put_row = beside_role (loss_slot j) (λ e. omega arith) ∙ pushed_row trace (loss_slot j) row 4352 (14626 + 2 * row) (omega arith) (omega arith) (omega arith)

    put_next : next_loss (loss_put trace j row role) (loss_slot j) ≡ first_loss trace row
    put_next = beside_role (4352 + loss_slot j) (λ e. omega arith) ∙ pushed_next trace (loss_slot j) row 4352 (14626 + 2 * row) (omega arith) (omega arith) (omega arith)

    put_first : first_loss (loss_put trace j row role) row ≡ suc (loss_slot j)
    put_first = beside_role (14626 + 2 * row) (λ e. omega arith) ∙ pushed_head trace (loss_slot j) row 4352 (14626 + 2 * row) (omega arith) (omega arith) (omega arith)

    put_role : loss_role (loss_put trace j row role) j ≡ role
    put_role = get_or-set_same chain (10272 + j) role 0 (omega (arith, pushed_room trace (loss_slot j) row 4352 (14626 + 2 * row) room))

-- ---- one loss more

module _ (m : ℕ) (objects losses : List ℕ) (few : m ≤ max_objects) (count : ℕ) where
  abbrev key : ℕ → ℕ
  key = loss_row m objects losses

  pub row_low : (j : ℕ) → key j ≤ 1024
  row_low j = or_past_lem m objects [] few (some (word_at losses 2 j 1))

  pub put_none : (trace : List ℕ) → ((row : ℕ) → first_loss trace row ≡ 0) → LossesPut m objects losses count trace trace count
  put_none trace none =
      record {
        row_is = λ j h l. absurd (omega arith);
        role_is = λ j h l. absurd (omega arith);
        chained = chained_none loss_slot key count (next_loss trace) (first_loss trace) none;
        below = λ k h. refl;
        first_kept = λ row. refl;
      }

  -- all of them, and their number
  pub put_all : (before trace : List ℕ) → length trace ≡ 16675 → count ≤ 4352 → LossesPut m objects losses count before trace 0 → LossesPut m objects losses count before (set trace 14624 count) 0 × (loss_count (set trace 14624 count) ≡ count)
  put_all before trace room fits b = (
    record {
      row_is = λ j h l. beside (loss_slot j) (λ e. omega arith) ∙ b.row_is j h l;
      role_is = λ j h l. beside (10272 + j) (λ e. omega arith) ∙ b.role_is j h l;
      chained = record {
        next_is = λ p h l. beside (4352 + (1568 + p)) (λ e. omega arith) ∙ b.chained.next_is p h l;
        head_is = λ k. beside (14626 + 2 * k) (λ e. omega arith) ∙ b.chained.head_is k;
      };
      below = λ k h. beside k (λ e. omega arith) ∙ b.below k h;
      first_kept = λ row. beside (14625 + 2 * row) (λ e. omega arith) ∙ b.first_kept row;
    },
    get_or-set_same trace 14624 count 0 (omega arith),
  )
    where
      beside : (k : ℕ) → (k ≡ 14624 → ⊥) → get_or (set trace 14624 count) k 0 ≡ get_or trace k 0
      beside k d = get_or-set_other trace 14624 k count 0 d

  module _ (before trace : List ℕ) (room : length trace ≡ 16675) (i : ℕ) (h : i < count) (fits : count ≤ 4352) where
    abbrev role : ℕ → ℕ
    role j = word_at losses 2 j 0

    abbrev more : List ℕ
    more = loss_put trace i (key i) (role i)

    within : i < 4352
    within = omega arith

    other : (k : ℕ) → (k ≡ 1568 + i → ⊥) → (k ≡ 5920 + i → ⊥) → (k ≡ 14626 + 2 * key i → ⊥) → (k ≡ 10272 + i → ⊥) → get_or more k 0 ≡ get_or trace k 0
    other = put_other trace i (key i) (role i)

    pub put_more : LossesPut m objects losses count before trace (suc i) → LossesPut m objects losses count before more i
    put_more b =
        record {
          row_is = row;
          role_is = named;
          chained = chained_more loss_slot key count i b.chained h joins;
          below = λ k u. other k (λ e. omega arith) (λ e. omega arith) (λ e. omega arith) (λ e. omega arith) ∙ b.below k u;
          first_kept = λ k. other (14625 + 2 * k) (λ e. omega (arith, within)) (λ e. omega (arith, within)) (λ e. omega arith) (λ e. omega (arith, within)) ∙ b.first_kept k;
        }
      where
        row : (p : ℕ) → i ≤ p → p < count → row_lost more p ≡ key p
        row p l u =
            ⊎_elim
            (λ (t : i ≡ p). subst (λ y. row_lost more y ≡ key y) t (put_row trace i (key i) (role i) room within (row_low i)))
            (λ (t : i < p). other (1568 + p) (λ e. omega arith) (λ e. omega arith) (λ e. omega arith) (λ e. omega arith) ∙ b.row_is p t u)
            (eq-or-lt_of_le l)

        named : (p : ℕ) → i ≤ p → p < count → loss_role more p ≡ role p
        named p l u =
            ⊎_elim
            (λ (t : i ≡ p). subst (λ y. loss_role more y ≡ role y) t (put_role trace i (key i) (role i) room within (row_low i)))
            (λ (t : i < p). other (10272 + p) (λ e. omega (arith, within)) (λ e. omega (arith, within)) (λ e. omega arith) (λ e. omega arith) ∙ b.role_is p t u)
            (eq-or-lt_of_le l)

        joins : Pushed loss_slot key count i (next_loss trace) (first_loss trace) (next_loss more) (first_loss more)
        joins =
            record {
              next_own = put_next trace i (key i) (role i) room within (row_low i);
              next_other = λ p l u. other (4352 + (1568 + p)) (λ e. omega (arith, within)) (λ e. omega arith) (λ e. omega arith) (λ e. omega arith);
              head_own = put_first trace i (key i) (role i) room within (row_low i);
              head_other = λ k d. other (14626 + 2 * k) (λ e. omega (arith, within)) (λ e. omega (arith, within)) (λ e. d (omega arith)) (λ e. omega (arith, within));
            }
