-- The whole trace, from its places, what is kept of each event, and the sets of directions of each type.
use Prim.Native.Nat.{ℕ, ◌+◌, ◌*◌, ◌<◌}
use mathlib.Core.Path.{◌≡◌, sym, ap, subst, ◌∙◌}
use mathlib.Core.Bool.{Bool, ◌||◌}
use mathlib.Core.List.{List, []}
use native.Mathlib.Omega.{arith}
use lib.Dec.{eqb}
use lib.ListN.{get_or}
use Rattle.meaning.specs.Limits.{max_types}
use Rattle.meaning.specs.Register.{Link, has_link}
use Rattle.meaning.specs.Events.{link_of}
use Rattle.meaning.specs.Reach.{Change, some_step, taken, Direction, up, down}
use Rattle.rows.specs.Rows.{read_rows}
use Rattle.tables.specs.Columns.{types_of, object_row, link_row, event_row}
use Rattle.tables.specs.declared.Counts.{Counts}
use Rattle.register.specs.Tables.{objects_with}
use Rattle.tables.specs.Losses.{lost_in}
use Rattle.chains.specs.Chains.{Chained}
use Rattle.chains.proofs.Chains.{chained_same}
use Rattle.directions.specs.Sets.{has}
use Rattle.trace_places.specs.Questions.{met_under}
use Rattle.trace_places.specs.Traces.{Seen, met_word, all_set, first_place, next_loss, loss_count, first_loss, loss_slot, row_lost, loss_row, Traced}
use Rattle.trace_places.specs.Making.{Placed, Kept, LossesPut, event_moves, some_below, SetsWith, CanTrace}
use Rattle.trace_places.proofs.Steps.{step_within, all_below}

-- a set of none
has_none : {set : ℕ} → set ≡ 0 → (d : Direction) (b : Bool) → (has set d || b) ≡ b
has_none e up b = ap (λ w. has w up || b) e
has_none e down b = ap (λ w. has w down || b) e

module _ (n : Counts) (types objects links events met : List ℕ) (count : ℕ) (losses : List ℕ) {blank placed kept set made : List ℕ} (can : CanTrace n objects links met count losses blank)
    (put : Placed n.objects objects events (2 * n.events) blank placed 0)
    (keep : Kept n.links links events met placed kept n.events)
    (sets : (ls : List Link) → SetsWith kept set (λ t d. some_below (λ i. event_moves (types_of n.types types) (objects_with n.objects objects ls) (event_row events i) (get_or met i 0) t d) n.events) max_types)
    (lost : LossesPut n.objects objects losses count set made 0) (counted : loss_count made ≡ count) where
  first : (k : ℕ) → k < 1024 → get_or made k 0 ≡ get_or placed k 0
  first k h = lost.below k (omega arith) ∙ (sets []).below k (omega arith) ∙ keep.below k h

  head : (row : ℕ) → first_place made row ≡ first_place placed row
  head row = lost.first_kept row ∙ (sets []).above (14625 + 2 * row) (omega arith) ∙ keep.above (14625 + 2 * row) (omega arith)

  no_set : (t : ℕ) → t < max_types → all_set kept t ≡ 0
  no_set t h = keep.above (1536 + t) (omega arith) ∙ put.kept (1536 + t) (omega arith) (omega arith) ∙ can.empty (1536 + t)

  met_kept : (i : ℕ) → i < n.events → met_word made i ≡ get_or met i 0
  met_kept i h = lost.below (1280 + i) (omega (arith, can.events_few)) ∙ (sets []).below (1280 + i) (omega (arith, can.events_few)) ∙ keep.met_is i h

  set_kept : (t : ℕ) → t < max_types → all_set made t ≡ all_set set t
  set_kept t h = lost.below (1536 + t) (omega arith)

  pub traced : (c : Change) → Seen c n types objects links events (λ i. get_or met i 0) → ((r u : ℕ) → lost_in losses count r u ≡ some_step c (taken r u)) → Traced c n types objects links events made
  traced c seen lost_by =
      record {
        seen = record {
          few = seen.few;
          types_are = seen.types_are;
          end_is = seen.end_is;
          events_are = seen.events_are;
          met_is = λ i s e id t q. seen.met_is i s e id t q ∙ ap (λ m. met_under c.schema.types m t) (sym (met_kept i (step_within seen i s e)));
        };
        ascends = can.objects_ascend;
        objects_few = can.objects_few;
        row_is = λ p h. first p (omega (arith, can.events_few)) ∙ put.row_is p (omega arith) h;
        chained = record {
          next_is = λ p l h. first (512 + p) (omega (arith, can.events_few)) ∙ put.chained.next_is p l h;
          head_is = λ k. head k ∙ put.chained.head_is k;
        };
        there_is = λ i h r a b e.
            ap (λ w. eqb w 1) (lost.below (1024 + i) (omega (arith, can.events_few)) ∙ (sets []).below (1024 + i) (omega (arith, can.events_few)))
            ∙ keep.there_is i h (read_rows (object_row objects) n.objects) r a b e
            ∙ ap (λ g. has_link g (link_of r a b)) (sym seen.end_is);
        all_is = λ t h d.
            ap (λ w. has w d) (set_kept t h)
            ∙ (sets (read_rows (link_row links) n.links)).sets_are t h d
            ∙ has_none (no_set t h) d _
            ∙ (λ k. some_below (λ i. event_moves (sym seen.types_are k) (sym seen.end_is k) (event_row events i) (get_or met i 0) t d) n.events)
            ∙ sym (all_below seen t d);
        all_small_lem = λ t h. omega (arith, set_kept t h, (sets []).small t (omega (arith, no_set t h)));
        losses = losses;
        lost =
            record {
              few = omega (arith, counted, can.losses_few);
              row_is = λ j h. lost.row_is j (omega arith) (omega (arith, counted));
              role_is = λ j h. lost.role_is j (omega arith) (omega (arith, counted));
              chained =
                  subst (λ k. Chained loss_slot (row_lost made) k (next_loss made) (first_loss made) 0) (sym counted)
                  (chained_same (loss_row n.objects objects losses) (row_lost made) count (λ j h. sym (lost.row_is j (omega arith) h)) loss_slot lost.chained);
              lost_is = λ r u. ap (λ k. lost_in losses k r u) counted ∙ lost_by r u;
            };
      }
