-- The losses of a batch before each of its events: those of the deletes before it are written, those of the others are still to come.
use Prim.Native.Nat.{ℕ, suc, ◌+◌, ◌*◌, ◌-◌, ◌≤◌, ◌<◌}
use mathlib.Core.Path.{◌≡◌, sym, ap, ◌∙◌}
use mathlib.Core.List.{List, [], ◌∷◌, ◌++◌, flat_map, append_assoc, append-nil}
use native.Mathlib.Nat.{zero-add, sub-zero}
use native.Mathlib.Numerals.{add-one}
use native.Mathlib.Omega.{arith}
use lib.ListN.{length, drop, replicate, length-replicate, replicate-append-replicate}
use lib.Seq.{sets, sets-eq, drop_at}
use Rattle.meaning.specs.Limits.{max_links, max_events}
use Rattle.meaning.specs.Schema.{Schema}
use Rattle.meaning.specs.Register.{Register}
use Rattle.meaning.specs.Events.{Event, apply}
use Rattle.meaning.specs.Reach.{steps_of}
use Rattle.rows.specs.Rows.{rows_from, read_rows, padded}
use Rattle.tables.specs.Columns.{register_of}
use Rattle.event_effects.specs.Losses.{Loss, loss_words, lost_at, losses_by}
use Rattle.event_effects.specs.Effects.{loss_rows, LossRoom, LossesAdded, Applied, LossesKept}
use Rattle.event_effects.proofs.Losses.{words_long, none_added, both_added, added_long}

-- a table without losses
abbrev pub no_losses : List ℕ
no_losses = replicate (loss_rows * 2) 0

-- zeros that words are put in front of
pub zeros_past : (n k : ℕ) → k ≤ n → drop {A = ℕ} k (replicate n 0) ≡ replicate (n - k) 0
zeros_past n k h =
    ap (λ m. drop {A = ℕ} k (replicate m 0)) (let e : n ≡ k + (n - k) = omega arith in e) ∙ ap (λ (l : List ℕ). drop k l) (sym (replicate-append-replicate k (n - k) 0))
    ∙ drop_at (replicate k 0) (replicate (n - k) 0) k (length-replicate {A = ℕ} k 0)

pub words_first : (words : List ℕ) (n : ℕ) → length words ≤ n → sets (replicate n 0) 0 words ≡ padded n words
words_first words n h =
    sets-eq words (replicate n 0) 0 (omega (arith, length-replicate {A = ℕ} n 0))
    ∙ ap (λ k. words ++ drop k (replicate n 0)) (zero-add (length words)) ∙ ap (λ l. words ++ l) (zeros_past n (length words) h)

module _ (S : Schema) (start : Register) (read : ℕ → Event) (count : ℕ) where
  -- what is lost from that event on
  abbrev lost_from : Register → ℕ → List Loss
  lost_from g row = losses_by (steps_of S g (rows_from read row (count - row)))

  -- The losses before an event; links and losses together are at most those that the batch began with, and one for each event.
  pub record Lost (row n : ℕ) (objects : List ℕ) (m : ℕ) (links : List ℕ) (k : ℕ) (losses : List ℕ) : Type 0 where
    pub before : List Loss
    pub added : LossesAdded before 0 no_losses k losses
    pub room : k + m ≤ max_links + row
    pub lost_left : losses_by (steps_of S start (read_rows read count)) ≡ before ++ lost_from (register_of n objects m links) row

  module _ {row n : ℕ} {objects : List ℕ} {m : ℕ} {links : List ℕ} {k : ℕ} {losses : List ℕ} (l : Lost row n objects m links k losses) where
    abbrev here : Register
    here = register_of n objects m links

    long : length losses ≡ loss_rows * 2
    long = added_long l.added ∙ length-replicate {A = ℕ} (loss_rows * 2) 0

    -- so there is room for the losses of an event
    pub lost_room : row < count → count ≤ max_events → LossRoom m k losses
    lost_room h few = record { room = omega (arith, l.room); long = long }

    -- past an event that has its effect
    pub lost_more : row < count → {n' : ℕ} {objects' : List ℕ} {m' : ℕ} {links' : List ℕ} {k' : ℕ} {losses' : List ℕ} → Applied S (read row) n objects m links n' objects' m' links'
        → LossesKept here (read row) m k losses m' k' losses' → Lost (row + 1) n' objects' m' links' k' losses'
    unfolding steps_of losses_by flat_map
    lost_more h a kept =
        rw (add-one row)
        (record {
          before = l.before ++ lost_at here (read row);
          added = both_added l.added kept.added;
          room = omega (arith, kept.grown, l.room);
          lost_left =
              l.lost_left ∙ ap (λ es. l.before ++ losses_by (steps_of S here es)) next
              ∙ sym (append_assoc l.before (lost_at here (read row)) (losses_by (steps_of S (apply S (read row) here) rest)))
              ∙ ap (λ g. (l.before ++ lost_at here (read row)) ++ losses_by (steps_of S g rest)) (sym a.effect);
        })
      where
        rest : List Event
        rest = rows_from read (suc row) (count - suc row)

        next : rows_from read row (count - row) ≡ read row ∷ rest
        next = let e : count - row ≡ suc (count - suc row) = omega arith in ap (rows_from read row) e

    -- past the last event: all of them, zeros behind them, and they fit
    module _ (h : count ≤ row) where
      abbrev all : List Loss
      all = losses_by (steps_of S start (read_rows read count))

      whole : l.before ≡ all
      unfolding steps_of losses_by flat_map
      whole = sym (l.lost_left ∙ ap (λ es. l.before ++ losses_by (steps_of S here es)) none_left ∙ append-nil l.before)
        where
          none_left : rows_from read row (count - row) ≡ []
          none_left = let e : count - row ≡ 0 = omega arith in ap (rows_from read row) e

      pub lost_count : k ≡ length all
      lost_count = l.added.count_is ∙ zero-add (length l.before) ∙ ap length whole

      pub lost_few : row ≤ max_events → length all ≤ loss_rows
      lost_few few = omega (arith, lost_count, l.room)

      pub lost_table : row ≤ max_events → losses ≡ padded (loss_rows * 2) (flat_map loss_words all)
      lost_table few =
          l.added.losses_are ∙ ap (λ more. sets no_losses 0 (flat_map loss_words more)) whole
          ∙ words_first (flat_map loss_words all) (loss_rows * 2) (omega (arith, words_long all, lost_few few))

-- before the first event
pub lost_none : (S : Schema) (read : ℕ → Event) (count : ℕ) {n : ℕ} {objects : List ℕ} {m : ℕ} {links : List ℕ} → m ≤ max_links → {k : ℕ} → k ≡ 0
    → Lost S (register_of n objects m links) read count 0 n objects m links k no_losses
lost_none S read count {n} {objects} {m} {links} few {k} z =
    rw z
    (record {
      before = [];
      added = none_added;
      room = omega arith;
      lost_left = ap (λ c. losses_by (steps_of S (register_of n objects m links) (rows_from read 0 c))) (sym (sub-zero count));
    })
