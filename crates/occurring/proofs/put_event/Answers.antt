-- `occurring::put_event` meets its contract.
use Prim.Native.Nat.{ℕ, ◌/◌, ◌%◌, ◌<◌}
use mathlib.Core.Path.{◌≡◌, sym, ap, ◌∙◌}
use mathlib.Core.Bool.{Bool, true, false, ◌&&◌, and_comm}
use mathlib.Core.List.{List}
use native.Mathlib.Omega.{arith}
use lib.Dec.{eqb}
use lib.ListN.{replicate}
use Rattle.meaning.specs.Schema.{ObjectType, under}
use Rattle.meaning.specs.Register.{Link, Register, is_under}
use Rattle.meaning.specs.EventList.{EventType}
use Rattle.tables.specs.Columns.{types_of, event_of, event_row}
use Rattle.register.specs.Tables.{objects_with}
use Rattle.trace_places.specs.Questions.{met_under}
use Rattle.type_marks.specs.Marks.{Added}
use Rattle.occurring.specs.Counting.{counts, Counted}
use Rattle.occurring.proofs.Types.{but_not}
use Rattle.occurring.proofs.Counts.{kind_counts, row_counts, counted_kind, counts_row, counted_as, cell_new, link_new, types_new, all_new}
use Rattle.occurring.proofs.put_event.Goals as goal
use Rattle.occurring.proofs.put_event.Lts as lts
use Rattle.occurring.proofs.put_event.Reads as reads
use Rattle.occurring.proofs.put_event.Tie as tie

-- ---- the event, by the words that were read
abbrev start : lts.After-word4 tie.the-claims reads.Pre reads.Post → lts.Start tie.the-claims reads.Pre reads.Post
start w = w.before.before.before.before.before.before.before.before.before

abbrev types : lts.After-word4 tie.the-claims reads.Pre reads.Post → List ObjectType
types w = types_of (start w).args.type_count (start w).args.types.now

abbrev end : lts.After-word4 tie.the-claims reads.Pre reads.Post → List Link → Register
end w ls = objects_with (start w).args.object_count (start w).args.objects.now ls

abbrev kind : lts.After-word4 tie.the-claims reads.Pre reads.Post → ℕ
kind w = w.read_kind-kind.result

abbrev x : lts.After-word4 tie.the-claims reads.Pre reads.Post → ℕ
x w = w.word-x.result

abbrev y : lts.After-word4 tie.the-claims reads.Pre reads.Post → ℕ
y w = w.word-y.result

module _ (w : lts.After-word4 tie.the-claims reads.Pre reads.Post) (ls : List Link) where
  abbrev into : ℕ → Bool
  into = under (types w) (y w)

  abbrev had : ℕ → Bool
  had = met_under (types w) (start w).args.met

  abbrev there : ℕ → Bool
  there = is_under (types w) (end w ls) (x w)

  read : (e : EventType) → row_counts (x w) (y w) into had there (kind w) e ≡ counts (types w) (end w ls) (event_row (start w).args.events.now (start w).args.i) (start w).args.met e
  unfolding event_row
  read e =
      let met = (start w).args.met in
      ap (λ r. row_counts (x w) (y w) into had there r e) w.read_kind-kind.ensures.0
      ∙ sym (counts_row (types w) (end w ls) w.word.result (x w) (y w) w.word-2.result met e)
      ∙ (λ i. counts (types w) (end w ls) (event_of (w.word.ensures i) (w.word-x.ensures i) (w.word-y.ensures i) (w.word-2.ensures i)) met e)

  -- the marks of the event types of one kind
  read_as : {after : List Bool} (k : ℕ) → kind w ≡ k → (new : ℕ → ℕ → Bool) → Added (start w).args.marks.now after (λ place. eqb k (place / 256) && new (place / 8 % 32) (place % 8))
      → ((m c : ℕ) → m < 32 → ((k ≡ 2 → ⊥) → c ≡ 0) → new m c ≡ kind_counts (x w) (y w) into had there k m c)
      → Counted (start w).args.marks.now after (counts (types w) (end w ls) (event_row (start w).args.events.now (start w).args.i) (start w).args.met)
  read_as k is new added same = counted_as (counted_kind (x w) (y w) into had there k is new added same) read

pub returns-then-kind-eq-JOIN : goal.returns-then-kind-eq-JOIN
returns-then-kind-eq-JOIN c =
    λ ls. read_as c.before.before.before.before.before.before ls 3 c.if-kind-eq-JOIN.true (λ m k. eqb (x c.before.before.before.before.before.before) m && (eqb 0 k && true)) c.put.ensures (λ m k h z. link_new (x c.before.before.before.before.before.before) m (z (λ q. omega arith)))

pub returns-then-kind-eq-PART : goal.returns-then-kind-eq-PART
returns-then-kind-eq-PART c =
    λ ls. read_as c.before.before.before.before.before.before.before ls 4 c.if-kind-eq-PART.true (λ m k. eqb (x c.before.before.before.before.before.before.before) m && (eqb 0 k && true)) c.put-then-kind-eq-PART.ensures (λ m k h z. link_new (x c.before.before.before.before.before.before.before) m (z (λ q. omega arith)))

pub returns-then-kind-eq-SET : goal.returns-then-kind-eq-SET
returns-then-kind-eq-SET c =
    let none = replicate 32 false in
    λ ls.
    read_as c.before.before.before.before.before.before.before.before.before.before.before ls 2 c.if-kind-eq-SET.true (λ m k. eqb (y c.before.before.before.before.before.before.before.before.before.before.before) k && but_not c.end_above-there.result none m) c.put_types.ensures
    (λ m k h z. ap (λ b. eqb (y c.before.before.before.before.before.before.before.before.before.before.before) k && b) (all_new (c.end_above-there.ensures ls) m h) ∙ and_comm (eqb (y c.before.before.before.before.before.before.before.before.before.before.before) k) (there c.before.before.before.before.before.before.before.before.before.before.before ls m))

pub returns-then-kind-eq-DELETE : goal.returns-then-kind-eq-DELETE
returns-then-kind-eq-DELETE c =
    let none = replicate 32 false in
    λ ls.
    read_as c.before.before.before.before.before.before.before.before.before.before.before.before ls 1 c.if-kind-eq-DELETE.true (λ m k. eqb 0 k && but_not c.met_above-had.result none m) c.put_types-then-kind-eq-DELETE.ensures
    (λ m k h z. cell_new _ (z (λ q. omega arith)) ∙ all_new c.met_above-had.ensures m h)

pub returns-then-kind-eq-INSERT : goal.returns-then-kind-eq-INSERT
returns-then-kind-eq-INSERT c =
    let none = replicate 32 false in
    λ ls.
    read_as c.before.before.before.before.before.before.before.before.before.before.before.before.before.before ls 0 c.if-kind-eq-INSERT.true (λ m k. eqb 0 k && but_not c.above-into.result none m) c.put_types-then-kind-eq-INSERT.ensures
    (λ m k h z. cell_new _ (z (λ q. omega arith)) ∙ all_new c.above-into.ensures m h)

pub returns-then-kind-eq-SPECIAL : goal.returns-then-kind-eq-SPECIAL
returns-then-kind-eq-SPECIAL c =
    λ ls.
    read_as c.before.before.before.before.before.before.before.before.before.before.before.before.before.before.before ls 5 c.if-kind-eq-SPECIAL.true (λ m k. eqb 0 k && but_not c.above-into.result c.met_above-had.result m) c.put_types-then-kind-eq-SPECIAL.ensures
    (λ m k h z. cell_new _ (z (λ q. omega arith)) ∙ types_new c.above-into.ensures c.met_above-had.ensures m h)

pub returns : goal.returns
returns c =
    let is : kind c.before.before.before.before.before.before.before.before.before.before.before.before.before.before.before ≡ 6 =
    omega (arith, c.read_kind-kind.ensures.1, c.if-kind-eq-JOIN.false, c.if-kind-eq-PART.false, c.if-kind-eq-SET.false, c.if-kind-eq-DELETE.false, c.if-kind-eq-INSERT.false, c.if-kind-eq-SPECIAL.false) in
    λ ls.
    read_as c.before.before.before.before.before.before.before.before.before.before.before.before.before.before.before ls 6 is (λ m k. eqb 0 k && but_not c.met_above-had.result c.above-into.result m) c.put_types-2.ensures
    (λ m k h z. cell_new _ (z (λ q. omega arith)) ∙ types_new c.met_above-had.ensures c.above-into.ensures m h)
