-- `questions::lost` meets its contract: the walk over the row's losses stops at the first of the role. The loop's invariant is `Walk`; the measure is
-- what is left of the losses.
use Prim.Native.Nat.{ℕ, suc, ◌+◌, ◌-◌, ◌<◌}
use mathlib.Core.Path.{◌≡◌, sym, ap, ◌∙◌}
use mathlib.Core.Bool.{Bool, false}
use native.Mathlib.Omega.{arith}
use lib.Dec.{eqb}
use lib.ListN.{get_or}
use borrow.Author.Tests.{ne_eqb}
use Rattle.chains.specs.Chains.{lead, slot_word}
use Rattle.chains.proofs.Chains.{Lead}
use Rattle.trace_places.specs.Traces.{row_lost, loss_role, loss_count, loss_slot, LossesTraced}
use Rattle.questions.proofs.Asking.{slot_low, here, all_passed, goes_on, less_left}
use Rattle.questions.proofs.Losses.{lost_found, lost_none}
use Rattle.questions.proofs.lost.Invariants.{slot_is}
use Rattle.questions.proofs.lost.Goals as goal

pub bounds-trace-head : goal.bounds-trace-head
bounds-trace-head c = omega (arith, c.requires.1, c.requires.0.1.objects_few)

pub loop-word-init : goal.loop-word-init
loop-word-init c =
    record { from = 0; word_is = c.wide-word.ensures ∙ c.requires.0.1.lost.chained.head_is c.args.row; passed = λ p h k. absurd (omega arith) }

pub overflow_sub-slot : goal.overflow_sub-slot
overflow_sub-slot c =
    let a = c.args in
    let trace = a.trace.now in
    let lost = c.requires.0.1.lost in
    let silent : ℕ → Bool = λ j. eqb (loss_role trace j) a.role in
    let word = c.loop-word.word in
    let place = word - 1569 in
    let past : 1568 < word = slot_low loss_slot 1568 slot_is (row_lost trace) (loss_count trace) a.row silent c.loop-word.invariant c.loop-word-test.true in
    let word_is : suc (loss_slot place) ≡ word = omega (arith, past) in
    let came = here loss_slot 1568 slot_is (row_lost trace) (loss_count trace) a.row silent c.loop-word.invariant place word_is in
    let slot_few : word - 1 < 5920 = omega (arith, came.within, lost.few, past) in
    omega (arith, past)

pub overflow_add-at : goal.overflow_add-at
overflow_add-at c =
    let a = c.args in
    let trace = a.trace.now in
    let lost = c.requires.0.1.lost in
    let silent : ℕ → Bool = λ j. eqb (loss_role trace j) a.role in
    let word = c.loop-word.word in
    let place = word - 1569 in
    let past : 1568 < word = slot_low loss_slot 1568 slot_is (row_lost trace) (loss_count trace) a.row silent c.loop-word.invariant c.loop-word-test.true in
    let word_is : suc (loss_slot place) ≡ word = omega (arith, past) in
    let came = here loss_slot 1568 slot_is (row_lost trace) (loss_count trace) a.row silent c.loop-word.invariant place word_is in
    let slot_few : word - 1 < 5920 = omega (arith, came.within, lost.few, past) in
    omega (arith, slot_few)

pub bounds-trace-at : goal.bounds-trace-at
bounds-trace-at c =
    let a = c.args in
    let trace = a.trace.now in
    let lost = c.requires.0.1.lost in
    let silent : ℕ → Bool = λ j. eqb (loss_role trace j) a.role in
    let word = c.loop-word.word in
    let place = word - 1569 in
    let past : 1568 < word = slot_low loss_slot 1568 slot_is (row_lost trace) (loss_count trace) a.row silent c.loop-word.invariant c.loop-word-test.true in
    let word_is : suc (loss_slot place) ≡ word = omega (arith, past) in
    let came = here loss_slot 1568 slot_is (row_lost trace) (loss_count trace) a.row silent c.loop-word.invariant place word_is in
    let slot_few : word - 1 < 5920 = omega (arith, came.within, lost.few, past) in
    omega (arith, slot_few)

pub returns-then-wide-role : goal.returns-then-wide-role
returns-then-wide-role c =
    let a = c.args in
    let trace = a.trace.now in
    let lost = c.requires.0.1.lost in
    let silent : ℕ → Bool = λ j. eqb (loss_role trace j) a.role in
    let word = c.loop-word.word in
    let place = word - 1569 in
    let past : 1568 < word = slot_low loss_slot 1568 slot_is (row_lost trace) (loss_count trace) a.row silent c.loop-word.invariant c.loop-word-test.true in
    let word_is : suc (loss_slot place) ≡ word = omega (arith, past) in
    let came = here loss_slot 1568 slot_is (row_lost trace) (loss_count trace) a.row silent c.loop-word.invariant place word_is in
    let slot_few : word - 1 < 5920 = omega (arith, came.within, lost.few, past) in
    let role_at : 8704 + (word - 1) ≡ 10272 + place = omega (arith, past) in
    let role_read : c.wide.result ≡ loss_role trace place = c.wide.ensures ∙ ap (λ k. get_or trace k 0) role_at in
    λ k follows. lost_found follows c.requires.1 a.role place came.within came.leads (sym role_read ∙ c.if-wide-role.true)

pub overflow_add-next : goal.overflow_add-next
overflow_add-next c =
    let a = c.args in
    let trace = a.trace.now in
    let lost = c.requires.0.1.lost in
    let silent : ℕ → Bool = λ j. eqb (loss_role trace j) a.role in
    let word = c.loop-word.word in
    let place = word - 1569 in
    let past : 1568 < word = slot_low loss_slot 1568 slot_is (row_lost trace) (loss_count trace) a.row silent c.loop-word.invariant c.loop-word-test.true in
    let word_is : suc (loss_slot place) ≡ word = omega (arith, past) in
    let came = here loss_slot 1568 slot_is (row_lost trace) (loss_count trace) a.row silent c.loop-word.invariant place word_is in
    let slot_few : word - 1 < 5920 = omega (arith, came.within, lost.few, past) in
    omega (arith, slot_few)

pub bounds-trace-next : goal.bounds-trace-next
bounds-trace-next c =
    let a = c.args in
    let trace = a.trace.now in
    let lost = c.requires.0.1.lost in
    let silent : ℕ → Bool = λ j. eqb (loss_role trace j) a.role in
    let word = c.loop-word.word in
    let place = word - 1569 in
    let past : 1568 < word = slot_low loss_slot 1568 slot_is (row_lost trace) (loss_count trace) a.row silent c.loop-word.invariant c.loop-word-test.true in
    let word_is : suc (loss_slot place) ≡ word = omega (arith, past) in
    let came = here loss_slot 1568 slot_is (row_lost trace) (loss_count trace) a.row silent c.loop-word.invariant place word_is in
    let slot_few : word - 1 < 5920 = omega (arith, came.within, lost.few, past) in
    omega (arith, slot_few)

pub loop-word-smaller : goal.loop-word-smaller
loop-word-smaller c =
    let a = c.args in
    let trace = a.trace.now in
    let lost = c.requires.0.1.lost in
    let silent : ℕ → Bool = λ j. eqb (loss_role trace j) a.role in
    let word = c.loop-word.word in
    let place = word - 1569 in
    let past : 1568 < word = slot_low loss_slot 1568 slot_is (row_lost trace) (loss_count trace) a.row silent c.loop-word.invariant c.loop-word-test.true in
    let word_is : suc (loss_slot place) ≡ word = omega (arith, past) in
    let came = here loss_slot 1568 slot_is (row_lost trace) (loss_count trace) a.row silent c.loop-word.invariant place word_is in
    let slot_few : word - 1 < 5920 = omega (arith, came.within, lost.few, past) in
    let role_at : 8704 + (word - 1) ≡ 10272 + place = omega (arith, past) in
    let role_read : c.wide.result ≡ loss_role trace place = c.wide.ensures ∙ ap (λ k. get_or trace k 0) role_at in
    let still : silent place ≡ false = ne_eqb _ _ (λ q. c.if-wide-role.false (role_read ∙ q)) in
    let next_at : 4352 + (word - 1) ≡ 4352 + loss_slot place = omega (arith, past) in
    let next_is : c.wide-word-in-loop-word.result ≡ slot_word loss_slot (lead (row_lost trace) (loss_count trace) (row_lost trace place) (suc place)) =
    c.wide-word-in-loop-word.ensures ∙ ap (λ k. get_or trace k 0) next_at ∙ lost.chained.next_is place (omega arith) came.within in
    less_left loss_slot 1568 slot_is (row_lost trace) (loss_count trace) a.row silent c.loop-word.invariant place word_is still next_is (omega (arith, lost.few))

pub loop-word-preserved : goal.loop-word-preserved
loop-word-preserved c =
    let a = c.args in
    let trace = a.trace.now in
    let lost = c.requires.0.1.lost in
    let silent : ℕ → Bool = λ j. eqb (loss_role trace j) a.role in
    let word = c.loop-word.word in
    let place = word - 1569 in
    let past : 1568 < word = slot_low loss_slot 1568 slot_is (row_lost trace) (loss_count trace) a.row silent c.loop-word.invariant c.loop-word-test.true in
    let word_is : suc (loss_slot place) ≡ word = omega (arith, past) in
    let came = here loss_slot 1568 slot_is (row_lost trace) (loss_count trace) a.row silent c.loop-word.invariant place word_is in
    let slot_few : word - 1 < 5920 = omega (arith, came.within, lost.few, past) in
    let role_at : 8704 + (word - 1) ≡ 10272 + place = omega (arith, past) in
    let role_read : c.wide.result ≡ loss_role trace place = c.wide.ensures ∙ ap (λ k. get_or trace k 0) role_at in
    let still : silent place ≡ false = ne_eqb _ _ (λ q. c.if-wide-role.false (role_read ∙ q)) in
    let next_at : 4352 + (word - 1) ≡ 4352 + loss_slot place = omega (arith, past) in
    let next_is : c.wide-word-in-loop-word.result ≡ slot_word loss_slot (lead (row_lost trace) (loss_count trace) (row_lost trace place) (suc place)) =
    c.wide-word-in-loop-word.ensures ∙ ap (λ k. get_or trace k 0) next_at ∙ lost.chained.next_is place (omega arith) came.within in
    goes_on loss_slot 1568 slot_is (row_lost trace) (loss_count trace) a.row silent c.loop-word.invariant place word_is still next_is

pub returns : goal.returns
returns c =
    let a = c.args in
    let trace = a.trace.now in
    let lost = c.requires.0.1.lost in
    let silent : ℕ → Bool = λ j. eqb (loss_role trace j) a.role in
    λ k follows.
    lost_none follows c.requires.1 a.role
    (all_passed loss_slot 1568 slot_is (row_lost trace) (loss_count trace) a.row silent c.loop-word.invariant c.loop-word-test.false)
