-- `questions::named` meets its contract: the walk over the row's places stops at the first that answers. The loop's invariant is `Walk`; the
-- measure is what is left of the places.
use Prim.Native.Nat.{ℕ, suc, ◌-◌, ◌*◌, ◌/◌, ◌%◌, ◌≤◌, ◌<◌}
use mathlib.Core.Path.{◌≡◌, sym, ◌∙◌}
use mathlib.Core.Bool.{Bool}
use native.Mathlib.Omega.{arith}
use lib.Dec.{eqb}
use Rattle.tables.specs.Columns.{types_of, event_row}
use Rattle.trace_places.specs.Questions.{Question, question_of, answers_at}
use Rattle.trace_places.specs.Traces.{itself, place_row, there_word, met_word, Traced}
use Rattle.questions.proofs.Asking.{here, all_passed, goes_on, less_left, found, not_found}
use Rattle.questions.proofs.named.Goals as goal

pub bounds-trace-head : goal.bounds-trace-head
bounds-trace-head c = omega (arith, c.requires.1, c.requires.0.1.objects_few)

pub loop-word-init : goal.loop-word-init
loop-word-init c =
    record { from = 0; word_is = c.wide-word.ensures ∙ c.requires.0.1.chained.head_is c.args.row; passed = λ p h k. absurd (omega arith) }

pub answered-requires : goal.answered-requires
answered-requires c =
    let a = c.args in
    let key = place_row a.n.objects a.sheet.now.objects.now a.sheet.now.events.now in
    let silent : ℕ → Bool = λ p. answers_at (types_of a.n.types a.sheet.now.types.now) (question_of a.question a.x) (event_row a.sheet.now.events.now (p / 2)) (p % 2) (met_word a.trace.now (p / 2)) (eqb (there_word a.trace.now (p / 2)) 1) in
    let place = c.loop-word.word - 1 in
    let place_is : suc place ≡ c.loop-word.word = omega (arith, c.loop-word-test.true) in
    let at = here itself 0 (λ p. omega arith) key (2 * a.n.events) a.row silent c.loop-word.invariant place place_is in
    let low : place < 512 = omega (arith, at.within, c.requires.0.1.seen.few) in
    (low, c.requires.2)

pub returns-then-answered : goal.returns-then-answered
returns-then-answered c =
    let a = c.args in
    let key = place_row a.n.objects a.sheet.now.objects.now a.sheet.now.events.now in
    let silent : ℕ → Bool = λ p. answers_at (types_of a.n.types a.sheet.now.types.now) (question_of a.question a.x) (event_row a.sheet.now.events.now (p / 2)) (p % 2) (met_word a.trace.now (p / 2)) (eqb (there_word a.trace.now (p / 2)) 1) in
    let place = c.loop-word.word - 1 in
    let place_is : suc place ≡ c.loop-word.word = omega (arith, c.loop-word-test.true) in
    let at = here itself 0 (λ p. omega arith) key (2 * a.n.events) a.row silent c.loop-word.invariant place place_is in
    λ k follows. found follows c.requires.1 (question_of a.question a.x) place at.within at.leads (sym c.answered.ensures ∙ c.if-answered.true)

pub overflow_add-next : goal.overflow_add-next
overflow_add-next c =
    let a = c.args in
    let key = place_row a.n.objects a.sheet.now.objects.now a.sheet.now.events.now in
    let silent : ℕ → Bool = λ p. answers_at (types_of a.n.types a.sheet.now.types.now) (question_of a.question a.x) (event_row a.sheet.now.events.now (p / 2)) (p % 2) (met_word a.trace.now (p / 2)) (eqb (there_word a.trace.now (p / 2)) 1) in
    let place = c.loop-word.word - 1 in
    let place_is : suc place ≡ c.loop-word.word = omega (arith, c.loop-word-test.true) in
    let at = here itself 0 (λ p. omega arith) key (2 * a.n.events) a.row silent c.loop-word.invariant place place_is in
    let low : place < 512 = omega (arith, at.within, c.requires.0.1.seen.few) in
    omega (arith, low)

pub bounds-trace-next : goal.bounds-trace-next
bounds-trace-next c =
    let a = c.args in
    let key = place_row a.n.objects a.sheet.now.objects.now a.sheet.now.events.now in
    let silent : ℕ → Bool = λ p. answers_at (types_of a.n.types a.sheet.now.types.now) (question_of a.question a.x) (event_row a.sheet.now.events.now (p / 2)) (p % 2) (met_word a.trace.now (p / 2)) (eqb (there_word a.trace.now (p / 2)) 1) in
    let place = c.loop-word.word - 1 in
    let place_is : suc place ≡ c.loop-word.word = omega (arith, c.loop-word-test.true) in
    let at = here itself 0 (λ p. omega arith) key (2 * a.n.events) a.row silent c.loop-word.invariant place place_is in
    let low : place < 512 = omega (arith, at.within, c.requires.0.1.seen.few) in
    omega (arith, low)

pub loop-word-smaller : goal.loop-word-smaller
loop-word-smaller c =
    let a = c.args in
    let key = place_row a.n.objects a.sheet.now.objects.now a.sheet.now.events.now in
    let silent : ℕ → Bool = λ p. answers_at (types_of a.n.types a.sheet.now.types.now) (question_of a.question a.x) (event_row a.sheet.now.events.now (p / 2)) (p % 2) (met_word a.trace.now (p / 2)) (eqb (there_word a.trace.now (p / 2)) 1) in
    let place = c.loop-word.word - 1 in
    let place_is : suc place ≡ c.loop-word.word = omega (arith, c.loop-word-test.true) in
    let at = here itself 0 (λ p. omega arith) key (2 * a.n.events) a.row silent c.loop-word.invariant place place_is in
    less_left itself 0 (λ p. omega arith) key (2 * a.n.events) a.row silent c.loop-word.invariant place place_is (sym c.answered.ensures ∙ c.if-answered.false) (c.wide-word-in-loop-word.ensures ∙ c.requires.0.1.chained.next_is place (omega arith) at.within) (omega (arith, c.requires.0.1.seen.few))

pub loop-word-preserved : goal.loop-word-preserved
loop-word-preserved c =
    let a = c.args in
    let key = place_row a.n.objects a.sheet.now.objects.now a.sheet.now.events.now in
    let silent : ℕ → Bool = λ p. answers_at (types_of a.n.types a.sheet.now.types.now) (question_of a.question a.x) (event_row a.sheet.now.events.now (p / 2)) (p % 2) (met_word a.trace.now (p / 2)) (eqb (there_word a.trace.now (p / 2)) 1) in
    let place = c.loop-word.word - 1 in
    let place_is : suc place ≡ c.loop-word.word = omega (arith, c.loop-word-test.true) in
    let at = here itself 0 (λ p. omega arith) key (2 * a.n.events) a.row silent c.loop-word.invariant place place_is in
    goes_on itself 0 (λ p. omega arith) key (2 * a.n.events) a.row silent c.loop-word.invariant place place_is (sym c.answered.ensures ∙ c.if-answered.false) (c.wide-word-in-loop-word.ensures ∙ c.requires.0.1.chained.next_is place (omega arith) at.within)

pub returns : goal.returns
returns c =
    let a = c.args in
    let key = place_row a.n.objects a.sheet.now.objects.now a.sheet.now.events.now in
    let silent : ℕ → Bool = λ p. answers_at (types_of a.n.types a.sheet.now.types.now) (question_of a.question a.x) (event_row a.sheet.now.events.now (p / 2)) (p % 2) (met_word a.trace.now (p / 2)) (eqb (there_word a.trace.now (p / 2)) 1) in
    λ k follows. not_found follows c.requires.1 (question_of a.question a.x) (all_passed itself 0 (λ p. omega arith) key (2 * a.n.events) a.row silent c.loop-word.invariant c.loop-word-test.false)
