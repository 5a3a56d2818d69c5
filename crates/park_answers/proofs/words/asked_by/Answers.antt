-- `park_answers::words::asked_by` meets its contract: each comparison decides a test of the definition.
use Rattle.park_answers.specs.Words.{check_word, full_word, events_word, after_word, asked_by}
use Rattle.park_answers.proofs.Wording.{compared}
use Rattle.park_answers.proofs.words.asked_by.Goals as goal

pub returns-then-eq : goal.returns-then-eq
unfolding asked_by
returns-then-eq c = rw (compared c.args.word.now check_word c.as_slice.ensures c.eq.ensures c.if-eq.true)

pub returns-then-eq-2 : goal.returns-then-eq-2
unfolding asked_by
returns-then-eq-2 c = rw (compared c.args.word.now check_word c.as_slice.ensures c.eq.ensures c.if-eq.false, compared c.args.word.now full_word c.as_slice-2.ensures c.eq-2.ensures c.if-eq-2.true)

pub returns-then-eq-3 : goal.returns-then-eq-3
unfolding asked_by
returns-then-eq-3 c = rw (compared c.args.word.now check_word c.as_slice.ensures c.eq.ensures c.if-eq.false, compared c.args.word.now full_word c.as_slice-2.ensures c.eq-2.ensures c.if-eq-2.false, compared c.args.word.now events_word c.as_slice-3.ensures c.eq-3.ensures c.if-eq-3.true)

pub returns-then-eq-4 : goal.returns-then-eq-4
unfolding asked_by
returns-then-eq-4 c = rw (compared c.args.word.now check_word c.as_slice.ensures c.eq.ensures c.if-eq.false, compared c.args.word.now full_word c.as_slice-2.ensures c.eq-2.ensures c.if-eq-2.false, compared c.args.word.now events_word c.as_slice-3.ensures c.eq-3.ensures c.if-eq-3.false, compared c.args.word.now after_word c.as_slice-4.ensures c.eq-4.ensures c.if-eq-4.true)

pub returns : goal.returns
unfolding asked_by
returns c = rw (compared c.args.word.now check_word c.as_slice.ensures c.eq.ensures c.if-eq.false, compared c.args.word.now full_word c.as_slice-2.ensures c.eq-2.ensures c.if-eq-2.false, compared c.args.word.now events_word c.as_slice-3.ensures c.eq-3.ensures c.if-eq-3.false, compared c.args.word.now after_word c.as_slice-4.ensures c.eq-4.ensures c.if-eq-4.false)
