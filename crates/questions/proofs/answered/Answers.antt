-- `questions::answered` meets its contract.
use Prim.Native.Nat.{ℕ, ◌/◌, ◌%◌}
use mathlib.Core.Path.{sym, ◌∙◌}
use mathlib.Core.Bool.{Bool}
use mathlib.Core.List.{List}
use lib.Dec.{eqb}
use Rattle.meaning.specs.Schema.{ObjectType}
use Rattle.tables.specs.Columns.{types_of, event_of, event_row}
use Rattle.trace_places.specs.Questions.{question_of, answers_at}
use Rattle.trace_places.specs.Traces.{there_word, met_word}
use Rattle.trace_places.proofs.Questions.{set_answer, join_answer, part_answer}
use Rattle.questions.proofs.answered.Goals as goal

pub returns-then-question-eq-CELL_SET : goal.returns-then-question-eq-CELL_SET
unfolding event_row
returns-then-question-eq-CELL_SET c =
    let a = c.args in
    c.of_kind.ensures
    ∙ set_answer ((types_of c.args.type_count c.args.types.now)) c.word-kind.result c.word-a.result c.word-b.result c.word-z.result (a.place % 2) ((met_word c.args.trace.now (c.args.place / 2))) ((eqb (there_word c.args.trace.now (c.args.place / 2)) 1)) a.x
    ∙ (λ i. answers_at ((types_of c.args.type_count c.args.types.now)) (question_of (sym c.if-question-eq-CELL_SET.true i) a.x) (event_of (c.word-kind.ensures i) (c.word-a.ensures i) (c.word-b.ensures i) (c.word-z.ensures i)) (a.place % 2) ((met_word c.args.trace.now (c.args.place / 2))) ((eqb (there_word c.args.trace.now (c.args.place / 2)) 1)))

pub returns-then-question-eq-JOINED : goal.returns-then-question-eq-JOINED
unfolding event_row
returns-then-question-eq-JOINED c =
    let a = c.args in
    c.link_answers.ensures
    ∙ join_answer ((types_of c.args.type_count c.args.types.now)) c.word-kind.result c.word-a.result c.word-b.result c.word-z.result (a.place % 2) ((met_word c.args.trace.now (c.args.place / 2))) ((eqb (there_word c.args.trace.now (c.args.place / 2)) 1)) a.x
    ∙ (λ i. answers_at ((types_of c.args.type_count c.args.types.now)) (question_of (sym c.if-question-eq-JOINED.true i) a.x) (event_of (c.word-kind.ensures i) (c.word-a.ensures i) (c.word-b.ensures i) (c.word-z.ensures i)) (a.place % 2) ((met_word c.args.trace.now (c.args.place / 2))) ((eqb (there_word c.args.trace.now (c.args.place / 2)) 1)))

pub returns-then-question-eq-PARTED : goal.returns-then-question-eq-PARTED
unfolding event_row
returns-then-question-eq-PARTED c =
    let a = c.args in
    c.link_answers-then-question-eq-PARTED.ensures
    ∙ part_answer ((types_of c.args.type_count c.args.types.now)) c.word-kind.result c.word-a.result c.word-b.result c.word-z.result (a.place % 2) ((met_word c.args.trace.now (c.args.place / 2))) ((eqb (there_word c.args.trace.now (c.args.place / 2)) 1)) a.x
    ∙ (λ i. answers_at ((types_of c.args.type_count c.args.types.now)) (question_of (sym c.if-question-eq-PARTED.true i) a.x) (event_of (c.word-kind.ensures i) (c.word-a.ensures i) (c.word-b.ensures i) (c.word-z.ensures i)) (a.place % 2) ((met_word c.args.trace.now (c.args.place / 2))) ((eqb (there_word c.args.trace.now (c.args.place / 2)) 1)))

pub returns : goal.returns
unfolding event_row
returns c =
    let a = c.args in
    c.type_answers.ensures c.word-a.result (a.place % 2) ((eqb (there_word c.args.trace.now (c.args.place / 2)) 1))
    ∙ (λ i. answers_at ((types_of c.args.type_count c.args.types.now)) (question_of a.question a.x) (event_of (c.word-kind.ensures i) (c.word-a.ensures i) (c.word-b.ensures i) (c.word-z.ensures i)) (a.place % 2) (c.wide-met.ensures i) ((eqb (there_word c.args.trace.now (c.args.place / 2)) 1)))
