-- `questions::type_answers` meets its contract.
use mathlib.Core.Path.{◌≡◌, sym, ap, ap₂, ◌∙◌}
use mathlib.Core.Bool.{◌&&◌, not}
use mathlib.Core.List.{List}
use native.Mathlib.Omega.{arith}
use lib.Dec.{eqb}
use Rattle.meaning.specs.Schema.{ObjectType}
use Rattle.tables.specs.Columns.{types_of, event_of}
use Rattle.trace_places.specs.Questions.{question_of, answers_at}
use Rattle.trace_places.proofs.Questions.{insert_answer, special_answer, general_answer}
use Rattle.questions.proofs.type_answers.Goals as goal

pub returns-then-question-eq-INSERTED : goal.returns-then-question-eq-INSERTED
returns-then-question-eq-INSERTED c =
    let a = c.args in
    λ x j there.
    c.of_kind.ensures
    ∙ ap (λ b. eqb 0 a.kind && (eqb a.z 0 && b)) c.under-is.ensures
    ∙ insert_answer ((types_of c.args.type_count c.args.types.now)) a.kind x a.to a.z j a.met there a.t
    ∙ ap (λ q. answers_at ((types_of c.args.type_count c.args.types.now)) (question_of q a.t) (event_of a.kind x a.to a.z) j a.met there) (sym c.if-question-eq-INSERTED.true)

pub returns-then-question-eq-SPECIALISED : goal.returns-then-question-eq-SPECIALISED
returns-then-question-eq-SPECIALISED c =
    let a = c.args in
    λ x j there.
    c.of_kind-then-question-eq-SPECIALISED.ensures
    ∙ ap (λ b. eqb 5 a.kind && (eqb a.z 0 && b)) (c.unless.ensures ∙ ap₂ (λ p q. p && not q) c.under-is.ensures c.was_under-was.ensures)
    ∙ special_answer ((types_of c.args.type_count c.args.types.now)) a.kind x a.to a.z j a.met there a.t
    ∙ ap (λ q. answers_at ((types_of c.args.type_count c.args.types.now)) (question_of q a.t) (event_of a.kind x a.to a.z) j a.met there) (sym c.if-question-eq-SPECIALISED.true)

pub returns : goal.returns
returns c =
    let a = c.args in
    let last : a.question ≡ 5 = let first = c.if-question-eq-INSERTED.false in let second = c.if-question-eq-SPECIALISED.false in omega arith in
    λ x j there.
    c.of_kind-2.ensures
    ∙ ap (λ b. eqb 6 a.kind && (eqb a.z 0 && b)) (c.unless-2.ensures ∙ ap₂ (λ p q. p && not q) c.was_under-was.ensures c.under-is.ensures)
    ∙ general_answer ((types_of c.args.type_count c.args.types.now)) a.kind x a.to a.z j a.met there a.t
    ∙ ap (λ q. answers_at ((types_of c.args.type_count c.args.types.now)) (question_of q a.t) (event_of a.kind x a.to a.z) j a.met there) (sym (last))
