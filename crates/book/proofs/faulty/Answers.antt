-- `book::faulty` meets its contract, by the laws of Rules.
use Prim.Native.Nat.{◌+◌, ◌*◌}
use mathlib.Core.Path.{refl, sym, ◌∙◌}
use native.Mathlib.Nat.{le_refl}
use native.Mathlib.Omega.{arith}
use lib.Dec.{T}
use Rattle.rows.specs.Rows.{word_at}
use Rattle.tables.specs.Bodies.{whole_body}
use Rattle.tables.proofs.Forms.{whole_body_lem}
use Rattle.body_rows.specs.Marks.{body_of}
use Rattle.book.proofs.Rules.{too_long_lem, no_truth, not_first, one_form, unknown_context, no_body_lem, judged}
use Rattle.book.proofs.faulty.Goals as goal
use Rattle.book.proofs.faulty.Lts as lts
use Rattle.book.proofs.faulty.Reads as reads
use Rattle.book.proofs.faulty.Tie as tie

pub returns-then-type_count-context : goal.returns-then-type_count-context
returns-then-type_count-context c = λ fs p.
    let a = c.args in
    unknown_context a.type_count a.types.now a.relationship_count a.relationships.now a.rules.now a.bodies.now a.rule c.word-context.result (word_at a.rules.now 2 a.rule 1) c.word-context.ensures refl fs p c.if-type_count-context.true

pub returns-then-n-gt64 : goal.returns-then-n-gt64
returns-then-n-gt64 c = λ fs p.
    let a = c.args in
    let context = c.word-context in
    let size = c.word-n in
    let n = size.result in
    no_body_lem a.type_count a.types.now a.relationship_count a.relationships.now a.rules.now a.bodies.now a.rule
    context.result n context.ensures size.ensures fs p
    (too_long_lem (body_of a.bodies.now a.rule) n c.if-n-gt64.true)

pub returns-then-spans-ne-TRUTH : goal.returns-then-spans-ne-TRUTH
returns-then-spans-ne-TRUTH c = λ fs p.
    let a = c.args in
    let context = c.word-context in
    let size = c.word-n in
    let n = size.result in
    no_body_lem a.type_count a.types.now a.relationship_count a.relationships.now a.rules.now a.bodies.now a.rule
    context.result n context.ensures size.ensures fs p
    (no_truth (body_of a.bodies.now a.rule) n (λ e. c.if-spans-ne-TRUTH.true (c.scan-spans.ensures.1 ∙ e)))

pub returns-then-starts-last-ne0 : goal.returns-then-starts-last-ne0
returns-then-starts-last-ne0 c = λ fs p.
    let a = c.args in
    let context = c.word-context in
    let size = c.word-n in
    let n = size.result in
    no_body_lem a.type_count a.types.now a.relationship_count a.relationships.now a.rules.now a.bodies.now a.rule
    context.result n context.ensures size.ensures fs p
    (not_first (body_of a.bodies.now a.rule) n (λ e. c.if-starts-last-ne0.true (c.scan-spans.ensures.0.right n (le_refl n) ∙ e)))

-- the body is one whole form
whole : (c : lts.Else4 tie.the-claims reads.Pre reads.Post)
    → let a = c.args in
    T (whole_body (body_of a.bodies.now a.rule) c.word-n.result)
whole c =
    let a = c.args in
    let n = c.word-n.result in
    let scanned = c.scan-spans.ensures in
    one_form (body_of a.bodies.now a.rule) n c.if-n-gt64.false (sym scanned.1 ∙ c.if-spans-ne-TRUTH.false)
    (sym (scanned.0.right n (le_refl n)) ∙ c.if-starts-last-ne0.false)

pub typed-requires : goal.typed-requires
typed-requires c =
    let a = c.args in
    let n = c.word-n.result in
    let w = whole_body_lem (body_of a.bodies.now a.rule) n (whole c.before.before.before) in
    let few = w.few in
    (c.scan-spans.ensures.0, w.sound, refl, omega arith)

pub returns : goal.returns
returns c = λ fs p.
    let a = c.args in
    let context = c.word-context in
    let size = c.word-n in
    judged a.type_count a.types.now a.relationship_count a.relationships.now a.rules.now a.bodies.now a.rule
    context.result size.result context.ensures size.ensures fs p c.if-type_count-context.false
    (λ k. (c.shared_slice_known-4-1.given ((a.rule * 64 + k) * 4 + 1)).fits) (whole c.before.before.before.before) c.typed.result c.typed.ensures.0
