-- `selection::rule::select_rule` meets its contract.
use mathlib.Core.Path.{◌≡◌, sym, ap, ap₂, subst, ◌∙◌}
use native.Mathlib.Omega.{arith}
use lib.Dec.{T}
use Rattle.rows.specs.Rows.{word_at}
use Rattle.tables.specs.Bodies.{ending, as_truth, whole_body}
use Rattle.tables.specs.Columns.{schema_in, rule_row, floors_of, relationships_of, schema_of}
use Rattle.body_rows.specs.Marks.{body_of, Starts}
use Rattle.typing.specs.Types.{FlooredRows}
use Rattle.quietness.specs.Quiet.{still_of}
use Rattle.full_search.proofs.Given.{size_few}
use Rattle.selected.specs.Ready.{RuleReady}
use Rattle.selection.proofs.Given.{whole, sound, body_is, known_by, rule_ready}
use Rattle.selection.proofs.rule.select_rule.Goals as goal

pub scan-spans-requires : goal.scan-spans-requires
scan-spans-requires c = size_few c.requires.0 c.requires.2 c.word-size.ensures

pub floored_rows-floored-requires : goal.floored_rows-floored-requires
floored_rows-floored-requires c =
    (c.scan-spans.ensures.0, subst (λ e. T (whole_body (body_of c.args.sheet.now.bodies.now c.args.rule) e)) (sym c.word-size.ensures) (whole c.requires.0 c.requires.2))

pub stillness-still-requires : goal.stillness-still-requires
stillness-still-requires c = (
  c.scan-spans.ensures.0,
  subst (λ e. T (ending (body_of c.args.sheet.now.bodies.now c.args.rule) e).sound) (sym c.word-size.ensures) (sound c.requires.0 c.requires.2),
)

pub candidates-candidate-requires : goal.candidates-candidate-requires
candidates-candidate-requires c =
    let a = c.args in
    let rows = body_of a.sheet.now.bodies.now a.rule in
    let ready : RuleReady a.n a.sheet.now.types.now a.sheet.now.objects.now a.sheet.now.links.now a.index.now a.sheet.now.rules.now a.sheet.now.bodies.now c.scan-spans.result.starts a.rule =
    rule_ready c.requires.0 c.requires.2 c.scan-spans.ensures.2 (subst (Starts rows c.scan-spans.result.starts) c.word-size.ensures c.scan-spans.ensures.0) in
    (ready.whole, (ready.schema, ready.able), c.requires.1, c.requires.4)

pub choose-requires : goal.choose-requires
choose-requires c =
    let a = c.args in
    let rows = body_of a.sheet.now.bodies.now a.rule in
    let ready : RuleReady a.n a.sheet.now.types.now a.sheet.now.objects.now a.sheet.now.links.now a.index.now a.sheet.now.rules.now a.sheet.now.bodies.now c.scan-spans.result.starts a.rule =
    rule_ready c.requires.0 c.requires.2 c.scan-spans.ensures.2 (subst (Starts rows c.scan-spans.result.starts) c.word-size.ensures c.scan-spans.ensures.0) in
    (ready, c.requires.1, c.candidates-candidate.ensures.1, omega (arith, c.requires.2, c.requires.0.given.few_rules), c.requires.3)

-- the floored sums by the book's schema, and what is still of what brings an object into the rule's context type
pub returns : goal.returns
unfolding rule_row
returns c =
    let a = c.args in
    let rows = body_of a.sheet.now.bodies.now a.rule in
    let S = schema_in a.n a.sheet.now in
    let floors : FlooredRows S rows (word_at a.sheet.now.rules.now 2 a.rule 1) c.floored_rows-floored.result =
    subst (λ e. FlooredRows S rows e c.floored_rows-floored.result) c.word-size.ensures c.floored_rows-floored.ensures in
    let stills = c.stillness-still.ensures
    ∙ ap₂ (still_of (relationships_of a.n.relationships a.sheet.now.relationships.now)) c.word-context.ensures
    (ap (λ e. as_truth (ending rows e).form) c.word-size.ensures ∙ body_is c.requires.0 c.requires.2) in (
      c.choose.ensures.0,
      c.candidates-candidate.ensures.0,
      omega (arith, c.choose.ensures.1, c.requires.0.given.few_objects),
      λ k traced e. c.choose.ensures.2 k traced (known_by c.requires.0 c.requires.2 k e floors stills),
    )
