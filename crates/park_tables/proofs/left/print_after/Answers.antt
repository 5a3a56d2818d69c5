-- `park_tables::left::print_after` meets its contract.
use native.Mathlib.Omega.{arith}
use mathlib.Core.Path.{ap, ◌∙◌}
use lib.ListN.{length}
use Rattle.rows.specs.Rows.{in_front}
use Rattle.tables.specs.Layouts.{Sheet, sheet_of}
use Rattle.answers.proofs.Checking.{pairs_within, outcome_is}
use Rattle.park_tables.proofs.Texts.{text_left, answer_left, lent_left, register_left_lem}
use borrow.Author.Rules.{rules}
use Rattle.park_tables.proofs.left.print_after.Goals as goal

pub returns-in-Accepted : goal.returns-in-Accepted
returns-in-Accepted c =
    let a = c.args in
    let e = text_left c.check-checked.ensures a.n a.types.now a.floors.now a.relationships.now a.rules.now a.bodies.now a.events.now c.in-Accepted.is ∙ lent_left a.n (sheet_of c.args.types.now c.args.floors.now c.args.relationships.now c.args.rules.now c.args.bodies.now c.args.objects.now c.args.links.now c.args.events.now) c.requires.0 c.requires.1 in (
      c.print_text.ensures.0 ∙ ap (λ b. in_front b a.out.now) e,
      c.print_text.ensures.1 ∙ ap length e,
      register_left_lem a.n (sheet_of c.args.types.now c.args.floors.now c.args.relationships.now c.args.rules.now c.args.bodies.now c.args.objects.now c.args.links.now c.args.events.now) c.requires.0 c.requires.1 c.check-checked.ensures.register,
    )

pub print-requires : goal.print-requires
print-requires c =
    let few = pairs_within c.check-checked.ensures in
    let long = c.check-checked.auto.list in
    omega (arith, few, long, c.requires.2)

pub returns : goal.returns
returns c =
    let a = c.args in
    let other = c.in_default.not-Accepted in
    let e = outcome_is c.check-checked.ensures ∙ answer_left c.check-checked.ensures a.n a.types.now a.floors.now a.relationships.now a.rules.now a.bodies.now a.events.now other ∙ lent_left a.n (sheet_of c.args.types.now c.args.floors.now c.args.relationships.now c.args.rules.now c.args.bodies.now c.args.objects.now c.args.links.now c.args.events.now) c.requires.0 c.requires.1 in (
      c.print.ensures.0 ∙ ap (λ b. in_front b a.out.now) e,
      c.print.ensures.1 ∙ ap length e,
      register_left_lem a.n (sheet_of c.args.types.now c.args.floors.now c.args.relationships.now c.args.rules.now c.args.bodies.now c.args.objects.now c.args.links.now c.args.events.now) c.requires.0 c.requires.1 c.check-checked.ensures.register,
    )
