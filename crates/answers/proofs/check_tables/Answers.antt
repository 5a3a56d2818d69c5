-- `answers::check_tables` meets its contract.
use native.Mathlib.Omega.{arith}
use mathlib.Core.Path.{ap, ◌∙◌}
use lib.ListN.{length}
use Rattle.rows.specs.Rows.{in_front}
use Rattle.tables.specs.Layouts.{sheet_of}
use Rattle.pair_list.specs.Pairs.{pair_words}
use Rattle.batch.specs.Checked.{lent_outcome}
use Rattle.answers.proofs.Checking.{long_enough, pairs_within, outcome_is, lent_outcome_lem, register_by}
use borrow.Author.Rules.{rules}
use Rattle.answers.proofs.check_tables.Goals as goal

pub print-requires : goal.print-requires
print-requires c =
    let few = pairs_within c.check-checked.ensures in
    let long = c.check-checked.auto.list in
    omega (arith, few, long, c.requires.2)

pub returns : goal.returns
returns c =
    let a = c.args in
    let s = sheet_of a.types.now a.floors.now a.relationships.now a.rules.now a.bodies.now a.objects.now a.links.now a.events.now in
    let long = long_enough a.objects.now a.links.now a.scratch_objects.now a.scratch_links.now c.requires.0 c.requires.1 in
    let left = c.check-checked.ensures in
    let e = outcome_is left ∙ lent_outcome_lem a.n s (length a.list.now) long in (
      c.print.ensures.0 ∙ ap (λ b. in_front b a.out.now) e,
      c.print.ensures.1 ∙ ap length e,
      left.list_is ∙ ap (λ short. in_front (pair_words (lent_outcome a.n s short (length a.list.now)).pairs) a.list.now) long,
      register_by (λ short. lent_outcome a.n s short (length a.list.now)) long left.register,
    )
