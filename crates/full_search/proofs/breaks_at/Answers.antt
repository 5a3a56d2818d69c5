-- `full_search::breaks_at` meets its contract: the row of the id, if it has one, and the pair there.
use mathlib.Core.Path.{refl, sym, ◌∙◌}
use Rattle.schema.proofs.Founds as Founds
use Rattle.register.proofs.Rows.{place_row_lem}
use Rattle.full_search.proofs.Given.{size_few, rule_ready}
use Rattle.full_search.proofs.Pairs.{found_row, found_none}
use Rattle.full_search.proofs.breaks_at.Goals as goal

pub object_row-requires : goal.object_row-requires
object_row-requires c =
    c.requires.0.indexed.objects_ascend

pub scan-spans-requires : goal.scan-spans-requires
scan-spans-requires c =
    size_few c.requires.0 c.requires.1 c.word-size.ensures

pub breaks-requires : goal.breaks-requires
breaks-requires c =
    let place = Founds.found_some _ (sym c.in-Some.is ∙ c.object_row.ensures) in
    rule_ready c.requires.0 c.requires.1 c.word-size.ensures c.scan-spans.ensures.2 c.scan-spans.ensures.0 (place_row_lem _ _ c.args.id place).0

pub returns-in-Some : goal.returns-in-Some
returns-in-Some c =
    found_row c.requires.0 c.requires.1 c.word-size.ensures c.args.id (Founds.found_some _ (sym c.in-Some.is ∙ c.object_row.ensures)) c.word-context.ensures c.breaks.ensures

pub returns-in-None : goal.returns-in-None
returns-in-None c =
    found_none c.requires.0 c.requires.1 refl c.args.id (Founds.found_none _ (sym c.in-None.is ∙ c.object_row.ensures))
