-- `event_tests::has_link` meets its contract.
use mathlib.Core.Path.{sym, ◌∙◌}
use Rattle.meaning.specs.Events.{link_of}
use Rattle.schema.proofs.Founds.{found_none, found_some}
use Rattle.event_tests.proofs.Tests.{link_present, link_absent}
use Rattle.event_tests.proofs.has_link.Goals as goal

pub returns-in-Some : goal.returns-in-Some
returns-in-Some c =
    let x = c.args in
    λ os. sym (link_present os x.count x.links.now (link_of x.relationship x.source x.target) (found_some _ (sym c.in-Some.is ∙ c.link_row.ensures)))

pub returns-in-None : goal.returns-in-None
returns-in-None c =
    let x = c.args in
    λ os. sym (link_absent os x.count x.links.now (link_of x.relationship x.source x.target) (found_none _ (sym c.in-None.is ∙ c.link_row.ensures)))
