-- `register::search::link_row` meets its contract. At its place stands the link, or it is not there.
use mathlib.Core.Path.{sym, ◌∙◌}
use native.Mathlib.Omega.{arith}
use Rattle.register.proofs.Searches.{link_keys, link_found, link_missing}
use Rattle.register.proofs.search.link_row.Goals as goal

pub place-row-requires : goal.place-row-requires
place-row-requires c = link_keys _ c.requires

pub returns-then-row-link_count : goal.returns-then-row-link_count
returns-then-row-link_count c = rw (link_missing _ c.place-row.ensures c.requires (λ h. absurd (omega arith)))

pub returns-then-is_link : goal.returns-then-is_link
returns-then-is_link c =
    rw (link_found _ c.place-row.ensures c.requires c.if-row-link_count.false (sym c.is_link.ensures ∙ c.if-is_link.true))

pub returns-else-is_link : goal.returns-else-is_link
returns-else-is_link c =
    rw (link_missing _ c.place-row.ensures c.requires (λ h. sym c.is_link.ensures ∙ c.if-is_link.false))
