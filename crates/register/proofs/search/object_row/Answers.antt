-- `register::search::object_row` meets its contract. At its place stands the object of the id, or it is not there.
use mathlib.Core.Path.{sym, ◌∙◌}
use native.Mathlib.Omega.{arith}
use Rattle.register.proofs.Searches.{object_keys, object_found, object_missing}
use Rattle.register.proofs.search.object_row.Goals as goal

pub place-row-requires : goal.place-row-requires
place-row-requires c = object_keys _ c.requires

pub returns-then-row-object_count : goal.returns-then-row-object_count
returns-then-row-object_count c = rw (object_missing _ c.place-row.ensures c.requires (λ h e. absurd (omega arith)))

pub returns-then-id_of-id : goal.returns-then-id_of-id
returns-then-id_of-id c =
    rw (object_found _ c.place-row.ensures c.requires c.if-row-object_count.false (sym c.id_of.ensures ∙ c.if-id_of-id.true))

pub returns-else-id_of-id : goal.returns-else-id_of-id
returns-else-id_of-id c =
    rw (object_missing _ c.place-row.ensures c.requires (λ h e. c.if-id_of-id.false (c.id_of.ensures ∙ e)))
