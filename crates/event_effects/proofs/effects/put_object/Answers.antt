-- `event_effects::effects::put_object` meets its contract: the row stands where the search places the id.
use Prim.Native.Nat.{◌+◌}
use mathlib.Core.Path.{sym, ap, subst, ◌∙◌}
use Rattle.meaning.specs.Events.{insert}
use Rattle.rows.specs.Rows.{with_row}
use Rattle.register.proofs.Searches.{object_keys}
use Rattle.event_effects.specs.Effects.{ObjectsApplied}
use Rattle.event_effects.proofs.Applied.{object_put_in, new_words}
use Rattle.event_effects.proofs.effects.put_object.Goals as goal

pub place-at-requires : goal.place-at-requires
place-at-requires c = object_keys _ c.before.requires.ascend

pub returns : goal.returns
returns c =
    let start = c.before in
    let x = start.args in
    λ S.
    subst (λ u. ObjectsApplied S (insert x.id x.t) x.count x.objects.now (x.count + 1) u)
    (sym (c.write_row.ensures ∙ ap (λ u. with_row u 10 c.place-at.result (new_words x.id x.t)) c.open_gap.ensures))
    (object_put_in S x.count x.objects.now x.id x.t c.place-at.result start.requires c.place-at.ensures)
