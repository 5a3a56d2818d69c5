-- `event_effects::effects::row_effect` meets its contract: the event is the one of the row's four words.
use mathlib.Core.Path.{◌≡◌, sym, subst, ◌∙◌}
use Rattle.meaning.specs.Events.{Event}
use Rattle.tables.specs.Columns.{types_of, event_of, event_row}
use Rattle.event_effects.specs.Effects.{Can}
use Rattle.event_effects.proofs.Applied.{as_applied, as_kept}
use Rattle.event_effects.proofs.effects.row_effect.Goals as goal
use Rattle.event_effects.proofs.effects.row_effect.Lts as lts
use Rattle.event_effects.proofs.effects.row_effect.Reads as reads
use Rattle.event_effects.proofs.effects.row_effect.Tie as tie

-- ---- once the words are read
module _ (c : lts.After-word4 tie.the-claims reads.Pre reads.Post) where
  abbrev start : lts.Start tie.the-claims reads.Pre reads.Post
  start = c.before.before.before.before.before.before.before.before

  abbrev tables_can : Event → Type 0
  tables_can =
      Can (types_of start.args.type_count start.args.types.now) start.args.held.objects start.args.objects.now start.args.held.links
      start.args.links.now

  row_event : event_of c.word-kind.result c.word-x.result c.word-y.result c.word-z.result
      ≡ event_row start.args.events.now start.args.row
  unfolding event_row
  row_event = λ i. event_of (c.word-kind.ensures i) (c.word-x.ensures i) (c.word-y.ensures i) (c.word-z.ensures i)

pub effect-requires : goal.effect-requires
effect-requires c =
    (subst (tables_can c.before.before.before.before) (sym (row_event c.before.before.before.before)) (start c.before.before.before.before).requires.0, λ p. (start c.before.before.before.before).requires.1 (sym (row_event c.before.before.before.before) ∙ p), (start c.before.before.before.before).requires.2)

pub returns : goal.returns
returns c =
    (λ fs rs. as_applied (sym (row_event c.before.before.before.before.before.before.before.before.before)) (c.effect.ensures.0 fs rs), as_kept (sym (row_event c.before.before.before.before.before.before.before.before.before)) c.effect.ensures.1)
