-- `trace_types::moves::put_event` meets its contract.
use mathlib.Core.Path.{◌≡◌, sym, ap, ◌∙◌}
use mathlib.Core.List.{List}
use Rattle.meaning.specs.Limits.{max_types}
use Rattle.meaning.specs.Schema.{ObjectType}
use Rattle.meaning.specs.Register.{Link, Register}
use Rattle.tables.specs.Columns.{types_of, event_of, event_row}
use Rattle.register.specs.Tables.{objects_with}
use Rattle.trace_places.specs.Making.{event_moves}
use Rattle.trace_types.proofs.Moving.{sets_as, sets_still, moves_truths, moves_none}
use Rattle.trace_types.proofs.moves.put_event.Goals as goal
use Rattle.trace_types.proofs.moves.put_event.Lts as lts
use Rattle.trace_types.proofs.moves.put_event.Reads as reads
use Rattle.trace_types.proofs.moves.put_event.Tie as tie

-- ---- the event, by the words that were read
abbrev start : lts.After-word4 tie.the-claims reads.Pre reads.Post → lts.Start tie.the-claims reads.Pre reads.Post
start c = c.before.before.before.before.before.before.before

abbrev types : lts.After-word4 tie.the-claims reads.Pre reads.Post → List ObjectType
types c = types_of (start c).args.type_count (start c).args.types.now

abbrev register : lts.After-word4 tie.the-claims reads.Pre reads.Post → List Link → Register
register c ls = objects_with (start c).args.object_count (start c).args.objects.now ls

read : (c : lts.After-word4 tie.the-claims reads.Pre reads.Post) → event_of c.word-kind.result c.word-x.result c.word-y.result c.word-z.result ≡ event_row (start c).args.events.now (start c).args.i
unfolding event_row
read c = λ k. event_of (c.word-kind.ensures k) (c.word-x.ensures k) (c.word-y.ensures k) (c.word-z.ensures k)

pub returns-then-kind-le-PART : goal.returns-then-kind-le-PART
returns-then-kind-le-PART c =
    let met = c.args.met in
    λ ls.
    sets_still c.args.trace.now (event_moves (types c.before.before.before) (register c.before.before.before ls) (event_row c.args.events.now c.args.i) met) max_types
    (λ t d.
    ap (λ e. event_moves (types c.before.before.before) (register c.before.before.before ls) e met t d) (sym (read c.before.before.before))
    ∙ moves_none (types c.before.before.before) (register c.before.before.before ls) c.word-kind.result c.word-x.result c.word-y.result c.word-z.result met c.if-kind-ge-SET.true c.if-kind-le-PART.true t d)

pub returns : goal.returns
returns c =
    let met = c.args.met in
    λ ls.
    sets_as c.put_all.ensures
    (λ t h d.
    moves_truths (types c.before.before.before.before.before.before.before.before.before.before) (register c.before.before.before.before.before.before.before.before.before.before ls) c.word-kind.result c.word-x.result c.word-y.result c.word-z.result met
    c.above-into.ensures c.met_above-had.ensures (c.end_above-there.ensures ls) t h d
    ∙ ap (λ e. event_moves (types c.before.before.before.before.before.before.before.before.before.before) (register c.before.before.before.before.before.before.before.before.before.before ls) e met t d) (read c.before.before.before.before.before.before.before.before.before.before))
