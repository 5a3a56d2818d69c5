-- `known_events::event_known` meets its contract, by the laws of Known.
use native.Mathlib.Omega.{arith}
use mathlib.Core.Path.{◌≡◌, ◌∙◌}
use Rattle.meaning.specs.Schema.{Schema}
use Rattle.meaning.specs.Events.{known_event}
use Rattle.tables.specs.Columns.{event_of, event_row}
use Rattle.known_events.proofs.Known.{unknown_kind, known_delete, known_set, known_join, known_part, known_typed}
use Rattle.known_events.proofs.event_known.Goals as goal
use Rattle.known_events.proofs.event_known.Lts as lts
use Rattle.known_events.proofs.event_known.Reads as reads
use Rattle.known_events.proofs.event_known.Tie as tie

-- the four words that are read are the event's
read : (c : lts.After-word4 tie.the-claims reads.Pre reads.Post) (S : Schema)
    → known_event S (event_of c.word-kind.result c.word-x.result c.word-y.result c.word-z.result)
    ≡ known_event S (event_row c.args.events.now c.args.row)
unfolding event_row
read c S =
    let kind = c.word-kind.ensures in
    let x = c.word-x.ensures in
    let y = c.word-y.ensures in
    let z = c.word-z.ensures in
    λ j. known_event S (event_of (kind j) (x j) (y j) (z j))

pub returns-then-kind-ge7 : goal.returns-then-kind-ge7
returns-then-kind-ge7 c = λ types fs relationships.
    let n = c.args.n in
    unknown_kind n.types types fs n.relationships relationships _ _ _ _ (omega arith) ∙ read c.before.before _

pub returns-then-kind-eq1 : goal.returns-then-kind-eq1
returns-then-kind-eq1 c = λ types fs relationships.
    let n = c.args.n in
    c.alone.ensures ∙ known_delete n.types types fs n.relationships relationships _ _ _ _ c.if-kind-eq1.true ∙ read c.before.before.before.before _

pub returns-then-kind-eq2 : goal.returns-then-kind-eq2
returns-then-kind-eq2 c = λ types fs relationships.
    let n = c.args.n in
    c.known_cell.ensures c.word-z.result ∙ known_set n.types types fs n.relationships relationships _ _ _ _ c.if-kind-eq2.true ∙ read c.before.before.before.before.before _

pub returns-then-kind-eq3 : goal.returns-then-kind-eq3
returns-then-kind-eq3 c = λ types fs relationships.
    let n = c.args.n in
    c.known_link.ensures relationships ∙ known_join n.types types fs n.relationships relationships _ _ _ _ c.if-kind-eq3.true ∙ read c.before.before.before.before.before.before _

pub returns-then-kind-eq4 : goal.returns-then-kind-eq4
returns-then-kind-eq4 c = λ types fs relationships.
    let n = c.args.n in
    c.known_link-then-kind-eq4.ensures relationships ∙ known_part n.types types fs n.relationships relationships _ _ _ _ c.if-kind-eq4.true ∙ read c.before.before.before.before.before.before.before _

pub returns : goal.returns
returns c = λ types fs relationships.
    let n = c.args.n in
    c.with_type.ensures types
    ∙ known_typed n.types types fs n.relationships relationships _ _ _ _ (omega arith)
    c.if-kind-eq1.false c.if-kind-eq2.false c.if-kind-eq3.false c.if-kind-eq4.false
    ∙ read c.before.before.before.before.before.before.before _
