-- `trace_places::keep::is_there` meets its contract.
use Rattle.trace_places.proofs.Keeping.{JoinWords, join_words}
use Rattle.event_tests.proofs.Tests.{link_present, link_absent}
use Rattle.meaning.specs.Register.{Link, has_link}
use Rattle.register.specs.Tables.{links_with}
use Rattle.tables.specs.Columns.{event_of, event_row}
use Rattle.meaning.specs.Events.{join, link_of}
use Rattle.schema.proofs.Founds.{found_none, found_some}
use Prim.Native.Nat.{ℕ}
use mathlib.Core.Path.{◌≡◌, sym, ap, ◌∙◌}
use Rattle.trace_places.proofs.keep.is_there.Goals as goal
use Rattle.trace_places.proofs.keep.is_there.Lts as lts
use Rattle.trace_places.proofs.keep.is_there.Reads as reads
use Rattle.trace_places.proofs.keep.is_there.Tie as tie

-- ---- the words of the event's row
abbrev start : lts.After-word4 tie.the-claims reads.Pre reads.Post → lts.Start tie.the-claims reads.Pre reads.Post
start c = c.before.before.before.before.before.before

abbrev link : lts.After-word4 tie.the-claims reads.Pre reads.Post → Link
link c = link_of c.word-x.result c.word-y.result c.word-z.result

words : (c : lts.After-word4 tie.the-claims reads.Pre reads.Post) (n a b : ℕ) → event_row (start c).args.events.now (start c).args.i ≡ join n a b
    → JoinWords c.word-x.result c.word-y.result c.word-z.result n a b c.word-kind.result
unfolding event_row
words c n a b e =
    join_words _ _ _ n a b c.word-kind.result
    ((λ i. event_of (c.word-kind.ensures i) (c.word-x.ensures i) (c.word-y.ensures i) (c.word-z.ensures i)) ∙ e)

pub returns-then-kind-ne-JOIN : goal.returns-then-kind-ne-JOIN
returns-then-kind-ne-JOIN c = λ os n a b e. absurd (c.if-kind-ne-JOIN.true (words c.before.before n a b e).kind_is)

pub returns-in-Some : goal.returns-in-Some
returns-in-Some c =
    λ os n a b e.
    sym (link_present os c.args.link_count c.args.links.now (link c.before.before.before.before) (found_some _ (sym c.in-Some.is ∙ c.link_row.ensures)))
    ∙ ap (has_link (links_with os c.args.link_count c.args.links.now)) (words c.before.before.before.before n a b e).same

pub returns-in-None : goal.returns-in-None
returns-in-None c =
    λ os n a b e.
    sym (link_absent os c.args.link_count c.args.links.now (link c.before.before.before.before) (found_none _ (sym c.in-None.is ∙ c.link_row.ensures)))
    ∙ ap (has_link (links_with os c.args.link_count c.args.links.now)) (words c.before.before.before.before n a b e).same
