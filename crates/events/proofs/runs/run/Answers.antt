-- `events::runs::run` meets its contract: the copied rows are the register that was lent.
use mathlib.Core.Path.{refl}
use Rattle.events.proofs.Reached.{Copies, copy_fits, copy_done}
use Rattle.events.proofs.runs.run.Goals as goal
use Rattle.events.proofs.runs.run.Lts as lts
use Rattle.events.proofs.runs.run.Reads as reads
use Rattle.events.proofs.runs.run.Tie as tie

-- ---- once the used rows are copied
abbrev Ready : Type 0
Ready = lts.After-rows_lent2 tie.the-claims reads.Pre reads.Post

abbrev at-links : Ready → lts.After-copy_words2 tie.the-claims reads.Pre reads.Post
at-links c = c.before.before.before.before

abbrev at-objects : Ready → lts.After-copy_words tie.the-claims reads.Pre reads.Post
at-objects c = c.before.before.before.before.before.before.before.before

abbrev start : Ready → lts.Start tie.the-claims reads.Pre reads.Post
start c = c.before.before.before.before.before.before.before.before.before.before.before.before.before.before.before.before.before.before

copies : (c : Ready) → let x = (start c).args in Copies x.object_count x.objects.now x.link_count x.links.now x.scratch_objects.now x.scratch_links.now
    c.rows_lent.result c.rows_lent-2.result (at-objects c).copy_words.new.dst (at-links c).copy_words-2.new.dst
copies c =
    record {
      objects_are = (at-objects c).copy_words.ensures;
      links_are = (at-links c).copy_words-2.ensures;
      objects_length = (at-objects c).copy_words.auto.dst;
      links_length = (at-links c).copy_words-2.auto.dst;
      objects_lent_lem = c.rows_lent.ensures;
      links_lent_lem = c.rows_lent-2.ensures;
    }

pub run_on-requires : goal.run_on-requires
run_on-requires c =
    (copy_fits _ _ _ _ _ _ _ _ c.requires (copies c.before.before.before), c.requires.events_few, refl)

pub returns : goal.returns
returns c =
    λ w. copy_done _ _ _ _ _ _ _ _ c.requires (copies c.before.before.before.before.before.before.before.before) (c.run_on.ensures w)
