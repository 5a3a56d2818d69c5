-- `batch_selection::by_events` meets its contract.
use Prim.Native.Nat.{ℕ}
use mathlib.Core.Path.{refl}
use mathlib.Core.List.{List, []}
use Rattle.tables.specs.Layouts.{register_sheet}
use Rattle.full_search.proofs.Given.{register_fits, zeros}
use Rattle.touched.proofs.Books.{book_given}
use Rattle.selection.proofs.Adding.{added_to}
use Rattle.batch_selection.proofs.by_events.Goals as goal

pub make-requires : goal.make-requires
make-requires c =
    let ended = c.requires.1.1 in
    record {
      objects_ascend = c.requires.0.indexed.objects_ascend;
      links_ascend = (register_fits c.args.n (register_sheet c.args.sheet.now) c.requires.0.given).links_ascend;
      objects_few = c.requires.0.given.few_objects;
      events_few = ended.seen.few;
      met_low = ended.met_low;
      losses_few = ended.losses_few;
      losses_low = ended.losses_low;
      empty = zeros 16675;
    }

pub touched_rules-rules_touched-requires : goal.touched_rules-rules_touched-requires
touched_rules-rules_touched-requires c =
    (book_given c.args.n (register_sheet c.args.sheet.now) c.requires.0.given, c.requires.0.indexed.objects_ascend, c.requires.1.1.seen.few)

pub select-requires : goal.select-requires
select-requires c =
    let (k, ended) = c.requires.1 in
    (c.requires.0, (k, c.make.ensures k ended.seen ended.lost), (_, c.touched_rules-rules_touched.ensures k _ ended.seen ended.schema_is), c.requires.2)

pub returns : goal.returns
returns c =
    let traced = c.make.ensures in
    let bits = c.touched_rules-rules_touched.ensures in
    let promised = c.select.ensures in (
      promised.1,
      λ k e. added_to refl (bits k _ e.seen e.schema_is) refl (promised.2 k (traced k e.seen e.lost) e.schema_is),
    )
