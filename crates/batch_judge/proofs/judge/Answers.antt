-- `batch_judge::judge` meets its contract.
use Prim.Native.Nat.{ℕ}
use mathlib.Core.Path.{refl}
use mathlib.Core.List.{List, []}
use native.Mathlib.Omega.{arith}
use lib.ListN.{length-replicate}
use Rattle.tables.specs.Layouts.{register_sheet}
use Rattle.full_search.proofs.Given.{register_fits, can_index, zeros}
use Rattle.batch_judge.proofs.Judging.{marks_number, no_room_lem, listed}
use borrow.Author.Rules.{rules}
use Rattle.batch_judge.proofs.judge.Goals as goal

pub index-requires : goal.index-requires
index-requires c =
    let fits = register_fits c.args.n (register_sheet c.args.sheet.now) c.requires.0 in
    (fits.objects_ascend, fits.links_ascend, can_index c.args.n (register_sheet c.args.sheet.now) c.requires.0, zeros 81920)

pub selected_pairs-count-requires : goal.selected_pairs-count-requires
selected_pairs-count-requires c =
    (record { given = c.requires.0; indexed = c.index.ensures }, c.requires.1, length-replicate {A = ℕ} 1024 0, zeros 1024)

pub overflow_mul-count : goal.overflow_mul-count
overflow_mul-count c = omega (arith, c.selected_pairs-count.ensures.0)

pub returns-then-list-count : goal.returns-then-list-count
returns-then-list-count c = λ k ended lent words g.
    no_room_lem ended c.index.ensures.objects_ascend c.requires.0.few_objects (c.selected_pairs-count.ensures.1 k ended) lent g _ words c.if-list-count.true refl refl refl

pub write-requires : goal.write-requires
write-requires c =
    let given = c.requires.0 in
    let (k, ended) = c.requires.1 in
    let number = marks_number ended c.index.ensures.objects_ascend given.few_objects (c.selected_pairs-count.ensures.1 k ended) in
    (given.few_rules, given.few_objects, omega (arith, number, c.selected_pairs-count.ensures.0), omega (arith, number, c.if-list-count.false))

pub search-answer-requires : goal.search-answer-requires
search-answer-requires c =
    record { given = c.requires.0; indexed = c.index.ensures }

pub shape_of-list : goal.shape_of-list
shape_of-list c = c.write.auto.list

pub returns : goal.returns
returns c = λ k ended lent words g.
    listed ended c.index.ensures.objects_ascend c.requires.0.few_objects (c.selected_pairs-count.ensures.1 k ended) lent g _ words c.if-list-count.false
    c.search-answer.ensures refl c.write.ensures
