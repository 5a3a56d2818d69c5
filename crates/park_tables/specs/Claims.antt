-- What `park` never meets.
use Rattle.std.specs.Prelude.{ℕ, ◌≡◌, false}
use Rattle.std.proofs.Math.Option.{none}
use Rattle.meaning.specs.Events.{batch_refusal}
use Rattle.meaning.specs.Reach.{change_by, selected_pairs}
use Rattle.meaning.specs.Answers.{list_refusal}
use Rattle.tables.specs.Layouts.{Sheet, layouts}
use Rattle.tables.specs.Columns.{book_of, register_in, batch_in}
use Rattle.tables.specs.Refusals.{refusal_of}
use Rattle.tables.specs.declared.Counts.{Counts}
use Rattle.events.specs.Runs.{lent_by}

-- 14: where no refusal before it is met, 65,536 words hold the pairs of every batch
abbrev pub WordsSuffice : Type 0
WordsSuffice =
    (n : Counts) (s : Sheet)
    → let k = book_of n s in
    let g = register_in n s in
    let lent = lent_by s.objects s.links 65536 in
    refusal_of layouts n s false ≡ none
    → batch_refusal k.schema lent g (batch_in n s) ≡ none
    → list_refusal lent (selected_pairs k (change_by k.schema g (batch_in n s))) ≡ none
