-- `trace_types::types::met_above` meets its contract.
use mathlib.Core.Path.{sym, ap}
use mathlib.Core.Bool.{◌&&◌}
use borrow.Author.Tests.{le-ltb}
use Rattle.meaning.specs.Limits.{max_types}
use Rattle.meaning.specs.Schema.{under}
use Rattle.tables.specs.Columns.{types_of}
use Rattle.trace_types.proofs.Climbing.{no_truths, truths_as}
use Rattle.trace_types.proofs.types.met_above.Goals as goal

pub returns-else-met-lt-MAX_TYPES : goal.returns-else-met-lt-MAX_TYPES
returns-else-met-lt-MAX_TYPES c =
    let a = c.args in
    truths_as no_truths (λ t. sym (ap (λ b. b && under (types_of a.type_count a.types.now) a.met t) (le-ltb a.met max_types c.if-met-lt-MAX_TYPES.false)))
