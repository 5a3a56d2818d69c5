-- `park_tables::print_check` meets its contract: what the check prints and leaves, but for its list.
use Rattle.park_tables.proofs.print_check.Goals as goal

pub returns : goal.returns
returns c =
    let told = c.check_tables.ensures in
    (told.0, told.1, told.3)
