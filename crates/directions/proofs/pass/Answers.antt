-- `directions::pass` meets its contract: the entries at the form's number for the directions in the set, put together.
use Prim.Native.Nat.{ℕ, ◌+◌, ◌*◌}
use mathlib.Core.Path.{◌≡◌, ap₂, ◌∙◌}
use mathlib.Core.Bool.{cond}
use mathlib.Core.List.{[]}
use lib.Bits.{bit_or}
use lib.ListN.{get_or}
use Rattle.direction_table.specs.Entries.{rule_table}
use Rattle.directions.specs.Sets.{holds_one}
use Rattle.directions.proofs.Passes.{asked_passed}
use Rattle.directions.proofs.pass.Goals as goal
use Rattle.directions.proofs.pass.Lts as lts
use Rattle.directions.proofs.pass.Reads as reads
use Rattle.directions.proofs.pass.Tie as tie

-- what is asked of the table: an entry of the part, where the set has its direction
abbrev entry_in_lem : (c : lts.After-form_of tie.the-claims reads.Pre reads.Post) (direction way : ℕ) → ℕ
entry_in_lem c direction way =
    let a = c.args in cond (holds_one a.set direction) (get_or (get_or rule_table c.form_of-form.result []) (a.part * 2 + way) 0) 0

up_asked : (c : lts.After-asked tie.the-claims reads.Pre reads.Post) → c.asked.result ≡ entry_in_lem c.before 1 0
up_asked c = c.asked.ensures

down_asked : (c : lts.After-asked2 tie.the-claims reads.Pre reads.Post) → c.asked-2.result ≡ entry_in_lem c.before.before 2 1
down_asked c = c.asked-2.ensures

pub returns : goal.returns
returns c =
    let a = c.args in
    λ o e.
    ap₂ bit_or (up_asked c.before) (down_asked c)
    ∙ asked_passed a.code a.floored a.part a.set c.form_of-form.ensures o c.requires e
