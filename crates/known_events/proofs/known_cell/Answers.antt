-- `known_events::known_cell` meets its contract: a signed word fits.
use Prim.Native.Nat.{◌^◌}
use mathlib.Core.Bool.{and-true}
use borrow.Author.Tests.{lt-ltb}
use lib.Signed.{mag}
use Rattle.meaning.specs.Limits.{fits_word}
use Rattle.rows.specs.Rows.{signed}
use Rattle.rows.proofs.Words.{signed_fits}
use Rattle.known_events.proofs.known_cell.Goals as goal

pub returns-then-valid_id : goal.returns-then-valid_id
unfolding fits_word
returns-then-valid_id c = λ word. simp (← c.valid_id.ensures, c.if-valid_id.true, lt-ltb (mag (signed word)) (2 ^ 31) (signed_fits word), and-true)
