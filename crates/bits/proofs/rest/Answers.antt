-- `bits::rest` meets its contract.
use mathlib.Core.Path.{sym, ap, ◌∙◌}
use lib.ListN.{drop}
use Rattle.bits.specs.Bits.{bits_in}
use Rattle.bits.proofs.Digits.{rest_is}
use Rattle.bits.proofs.rest.Goals as goal

pub returns-then-word-eq0 : goal.returns-then-word-eq0
returns-then-word-eq0 c = rest_is 0 ∙ ap (λ w. drop 1 (bits_in w)) (sym c.if-word-eq0.true)

pub returns : goal.returns
returns c = rest_is c.args.word
