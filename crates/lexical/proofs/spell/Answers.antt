-- `lexical::spell` meets its contract: the digits, and a `-` before them where the word is negative.
use Prim.Native.Nat.{◌+◌, ◌-◌}
use mathlib.Core.Path.{◌≡◌, sym, ◌∙◌}
use native.Mathlib.Omega.{arith}
use lib.ListN.{length-set}
use Rattle.lexical.proofs.Spelling.{decimal_low, decimal_high}
use Rattle.lexical.proofs.Writing.{drop_set}
use Rattle.lexical.proofs.spell.Goals as goal

pub returns-then-word-lt2147483648 : goal.returns-then-word-lt2147483648
returns-then-word-lt2147483648 c = (c.spell_digits.ensures.1, c.spell_digits.ensures.2 ∙ sym (decimal_low _ c.if-word-lt2147483648.true), c.spell_digits.ensures.3)

pub returns : goal.returns
returns c =
    let call = c.spell_digits-start in
    let back : call.result - 1 + 1 ≡ call.result = omega arith in
    (omega arith, drop_set call.new.buffer (call.result - 1) 45 (omega arith) ∙ rw (back, call.ensures.2) (sym (decimal_high _ c.if-word-lt2147483648.false)), simp length-set call.ensures.3)
