-- `tokens::items` meets its contract. The loop's invariant: the items in the array and the tokens from i on give the answer.
use mathlib.Core.Path.{sym, ap, ◌∙◌}
use native.Mathlib.Omega.{arith}
use Rattle.std.specs.Prelude.{Some}
use Rattle.tokens.proofs.Tokens.{found_stands}
use Rattle.tokens.proofs.Counted.{reading_first, reading_bad, reading_begin, reading_end, reading_more, reading_many, reading_item}
use Rattle.tokens.proofs.items.Goals as goal

pub loop-value-init : goal.loop-value-init
loop-value-init c = reading_first c.args.line.now c.args.at

pub returns-in_err-value : goal.returns-in_err-value
returns-in_err-value c =
    let now = c.loop-value in
    c.from_residual.ensures ∙ sym (reading_bad c.args.line.now now.i now.values now.count _ now.invariant c.in_err-value.ensures)

pub returns-then-count-gt9 : goal.returns-then-count-gt9
returns-then-count-gt9 c =
    let t = c.args.line.now in
    let now = c.loop-value in
    let s = found_stands t now.i _ (sym (ap Some c.in-Item.is) ∙ c.in_ok-value.ensures) in
    sym (reading_many t now.i now.values now.count _ now.invariant _ _ s c.if-count-gt9.true)

pub loop-value-smaller : goal.loop-value-smaller
loop-value-smaller c =
    let t = c.args.line.now in
    let now = c.loop-value in
    let s = found_stands t now.i _ (sym (ap Some c.in-Item.is) ∙ c.in_ok-value.ensures) in
    omega (arith, s.inside, s.further)

pub loop-value-preserved : goal.loop-value-preserved
loop-value-preserved c =
    let t = c.args.line.now in
    let now = c.loop-value in
    let s = found_stands t now.i _ (sym (ap Some c.in-Item.is) ∙ c.in_ok-value.ensures) in
    reading_item t now.i now.values now.count _ now.invariant _ _ s (omega arith)

pub returns-then-next-line : goal.returns-then-next-line
returns-then-next-line c =
    let t = c.args.line.now in
    let now = c.loop-value in
    let s = found_stands t now.i _ (sym (ap Some c.in-End.is) ∙ c.in_ok-value.ensures) in
    sym (reading_more t now.i now.values now.count _ now.invariant _ s c.if-next-line.true)

pub returns-in-End : goal.returns-in-End
returns-in-End c =
    let t = c.args.line.now in
    let now = c.loop-value in
    let s = found_stands t now.i _ (sym (ap Some c.in-End.is) ∙ c.in_ok-value.ensures) in
    sym (reading_end t now.i now.values now.count _ now.invariant _ s c.if-next-line.false)

pub returns-in-Begin : goal.returns-in-Begin
returns-in-Begin c =
    let t = c.args.line.now in
    let now = c.loop-value in
    let s = found_stands t now.i _ (sym (ap Some c.in-Begin.is) ∙ c.in_ok-value.ensures) in
    sym (reading_begin t now.i now.values now.count _ now.invariant _ _ s)
