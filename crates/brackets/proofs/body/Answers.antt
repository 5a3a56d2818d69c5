-- `brackets::body` meets its contract. The loop's invariant: the machine at the open forms in the array and the tokens from i on gives the answer.
use mathlib.Core.Path.{sym, ap, ◌∙◌}
use Rattle.std.specs.Prelude.{Some}
use native.Mathlib.Omega.{arith}
use Rattle.brackets.specs.Steps.{lacking_after}
use Rattle.tokens.proofs.Tokens.{found_stands}
use Rattle.brackets.proofs.Stack.{opened_lacks, running_first, begin_room, running_bad, running_refused, running_begin, running_item, running_end, running_done}
use Rattle.brackets.proofs.body.Goals as goal

pub loop-found-init : goal.loop-found-init
loop-found-init c = running_first c.args.line.now c.args.at

pub returns-in_err-found : goal.returns-in_err-found
returns-in_err-found c =
    let now = c.loop-found in
    c.from_residual.ensures ∙ sym (running_bad c.args.line.now now.i now.outer now.depth now.lacks now.forms _ now.invariant c.in_err-found.ensures)

pub returns-in_err-after : goal.returns-in_err-after
returns-in_err-after c =
    let now = c.loop-found in
    c.from_residual-in_err-after.ensures
    ∙ sym (running_refused c.args.line.now now.i now.outer now.depth now.lacks now.forms _ now.invariant _ c.in_ok-found.ensures (sym c.in_err-after.ensures))

pub overflow_sub-outer : goal.overflow_sub-outer
overflow_sub-outer c =
    let t = c.args.line.now in
    let now = c.loop-found in
    let after = c.in_ok-after.ensures ∙ ap (lacking_after now.lacks) c.in-Begin.is in
    opened_lacks now.lacks _ _ after

pub bounds-outer-depth : goal.bounds-outer-depth
bounds-outer-depth c =
    let t = c.args.line.now in
    let now = c.loop-found in
    let s = found_stands t now.i _ (sym (ap Some c.in-Begin.is) ∙ c.in_ok-found.ensures) in
    let b = begin_room t now.i _ _ now.depth s c.requires now.invariant.deep in
    omega arith

pub overflow_add-forms : goal.overflow_add-forms
overflow_add-forms c =
    let t = c.args.line.now in
    let now = c.loop-found in
    let s = found_stands t now.i _ (sym (ap Some c.in-Begin.is) ∙ c.in_ok-found.ensures) in
    let b = begin_room t now.i _ _ now.forms s c.requires now.invariant.many in
    omega arith

pub loop-found-smaller-in-Begin : goal.loop-found-smaller-in-Begin
loop-found-smaller-in-Begin c =
    let t = c.args.line.now in
    let now = c.loop-found in
    let s = found_stands t now.i _ (sym (ap Some c.in-Begin.is) ∙ c.in_ok-found.ensures) in
    omega (arith, s.inside, s.further)

pub loop-found-preserved-in-Begin : goal.loop-found-preserved-in-Begin
loop-found-preserved-in-Begin c =
    let t = c.args.line.now in
    let now = c.loop-found in
    let s = found_stands t now.i _ (sym (ap Some c.in-Begin.is) ∙ c.in_ok-found.ensures) in
    let after = c.in_ok-after.ensures ∙ ap (lacking_after now.lacks) c.in-Begin.is in
    running_begin t now.i now.outer now.depth now.lacks now.forms _ now.invariant _ _ _ s c.requires after

pub loop-found-smaller-in-Item : goal.loop-found-smaller-in-Item
loop-found-smaller-in-Item c =
    let t = c.args.line.now in
    let now = c.loop-found in
    let s = found_stands t now.i _ (sym (ap Some c.in-Item.is) ∙ c.in_ok-found.ensures) in
    omega (arith, s.inside, s.further)

pub loop-found-preserved-in-Item : goal.loop-found-preserved-in-Item
loop-found-preserved-in-Item c =
    let t = c.args.line.now in
    let now = c.loop-found in
    let s = found_stands t now.i _ (sym (ap Some c.in-Item.is) ∙ c.in_ok-found.ensures) in
    let after = c.in_ok-after.ensures ∙ ap (lacking_after now.lacks) c.in-Item.is in
    running_item t now.i now.outer now.depth now.lacks now.forms _ now.invariant _ _ _ s after

pub returns-then-depth-lt1 : goal.returns-then-depth-lt1
returns-then-depth-lt1 c =
    let t = c.args.line.now in
    let now = c.loop-found in
    let s = found_stands t now.i _ (sym (ap Some c.in-End.is) ∙ c.in_ok-found.ensures) in
    let after = c.in_ok-after.ensures ∙ ap (lacking_after now.lacks) c.in-End.is in
    c.ended.ensures ∙ sym (running_done t now.i now.outer now.depth now.lacks now.forms _ now.invariant _ _ s after c.if-depth-lt1.true)

pub bounds-outer-depth-in-End : goal.bounds-outer-depth-in-End
bounds-outer-depth-in-End c =
    let t = c.args.line.now in
    let now = c.loop-found in
    let s = found_stands t now.i _ (sym (ap Some c.in-End.is) ∙ c.in_ok-found.ensures) in
    omega (arith, s.inside, c.requires, now.invariant.deep)

pub loop-found-smaller : goal.loop-found-smaller
loop-found-smaller c =
    let t = c.args.line.now in
    let now = c.loop-found in
    let s = found_stands t now.i _ (sym (ap Some c.in-End.is) ∙ c.in_ok-found.ensures) in
    omega (arith, s.inside, s.further)

pub loop-found-preserved : goal.loop-found-preserved
loop-found-preserved c =
    let t = c.args.line.now in
    let now = c.loop-found in
    let s = found_stands t now.i _ (sym (ap Some c.in-End.is) ∙ c.in_ok-found.ensures) in
    let after = c.in_ok-after.ensures ∙ ap (lacking_after now.lacks) c.in-End.is in
    running_end t now.i now.outer now.depth now.lacks now.forms _ now.invariant _ _ s after c.if-depth-lt1.false
