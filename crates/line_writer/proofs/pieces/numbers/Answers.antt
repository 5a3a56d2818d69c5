-- `line_writer::pieces::numbers` meets its contract. The invariant: the first i words are put.
use mathlib.Core.Path.{◌≡◌, ap, sym}
use native.Mathlib.Omega.{arith}
use borrow.Author.Rules.{rules}
use lib.ListN.{take, drop}
use Rattle.line_writer.specs.Lines.{spell_items}
use Rattle.line_writer.proofs.Puts.{put_nothing, put_then, put_as}
use Rattle.line_writer.proofs.Spellings.{items_none, items_more}
use Rattle.line_writer.proofs.pieces.numbers.Goals as goal

pub loop-i-init : goal.loop-i-init
loop-i-init c = (search rules, put_as (put_nothing _ _ c.requires.1) (sym items_none))

pub loop-i-preserved : goal.loop-i-preserved
loop-i-preserved c =
    (search rules, put_as (put_then c.loop-i.invariant.1 c.number-next.ensures) (items_more c.args.t.now c.args.from c.loop-i.i (omega arith)))

pub shape_of-out : goal.shape_of-out
shape_of-out c = c.loop-i.invariant.1.size

pub returns : goal.returns
returns c =
    let past : c.loop-i.i ≡ c.args.count = omega arith in
    put_as c.loop-i.invariant.1 (ap (λ k. spell_items (take k (drop c.args.from c.args.t.now))) past)
