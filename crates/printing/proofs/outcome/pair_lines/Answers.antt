-- `printing::outcome::pair_lines` meets its contract. The invariant: the lines of the first i pairs are put.
use mathlib.Core.Path.{◌≡◌, refl, sym, ap}
use native.Mathlib.Omega.{arith}
use borrow.Author.Rules.{rules}
use Rattle.line_writer.proofs.Puts.{put_nothing, put_then, put_as}
use Rattle.printing.specs.Printed.{pair_lines, pairs_in}
use Rattle.printing.proofs.Printed.{no_pairs, more_pairs}
use Rattle.printing.proofs.outcome.pair_lines.Goals as goal

pub loop-i-init : goal.loop-i-init
loop-i-init c = (search rules, put_as (put_nothing _ _ c.requires) (sym (no_pairs c.args.list.now)))

pub loop-i-preserved : goal.loop-i-preserved
loop-i-preserved c = (
  search rules,
  put_as (put_then c.loop-i.invariant.1 c.line-next.ensures) (more_pairs c.args.list.now c.loop-i.i refl c.word-rule.ensures c.word-id.ensures),
)

pub shape_of-out : goal.shape_of-out
shape_of-out c = c.loop-i.invariant.1.size

pub returns : goal.returns
returns c =
    let all : c.loop-i.i ≡ c.args.pairs = omega arith in
    put_as c.loop-i.invariant.1 (ap (λ k. pair_lines (pairs_in c.args.list.now k)) all)
