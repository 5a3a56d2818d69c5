-- `printing::outcome::print` meets its contract.
use native.Mathlib.Omega.{arith}
use mathlib.Core.Path.{ap, ◌∙◌}
use mathlib.Core.List.{◌++◌}
use Rattle.line_writer.proofs.Puts.{put_then, put_as, put_within}
use Rattle.printing.specs.Printed.{answer_line, pair_lines, meant, pairs_in}
use Rattle.printing.proofs.Lines.{put_front}
use Rattle.printing.proofs.Printed.{shown_lines, printed_size}
use Rattle.printing.proofs.outcome.print.Goals as goal

pub pair_lines-requires : goal.pair_lines-requires
pair_lines-requires c = put_within c.answer_line-at.ensures.0

pub returns : goal.returns
returns c =
    let a = c.args in
    let list = a.list.now in
    let lines = ap (λ k. answer_line (meant a.answer) ++ pair_lines (pairs_in list k)) c.shown-count.ensures ∙ shown_lines list a.answer a.pairs in
    put_front
    (put_as (put_then c.answer_line-at.ensures.0 c.pair_lines.ensures) lines)
    (omega (arith, c.requires, printed_size list (λ k. omega (arith, c.type_inv.list k)) a.answer a.pairs c.answer_line-at.ensures.1))
