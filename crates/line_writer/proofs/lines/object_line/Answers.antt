-- `line_writer::lines::object_line` meets its contract: the cells of its type fit in a row.
use native.Mathlib.Omega.{arith}
use Prim.Native.Nat.{◌+◌, ◌*◌}
use mathlib.Core.Path.{◌≡◌, ap, ◌∙◌}
use lib.ListN.{take, drop}
use Rattle.rows.specs.Rows.{word_at}
use Rattle.text.specs.Names.{object_name}
use Rattle.line_writer.specs.Lines.{row_line, cells_for, object_line}
use Rattle.line_writer.proofs.Puts.{put_as}
use Rattle.line_writer.proofs.lines.object_line.Goals as goal

pub row_line-requires : goal.row_line-requires
row_line-requires c =
    let cells : c.word-cells.result ≡ cells_for c.args.types.now c.args.objects.now c.args.row = c.word-cells.ensures ∙ ap (λ t. word_at c.args.types.now 2 t 1) c.word-t.ensures in
    (omega arith, omega (arith, c.requires.0, c.requires.1))

pub returns : goal.returns
unfolding object_line
returns c =
    let cells : c.word-cells.result ≡ cells_for c.args.types.now c.args.objects.now c.args.row = c.word-cells.ensures ∙ ap (λ t. word_at c.args.types.now 2 t 1) c.word-t.ensures in
    put_as c.row_line.ensures (ap (λ k. row_line object_name (take (2 + k) (drop (c.args.row * 10) c.args.objects.now))) cells)
