-- `line_writer::lines::type_line` meets its contract: a line of three items.
use mathlib.Core.Path.{ap₂, ◌∙◌}
use mathlib.Core.List.{[], ◌∷◌, ◌++◌}
use Rattle.text.specs.Names.{type_name, name_of}
use Rattle.text.specs.Tokens.{spell_token, item}
use Rattle.text.specs.Entries.{parent_item}
use Rattle.line_writer.specs.Lines.{type_line}
use Rattle.line_writer.proofs.Puts.{put_then, put_as}
use Rattle.line_writer.proofs.Spellings.{three_line}
use Rattle.line_writer.proofs.lines.type_line.Goals as goal

pub returns : goal.returns
unfolding type_line
returns c =
    let put = put_then (put_then (put_then (put_then c.open-a.ensures c.number-b.ensures) c.parent-c.ensures) c.number-d.ensures) c.end_line.ensures in
    put_as put
    (ap₂ (λ p q. ((((40 ∷ name_of type_name) ++ spell_token (item c.args.row)) ++ spell_token (item (parent_item p))) ++ spell_token (item q)) ++ 41 ∷ 10 ∷ []) c.word.ensures c.word-2.ensures
    ∙ three_line type_name _ _ _)
