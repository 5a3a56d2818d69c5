-- `line_writer::lines::rule_line` meets its contract: the body is one whole form.
use Prim.Native.Nat.{◌≤◌}
use mathlib.Core.Path.{sym, ap₂, subst, ◌∙◌}
use mathlib.Core.List.{[], ◌∷◌, ◌++◌}
use lib.Dec.{T}
use Rattle.tables.specs.Bodies.{ending}
use Rattle.tables.proofs.Forms.{whole_body_lem}
use Rattle.body_rows.specs.Marks.{body_of}
use Rattle.text.specs.Names.{rule_name, name_of}
use Rattle.text.specs.Tokens.{spell_token, item}
use Rattle.line_writer.specs.Lines.{spell_form}
use Rattle.line_writer.proofs.Puts.{put_then, put_as}
use Rattle.line_writer.proofs.Bodies.{rule_spelled}
use Rattle.line_writer.proofs.lines.rule_line.Goals as goal

pub scan-spans-requires : goal.scan-spans-requires
scan-spans-requires c = subst (λ n. n ≤ 64) (sym c.word-size.ensures) (whole_body_lem _ _ c.requires).few

pub form-d-requires : goal.form-d-requires
form-d-requires c =
    (c.scan-spans.ensures.0, subst (λ n. T (ending (body_of c.args.bodies.now c.args.row) n).sound) (sym c.word-size.ensures) (whole_body_lem _ _ c.requires).sound)

pub returns : goal.returns
returns c =
    let put = put_then (put_then (put_then (put_then c.open-a.ensures c.number-b.ensures) c.number-c.ensures) c.form-d.ensures) c.end_line.ensures in
    put_as put
    (ap₂ (λ x n. ((((40 ∷ name_of rule_name) ++ spell_token (item c.args.row)) ++ spell_token (item x)) ++ spell_form (body_of c.args.bodies.now c.args.row) n) ++ 41 ∷ 10 ∷ []) c.word.ensures c.word-size.ensures
    ∙ rule_spelled c.args.rules.now c.args.bodies.now c.args.row c.requires)
