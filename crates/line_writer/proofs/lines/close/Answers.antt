-- `line_writer::lines::close` meets its contract: no field, one or two, and the closed bracket.
use native.Mathlib.Omega.{arith}
use mathlib.Core.Path.{◌≡◌, ap, ap₂, ◌∙◌}
use mathlib.Core.List.{[], ◌∷◌, ◌++◌}
use Rattle.text.specs.Tokens.{spell_token, item}
use Rattle.line_writer.proofs.Puts.{put_of, put_then, put_as}
use Rattle.line_writer.proofs.Spellings.{closing_none, closing_one, closing_two}
use Rattle.line_writer.proofs.lines.close.Goals as goal

pub returns-then-fields-eq0 : goal.returns-then-fields-eq0
returns-then-fields-eq0 c = put_as (put_of c.write_bytes.ensures) (closing_none _ _ _ c.if-fields-eq0.true)

pub returns-then-fields-eq1 : goal.returns-then-fields-eq1
returns-then-fields-eq1 c =
    put_as (put_then c.number-a.ensures (put_of c.write_bytes-then-fields-eq1.ensures))
    (ap (λ x. spell_token (item x) ++ 41 ∷ []) c.field.ensures ∙ closing_one _ _ _ c.if-fields-eq1.true)

pub returns : goal.returns
returns c =
    let two : c.args.fields ≡ 2 = omega (arith, c.requires.1) in
    put_as (put_then (put_then c.number-a.ensures c.number-b.ensures) (put_of c.write_bytes-2.ensures))
    (ap₂ (λ x y. (spell_token (item x) ++ spell_token (item y)) ++ 41 ∷ []) c.field.ensures c.field-2.ensures ∙ closing_two _ _ _ two)
