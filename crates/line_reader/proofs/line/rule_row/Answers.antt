use mathlib.Core.Path.{◌≡◌, ◌∙◌}
use mathlib.Core.Bool.{true, false, ◌&&◌}
use native.Mathlib.Omega.{arith}
use lib.Dec.{eqb}
use Rattle.std.proofs.lemmas.Bool.Decides.{nat_tests}
use Rattle.text.specs.Names.{rule_name}
use Rattle.text.specs.Tokens.{is_word}
use Rattle.text.specs.Entries.{count_of}
use Rattle.line_reader.proofs.Lines.{rule_no_number, rule_no_context, rule_no_body, rule_unfit, rule_fit}
use Rattle.line_reader.proofs.line.rule_row.Goals as goal

pub returns-in_err-number : goal.returns-in_err-number
returns-in_err-number c = λ before counted. c.from_residual.ensures ∙ rule_no_number c.args.line.now c.args.at before c.in_err-number.ensures

pub returns-in_err-context : goal.returns-in_err-context
returns-in_err-context c =
    λ before counted. c.from_residual-in_err-context.ensures ∙ rule_no_context c.args.line.now c.args.at before _ c.in_ok-number.ensures c.in_err-context.ensures

pub returns-in_err-forms : goal.returns-in_err-forms
returns-in_err-forms c =
    λ before counted.
    c.from_residual-in_err-forms.ensures
    ∙ rule_no_body c.args.line.now c.args.at before _ c.in_ok-number.ensures _ c.in_ok-context.ensures c.in_err-forms.ensures

pub returns-then-number-rules : goal.returns-then-number-rules
returns-then-number-rules c =
    λ before counted.
    let unfit : (eqb c.in_ok-number.number.value (count_of rule_name before) && is_word c.in_ok-context.context.value) ≡ false = grind (arith, nat_tests) in
    rule_unfit c.args.line.now c.args.at before _ c.in_ok-number.ensures _ c.in_ok-context.ensures unfit

pub returns : goal.returns
returns c =
    λ before counted.
    let fit : (eqb c.in_ok-number.number.value (count_of rule_name before) && is_word c.in_ok-context.context.value) ≡ true = grind (arith, nat_tests) in
    rule_fit c.args.line.now c.args.at before _ c.in_ok-number.ensures _ c.in_ok-context.ensures c.in_ok-forms.ensures fit
