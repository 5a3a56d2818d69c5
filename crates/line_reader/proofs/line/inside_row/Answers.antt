use Prim.Native.Nat.{◌≤◌, ◌<◌}
use mathlib.Core.Path.{sym, ◌∙◌}
use native.Mathlib.Omega.{arith}
use lib.ListN.{length}
use Rattle.std.proofs.lemmas.Bool.Decides.{nat_tests}
use Rattle.line_reader.proofs.Lines.{says_empty, says_other, says_unnamed, says_rule, says_no_items, says_flat}
use Rattle.line_reader.proofs.line.inside_row.Goals.{then-is_empty-via-then-is_empty, then-is_empty-via-else-is_empty+then-line-ne40}
use Rattle.line_reader.proofs.line.inside_row.Goals as goal

pub returns-then-is_empty : goal.returns-then-is_empty
returns-then-is_empty c =
    λ before section f.
    elim c.then-is_empty.branch [
      | then-is_empty-via-then-is_empty w ↦ let short : length c.args.line.now < 1 = grind (arith, nat_tests) in says_empty before c.args.line.now short
      | then-is_empty-via-else-is_empty+then-line-ne40 w ↦ let long : 1 ≤ length c.args.line.now = grind (arith, nat_tests) in says_other before c.args.line.now long w.if-line-ne40.true
    ]

pub returns-in_err-place : goal.returns-in_err-place
returns-in_err-place c =
    λ before section f.
    let long : 1 ≤ length c.args.line.now = grind (arith, nat_tests) in
    c.from_residual.ensures ∙ says_unnamed before c.args.line.now long c.if-line-ne40.false (sym c.in_err-place.was ∙ c.name-name.ensures.0)

pub returns-then-place-eq-RULE_SECTION : goal.returns-then-place-eq-RULE_SECTION
returns-then-place-eq-RULE_SECTION c =
    λ before section f.
    let long : 1 ≤ length c.args.line.now = grind (arith, nat_tests) in
    says_rule before c.args.line.now long c.if-line-ne40.false (sym c.in_ok-place.was ∙ c.name-name.ensures.0) c.name-name.ensures.1
    c.if-place-eq-RULE_SECTION.true (c.rule_row.ensures before f.rules_are)

pub returns-in_err-items : goal.returns-in_err-items
returns-in_err-items c =
    λ before section f.
    let long : 1 ≤ length c.args.line.now = grind (arith, nat_tests) in
    c.from_residual-in_err-items.ensures
    ∙ says_no_items before c.args.line.now long c.if-line-ne40.false (sym c.in_ok-place.was ∙ c.name-name.ensures.0) c.name-name.ensures.1
    c.if-place-eq-RULE_SECTION.false c.in_err-items.ensures

pub returns : goal.returns
returns c =
    λ before section f.
    let long : 1 ≤ length c.args.line.now = grind (arith, nat_tests) in
    says_flat before c.args.line.now long c.if-line-ne40.false (sym c.in_ok-place.was ∙ c.name-name.ensures.0) c.name-name.ensures.1
    c.if-place-eq-RULE_SECTION.false f c.in_ok-items.items c.in_ok-items.ensures c.flat_row.ensures
