-- `touched::touched` meets its contract: the word has the bits of the touched rules that were passed.
use Prim.Native.Nat.{ℕ, ◌-◌}
use mathlib.Core.Path.{◌≡◌, sym, ap, subst, ◌∙◌}
use mathlib.Core.Logic.{⊎_elim}
use mathlib.Core.Bool.{Bool, true, false, or-false}
use native.Mathlib.Omega.{arith}
use Rattle.meaning.specs.EventList.{touched}
use Rattle.tables.specs.Columns.{rule_row}
use Rattle.bits.specs.Bits.{bit_at}
use Rattle.touched.proofs.Bits.{SetBelow, set_none, set_next, set_all}
use Rattle.touched.proofs.touched.Goals.{else-rule_touched, then-rule_touched}
use Rattle.touched.proofs.touched.Goals as goal

-- ---- the needs, in the order of the code
pub loop-rule-init : goal.loop-rule-init
loop-rule-init c = (omega arith, λ change same known. set_none _)

pub rule_touched-requires : goal.rule_touched-requires
rule_touched-requires c = (c.requires, c.loop-rule-test.true)

pub with-word-requires : goal.with-word-requires
with-word-requires c = omega (arith, c.requires.few_rules, c.loop-rule-test.true)

pub loop-rule-preserved : goal.loop-rule-preserved
loop-rule-preserved c =
    let loop = c.loop-rule in
    let a = c.args in (
      omega (arith, c.loop-rule-test.true),
      λ change same known.
          let p : ℕ → Bool = λ i. touched change (rule_row a.sheet.now.rules.now a.sheet.now.bodies.now i) in
          let now = loop.invariant.1 change same known in
          let is = c.rule_touched.ensures change same known in
          elim c.if-rule_touched.branch [ then-rule_touched w ↦ set_next p loop.rule true (sym is ∙ w.if-rule_touched.true) now (λ j. ap (λ x. bit_at x j) w.word-is ∙ w.with-word.ensures j) | else-rule_touched w ↦ set_next p loop.rule false (sym is ∙ w.if-rule_touched.false) now (λ j. ap (λ x. bit_at x j) w.word-is ∙ sym (or-false (bit_at loop.word j))) ],
    )

pub returns : goal.returns
returns c = λ change same known.
    let loop = c.loop-rule in
    let all : loop.rule ≡ c.args.n.rules = omega (arith, c.loop-rule-test.false) in
    let p : ℕ → Bool = λ i. touched change (rule_row c.args.sheet.now.rules.now c.args.sheet.now.bodies.now i) in
    set_all p loop.word c.args.n.rules c.requires.few_rules (subst (SetBelow p loop.word) all (loop.invariant.1 change same known))
