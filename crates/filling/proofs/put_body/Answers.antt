use mathlib.Core.Path.{refl, sym, subst}
use lib.ListN.{drop}
use Rattle.brackets.specs.Whole.{WholeBody}
use Rattle.filling.proofs.put_body.Goals as goal

pub write_body-requires : goal.write_body-requires
write_body-requires c = (let ready = c.requires.0 c.if-section-eq-RULE_SECTION.true in (ready.0, ready.1, subst (λ n. WholeBody (drop n c.args.line.now) ready.0 ready.1) (sym c.body_place.ensures) ready.2), c.requires.1 c.if-section-eq-RULE_SECTION.true)

pub returns-then-section-eq-RULE_SECTION : goal.returns-then-section-eq-RULE_SECTION
returns-then-section-eq-RULE_SECTION c =
    ((λ t w q h. c.write_body.ensures t w (subst (λ n. WholeBody (drop n c.args.line.now) t w) (sym c.body_place.ensures) h)), (λ no. absurd (no c.if-section-eq-RULE_SECTION.true)))

pub returns-else-section-eq-RULE_SECTION : goal.returns-else-section-eq-RULE_SECTION
returns-else-section-eq-RULE_SECTION c = ((λ t w q h. absurd (c.if-section-eq-RULE_SECTION.false q)), (λ no. refl))
