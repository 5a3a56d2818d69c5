-- `touched::rule_touched` meets its contract, by the law of a rule's marks.
use mathlib.Core.Path.{refl, ◌∙◌}
use mathlib.Core.Bool.{Bool}
use mathlib.Core.List.{List}
use borrow.Author.Rules.{rules}
use Rattle.touched.proofs.Books.{rule_shared}
use Rattle.touched.proofs.rule_touched.Goals as goal

-- ---- what is known there

pub rule_marks-requires : goal.rule_marks-requires
rule_marks-requires c = (c.requires.0.whole c.args.rule c.requires.1, refl)

pub returns : goal.returns
returns c = λ change same known.
    let a = c.args in
    c.shared.ensures
    ∙ rule_shared a.n a.sheet.now.types.now a.sheet.now.floors.now a.sheet.now.relationships.now a.sheet.now.rules.now a.sheet.now.bodies.now c.requires.0 a.rule c.requires.1 ((c.rule_marks.new.marks)) a.occurring.now c.rule_marks.ensures change same known
