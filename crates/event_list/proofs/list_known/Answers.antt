-- `event_list::list_known` meets its contract: the words of what is marked.
use mathlib.Core.Path.{refl, sym, ap, ◌∙◌}
use native.Mathlib.Omega.{arith}
use Rattle.std.specs.Prelude.{Ok}
use Rattle.tables.specs.Refusals.{verdict_of}
use Rattle.event_list.proofs.Answers.{body_whole, list_short, list_whole}
use Rattle.event_list.proofs.list_known.Goals as goal

pub rule_marks-requires : goal.rule_marks-requires
rule_marks-requires c =
    let a = c.args in
    (body_whole a.n a.sheet.now.types.now a.sheet.now.floors.now a.sheet.now.relationships.now a.sheet.now.rules.now a.sheet.now.bodies.now a.rule (sym (ap verdict_of c.requires)), refl)

pub returns-then-list-count : goal.returns-then-list-count
returns-then-list-count c =
    let a = c.args in
    list_short a.n a.sheet.now.types.now a.sheet.now.floors.now a.sheet.now.relationships.now a.sheet.now.rules.now a.sheet.now.bodies.now a.rule
    (sym (ap verdict_of c.requires)) c.rule_marks.new.marks c.rule_marks.ensures a.list.now (omega arith)

pub returns : goal.returns
returns c =
    let a = c.args in
    let whole = list_whole a.n a.sheet.now.types.now a.sheet.now.floors.now a.sheet.now.relationships.now a.sheet.now.rules.now a.sheet.now.bodies.now a.rule
    (sym (ap verdict_of c.requires)) c.rule_marks.new.marks c.rule_marks.ensures a.list.now (omega arith) in
    (ap Ok c.count-count.ensures ∙ whole.0, c.write.ensures ∙ whole.1)
