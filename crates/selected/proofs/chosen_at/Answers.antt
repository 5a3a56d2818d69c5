-- `selected::chosen_at` meets its contract.
use borrow.Author.Tests.{not-true}
use native.Mathlib.Omega.{arith}
use Rattle.selected.proofs.Asked.{unmarked}
use mathlib.Core.Path.{ap}
use mathlib.Core.Bool.{not}
use Rattle.selected.proofs.chosen_at.Goals as goal

pub bounds-marks-at : goal.bounds-marks-at
bounds-marks-at c =
    omega (arith, c.requires.3, c.requires.1.1.objects_few)

pub returns-then-not-marks-at : goal.returns-then-not-marks-at
returns-then-not-marks-at c = λ k traced known.
    let a = c.args in
    unmarked traced a.sheet.now.rules.now a.sheet.now.bodies.now a.rule a.floored.now a.marks.now c.requires.2 known a.row c.requires.3 (not-true _ (ap not c.if-not-marks-at.true))

pub selected_at-requires : goal.selected_at-requires
selected_at-requires c =
    (c.requires.0, c.requires.1, c.requires.3)

pub returns : goal.returns
returns c = λ k traced known. c.selected_at.ensures k traced known.floors known.stills
