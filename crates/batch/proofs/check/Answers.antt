-- `batch::check` meets its contract.
use mathlib.Core.Path.{◌≡◌, refl, sym, ap, ◌∙◌}
use lib.ListN.{length}
use Rattle.tables.specs.Layouts.{Sheet, sheet_of}
use Rattle.std.specs.Prelude.{Ok, Err}
use Rattle.tables.specs.Refusals.{verdict_of}
use mathlib.Core.List.{List}
use mathlib.Core.Option.{Option}
use Rattle.meaning.specs.Schema.{Schema}
use Rattle.meaning.specs.Register.{Register}
use Rattle.meaning.specs.Events.{Event, Refusal}
use Rattle.events.specs.Runs.{ran_by}
use Rattle.checks.proofs.Given.{clear_none}
use Rattle.events.specs.declared.Ran.{Ran}
use Rattle.events.proofs.Answers.{verdict_by}
use Rattle.lent_run.specs.Lent.{run_refusal}
use Rattle.batch.proofs.Outcomes.{Unrefused, unrefused}
use Rattle.batch.proofs.Ending.{given_end, ended}
use Rattle.batch.proofs.Leaving.{left_refused, left_end}
use borrow.Author.Rules.{rules}
use Rattle.batch.proofs.check.Goals as goal

-- what was refused, if anything
verdict_is : (o : Option Refusal) (S : Schema) (g : Register) (es : List Event) {r : Ran} → r ≡ ran_by o S g es → r.verdict ≡ verdict_of o
verdict_is o S g es is = ap (λ (r : Ran). r.verdict) is ∙ verdict_by _ _ _ _

pub judge-judged-requires : goal.judge-judged-requires
judge-judged-requires c =
    let a = c.args in
    let s : Sheet = sheet_of a.types.now a.floors.now a.relationships.now a.rules.now a.bodies.now a.objects.now a.links.now a.events.now in
    let clear = clear_none _ (sym c.in-Ok.is ∙ verdict_is _ _ _ _ c.run-ran.ensures.ran_is) in
    let ran = unrefused a.n s a.scratch_objects.now a.scratch_links.now (length a.list.now) clear in
    let left = c.run-ran.ensures.left c.in-Ok.is in
    (given_end a.n s _ _ _ ran left, (_, ended a.n s _ _ _ ran left c.run-ran.ensures.ran_is))

pub returns-in-Err : goal.returns-in-Err
returns-in-Err c =
    let a = c.args in
    let s : Sheet = sheet_of a.types.now a.floors.now a.relationships.now a.rules.now a.bodies.now a.objects.now a.links.now a.events.now in
    left_refused a.n s a.scratch_objects.now a.scratch_links.now a.list.now (sym c.in-Err.is ∙ verdict_is _ _ _ _ c.run-ran.ensures.ran_is) refl refl refl refl

pub shape_of-scratch_objects-in-Ok : goal.shape_of-scratch_objects-in-Ok
shape_of-scratch_objects-in-Ok c = c.run-ran.auto.scratch_objects

pub shape_of-scratch_links-in-Ok : goal.shape_of-scratch_links-in-Ok
shape_of-scratch_links-in-Ok c = c.run-ran.auto.scratch_links

pub returns-in-Ok : goal.returns-in-Ok
returns-in-Ok c =
    let a = c.args in
    let s : Sheet = sheet_of a.types.now a.floors.now a.relationships.now a.rules.now a.bodies.now a.objects.now a.links.now a.events.now in
    let clear = clear_none _ (sym c.in-Ok.is ∙ verdict_is _ _ _ _ c.run-ran.ensures.ran_is) in
    let ran = unrefused a.n s a.scratch_objects.now a.scratch_links.now (length a.list.now) clear in
    let left = c.run-ran.ensures.left c.in-Ok.is in
    left_end a.n s a.scratch_objects.now a.scratch_links.now a.list.now ran _ left (λ k. (c.slice_known-6-1.given k).fits)
    (c.judge-judged.ensures _ (ended a.n s _ _ _ ran left c.run-ran.ensures.ran_is) _ refl _) c.settle.ensures
