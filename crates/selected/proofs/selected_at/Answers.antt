-- `selected::selected_at` meets its contract.
use mathlib.Core.Path.{◌≡◌, refl, ap, ap₂, ◌∙◌}
use borrow.Author.Tests.{not-true, not-false}
use Prim.Native.Nat.{ℕ}
use mathlib.Core.List.{List, ◌∷◌}
use lib.Dec.{lit<}
use lib.ListN.{replicate}
use Rattle.meaning.specs.Schema.{under}
use Rattle.meaning.specs.Reach.{Change, brought_in}
use Rattle.rows.specs.Rows.{word_at}
use Rattle.tables.specs.Columns.{types_of, object_row, rule_row}
use Rattle.walks.specs.Site.{site_of, id_in}
use Rattle.trace_places.specs.Traces.{Traced}
use Rattle.reach.specs.Moves.{moves_at}
use Rattle.quietness.specs.Quiet.{StillBy}
use Rattle.quietness.proofs.Entries.{came_in}
use Rattle.selected.proofs.Asked.{not_under, was_brought, body_moved}
use mathlib.Core.Bool.{not}
use Rattle.selected.proofs.selected_at.Goals as goal

pub returns-then-not-under : goal.returns-then-not-under
returns-then-not-under c = λ k traced floors stills.
    let a = c.args in
    let inside = c.under.ensures ∙ ap₂ (λ t u. under (types_of a.n.types a.sheet.now.types.now) t u) c.type_of.ensures c.word-context.ensures in
    not_under traced a.index.now a.sheet.now.rules.now a.sheet.now.bodies.now a.rule c.requires.2 inside (not-true c.under.result (ap not c.if-not-under.true))

pub returns-then-brought_in : goal.returns-then-brought_in
unfolding rule_row
returns-then-brought_in c = λ k traced floors stills.
    let a = c.args in
    let inside = c.under.ensures ∙ ap₂ (λ t u. under (types_of a.n.types a.sheet.now.types.now) t u) c.type_of.ensures c.word-context.ensures in
    let brought = c.brought_in.ensures k traced ∙ came_in k (rule_row a.sheet.now.rules.now a.sheet.now.bodies.now a.rule) (id_in a.sheet.now.objects.now a.row) stills c.word-context.ensures in
    was_brought traced a.index.now a.sheet.now.rules.now a.sheet.now.bodies.now a.rule c.requires.2 inside (not-false c.under.result (ap not c.if-not-under.false))
    brought c.if-brought_in.true

pub moved-requires : goal.moved-requires
moved-requires c =
    ((c.requires.0.schema, rw c.word.ensures (c.requires.0.able c.args.row c.requires.2 _ refl refl)), c.requires.1, lit< tt)

pub returns : goal.returns
unfolding rule_row
returns c = λ k traced floors stills.
    let a = c.args in
    let inside = c.under.ensures ∙ ap₂ (λ t u. under (types_of a.n.types a.sheet.now.types.now) t u) c.type_of.ensures c.word-context.ensures in
    let brought = c.brought_in.ensures k traced ∙ came_in k (rule_row a.sheet.now.rules.now a.sheet.now.bodies.now a.rule) (id_in a.sheet.now.objects.now a.row) stills c.word-context.ensures in
    let vars : List ℕ = a.row ∷ replicate 63 0 in
    body_moved traced a.index.now a.sheet.now.rules.now a.sheet.now.bodies.now a.rule c.requires.2 inside (not-false c.under.result (ap not c.if-not-under.false))
    brought c.if-brought_in.false c.requires.0.whole vars refl
    (c.moved.ensures k traced (rw c.word.ensures floors) ∙ ap (λ e. moves_at k (site_of a.n a.sheet.now.types.now a.sheet.now.objects.now a.sheet.now.links.now a.index.now a.sheet.now.bodies.now a.rule) e vars 1 2) c.word.ensures)
