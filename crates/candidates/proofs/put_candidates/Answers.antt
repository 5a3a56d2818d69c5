-- `candidates::put_candidates` meets its contract, by the laws of Rules.
use Prim.Native.Nat.{ℕ}
use mathlib.Core.Path.{◌≡◌, refl, sym, ap, subst, ◌∙◌}
use mathlib.Core.List.{List}
use native.Mathlib.Omega.{arith}
use lib.ListN.{replicate}
use Rattle.meaning.specs.Reach.{Change, brought_in}
use Rattle.tables.specs.Columns.{rule_row}
use Rattle.quietness.specs.Quiet.{StillBy, came_into}
use Rattle.quietness.proofs.Entries.{came_in}
use Rattle.walks.specs.Site.{site_in, Site, site_of, form_at, id_in}
use Rattle.reach.specs.Able.{Able}
use Rattle.going_back.specs.Back.{reached_by}
use Rattle.going_back.specs.Walkable.{Walkable}
use Rattle.going_back.proofs.Covers.{covered_as}
use Rattle.going_back.proofs.Rules.{candidates_covered}
use Rattle.row_sets.proofs.Growth.{room_kept, grown_none, grown_below, below_then}
use Rattle.candidates.proofs.put_candidates.Goals as goal

pub returns-then-n-eq0 : goal.returns-then-n-eq0
returns-then-n-eq0 c = (grown_below 1 (grown_none _), λ k traced floors stills still row h. let none = c.if-n-eq0.true in absurd (omega arith))

pub back-requires : goal.back-requires
back-requires c =
    let vars : List ℕ = replicate 64 0 in
    let test = c.if-n-eq0.false in
    let whole = c.requires.1.1 0 (omega arith) vars refl refl in
    let able = subst (λ e. Able c.requires.1.0 (site_in c.args.n c.args.sheet.now c.args.index.now c.args.rule) c.args.spans.now e vars 1) (sym c.word.ensures) whole in
    let walkable : Walkable (site_in c.args.n c.args.sheet.now c.args.index.now c.args.rule) c.args.spans.now c.word.result 1 = record { schema = c.requires.1.0; vars = vars; able = able; self = omega arith } in
    (walkable, c.requires.2, omega arith, room_kept c.put_brought.ensures.0.long c.requires.3)

pub returns : goal.returns
unfolding rule_row
returns c =
    let a = c.args in
    let few = c.requires.2.1.objects_few in (
      below_then (grown_below 1 c.put_brought.ensures.0) c.back.ensures.0,
      λ k traced floors stills still.
          candidates_covered a.n a.sheet.now.types.now a.sheet.now.rules.now a.sheet.now.bodies.now a.sheet.now.objects.now a.sheet.now.links.now a.index.now a.rule c.requires.0 k
          (λ row h e. c.back.ensures.0.kept 0 row (omega arith) (omega arith) (c.put_brought.ensures.1 k traced row h (came_in k (rule_row a.sheet.now.rules.now a.sheet.now.bodies.now a.rule) (id_in a.sheet.now.objects.now row) stills c.word-context.ensures ∙ e)))
          (covered_as (λ v u. ap (λ e. reached_by k (form_at (site_in c.args.n c.args.sheet.now c.args.index.now c.args.rule) e) 1 2 v u) c.word.ensures) (c.back.ensures.1 k traced (rw c.word.ensures floors)))
          still,
    )
