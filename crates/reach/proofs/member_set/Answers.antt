-- `reach::member_set` meets its contract. The loop's invariant: no member that the walk has passed had its cell set. The measure is
-- what is left of the walk.
use mathlib.Core.Path.{◌∙◌}
use native.Mathlib.Omega.{arith}
use Rattle.meaning.specs.Reach.{cell_moves}
use Rattle.walks.specs.Site.{site_of}
use Rattle.reach.proofs.Leaves.{asked_set}
use Rattle.reach.proofs.Members.{any_starts, any_ends, any_stops, any_goes_on}
use Rattle.reach.proofs.member_set.Goals as goal

pub loop-member-init : goal.loop-member-init
loop-member-init c =
    let a = c.args in
    let w = site_of a.n a.sheet.now.types.now a.sheet.now.objects.now a.sheet.now.links.now a.index.now a.sheet.now.bodies.now a.of.0 in
    (c.begin-word.ensures.stands, λ k traced. any_starts w a.of.1 a.vs.now a.of.2 (λ m. cell_moves k m a.cell) c.begin-word.ensures)

pub returns : goal.returns
returns c =
    let a = c.args in
    let w = site_of a.n a.sheet.now.types.now a.sheet.now.objects.now a.sheet.now.links.now a.index.now a.sheet.now.bodies.now a.of.0 in
    λ k traced. any_ends w a.of.1 a.vs.now a.of.2 (λ m. cell_moves k m a.cell) c.loop-member.word (c.loop-member.invariant.1 k traced) (c.next.ensures.done c.in_default.is)

pub ask-requires : goal.ask-requires
ask-requires c =
    let went = c.next.ensures.went _ c.in-Some.is in
    (c.requires.1, went.there, omega arith)

pub returns-then-ask : goal.returns-then-ask
returns-then-ask c =
    let a = c.args in
    let w = site_of a.n a.sheet.now.types.now a.sheet.now.objects.now a.sheet.now.links.now a.index.now a.sheet.now.bodies.now a.of.0 in
    let went = c.next.ensures.went _ c.in-Some.is in
    λ k traced. any_stops w a.of.1 a.vs.now a.of.2 (λ m. cell_moves k m a.cell) c.loop-member.word (c.loop-member.invariant.1 k traced) went (c.ask.ensures k traced ∙ asked_set k _ a.cell) c.if-ask.true

pub loop-member-preserved : goal.loop-member-preserved
loop-member-preserved c =
    let a = c.args in
    let w = site_of a.n a.sheet.now.types.now a.sheet.now.objects.now a.sheet.now.links.now a.index.now a.sheet.now.bodies.now a.of.0 in
    let went = c.next.ensures.went _ c.in-Some.is in
    (went.stands, λ k traced. any_goes_on w a.of.1 a.vs.now a.of.2 (λ m. cell_moves k m a.cell) c.loop-member.word (c.loop-member.invariant.1 k traced) went (c.ask.ensures k traced ∙ asked_set k _ a.cell) c.if-ask.false)
