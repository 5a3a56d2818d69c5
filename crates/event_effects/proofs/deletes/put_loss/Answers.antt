-- `event_effects::deletes::put_loss` meets its contract: whose loss the link is, its two ends tell.
use Prim.Native.Nat.{ℕ, ◌+◌, ◌*◌}
use mathlib.Core.Path.{◌≡◌, sym, ap, ap₂, subst, ◌∙◌}
use mathlib.Core.List.{List}
use Rattle.meaning.specs.Register.{Link}
use Rattle.tables.specs.Columns.{link_row}
use Rattle.event_effects.specs.Losses.{Loss, loss, loss_of}
use Rattle.event_effects.specs.Effects.{LossesAdded}
use Rattle.event_effects.proofs.Losses.{loss_self, loss_source, loss_target, none_added, one_added}
use Rattle.event_effects.proofs.deletes.put_loss.Goals as goal

as_losses : {a b : List Loss} {k : ℕ} {losses : List ℕ} {k' : ℕ} {losses' : List ℕ} → a ≡ b → LossesAdded b k losses k' losses' → LossesAdded a k losses k' losses'
as_losses {k = k} {losses = losses} {k' = k'} {losses' = losses'} e w = subst (λ a. LossesAdded a k losses k' losses') (sym e) w

pub returns-then-source-target : goal.returns-then-source-target
returns-then-source-target c =
    let same = sym c.source_of-source.ensures ∙ c.if-source-target.true ∙ c.target_of-target.ensures in
    as_losses (loss_self c.args.id (link_row c.args.links.now c.args.row) same) none_added

pub returns : goal.returns
returns c =
    let x = c.args in
    let link : Link = link_row x.links.now x.row in
    let source = c.source_of-source.ensures in
    let target = c.target_of-target.ensures in
    let two_ends : link.source ≡ link.target → ⊥ = λ e. c.if-source-target.false (source ∙ e ∙ sym target) in
    let of = c.relationship_of-role.ensures in
    let row : loss_of x.id link ≡ loss c.if-source-id.role c.if-source-id.other =
    elim c.if-source-id.branch [
      | goal.then-source-id w ↦
          loss_target x.id link two_ends (sym source ∙ w.if-source-id.true) ∙ sym (ap₂ loss (w.role-is ∙ ap (λ n. 2 * n + 1) of) (w.other-is ∙ target))
      | goal.else-source-id w ↦
          loss_source x.id link two_ends (λ e. w.if-source-id.false (source ∙ e)) ∙ sym (ap₂ loss (w.role-is ∙ ap (λ n. 2 * n) of) (w.other-is ∙ source))
    ] in
    as_losses row one_added
