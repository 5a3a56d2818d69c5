-- `event_effects::effects::effect` meets its contract: each kind has its own effect, and a row that is no event is refused.
use Prim.Native.Nat.{ℕ, ◌+◌, ◌≤◌}
use mathlib.Core.Path.{◌≡◌, refl, subst}
use mathlib.Core.List.{List, []}
use native.Mathlib.Omega.{arith}
use Rattle.meaning.specs.Schema.{Schema, Floor, Relationship}
use Rattle.meaning.specs.Register.{Register}
use Rattle.meaning.specs.Events.{Event, apply}
use Rattle.tables.specs.Columns.{types_of, register_of, event_of}
use Rattle.event_effects.specs.declared.Held.{Held}
use Rattle.event_effects.specs.Losses.{lost_at}
use Rattle.event_effects.specs.Effects.{Can, Applied, ObjectsApplied, LinksApplied, LossesKept}
use Rattle.event_effects.proofs.Applied.{objects_applied, links_applied, joined_few, parted_few, losses_stay, as_applied, as_kept}
use Rattle.event_refusals.proofs.Fields.{kind_unknown, kind_set, kind_join, kind_part, is_insert, is_delete, is_special, is_general}
use Rattle.event_effects.proofs.effects.effect.Goals as goal
use Rattle.event_effects.proofs.effects.effect.Lts as lts
use Rattle.event_effects.proofs.effects.effect.Reads as reads
use Rattle.event_effects.proofs.effects.effect.Tie as tie

-- ---- before the kinds part
module _ (c : lts.After-slice_known2 tie.the-claims reads.Pre reads.Post) where
  abbrev start : lts.Start tie.the-claims reads.Pre reads.Post
  start = c.before.before.before

  abbrev held : Held
  held = start.args.held

  abbrev objects : List ℕ
  objects = start.args.objects.now

  abbrev links : List ℕ
  links = start.args.links.now

  abbrev losses : List ℕ
  losses = start.args.losses.now

  abbrev S : List Floor → List Relationship → Schema
  S fs rs = record { types = types_of start.args.type_count start.args.types.now; floors = fs; relationships = rs }

  abbrev g : Register
  g = register_of held.objects objects held.links links

  abbrev event : Event
  event = event_of start.args.kind start.args.x start.args.y start.args.z

  abbrev can : Event → Type 0
  can = Can (types_of start.args.type_count start.args.types.now) held.objects objects held.links links

  -- what the event is allowed, once it is known which it is
  allowed : {e : Event} → event ≡ e → can e
  allowed q = subst can q start.requires.0

  -- what it has done to both tables, and to the losses
  abbrev Done : Held → List ℕ → List ℕ → List ℕ → Type 0
  Done h objects' links' losses' =
      ((fs : List Floor) (rs : List Relationship) → Applied (S fs rs) event held.objects objects held.links links h.objects objects' h.links links')
      × LossesKept g event held.links held.losses losses h.links h.losses losses'

  -- one that changes a table of the two, and takes no link along
  abbrev Alone : Event → Type 0
  Alone e = lost_at g e ≡ []

  on_objects : {e : Event} → event ≡ e → Alone e → ((fs : List Floor) (rs : List Relationship) (h : Register) → (apply (S fs rs) e h).links ≡ h.links) → {n : ℕ} {objects' : List ℕ}
      → ((fs : List Floor) (rs : List Relationship) → ObjectsApplied (S fs rs) e held.objects objects n objects') → Done (record { objects = n; links = held.links; losses = held.losses }) objects' links losses
  on_objects {e} q alone stay done = (
    λ fs rs. as_applied q (objects_applied (S fs rs) e held.objects objects held.links links (stay fs rs) (done fs rs)),
    as_kept q (losses_stay g e alone (omega arith)),
  )

  on_links : {e : Event} → event ≡ e → Alone e → ((fs : List Floor) (rs : List Relationship) (h : Register) → (apply (S fs rs) e h).objects ≡ h.objects) → {m : ℕ} {links' : List ℕ}
      → ((fs : List Floor) (rs : List Relationship) → LinksApplied (S fs rs) e held.links links m links') → m ≤ held.links + 1 → Done (record { objects = held.objects; links = m; losses = held.losses }) objects links' losses
  on_links {e} q alone stay done few = (
    λ fs rs. as_applied q (links_applied (S fs rs) e held.objects objects held.links links (stay fs rs) (done fs rs)),
    as_kept q (losses_stay g e alone few),
  )

-- ---- needs
pub put_object-requires : goal.put_object-requires
unfolding Can
put_object-requires c =
    let a = (start c.before.before.before).args in
    allowed c.before.before.before (is_insert a.x a.y a.z (start c.before.before.before).requires.1 c.in-0.is)

pub take_out-after-requires : goal.take_out-after-requires
unfolding Can
take_out-after-requires c =
    let a = (start c.before.before.before.before.before).args in
    (allowed c.before.before.before.before.before (is_delete a.x a.y a.z (start c.before.before.before.before.before).requires.1 c.in-1.is), (start c.before.before.before.before.before).requires.2)

pub put_cell-requires : goal.put_cell-requires
unfolding Can
put_cell-requires c =
    let a = (start c.before.before.before).args in
    allowed c.before.before.before (kind_set a.x a.y a.z c.in-2.is)

pub put_link-requires : goal.put_link-requires
unfolding Can
put_link-requires c =
    let a = (start c.before.before.before).args in
    allowed c.before.before.before (kind_join a.x a.y a.z c.in-3.is)

pub take_link-requires : goal.take_link-requires
unfolding Can
take_link-requires c =
    let a = (start c.before.before.before).args in
    allowed c.before.before.before (kind_part a.x a.y a.z c.in-4.is)

pub put_type-requires : goal.put_type-requires
unfolding Can
put_type-requires c =
    let a = (start c.before.before.before).args in
    allowed c.before.before.before (is_special a.x a.y a.z (start c.before.before.before).requires.1 c.in-5.is)

pub put_higher_type-requires : goal.put_higher_type-requires
unfolding Can
put_higher_type-requires c =
    let a = (start c.before.before.before).args in
    allowed c.before.before.before (is_general a.x a.y a.z (start c.before.before.before).requires.1 c.in-6.is)

pub returns-in-0 : goal.returns-in-0
unfolding apply lost_at
returns-in-0 c =
    let a = (start c.before.before.before.before.before.before).args in
    on_objects c.before.before.before.before.before.before (is_insert a.x a.y a.z (start c.before.before.before.before.before.before).requires.1 c.in-0.is) refl (λ fs rs h. refl) (λ fs rs. c.put_object.ensures (S c.before.before.before.before.before.before fs rs))

pub returns-in-1 : goal.returns-in-1
returns-in-1 c =
    let a = (start c.before.before.before.before.before.before.before.before.before.before).args in
    let q = is_delete a.x a.y a.z (start c.before.before.before.before.before.before.before.before.before.before).requires.1 c.in-1.is in
    (λ fs rs. as_applied q (c.take_out-after.ensures.0 (S c.before.before.before.before.before.before.before.before.before.before fs rs)), as_kept q c.take_out-after.ensures.1)

pub returns-in-2 : goal.returns-in-2
unfolding apply lost_at
returns-in-2 c =
    let a = (start c.before.before.before.before.before.before).args in
    on_objects c.before.before.before.before.before.before (kind_set a.x a.y a.z c.in-2.is) refl (λ fs rs h. refl) (λ fs rs. c.put_cell.ensures (S c.before.before.before.before.before.before fs rs))

pub returns-in-3 : goal.returns-in-3
unfolding apply lost_at
returns-in-3 c =
    let a = (start c.before.before.before.before.before.before).args in
    on_links c.before.before.before.before.before.before (kind_join a.x a.y a.z c.in-3.is) refl (λ fs rs h. refl) (λ fs rs. c.put_link.ensures (S c.before.before.before.before.before.before fs rs))
    (joined_few (c.put_link.ensures (S c.before.before.before.before.before.before [] [])))

pub returns-in-4 : goal.returns-in-4
unfolding apply lost_at
returns-in-4 c =
    let a = (start c.before.before.before.before.before.before).args in
    on_links c.before.before.before.before.before.before (kind_part a.x a.y a.z c.in-4.is) refl (λ fs rs h. refl) (λ fs rs. c.take_link.ensures (S c.before.before.before.before.before.before fs rs))
    (parted_few (c.take_link.ensures (S c.before.before.before.before.before.before [] [])))

pub returns-in-5 : goal.returns-in-5
unfolding apply lost_at
returns-in-5 c =
    let a = (start c.before.before.before.before.before.before).args in
    on_objects c.before.before.before.before.before.before (is_special a.x a.y a.z (start c.before.before.before.before.before.before).requires.1 c.in-5.is) refl (λ fs rs h. refl) (λ fs rs. c.put_type.ensures (S c.before.before.before.before.before.before fs rs))

pub returns-in-6 : goal.returns-in-6
unfolding apply lost_at
returns-in-6 c =
    let a = (start c.before.before.before.before.before.before).args in
    on_objects c.before.before.before.before.before.before (is_general a.x a.y a.z (start c.before.before.before.before.before.before).requires.1 c.in-6.is) refl (λ fs rs h. refl) (λ fs rs. c.put_higher_type.ensures fs rs)

pub returns-in_default : goal.returns-in_default
returns-in_default c =
    let a = (start c.before.before).args in
    absurd
    ((start c.before.before).requires.1
    (kind_unknown a.x a.y a.z a.kind (λ e. omega arith) (λ e. omega arith) (λ e. omega arith) (λ e. omega arith) (λ e. omega arith) (λ e. omega arith) (λ e. omega arith)))
