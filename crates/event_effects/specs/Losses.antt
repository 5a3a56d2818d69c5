-- Req 01, links that deletes take along: the losses of a batch, one after the other as its deletes took them.
use Rattle.std.specs.Prelude.{ℕ, ◌+◌, ◌*◌, cond, eqb}
use mathlib.Core.List.{List, [], ◌∷◌, flat_map}
use Rattle.meaning.specs.Lists.{keep}
use Rattle.meaning.specs.Register.{Link, Register}
use Rattle.meaning.specs.Events.{Event, insert, delete, set, join, part, special, general, ends_at}
use Rattle.meaning.specs.Reach.{Step}

-- a role, and the object from which it lost a link
pub record Loss : Type 0 where
  pub role : ℕ
  pub from : ℕ

-- its row in the table of losses
abbrev pub loss_words : Loss → List ℕ
loss_words x = x.role ∷ x.from ∷ []

abbrev pub loss : ℕ → ℕ → List Loss
loss role from = record { role = role; from = from } ∷ []

-- The loss of a link that goes with object id: "each counts as parted for the object at the other end, not for the deleted id". A link of the object to
-- itself is nobody's loss.
unfoldable pub loss_of : ℕ → Link → List Loss
loss_of id l =
    cond (eqb l.source l.target) []
    (cond (eqb l.source id) (loss (2 * l.relationship + 1) l.target) (loss (2 * l.relationship) l.source))

-- "delete removes the object's links itself": those of them that go, in the order of their rows
unfoldable pub losses_of : ℕ → List Link → List Loss
losses_of id ls = flat_map (loss_of id) (keep (ends_at id) ls)

-- what an event loses by the links that it takes along
unfoldable pub lost_at : Register → Event → List Loss
lost_at g (insert id t) = []
lost_at g (delete id) = losses_of id g.links
lost_at g (set id k v) = []
lost_at g (join r a b) = []
lost_at g (part r a b) = []
lost_at g (special id t) = []
lost_at g (general id t) = []

-- the losses of a batch, by its steps
unfoldable pub losses_by : List Step → List Loss
losses_by steps = flat_map (λ (s : Step). lost_at s.met s.event) steps
