-- What brings an object into a rule's context type, by what is still of the rule.
use Prim.Native.Nat.{ℕ}
use mathlib.Core.Path.{◌≡◌, ap₂}
use Rattle.meaning.specs.Forms.{Rule}
use Rattle.meaning.specs.Reach.{Change, quiet_insert, quiet_special, brought_in}
use Rattle.quietness.specs.declared.quiet.Still.{Still}
use Rattle.quietness.specs.Quiet.{StillBy, came_into}

pub came_in : (c : Change) (r : Rule) (u : ℕ) {still : Still} {t : ℕ} → StillBy c.schema r still → t ≡ r.context → came_into c still t u ≡ brought_in c r u
unfolding brought_in quiet_insert quiet_special
came_in c r u stills context = ap₂ (λ still t. came_into c still t u) stills context
