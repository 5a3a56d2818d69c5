-- Req 01, links that deletes take along: "each counts as parted for the object at the other end". The losses of a batch are a table of rows of two
-- words: a role, and the id of the object from which the role lost a link.
use Rattle.std.specs.Prelude.{ℕ, zero, suc, ◌<◌, Bool, false, ◌&&◌, ◌||◌, List, eqb}
use Rattle.rows.specs.Rows.{word_at}

-- row j is a loss of the role from object u
abbrev pub loss_is : List ℕ → ℕ → ℕ → ℕ → Bool
loss_is losses r u j = eqb (word_at losses 2 j 0) r && eqb (word_at losses 2 j 1) u

-- one of the first n rows is
abbrev pub lost_in : List ℕ → ℕ → ℕ → ℕ → Bool
lost_in losses zero r u = false
lost_in losses (suc n) r u = lost_in losses n r u || loss_is losses r u n

-- the first n rows name roles of at most 32 relationships
abbrev pub LossesLow : List ℕ → ℕ → Type 0
LossesLow losses n = (j : ℕ) → j < n → word_at losses 2 j 0 < 64
