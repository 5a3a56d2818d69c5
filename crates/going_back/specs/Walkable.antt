-- What going back is given of a rule's body. Where the variables stand does not matter: some rows of objects at which the reach rules can be asked are enough.
use Rattle.std.specs.Prelude.{ℕ, ◌<◌, ◌≡◌, List, length, get_or}
use Rattle.meaning.specs.Schema.{Schema}
use Rattle.walks.specs.Site.{Site}
use Rattle.reach.specs.Able.{Able, OverAble}

-- the form that ends before row e, in which self is bound
pub record Walkable (w : Site) (starts : List ℕ) (e depth : ℕ) : Type 0 where
  pub schema : Schema
  pub vars : List ℕ
  pub able : Able schema w starts e vars depth
  pub self : 0 < depth

-- such a form over a collection
pub record OverWalkable (w : Site) (starts : List ℕ) (e depth : ℕ) : Type 0 where
  pub schema : Schema
  pub vars : List ℕ
  pub able : OverAble schema w starts e vars depth
  pub self : 0 < depth

-- a whole body, self being the object of any row
abbrev pub BodyAble : Schema → Site → List ℕ → ℕ → Type 0
BodyAble S w starts e = (row : ℕ) → row < w.counts.objects → (vars : List ℕ) → length vars ≡ 64 → get_or vars 0 0 ≡ row → Able S w starts e vars 1
