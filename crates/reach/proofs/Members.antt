-- A walk over the members of a collection that stops at the first that passes a test.
use Prim.Native.Nat.{ℕ}
use mathlib.Core.Path.{◌≡◌, sym, ap, ◌∙◌}
use mathlib.Core.Bool.{Bool, true, false, ◌||◌}
use mathlib.Core.List.{List, []}
use Rattle.meaning.specs.Lists.{any}
use Rattle.walks.specs.Site.{Site, id_in}
use Rattle.walks.specs.Values.{members_of}
use Rattle.walks.specs.Walks.{left_at, Stands, Begun, Went}

module _ (w : Site) (e : ℕ) (vars : List ℕ) (depth : ℕ) (test : ℕ → Bool) where
  -- no member that the walk has passed does
  abbrev pub Left : ℕ → Type 0
  Left word = any test (members_of w e vars depth) ≡ any test (left_at w e vars depth word)

  pub any_starts : {word : ℕ} → Begun w e vars depth word → Left word
  unfolding members_of
  any_starts begun = ap (any test) (sym begun.all_left)

  module _ (word : ℕ) (left : Left word) where
    pub any_ends : left_at w e vars depth word ≡ [] → false ≡ any test (members_of w e vars depth)
    any_ends none_left = sym (left ∙ ap (any test) none_left)

    module _ {object on : ℕ} {b : Bool} (went : Went w.objects w.counts.objects (left_at w e vars depth) (Stands w e vars) word object on) (is : b ≡ test (id_in w.objects object)) where
      one_more : any test (members_of w e vars depth) ≡ (b || any test (left_at w e vars depth on))
      one_more = left ∙ ap (any test) went.member ∙ ap (λ x. x || any test (left_at w e vars depth on)) (sym is)

      pub any_stops : b ≡ true → true ≡ any test (members_of w e vars depth)
      any_stops q = sym (one_more ∙ ap (λ x. x || any test (left_at w e vars depth on)) q)

      pub any_goes_on : b ≡ false → Left on
      any_goes_on q = one_more ∙ ap (λ x. x || any test (left_at w e vars depth on)) q
