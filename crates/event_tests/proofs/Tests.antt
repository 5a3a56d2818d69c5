-- What a test of the row that a search finds says of the register.
use Prim.Native.Nat.{ℕ, ◌≤◌, ◌<◌, min}
use mathlib.Core.Path.{◌≡◌, sym, ap, ◌∙◌}
use mathlib.Core.Logic.{⊎_elim}
use mathlib.Core.Bool.{Bool, true, false, not}
use mathlib.Core.List.{List}
use mathlib.Core.Option.{none, some, map}
use native.Mathlib.Omega.{arith}
use lib.Dec.{T, leb}
use mir.Facts.{leb_yes, leb_no}
use borrow.Author.Tests.{le-leb, lt-leb}
use Rattle.meaning.specs.Lists.{holds}
use Rattle.meaning.specs.Register.{Object, Link, object_at, has_link}
use Rattle.meaning.proofs.Lists.{decide}
use Rattle.std.specs.Prelude as Std
use Rattle.std.specs.Prelude.{Some, None}
use Rattle.tables.specs.Columns.{object_row}
use Rattle.tables.specs.Refusals.{found_of}
use Rattle.schema.proofs.Founds.{found_none, found_some}
use Rattle.register.specs.Tables.{objects_with, links_with, object_place, link_place}
use Rattle.register.proofs.Searches.{object_row_lem, link_there}

module _ (n : ℕ) (objects : List ℕ) (ls : List Link) (id : ℕ) (test : Object → Bool) where
  pub test_found : {i : ℕ} → object_place n objects id ≡ some i → holds test (object_at (objects_with n objects ls) id) ≡ test (object_row objects i)
  test_found e = ap (holds test) (object_row_lem n objects ls id) ∙ ap (λ o. holds test (map (object_row objects) o)) e

  pub test_missing : object_place n objects id ≡ none → holds test (object_at (objects_with n objects ls) id) ≡ false
  test_missing e = ap (holds test) (object_row_lem n objects ls id) ∙ ap (λ o. holds test (map (object_row objects) o)) e

  -- the same, of what the search answers
  pub found_answer : {r : Std.Option ℕ} {i : ℕ} → r ≡ Some i → r ≡ found_of (object_place n objects id) → test (object_row objects i) ≡ holds test (object_at (objects_with n objects ls) id)
  found_answer e f = sym (test_found (found_some _ (sym e ∙ f)))

  pub missing_answer : {r : Std.Option ℕ} → r ≡ None → r ≡ found_of (object_place n objects id) → false ≡ holds test (object_at (objects_with n objects ls) id)
  missing_answer e f = sym (test_missing (found_none _ (sym e ∙ f)))

module _ (os : List Object) (n : ℕ) (links : List ℕ) (l : Link) where
  pub link_present : {i : ℕ} → link_place n links l ≡ some i → has_link (links_with os n links) l ≡ true
  link_present e = link_there os n links l ∙ ap (holds (λ i. true)) e

  pub link_absent : link_place n links l ≡ none → has_link (links_with os n links) l ≡ false
  link_absent e = link_there os n links l ∙ ap (holds (λ i. true)) e

-- above the limit, what is lent decides
pub least_reached : (limit lent used : ℕ) → used < limit → leb lent used ≡ leb (min limit lent) used
least_reached limit lent used h =
    ⊎_elim
    (λ (t : T (leb lent used)). let l : lent ≤ used = leb_yes t in le-leb lent used l ∙ sym (le-leb (min limit lent) used (omega arith)))
    (λ (t : T (not (leb lent used))). let l : used < lent = leb_no t in lt-leb lent used l ∙ sym (lt-leb (min limit lent) used (omega arith)))
    (decide (leb lent used))
