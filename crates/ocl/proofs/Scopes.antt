-- A well-typed form is in scope: it names the variables that have types, and roles of known relationships.
use Prim.Native.Nat.{ℕ, suc, ◌*◌, ◌≤◌, ◌<◌}
use mathlib.Core.Path.{◌≡◌, subst, ◌∙◌}
use mathlib.Core.Bool.{◌&&◌}
use mathlib.Core.List.{List, [], ◌∷◌}
use native.Mathlib.Omega.{arith}
use lib.Dec.{T, ltb}
use lib.ListN.{length, length-append}
use mir.Facts.{and_yes, yes_and, ltb_yes, yes_ltb}
use Rattle.meaning.specs.Limits.{max_relationships}
use Rattle.meaning.specs.Schema.{Schema, known_type, known_relationship, known_role, relationship_of, cells_of, under, near_type}
use Rattle.meaning.specs.Forms.{Sort, Form, compare, negate, connect, quantify, kind, num, cell, size, sum, combine, role, all, select, bind, variable, member_type, well_typed}
use Rattle.ocl.specs.Ready.{scoped}

module _ (S : Schema) (few : length S.relationships ≤ max_relationships) where
  one_more : (types : List ℕ) (t : ℕ) → length (bind types t) ≡ suc (length types)
  one_more types t = length-append types (t ∷ []) ∙ omega arith

  both : {s u : Sort} (types : List ℕ) (a : Form s) (b : Form u) → (T (well_typed S types a) → T (scoped (length types) a)) → (T (well_typed S types b) → T (scoped (length types) b)) → T (well_typed S types a && well_typed S types b) → T (scoped (length types) a && scoped (length types) b)
  both types a b f g t =
      let r = and_yes (well_typed S types a) (well_typed S types b) t in
      yes_and (scoped (length types) a) (scoped (length types) b) (f r.0) (g r.1)

  -- a collection, and a truth under one more variable
  under_one_lem : {s u : Sort} (types : List ℕ) (member : ℕ) (c : Form s) (b : Form u) → (T (well_typed S types c) → T (scoped (length types) c)) → (T (well_typed S (bind types member) b) → T (scoped (length (bind types member)) b)) → T (well_typed S types c && well_typed S (bind types member) b) → T (scoped (length types) c && scoped (suc (length types)) b)
  under_one_lem types member c b f g t =
      let r = and_yes (well_typed S types c) (well_typed S (bind types member) b) t in
      yes_and (scoped (length types) c) (scoped (suc (length types)) b) (f r.0) (subst (λ k. T (scoped k b)) (one_more types member) (g r.1))

  pub in_scope : {s : Sort} (types : List ℕ) (f : Form s) → T (well_typed S types f) → T (scoped (length types) f)
  unfolding well_typed scoped known_role known_relationship
  in_scope types (compare o a b) t = both types a b (in_scope types a) (in_scope types b) t
  in_scope types (negate a) t = in_scope types a t
  in_scope types (connect o a b) t = both types a b (in_scope types a) (in_scope types b) t
  in_scope types (quantify q c b) t = let m = member_type S.relationships c in under_one_lem types m c b (in_scope types c) (in_scope (bind types m) b) t
  in_scope types (kind v t) h = (and_yes (ltb v (length types)) (known_type S.types t) h).0
  in_scope types (num n) t = t
  in_scope types (cell v k) t = (and_yes (ltb v (length types)) (ltb k (cells_of S.types (variable types v))) t).0
  in_scope types (size c) t = in_scope types c t
  in_scope types (sum c k) t = in_scope types c (and_yes (well_typed S types c) (ltb k (cells_of S.types (member_type S.relationships c))) t).0
  in_scope types (combine o a b) t = both types a b (in_scope types a) (in_scope types b) t
  in_scope types (role v r) t =
      let p = and_yes (ltb v (length types) && ltb (relationship_of r) (length S.relationships)) (under S.types (variable types v) (near_type S.relationships r)) t in
      let q = and_yes (ltb v (length types)) (ltb (relationship_of r) (length S.relationships)) p.0 in
      let known : relationship_of r < length S.relationships = ltb_yes q.1 in
      let h : r < 2 * max_relationships = omega arith in
      yes_and (ltb v (length types)) (ltb r (2 * max_relationships)) q.0 (yes_ltb h)
  in_scope types (all t) h = tt
  in_scope types (select c b) t = let m = member_type S.relationships c in under_one_lem types m c b (in_scope types c) (in_scope (bind types m) b) t
