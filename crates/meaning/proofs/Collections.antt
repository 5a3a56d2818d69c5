-- The collections of a register whose objects ascend and whose links end at objects: their members ascend, are there, and are no more than
-- its objects.
use Prim.Native.Nat.{ℕ, ◌≤◌, ◌<◌}
use mathlib.Core.Path.{sym, subst}
use mathlib.Core.Bool.{true}
use mathlib.Core.List.Memᴰ
use mathlib.Core.List.{List, map}
use native.Mathlib.Nat.{lt_irrefl, lt_trans}
use lib.Dec.{T}
use lib.ListN.{length, length-map}
use Rattle.meaning.specs.Schema.{ObjectType, Schema, far_type}
use Rattle.meaning.specs.Register.{Object, Register, object_key, object_at, present, is_under, far_end, far_ends}
use Rattle.meaning.specs.Forms.{collection, Form, role, all, select, bind, variable, member_type}
use Rattle.meaning.specs.Meaning.{meaning}
use Rattle.meaning.specs.Lists.{◌∈◌, Ascending, Before}
use Rattle.meaning.proofs.Lists.{holds_some, keep_from, ascending_keep, ascending_shorter, ascending_map}
use Rattle.meaning.proofs.Order.{before_one}
use Rattle.meaning.proofs.Registers.{RegisterFits, object_at_lem, under_present, instance_from, instances_ascend, far_from, far_ends_ascend, far_under}

abbrev id_of : Object → ℕ
id_of o = o.id

id_in_lem : (g : Register) (x : ℕ) → T (present g x) → x ∈ map id_of g.objects
unfolding present
id_in_lem g x t =
    let r = object_at_lem g x (holds_some (λ o. true) (object_at g x) t).1 in
    subst (λ y. y ∈ map id_of g.objects) r.1 (Memᴰ.map id_of r.0)

-- what the collections of a register rest on: objects ascend, and the ends of its links ascend and are there
pub record Gathered (g : Register) : Type 0 where
  pub objects_ascend : Ascending (Before object_key) g.objects
  pub far_ascend : (r u : ℕ) → Ascending ◌<◌ (far_ends g r u)
  pub ends : (r u x : ℕ) → x ∈ far_ends g r u → T (present g x)

pub gathered : (S : Schema) (g : Register) → RegisterFits S g → Gathered g
gathered S g fits = record { objects_ascend = fits.objects_ascend; far_ascend = far_ends_ascend S g fits; ends = ends }
  where
    ends : (r u x : ℕ) → x ∈ far_ends g r u → T (present g x)
    ends r u x m =
        let (l, h, s, e) = far_from g r u x m in
        subst (λ y. T (present g y)) (sym e) (under_present S.types g (far_end r l) (far_type S.relationships r) (far_under S g fits r u l h s))

-- a member is there, and under the members' type
pub member_under : (S : Schema) (g : Register) → RegisterFits S g → (c : Form collection) (vs : List ℕ) (x : ℕ) → x ∈ meaning S.types g c vs → T (is_under S.types g x (member_type S.relationships c))
unfolding meaning member_type
member_under S g fits (role v r) vs x m =
    let (l, h, s, e) = far_from g r (variable vs v) x m in
    subst (λ y. T (is_under S.types g y (far_type S.relationships r))) (sym e) (far_under S g fits r (variable vs v) l h s)
member_under S g fits (all t) vs x m = instance_from S.types g fits.objects_ascend x t m
member_under S g fits (select c b) vs x m =
    member_under S g fits c vs x (keep_from (λ y. meaning S.types g b (bind vs y)) (meaning S.types g c vs) m).0

module _ (types : List ObjectType) (g : Register) (h : Gathered g) where
  pub members_ascend : (c : Form collection) (vs : List ℕ) → Ascending ◌<◌ (meaning types g c vs)
  unfolding meaning
  members_ascend (role v r) vs = h.far_ascend r (variable vs v)
  members_ascend (all t) vs = instances_ascend types g h.objects_ascend t
  members_ascend (select c b) vs = ascending_keep ◌<◌ (λ x. meaning types g b (bind vs x)) (meaning types g c vs) (members_ascend c vs)

  pub member_present : (c : Form collection) (vs : List ℕ) (x : ℕ) → x ∈ meaning types g c vs → T (present g x)
  unfolding meaning
  member_present (role v r) vs x m = h.ends r (variable vs v) x m
  member_present (all t) vs x m = under_present types g x t (instance_from types g h.objects_ascend x t m)
  member_present (select c b) vs x m = member_present c vs x (keep_from (λ y. meaning types g b (bind vs y)) (meaning types g c vs) m).0

  pub members_count : (c : Form collection) (vs : List ℕ) → length (meaning types g c vs) ≤ length g.objects
  members_count c vs =
      rw (← length-map g.objects id_of)
      (ascending_shorter ◌<◌ lt_irrefl (λ x y z. lt_trans) (meaning types g c vs) (map id_of g.objects)
      (members_ascend c vs)
      (ascending_map id_of (Before object_key) ◌<◌ g.objects (λ o p m n. before_one o.id p.id) h.objects_ascend)
      (λ x m. id_in_lem g x (member_present c vs x m)))
