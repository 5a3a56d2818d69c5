-- What a collection leads back to, by the collection below its selects.
use Prim.Native.Nat.{ℕ, ◌*◌, ◌<◌}
use mathlib.Core.Path.{◌≡◌, sym, ap, subst, ◌∙◌}
use mathlib.Core.Bool.{Bool, true, false}
use mathlib.Core.List.{List}
use lib.Dec.{T, ltb, eqb}
use mir.Facts.{and_yes, ltb_yes}
use borrow.Author.Tests.{eqb-true}
use Rattle.meaning.specs.Limits.{max_relationships}
use Rattle.meaning.specs.Lists.{◌∈◌, any}
use Rattle.meaning.specs.Register.{Register, present, instances, far_ends}
use Rattle.meaning.specs.Forms.{collection, Form, role, all, select}
use Rattle.meaning.specs.Reach.{Change}
use Rattle.meaning.proofs.Lists.{any_cases}
use Rattle.meaning.proofs.Registers.{instance_from, under_present}
use Rattle.tables.specs.Columns.{register_of}
use Rattle.register.specs.Tables.{row_at}
use Rattle.register.proofs.Rows.{place_there, row_is}
use Rattle.walks.specs.Site.{id_in}
use Rattle.ocl.specs.Ready.{Steady, scoped}
use Rattle.going_back.specs.Back.{leads_into, base_of, turned, Covered}
use Rattle.row_sets.specs.Sets.{Sets, in_set}
use Rattle.row_sets.proofs.Tests.{so_true, true_so, both_true}
use Rattle.going_back.proofs.Turning.{leads_back}
use Rattle.going_back.proofs.Bases.{leads_base}

-- what is named below the selects is in scope
base_scoped : (depth : ℕ) (k : Form collection) → T (scoped depth k) → T (scoped depth (base_of k))
unfolding scoped base_of
base_scoped depth (role v q) t = t
base_scoped depth (all q) t = t
base_scoped depth (select j b) t = base_scoped depth j (and_yes (scoped depth j) _ t).0

pub role_bound : (depth : ℕ) (k : Form collection) {w r : ℕ} → T (scoped depth k) → base_of k ≡ role w r → (w < depth) × (r < 2 * max_relationships)
unfolding scoped
role_bound depth k {w} {r} t e =
    let h = and_yes (ltb w depth) (ltb r (2 * max_relationships)) (subst (λ b. T (scoped depth b)) e (base_scoped depth k t)) in
    (ltb_yes h.0, ltb_yes h.1)

module _ (m : ℕ) (objects : List ℕ) (l : ℕ) (links : List ℕ) (steady : Steady (register_of m objects l links)) (c : Change) (end : c.end ≡ register_of m objects l links) where
  abbrev g : Register
  g = register_of m objects l links

  -- a member is the object of a row, of which the test holds
  abbrev Rowed : (ℕ → Bool) → ℕ → Type 0
  Rowed set x = (row : ℕ) × (row < m) × (set (id_in objects row) ≡ true) × (id_in objects row ≡ x)

  rowed : (set : ℕ → Bool) (x : ℕ) → T (present g x) → T (set x) → Rowed set x
  rowed set x t h =
      let r = row_is m objects x (place_there m objects g.links x t) in
      (row_at m objects x, r.0, ap set r.1 ∙ so_true (set x) h, r.1)

  module _ (k : Form collection) (set : ℕ → Bool) (v u : ℕ) (leads : leads_into c k set v u ≡ true) where
    below : {b : Form collection} → base_of k ≡ b → leads_into c b set v u ≡ true
    below e = ap (λ b. leads_into c b set v u) (sym e) ∙ sym (leads_base c k set v u) ∙ leads

    over_all : {t : ℕ} → base_of k ≡ all t → (row : ℕ) × (row < m) × (set (id_in objects row) ≡ true)
    unfolding leads_into
    over_all {t} e =
        let found = any_cases set (instances c.schema.types c.end t) (true_so (below e)) in
        let x = found.0 in
        let under = instance_from c.schema.types g steady.objects_ascend x t (subst (λ h. x ∈ instances c.schema.types h t) end found.1) in
        let r = rowed set x (under_present c.schema.types g x t under) found.2 in
        (r.0, r.1, r.2)

    over_role : {w r : ℕ} → base_of k ≡ role w r → (v ≡ w) × ((row : ℕ) × (row < m) × (set (id_in objects row) ≡ true) × (u ∈ far_ends g (turned r) (id_in objects row)))
    unfolding leads_into
    over_role {w} {r} e =
        let parts = both_true (eqb v w) (any set (far_ends c.end r u)) (below e) in
        let found = any_cases set (far_ends c.end r u) (true_so parts.1) in
        let x = found.0 in
        let far = subst (λ h. x ∈ far_ends h r u) end found.1 in
        let s = rowed set x (steady.ends r u x far) found.2 in
        (eqb-true v w parts.0, (s.0, s.1, s.2, subst (λ y. u ∈ far_ends g (turned r) y) (sym s.3) (leads_back g r u x far)))

  module _ (k : Form collection) (set : ℕ → Bool) (depth : ℕ) (before : Sets) (inside : (row : ℕ) → row < m → set (id_in objects row) ≡ true → in_set before depth row ≡ true) where
    -- over all objects of a type, by whether the set has a row
    pub all_covered : {t : ℕ} → base_of k ≡ all t → {some : Bool} (after : Sets) → ((row : ℕ) → row < m → in_set before depth row ≡ true → some ≡ true) → Covered (leads_into c k set) objects m depth some after
    all_covered e after has =
        record {
          each = λ q v h row low t.
              let r = over_all k set v (id_in objects row) t e in
              absurd (subst T (sym (has r.0 r.1 (inside r.0 r.1 r.2)) ∙ q) tt);
        }

    -- along a role, by the rows that the role turned round leads to
    pub role_covered : {w r near back : ℕ} → base_of k ≡ role w r → near ≡ w → back ≡ turned r → (after : Sets)
        → ((x : ℕ) → x < m → in_set before depth x ≡ true → (y : ℕ) → y < m → id_in objects y ∈ far_ends g back (id_in objects x) → in_set after near y ≡ true)
        → Covered (leads_into c k set) objects m depth false after
    role_covered {w} {r} {near} {back} e p q after led =
        record {
          each = λ z v h row low t.
              let (same, s) = over_role k set v (id_in objects row) t e in
              ap (λ n. in_set after n row) (same ∙ sym p)
              ∙ led s.0 s.1 (inside s.0 s.1 s.2) row low (subst (λ b. id_in objects row ∈ far_ends g b (id_in objects s.0)) (sym q) s.3);
        }
