-- The far ends of a role from an object, by the rows of the links: the first of them that is not below a number.
use Prim.Native.Nat.{ℕ, ◌/◌, ◌≤◌}
use mathlib.Core.Path.{◌≡◌, ap, ◌∙◌}
use mathlib.Core.Bool.{Bool, ◌&&◌, not}
use mathlib.Core.List.{List}
use mathlib.Core.Option.{Option, none, some, map}
use lib.Dec.{T, leb, eqb}
use mir.Facts.{not_T, and_yes, yes_and, leb_yes, yes_leb, eqb_yes, yes_eqb}
use Rattle.meaning.specs.Lists.{first}
use Rattle.meaning.specs.Register.{Link, near_end, far_end, starts_at, far_ends}
use Rattle.rows.specs.Rows.{read_rows}
use Rattle.tables.specs.Columns.{link_row, register_of}
use Rattle.register.proofs.Hits.{first_hit, first_row, first_kept}

module _ (role u least : ℕ) where
  -- the link is one of the role from u, and its far end is not below `least`
  abbrev pub reaches : Link → Bool
  reaches l = starts_at role u l && leb least (far_end role l)

  pub record Reached (l : Link) : Type 0 where
    pub relationship_is : l.relationship ≡ role / 2
    pub near_is : near_end role l ≡ u
    pub far_from : least ≤ far_end role l

  reached : (l : Link) → T (reaches l) → Reached l
  reached l t =
      let r = and_yes (starts_at role u l) (leb least (far_end role l)) t in
      let s = and_yes (eqb l.relationship (role / 2)) (eqb (near_end role l) u) r.0 in
      record { relationship_is = eqb_yes s.0; near_is = eqb_yes s.1; far_from = leb_yes r.1 }

  pub reach : (l : Link) → Reached l → T (reaches l)
  reach l r =
      yes_and (starts_at role u l) (leb least (far_end role l))
      (yes_and (eqb l.relationship (role / 2)) (eqb (near_end role l) u) (yes_eqb r.relationship_is) (yes_eqb r.near_is)) (yes_leb r.far_from)

  pub missed : (l : Link) → (Reached l → ⊥) → T (not (reaches l))
  missed l f = not_T (reaches l) (λ t. f (reached l t))

  module _ (m : ℕ) (objects : List ℕ) (n : ℕ) (links : List ℕ) where
    abbrev first_far : Option ℕ
    first_far = first (leb least) (far_ends (register_of m objects n links) role u)

    far_row : first_far ≡ map (far_end role) (map (link_row links) (first_hit reaches (link_row links) n))
    unfolding far_ends
    far_row = first_kept (starts_at role u) (far_end role) (leb least) (read_rows (link_row links) n) ∙ ap (map (far_end role)) (first_row reaches (link_row links) n)

    pub far_found : {i : ℕ} → first_hit reaches (link_row links) n ≡ some i → first_far ≡ some (far_end role (link_row links i))
    far_found e = far_row ∙ ap (λ o. map (far_end role) (map (link_row links) o)) e

    pub far_none : first_hit reaches (link_row links) n ≡ none → first_far ≡ none
    far_none e = far_row ∙ ap (λ o. map (far_end role) (map (link_row links) o)) e
