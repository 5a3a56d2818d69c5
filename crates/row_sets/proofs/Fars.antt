-- A walk along a role from an object's row that marks each far row.
use Prim.Native.Nat.{ℕ, suc, ◌+◌, ◌*◌, ◌≤◌, ◌<◌}
use mathlib.Core.Path.{◌≡◌, refl, sym, ap, subst, ◌∙◌}
use mathlib.Core.Logic.{◌⊎◌, inl, inr, ⊎_elim}
use mathlib.Core.Bool.{Bool, true}
use mathlib.Core.List.Memᴰ
use mathlib.Core.List.{List, [], ◌∷◌}
use mathlib.Core.Option.{some-injective}
use lib.ListN.{get_or}
use Rattle.meaning.specs.Lists.{◌∈◌, Ascending}
use Rattle.meaning.specs.Register.{far_ends}
use Rattle.meaning.specs.Forms.{role}
use Rattle.meaning.specs.Meaning.{meaning}
use Rattle.link_index.specs.Slots.{Indexed}
use Rattle.register.proofs.Rows.{own_place}
use Rattle.register.specs.Tables.{object_place}
use Rattle.walks.specs.Site.{Site, register_at, id_in, ids_of}
use Rattle.walks.specs.Walks.{left_in, StandsIn, Went}
use Rattle.walks.proofs.Walks.{role_begun, role_walked, word_low}

module _ (w : Site) (r row : ℕ) where
  abbrev vars : List ℕ
  vars = row ∷ []

  abbrev pub left : ℕ → List ℕ
  left word = left_in w (role 0 r) (ids_of w 1 vars) word

  -- The walk may hold the word, and each far row is marked or still to come.
  pub record FarWalk (marked : ℕ → Bool) (word : ℕ) : Type 0 where
    pub stands : StandsIn w (role 0 r) vars word
    pub rest : (y : ℕ) → y < w.counts.objects → id_in w.objects y ∈ far_ends (register_at w) r (id_in w.objects row) → (id_in w.objects y ∈ left word) ⊎ (marked y ≡ true)

module _ (w : Site) (x : Indexed w.counts.objects w.objects w.counts.links w.links w.index) (r row : ℕ) (h : row < w.counts.objects) (up : Ascending ◌<◌ (far_ends (register_at w) r (id_in w.objects row))) where
  abbrev from : List ℕ
  from = row ∷ []

  abbrev to_come : ℕ → List ℕ
  to_come = left w r row

  pub far_starts : (marked : ℕ → Bool) {word : ℕ} → word ≡ get_or w.index (16384 + (r * 1024 + row)) 0 → FarWalk w r row marked word
  unfolding meaning
  far_starts marked q =
      let begun = role_begun w x 0 r from 1 h refl up q in
      record { stands = begun.stands; rest = λ y l m. inl (subst (λ k. id_in w.objects y ∈ k) (sym begun.all_left) m) }

  -- two rows of one id are one
  same_row : (a b : ℕ) → a < w.counts.objects → b < w.counts.objects → id_in w.objects a ≡ id_in w.objects b → a ≡ b
  same_row a b l m e =
      some-injective a b (sym (own_place w.counts.objects w.objects x.objects_ascend a l) ∙ ap (object_place w.counts.objects w.objects) e ∙ own_place w.counts.objects w.objects x.objects_ascend b m)

  module _ {marked : ℕ → Bool} {word : ℕ} (walk : FarWalk w r row marked word) where
    pub far_low : word ≤ 8192
    far_low = word_low w x 0 r from 1 h refl up word walk.stands

    pub far_ends_lem : word ≡ 0 → (y : ℕ) → y < w.counts.objects → id_in w.objects y ∈ far_ends (register_at w) r (id_in w.objects row) → marked y ≡ true
    far_ends_lem e y l m =
        let done = (role_walked w x 0 r from 1 h refl up 0 (subst (StandsIn w (role 0 r) from) e walk.stands)).done refl in
        ⊎_elim (λ (k : id_in w.objects y ∈ to_come word). absurd (Memᴰ.not-nil (subst (λ z. id_in w.objects y ∈ z) (ap to_come e ∙ done) k))) (λ k. k) (walk.rest y l m)

    module _ (slot : ℕ) (e : suc slot ≡ word) where
      pub went : Went w.objects w.counts.objects to_come (StandsIn w (role 0 r) from) (suc slot) (get_or w.index slot 0) (get_or w.index (8192 + slot) 0)
      went = (role_walked w x 0 r from 1 h refl up (suc slot) (subst (StandsIn w (role 0 r) from) (sym e) walk.stands)).went (record { row = get_or w.index slot 0; next = get_or w.index (8192 + slot) 0 }) refl

      pub far_goes_on : (after : ℕ → Bool) {far next : ℕ} → far ≡ get_or w.index slot 0 → next ≡ get_or w.index (8192 + slot) 0 → ((y : ℕ) → marked y ≡ true → after y ≡ true) → after far ≡ true → FarWalk w r row after next
      far_goes_on after {far} {next} f q kept own =
          record {
            stands = subst (StandsIn w (role 0 r) from) (sym q) went.stands;
            rest = λ y l m.
                ⊎_elim
                (λ (k : id_in w.objects y ∈ to_come word).
                ⊎_elim
                (λ (z : id_in w.objects y ≡ id_in w.objects (get_or w.index slot 0)). inr (ap after (same_row y (get_or w.index slot 0) l went.there z ∙ sym f) ∙ own))
                (λ (z : id_in w.objects y ∈ to_come (get_or w.index (8192 + slot) 0)). inl (subst (λ n. id_in w.objects y ∈ to_come n) (sym q) z))
                (Memᴰ.cases_cons (subst (λ t. id_in w.objects y ∈ t) (ap to_come (sym e) ∙ went.member) k)))
                (λ k. inr (kept y k))
                (walk.rest y l m);
          }
