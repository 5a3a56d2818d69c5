-- Theorem 3: the selected pairs ascend by rule and then id, without repeat; they are the pairs of a rule and an object under its
-- context type that are selected.
use Prim.Native.Nat.{ℕ, zero, suc, ◌+◌, ◌≤◌, ◌<◌}
use mathlib.Core.Path.{◌≡◌, refl, sym, ap, subst, ◌∙◌}
use mathlib.Core.Logic.{⊎_elim}
use mathlib.Core.List.Memᴰ
use mathlib.Core.List.{List, [], ◌∷◌, map}
use mathlib.Core.Option.{some, none-ne-some, some-injective}
use native.Mathlib.Nat.{add-zero, zero-add}
use native.Mathlib.Omega.{arith}
use lib.Dec.{T}
use lib.ListN.{get_elem?}
use Rattle.meaning.specs.Schema.{ObjectType}
use Rattle.meaning.specs.Register.{Register, object_key, is_under, instances}
use Rattle.meaning.specs.Forms.{Rule, Book}
use Rattle.meaning.specs.Reach.{Change, inspection, selected, Pair, pair_of, pair_key, pairs_from, context_pairs, of_rule, pair_selected, selected_pairs}
use Rattle.meaning.specs.Lists.{◌∈◌, Ascending, Before}
use Rattle.meaning.proofs.Lists.{decide, some_holds, keep_in, keep_all, ascending_keep, ascending_map, ascending_append}
use Rattle.meaning.proofs.Order.{before_head, before_tail}
use Rattle.meaning.proofs.Touched.{inspection_selects, others_select, selecting_cases}
use Rattle.meaning.proofs.Registers.{RegisterFits, instance_in, instance_from, instances_ascend}

module _ (types : List ObjectType) (g : Register) where
  -- n is the first rule's number
  rules_from : (n : ℕ) (rs : List Rule) {p : Pair} → p ∈ pairs_from types g n rs → n ≤ p.rule
  unfolding pairs_from
  rules_from n [] m = absurd (Memᴰ.not-nil m)
  rules_from n (r ∷ rs) m =
      ⊎_elim (λ k. omega (arith, ap (λ (q : Pair). q.rule) (Memᴰ.of_map (pair_of n) (instances types g r.context) k).2))
      (λ k. omega (arith, rules_from (suc n) rs k))
      (Memᴰ.append_cases (map (pair_of n) (instances types g r.context)) m)

  pairs_in_lem : (n : ℕ) (rs : List Rule) (i : ℕ) {r : Rule} → get_elem? rs i ≡ some r → {x : ℕ} → x ∈ instances types g r.context → pair_of (n + i) x ∈ pairs_from types g n rs
  unfolding pairs_from
  pairs_in_lem n [] i {r} e m = absurd (none-ne-some r e)
  pairs_in_lem n (q ∷ rs) zero {r} e {x} m =
      let n_first = Memᴰ.map (pair_of n) (subst (λ a. x ∈ instances types g a.context) (sym (some-injective q r e)) m) in
      Memᴰ.append_left (pairs_from types g (suc n) rs) (Memᴰ.cast (ap (λ a. pair_of a x) (add-zero n)) n_first)
  pairs_in_lem n (q ∷ rs) (suc i) e {x} m =
      Memᴰ.append_right (map (pair_of n) (instances types g q.context))
      (Memᴰ.cast (ap (λ a. pair_of a x) (omega arith)) (pairs_in_lem (suc n) rs i e m))

  pairs_from_lem : (n : ℕ) (rs : List Rule) {p : Pair} → p ∈ pairs_from types g n rs → (i : ℕ) × (r : Rule) × (get_elem? rs i ≡ some r) × (p.rule ≡ n + i) × (p.id ∈ instances types g r.context)
  unfolding pairs_from
  pairs_from_lem n [] m = absurd (Memᴰ.not-nil m)
  pairs_from_lem n (r ∷ rs) {p} m =
      ⊎_elim
      (λ k.
      let (x, y, e) = Memᴰ.of_map (pair_of n) {b = p} (instances types g r.context) k in
      (0, r, refl, omega (arith, ap (λ (q : Pair). q.rule) e), Memᴰ.cast (ap (λ (q : Pair). q.id) (sym e)) y))
      (λ k. let (i, q, there, at, x) = pairs_from_lem (suc n) rs k in (suc i, q, there, at ∙ omega arith, x))
      (Memᴰ.append_cases (map (pair_of n) (instances types g r.context)) m)

  pairs_from_ascend : Ascending (Before object_key) g.objects → (n : ℕ) (rs : List Rule) → Ascending (Before pair_key) (pairs_from types g n rs)
  unfolding pairs_from
  pairs_from_ascend a n [] = tt
  pairs_from_ascend a n (r ∷ rs) =
      ascending_append (Before pair_key) (map (pair_of n) (instances types g r.context)) (pairs_from types g (suc n) rs)
      (ascending_map (pair_of n) ◌<◌ (Before pair_key) (instances types g r.context) (λ x y m k h. before_tail n n (x ∷ []) (y ∷ []) refl (before_head x y [] [] h)) (instances_ascend types g a r.context))
      (pairs_from_ascend a (suc n) rs)
      (λ x y m k.
      let first = Memᴰ.of_map (pair_of n) (instances types g r.context) m in
      before_head x.rule y.rule (x.id ∷ []) (y.id ∷ [])
      (omega (arith, ap (λ (p : Pair). p.rule) first.2, rules_from (suc n) rs k)))

module _ (k : Book) (g : Register) where
  pub context_pair_in : (n : ℕ) (r : Rule) → get_elem? k.rules n ≡ some r → (s : ℕ) → T (is_under k.schema.types g s r.context) → pair_of n s ∈ context_pairs k g
  unfolding context_pairs
  context_pair_in n r e s u = rw zero-add at (pairs_in_lem k.schema.types g 0 k.rules n e (instance_in k.schema.types g s r.context u))

  pub context_pair_from : RegisterFits k.schema g → {p : Pair} → p ∈ context_pairs k g → (r : Rule) × (get_elem? k.rules p.rule ≡ some r) × T (is_under k.schema.types g p.id r.context)
  unfolding context_pairs
  context_pair_from f m =
      let (i, r, there, at, x) = pairs_from_lem k.schema.types g 0 k.rules m in
      let here = at ∙ zero-add i in
      (r, ap (get_elem? k.rules) here ∙ there, instance_from k.schema.types g f.objects_ascend _ r.context x)

  pub context_pairs_ascend : RegisterFits k.schema g → Ascending (Before pair_key) (context_pairs k g)
  unfolding context_pairs
  context_pairs_ascend f = pairs_from_ascend k.schema.types g f.objects_ascend 0 k.rules

-- what is selected is under the context type, in an inspection too
pub selected_under : (c : Change) (r : Rule) (s : ℕ) → T (selected c r s) → T (is_under c.schema.types c.end s r.context)
selected_under c r s t =
    ⊎_elim (λ empty. subst T (inspection_selects c empty r s) t) (λ events. (selecting_cases c r s (subst T (others_select c events r s) t)).0)
    (decide (inspection c))

module _ (k : Book) (c : Change) (fits : RegisterFits k.schema c.end) where
  pub pairs_ascend : Ascending (Before pair_key) (selected_pairs k c)
  unfolding selected_pairs
  pairs_ascend = ascending_keep (Before pair_key) (pair_selected k c) (context_pairs k c.end) (context_pairs_ascend k c.end fits)

  pub selected_listed : c.schema ≡ k.schema → (n : ℕ) (r : Rule) → get_elem? k.rules n ≡ some r → (s : ℕ) → T (selected c r s) → pair_of n s ∈ selected_pairs k c
  unfolding selected_pairs of_rule
  selected_listed same n r e s t =
      let u = subst (λ S. T (is_under S.types c.end s r.context)) same (selected_under c r s t) in
      keep_in (pair_selected k c) (context_pair_in k c.end n r e s u) (some_holds (λ r. selected c r s) e t)

  -- an inspection selects every pair of a rule and an object under its context type
  pub inspection_lists : c.schema ≡ k.schema → T (inspection c) → selected_pairs k c ≡ context_pairs k c.end
  unfolding selected_pairs of_rule
  inspection_lists same empty =
      keep_all (pair_selected k c) (context_pairs k c.end)
      (λ p m.
      let (r, there, u) = context_pair_from k c.end fits m in
      let under = subst (λ S. T (is_under S.types c.end p.id r.context)) (sym same) u in
      some_holds (λ r. selected c r p.id) there (subst T (sym (inspection_selects c empty r p.id)) under))
