-- Walks over the three collections: how each begins, and its steps.
use Prim.Native.Nat.{ℕ, zero, suc, ◌+◌, ◌*◌, ◌≤◌, ◌<◌, zero-le}
use mathlib.Core.Path.{◌≡◌, refl, sym, ap, ◌∙◌}
use mathlib.Core.Bool.{Bool, true, false, cond}
use mathlib.Core.List.{List, ◌∷◌}
use mathlib.Core.Option.{none}
use native.Mathlib.Nat.{lt_trans}
use lib.Dec.{leb, ltb}
use lib.ListN.{get_or}
use mir.Facts.{yes_leb, ltb_yes, yes_ltb}
use Rattle.meaning.specs.Lists.{keep, Ascending}
use Rattle.meaning.specs.Register.{far_ends}
use Rattle.meaning.specs.Forms.{truth, collection, Form, role, all, select, bind, variable}
use Rattle.meaning.specs.Meaning.{meaning}
use Rattle.link_index.specs.Slots.{far_id, Place, Indexed}
use Rattle.link_index.proofs.Walk.{first_placed, first_far_lem, place_slot, far_there, far_member, next_placed, next_far}
use Rattle.walks.specs.Site.{Site, types_at, register_at, id_in, ids_of}
use Rattle.walks.specs.Walks.{id_from, is_from, left_in, instances_from, StandsIn, Anywhere, BegunIn, Went, Stepped, WalkedIn, far_step}
use Rattle.std.specs.Prelude as Std
use Rattle.walks.specs.declared.Member.{Member}
use Rattle.walks.proofs.Members.{keep_all, keep_none, keep_swap, from_first, from_member}
use Rattle.walks.proofs.Objects.{left_from, from_start}
use Rattle.walks.proofs.Steps.{stepped_done, stepped_at}

-- ---- along a role from the object of a variable

module _ (w : Site) (x : Indexed w.counts.objects w.objects w.counts.links w.links w.index) (v r : ℕ) (vars : List ℕ) (depth : ℕ) (h : get_or vars v 0 < w.counts.objects) (is : variable (ids_of w depth vars) v ≡ id_in w.objects (get_or vars v 0)) (up : Ascending ◌<◌ (far_ends (register_at w) r (id_in w.objects (get_or vars v 0)))) where
  abbrev near : ℕ
  near = get_or vars v 0

  abbrev members : List ℕ
  members = far_ends (register_at w) r (id_in w.objects near)

  members_are : meaning (types_at w) (register_at w) (role v r) (ids_of w depth vars) ≡ members
  unfolding meaning
  members_are = ap (far_ends (register_at w) r) is

  left_is : (word : ℕ) → left_in w (role v r) (ids_of w depth vars) word ≡ keep (is_from (far_id w.objects w.index word)) members
  unfolding left_in id_from
  left_is word = ap (keep (is_from (far_id w.objects w.index word))) members_are

  pub role_begun : {word : ℕ} → word ≡ get_or w.index (16384 + (r * 1024 + near)) 0 → BegunIn w (role v r) vars depth word
  unfolding StandsIn
  role_begun {word} q =
      record {
        all_left = left_is word
            ∙ ap (λ k. keep (is_from (far_id w.objects w.index k)) members) q
            ∙ ap (λ o. keep (is_from o) members) (first_far_lem x r near h)
            ∙ from_first (leb 0) (λ a b l t. yes_leb {b = b} zero-le) members up
            ∙ keep_all (leb 0) members (λ y m. yes_leb {b = y} zero-le)
            ∙ sym members_are;
        stands = λ s e. first_placed x r near h s (sym q ∙ e);
      }

  -- the step at a slot
  slot_went : (s : ℕ) → Place w.counts.objects w.objects w.counts.links w.links r near s → Went w.objects w.counts.objects (left_in w (role v r) (ids_of w depth vars)) (StandsIn w (role v r) vars) (suc s) (get_or w.index s 0) (get_or w.index (8192 + s) 0)
  unfolding StandsIn
  slot_went s p =
      let far = id_in w.objects (get_or w.index s 0) in
      let on = get_or w.index (8192 + s) 0 in
      record {
        member = left_is (suc s)
            ∙ from_member members up far (far_member x r near h s p)
            ∙ ap {B = List ℕ} (λ l. far ∷ l)
            (sym (left_is on ∙ ap (λ o. keep (is_from o) members) (next_far x r near h s p) ∙ from_first (ltb far) (λ a b l t. yes_ltb (lt_trans (ltb_yes t) l)) members up));
        there = far_there x r near h s p;
        stands = next_placed x r near h s p;
      }

  pub role_walked : (word : ℕ) → StandsIn w (role v r) vars word → WalkedIn w (role v r) vars depth word (far_step w.index word)
  unfolding StandsIn
  role_walked zero p = stepped_done (left_is 0 ∙ keep_none (is_from none) members (λ y m. tt))
  role_walked (suc s) p = stepped_at (slot_went s (p s refl))

  pub word_low : (word : ℕ) → StandsIn w (role v r) vars word → word ≤ 8192
  unfolding StandsIn
  word_low zero p = zero-le
  word_low (suc s) p = place_slot x r near h s (p s refl)

-- ---- over all objects of a type

module _ (w : Site) (x : Indexed w.counts.objects w.objects w.counts.links w.links w.index) (t : ℕ) (vars : List ℕ) (depth : ℕ) where
  abbrev from : ℕ → List ℕ
  from = instances_from (types_at w) w.objects w.counts.objects t

  all_left_is : (word : ℕ) → left_in w (all t) (ids_of w depth vars) word ≡ from word
  unfolding left_in id_from meaning
  all_left_is word = left_from (types_at w) w.objects w.counts.objects t x.objects_ascend w.counts.links w.links word

  pub all_begun : BegunIn w (all t) vars depth 0
  unfolding StandsIn meaning
  all_begun = record { all_left = all_left_is 0 ∙ from_start (types_at w) w.objects w.counts.objects t w.counts.links w.links; stands = tt }

  pub all_walked : {word : ℕ} {s : Std.Option Member} → Stepped w.objects w.counts.objects from Anywhere word s → WalkedIn w (all t) vars depth word s
  unfolding StandsIn
  all_walked {word} stepped =
      record {
        done = λ e. all_left_is word ∙ stepped.done e;
        went = λ m e.
            let g = stepped.went m e in
            record { member = all_left_is word ∙ g.member ∙ ap {B = List ℕ} (λ l. id_in w.objects m.row ∷ l) (sym (all_left_is m.next)); there = g.there; stands = tt };
      }

-- ---- over a select

module _ (w : Site) (c : Form collection) (b : Form truth) (vars : List ℕ) (depth : ℕ) where
  abbrev chosen : ℕ → Bool
  chosen y = meaning (types_at w) (register_at w) b (bind (ids_of w depth vars) y)

  -- what is left of a select: what is left of its collection, where the condition holds
  pub select_left : (word : ℕ) → left_in w (select c b) (ids_of w depth vars) word ≡ keep chosen (left_in w c (ids_of w depth vars) word)
  unfolding left_in id_from meaning
  select_left word = keep_swap (is_from (id_from w c word)) chosen (meaning (types_at w) (register_at w) c (ids_of w depth vars))

  pub select_begun : {word : ℕ} → BegunIn w c vars depth word → BegunIn w (select c b) vars depth word
  unfolding StandsIn meaning
  select_begun {word} begun = record { all_left = select_left word ∙ ap (keep chosen) begun.all_left; stands = begun.stands }

  module _ (word : ℕ) {last row on : ℕ} (inv : left_in w (select c b) (ids_of w depth vars) word ≡ keep chosen (left_in w c (ids_of w depth vars) last)) (went : Went w.objects w.counts.objects (left_in w c (ids_of w depth vars)) (StandsIn w c vars) last row on) where
    one_kept : keep chosen (left_in w c (ids_of w depth vars) last) ≡ cond (chosen (id_in w.objects row)) (id_in w.objects row ∷ keep chosen (left_in w c (ids_of w depth vars) on)) (keep chosen (left_in w c (ids_of w depth vars) on))
    one_kept = ap (keep chosen) went.member

    pub select_went : chosen (id_in w.objects row) ≡ true → Went w.objects w.counts.objects (left_in w (select c b) (ids_of w depth vars)) (StandsIn w (select c b) vars) word row on
    unfolding StandsIn
    select_went e =
        record {
          member = inv ∙ one_kept
              ∙ ap (λ d. cond d (id_in w.objects row ∷ keep chosen (left_in w c (ids_of w depth vars) on)) (keep chosen (left_in w c (ids_of w depth vars) on))) e
              ∙ ap {B = List ℕ} (λ l. id_in w.objects row ∷ l) (sym (select_left on));
          there = went.there;
          stands = went.stands;
        }

    pub select_passed : chosen (id_in w.objects row) ≡ false → left_in w (select c b) (ids_of w depth vars) word ≡ keep chosen (left_in w c (ids_of w depth vars) on)
    select_passed e = inv ∙ one_kept ∙ ap (λ d. cond d (id_in w.objects row ∷ keep chosen (left_in w c (ids_of w depth vars) on)) (keep chosen (left_in w c (ids_of w depth vars) on))) e
