-- Losses of the links that go with an object: whose loss a link is, what a batch's losses say of what it took along, and their table.
use Prim.Native.Nat.{ℕ, zero, suc, ◌+◌, ◌*◌, ◌%◌, ◌≤◌, ◌<◌}
use mathlib.Core.Path.{◌≡◌, refl, sym, ap, ap₂, subst, ◌∙◌}
use mathlib.Core.Logic.{⊎_elim}
use mathlib.Core.Bool.{Bool, true, false, ◌&&◌, ◌||◌, not, cond, or-false, or_assoc}
use mathlib.Core.List.Memᴰ
use mathlib.Core.List.{List, [], ◌∷◌, ◌++◌, flat_map, append_assoc}
use native.Mathlib.Nat.{add-zero, le_refl}
use native.Mathlib.Numerals.{add-one}
use native.Mathlib.Omega.{arith}
use lib.Ieee.Bits.{is_true, is_false}
use lib.Dec.{T, ltb, eqb}
use lib.ListN.{length, get_or, set as replace_at, length-set, length-append}
use lib.Seq.{get_or-set_same, get_or-set_other, sets, length-sets}
use mir.Facts.{not_T, and_yes, yes_and, or_yes, eqb_yes, yes_eqb, eqb_no, no_eqb, ltb_yes, yes_ltb, ltb_no}
use Rattle.meaning.specs.Lists.{any, every, keep, ◌∈◌}
use Rattle.meaning.specs.Schema.{relationship_of, forward}
use Rattle.meaning.specs.Register.{Link, Register, near_end, far_end, starts_at}
use Rattle.meaning.specs.Events.{Event, insert, delete, set, join, part, special, general, ends_at}
use Rattle.meaning.specs.Reach.{step_at, leads_to, taken}
use Rattle.meaning.proofs.Lists.{or_left, or_right, decide, cond_yes, cond_no, every_append}
use Rattle.rows.specs.Rows.{word_at}
use Rattle.tables.specs.Losses.{lost_in, LossesLow}
use Rattle.event_effects.specs.Losses.{Loss, loss_words, loss, loss_of, losses_of, lost_at}
use Rattle.event_effects.specs.Effects.{LossesAdded}

-- ---- whose loss a link is

same_truth : (a b : Bool) → (T a → T b) → (T b → T a) → a ≡ b
same_truth true b to from = sym (is_true b (to tt))
same_truth false true to from = absurd (from tt)
same_truth false false to from = refl

module _ (id : ℕ) (l : Link) (r u : ℕ) where
  -- by the way that the role goes
  record Leads : Type 0 where
    apart : u ≡ id → ⊥
    of_role : l.relationship ≡ relationship_of r
    near : near_end r l ≡ u
    far : far_end r l ≡ id

  leads : T (leads_to r u id l) → Leads
  leads t =
      let (differs, link) = and_yes (not (eqb u id)) (starts_at r u l && eqb (far_end r l) id) t in
      let (starts, ends) = and_yes (starts_at r u l) (eqb (far_end r l) id) link in
      let (kind, end) = and_yes (eqb l.relationship (relationship_of r)) (eqb (near_end r l) u) starts in
      record { apart = eqb_no differs; of_role = eqb_yes kind; near = eqb_yes end; far = eqb_yes ends }

  leads_back : Leads → T (leads_to r u id l)
  leads_back w =
      yes_and (not (eqb u id)) (starts_at r u l && eqb (far_end r l) id) (no_eqb w.apart)
      (yes_and (starts_at r u l) (eqb (far_end r l) id)
      (yes_and (eqb l.relationship (relationship_of r)) (eqb (near_end r l) u) (yes_eqb w.of_role) (yes_eqb w.near)) (yes_eqb w.far))

  there : T (forward r) → (near_end r l ≡ l.source) × (far_end r l ≡ l.target)
  there f = (cond_yes (forward r) l.source l.target f, cond_yes (forward r) l.target l.source f)

  back : T (not (forward r)) → (near_end r l ≡ l.target) × (far_end r l ≡ l.source)
  back f = (cond_no (forward r) l.source l.target f, cond_no (forward r) l.target l.source f)

  -- it is lost at an end of it
  leads_ends : T (leads_to r u id l) → T (ends_at id l)
  leads_ends t =
      let w = leads t in
      ⊎_elim
      (λ (f : T (forward r)). or_right (eqb l.source id) (eqb l.target id) (yes_eqb (sym (there f).1 ∙ w.far)))
      (λ (f : T (not (forward r))). or_left (eqb l.source id) (eqb l.target id) (yes_eqb (sym (back f).1 ∙ w.far)))
      (decide (forward r))

  pub stays_unlost : ends_at id l ≡ false → leads_to r u id l ≡ false
  stays_unlost e = is_false (leads_to r u id l) (not_T (leads_to r u id l) (λ t. subst T e (leads_ends t)))

  -- a link of the object to itself is nobody's loss
  pub self_unlost : l.source ≡ l.target → leads_to r u id l ≡ false
  self_unlost q =
      is_false (leads_to r u id l)
      (not_T (leads_to r u id l)
      (λ t.
      let w = leads t in
      ⊎_elim
      (λ (f : T (forward r)). w.apart (sym w.near ∙ (there f).0 ∙ q ∙ sym (there f).1 ∙ w.far))
      (λ (f : T (not (forward r))). w.apart (sym w.near ∙ (back f).0 ∙ sym q ∙ sym (back f).1 ∙ w.far))
      (decide (forward r))))

  -- one that led to the object is its source's, one that came from it its target's
  pub source_loses : l.target ≡ id → (l.source ≡ id → ⊥) → leads_to r u id l ≡ (eqb (2 * l.relationship) r && eqb l.source u)
  source_loses e d =
      same_truth (leads_to r u id l) (eqb (2 * l.relationship) r && eqb l.source u)
      (λ t.
      let w = leads t in
      ⊎_elim
      (λ (f : T (forward r)).
      let even : r % 2 ≡ 0 = eqb_yes f in
      let role : 2 * l.relationship ≡ r = omega (arith, w.of_role) in
      yes_and (eqb (2 * l.relationship) r) (eqb l.source u) (yes_eqb role) (yes_eqb (sym (there f).0 ∙ w.near)))
      (λ (f : T (not (forward r))). absurd (w.apart (sym w.near ∙ (back f).0 ∙ e)))
      (decide (forward r)))
      (λ t.
      let (p, q) = and_yes (eqb (2 * l.relationship) r) (eqb l.source u) t in
      let role : 2 * l.relationship ≡ r = eqb_yes p in
      let end : l.source ≡ u = eqb_yes q in
      let even : r % 2 ≡ 0 = omega arith in
      let f : T (forward r) = yes_eqb even in
      leads_back (record { apart = λ x. d (end ∙ x); of_role = omega arith; near = (there f).0 ∙ end; far = (there f).1 ∙ e }))

  pub target_loses : l.source ≡ id → (l.target ≡ id → ⊥) → leads_to r u id l ≡ (eqb (2 * l.relationship + 1) r && eqb l.target u)
  target_loses e d =
      same_truth (leads_to r u id l) (eqb (2 * l.relationship + 1) r && eqb l.target u)
      (λ t.
      let w = leads t in
      ⊎_elim
      (λ (f : T (forward r)). absurd (w.apart (sym w.near ∙ (there f).0 ∙ e)))
      (λ (f : T (not (forward r))).
      let odd : r % 2 ≡ 0 → ⊥ = eqb_no f in
      let role : 2 * l.relationship + 1 ≡ r = omega (arith, w.of_role) in
      yes_and (eqb (2 * l.relationship + 1) r) (eqb l.target u) (yes_eqb role) (yes_eqb (sym (back f).0 ∙ w.near)))
      (decide (forward r)))
      (λ t.
      let (p, q) = and_yes (eqb (2 * l.relationship + 1) r) (eqb l.target u) t in
      let role : 2 * l.relationship + 1 ≡ r = eqb_yes p in
      let end : l.target ≡ u = eqb_yes q in
      let f : T (not (forward r)) = no_eqb (λ (x : r % 2 ≡ 0). omega arith) in
      leads_back (record { apart = λ x. d (end ∙ x); of_role = omega arith; near = (back f).0 ∙ end; far = (back f).1 ∙ e }))

-- ---- the losses of a link, of an event, of a table

-- the loss is one of the role from object u
abbrev pub is_loss : ℕ → ℕ → Loss → Bool
is_loss r u x = eqb x.role r && eqb x.from u

-- its role is one of at most 32 relationships
abbrev pub low_loss : Loss → Bool
low_loss x = ltb x.role 64

pub any_append : {A : Type 0} (p : A → Bool) (a b : List A) → any p (a ++ b) ≡ (any p a || any p b)
any_append p [] b = refl
any_append p (x ∷ a) b = ap (λ c. p x || c) (any_append p a b) ∙ sym (or_assoc (p x) (any p a) (any p b))

-- at most one of a link
pub loss_few : (id : ℕ) (l : Link) → length (loss_of id l) ≤ 1
unfolding loss_of
loss_few id l = step (eqb l.source l.target) (eqb l.source id) _ _
  where
    step : (a b : Bool) (x y : Loss) → length (cond a [] (cond b (x ∷ []) (y ∷ []))) ≤ 1
    step true b x y = omega arith
    step false true x y = le_refl 1
    step false false x y = le_refl 1

module _ (id : ℕ) (l : Link) where
  -- what is written of a link, by its ends
  pub loss_self : l.source ≡ l.target → loss_of id l ≡ []
  unfolding loss_of
  loss_self e = cond_yes (eqb l.source l.target) _ _ (yes_eqb e)

  pub loss_target : (l.source ≡ l.target → ⊥) → l.source ≡ id → loss_of id l ≡ loss (2 * l.relationship + 1) l.target
  unfolding loss_of
  loss_target d e = cond_no (eqb l.source l.target) _ _ (no_eqb d) ∙ cond_yes (eqb l.source id) _ _ (yes_eqb e)

  pub loss_source : (l.source ≡ l.target → ⊥) → (l.source ≡ id → ⊥) → loss_of id l ≡ loss (2 * l.relationship) l.source
  unfolding loss_of
  loss_source d e = cond_no (eqb l.source l.target) _ _ (no_eqb d) ∙ cond_no (eqb l.source id) _ _ (no_eqb e)

  pub low_loss_lem : l.relationship < 32 → T (every low_loss (loss_of id l))
  low_loss_lem low =
      ⊎_elim (λ (s : T (eqb l.source l.target)). rw (loss_self (eqb_yes s)) tt)
      (λ (s : T (not (eqb l.source l.target))).
      ⊎_elim
      (λ (t : T (eqb l.source id)).
      rw (loss_target (eqb_no s) (eqb_yes t)) (yes_and (ltb (2 * l.relationship + 1) 64) true (yes_ltb {a = 2 * l.relationship + 1} {b = 64} (omega arith)) tt))
      (λ (t : T (not (eqb l.source id))).
      rw (loss_source (eqb_no s) (eqb_no t)) (yes_and (ltb (2 * l.relationship) 64) true (yes_ltb {a = 2 * l.relationship} {b = 64} (omega arith)) tt))
      (decide (eqb l.source id)))
      (decide (eqb l.source l.target))

  at_target : T (ends_at id l) → (l.source ≡ id → ⊥) → l.target ≡ id
  at_target ends d =
      ⊎_elim (λ (e : T (eqb l.source id)). absurd (d (eqb_yes e))) (λ (e : T (eqb l.target id)). eqb_yes e)
      (or_yes (eqb l.source id) (eqb l.target id) ends)

  -- it is the loss that counts as parted
  lost_link : T (ends_at id l) → (r u : ℕ) → any (is_loss r u) (loss_of id l) ≡ leads_to r u id l
  lost_link ends r u =
      ⊎_elim (λ (s : T (eqb l.source l.target)). ap (any (is_loss r u)) (loss_self (eqb_yes s)) ∙ sym (self_unlost id l r u (eqb_yes s)))
      (λ (s : T (not (eqb l.source l.target))).
      ⊎_elim
      (λ (t : T (eqb l.source id)).
      ap (any (is_loss r u)) (loss_target (eqb_no s) (eqb_yes t)) ∙ or-false _ ∙ sym (target_loses id l r u (eqb_yes t) (λ q. eqb_no s (eqb_yes t ∙ sym q))))
      (λ (t : T (not (eqb l.source id))).
      ap (any (is_loss r u)) (loss_source (eqb_no s) (eqb_no t)) ∙ or-false _ ∙ sym (source_loses id l r u (at_target ends (eqb_no t)) (eqb_no t)))
      (decide (eqb l.source id)))
      (decide (eqb l.source l.target))

-- those of a delete
module _ (id : ℕ) where
  lost_links : (ls : List Link) (r u : ℕ) → any (is_loss r u) (losses_of id ls) ≡ any (leads_to r u id) ls
  unfolding losses_of flat_map
  lost_links [] r u = refl
  lost_links (l ∷ ls) r u = step (ends_at id l) refl (lost_links ls r u)
    where
      step : (b : Bool) → ends_at id l ≡ b → any (is_loss r u) (losses_of id ls) ≡ any (leads_to r u id) ls → any (is_loss r u) (flat_map (loss_of id) (cond b (l ∷ keep (ends_at id) ls) (keep (ends_at id) ls))) ≡ (leads_to r u id l || any (leads_to r u id) ls)
      step true e below =
          any_append (is_loss r u) (loss_of id l) (losses_of id ls) ∙ ap₂ ◌||◌ (lost_link id l (subst T (sym e) tt) r u) below
      step false e below = below ∙ sym (ap (λ b. b || any (leads_to r u id) ls) (stays_unlost id l r u e))

  low_links : (ls : List Link) → ((l : Link) → l ∈ ls → l.relationship < 32) → T (every low_loss (losses_of id ls))
  unfolding losses_of flat_map
  low_links [] low = tt
  low_links (l ∷ ls) low = step (ends_at id l) (low_links ls (λ k m. low k (Memᴰ.tail m)))
    where
      step : (b : Bool) → T (every low_loss (losses_of id ls)) → T (every low_loss (flat_map (loss_of id) (cond b (l ∷ keep (ends_at id) ls) (keep (ends_at id) ls))))
      step true below = every_append low_loss (loss_of id l) (losses_of id ls) (low_loss_lem id l (low l (Memᴰ.head refl))) below
      step false below = below

-- an event's losses are what it took along, "each counts as parted"
pub lost_taken : (g : Register) (e : Event) (r u : ℕ) → any (is_loss r u) (lost_at g e) ≡ taken r u (step_at g e)
unfolding lost_at
lost_taken g (insert id t) r u = refl
lost_taken g (delete id) r u = lost_links id g.links r u
lost_taken g (set id k v) r u = refl
lost_taken g (join n a b) r u = refl
lost_taken g (part n a b) r u = refl
lost_taken g (special id t) r u = refl
lost_taken g (general id t) r u = refl

pub low_taken : (g : Register) (e : Event) → ((l : Link) → l ∈ g.links → l.relationship < 32) → T (every low_loss (lost_at g e))
unfolding lost_at
low_taken g (insert id t) low = tt
low_taken g (delete id) low = low_links id g.links low
low_taken g (set id k v) low = tt
low_taken g (join n a b) low = tt
low_taken g (part n a b) low = tt
low_taken g (special id t) low = tt
low_taken g (general id t) low = tt

-- ---- rows of losses

-- words of losses, put from row k on
abbrev pub with_losses : List ℕ → ℕ → List Loss → List ℕ
with_losses losses k more = sets losses (k * 2) (flat_map loss_words more)

pub words_long : (more : List Loss) → length (flat_map loss_words more) ≡ length more * 2
unfolding flat_map
words_long [] = refl
words_long (x ∷ more) = omega (arith, words_long more)

sets_append : (l : List ℕ) (i : ℕ) (a b : List ℕ) → sets l i (a ++ b) ≡ sets (sets l i a) (i + length a) b
sets_append l i [] b = ap (λ n. sets l n b) (sym (add-zero i))
sets_append l i (x ∷ a) b =
    sets_append (replace_at l i x) (suc i) a b ∙ ap (λ n. sets (sets (replace_at l i x) (suc i) a) n b) (let e : suc i + length a ≡ i + suc (length a) = omega arith in e)

pub flat_append : {A B : Type 0} (f : A → List B) (a b : List A) → flat_map f (a ++ b) ≡ flat_map f a ++ flat_map f b
unfolding flat_map
flat_append f [] b = refl
flat_append f (x ∷ a) b = ap (λ l. f x ++ l) (flat_append f a b) ∙ sym (append_assoc (f x) (flat_map f a) (flat_map f b))

table_append : (losses : List ℕ) (k : ℕ) (a b : List Loss) → with_losses losses k (a ++ b) ≡ with_losses (with_losses losses k a) (k + length a) b
table_append losses k a b =
    ap (sets losses (k * 2)) (flat_append loss_words a b) ∙ sets_append losses (k * 2) (flat_map loss_words a) (flat_map loss_words b)
    ∙ ap (λ n. sets (with_losses losses k a) n (flat_map loss_words b)) (let e : k * 2 + length (flat_map loss_words a) ≡ (k + length a) * 2 = omega (arith, words_long a) in e)

-- one row more
module _ (losses : List ℕ) (k role other : ℕ) (h : k * 2 + 2 ≤ length losses) where
  abbrev grown : List ℕ
  grown = replace_at (replace_at losses (k * 2) role) (suc (k * 2)) other

  own_role_lem : word_at grown 2 k 0 ≡ role
  own_role_lem =
      ap (λ i. get_or grown i 0) (omega arith) ∙ get_or-set_other (replace_at losses (k * 2) role) (suc (k * 2)) (k * 2) other 0 (λ e. omega arith)
      ∙ get_or-set_same losses (k * 2) role 0 (omega arith)

  own_id : word_at grown 2 k 1 ≡ other
  own_id = ap (λ i. get_or grown i 0) (add-one (k * 2)) ∙ get_or-set_same (replace_at losses (k * 2) role) (suc (k * 2)) other 0 (omega (arith, length-set losses (k * 2) role))

  earlier : (j c : ℕ) → j < k → c < 2 → word_at grown 2 j c ≡ word_at losses 2 j c
  earlier j c l b =
      get_or-set_other (replace_at losses (k * 2) role) (suc (k * 2)) (j * 2 + c) other 0 (λ e. omega arith)
      ∙ get_or-set_other losses (k * 2) (j * 2 + c) role 0 (λ e. omega arith)

  same_below : (n : ℕ) → n ≤ k → (r u : ℕ) → lost_in grown n r u ≡ lost_in losses n r u
  same_below zero l r u = refl
  same_below (suc n) l r u =
      ap₂ ◌||◌ (same_below n (omega arith) r u) (ap₂ (λ a b. eqb a r && eqb b u) (earlier n 0 (omega arith) (omega arith)) (earlier n 1 (omega arith) (omega arith)))

  grown_lost : (r u : ℕ) → lost_in grown (k + 1) r u ≡ (lost_in losses k r u || (eqb role r && eqb other u))
  grown_lost r u =
      ap (λ n. lost_in grown n r u) (add-one k) ∙ ap₂ ◌||◌ (same_below k (le_refl k) r u) (ap₂ (λ a b. eqb a r && eqb b u) own_role_lem own_id)

  grown_low : role < 64 → LossesLow losses k → LossesLow grown (k + 1)
  grown_low low before j l =
      ⊎_elim
      (λ (q : T (ltb j k)). let b : j < k = ltb_yes q in subst (λ w. w < 64) (sym (earlier j 0 b (omega arith))) (before j b))
      (λ (q : T (not (ltb j k))).
      let n : k ≤ j = ltb_no q in
      let e : k ≡ j = omega arith in
      subst (λ i. word_at grown 2 i 0 < 64) e (subst (λ w. w < 64) (sym own_role_lem) low))
      (decide (ltb j k))

-- and more: what is lost is what was lost, and they
pub table_lost : (losses : List ℕ) (k : ℕ) (more : List Loss) → (k + length more) * 2 ≤ length losses → (r u : ℕ)
    → lost_in (with_losses losses k more) (k + length more) r u ≡ (lost_in losses k r u || any (is_loss r u) more)
unfolding flat_map
table_lost losses k [] room r u = ap (λ n. lost_in losses n r u) (add-zero k) ∙ sym (or-false (lost_in losses k r u))
table_lost losses k (x ∷ more) room r u =
    let one = x ∷ [] in
    let next = with_losses losses k one in
    ap₂ (λ t n. lost_in t n r u) (table_append losses k one more) (let e : k + suc (length more) ≡ k + 1 + length more = omega arith in e)
    ∙ table_lost next (k + 1) more (omega (arith, length-sets losses (k * 2) (loss_words x))) r u
    ∙ ap (λ b. b || any (is_loss r u) more) (grown_lost losses k x.role x.from (omega arith) r u)
    ∙ or_assoc (lost_in losses k r u) (is_loss r u x) (any (is_loss r u) more)

pub table_low : (losses : List ℕ) (k : ℕ) (more : List Loss) → (k + length more) * 2 ≤ length losses → T (every low_loss more) → LossesLow losses k
    → LossesLow (with_losses losses k more) (k + length more)
unfolding flat_map
table_low losses k [] room low before = subst (LossesLow losses) (sym (add-zero k)) before
table_low losses k (x ∷ more) room low before =
    let one = x ∷ [] in
    let next = with_losses losses k one in
    let (head, rest) = and_yes (low_loss x) (every low_loss more) low in
    subst (λ i. i) (ap₂ LossesLow (sym (table_append losses k one more)) (let e : k + 1 + length more ≡ k + suc (length more) = omega arith in e))
    (table_low next (k + 1) more (omega (arith, length-sets losses (k * 2) (loss_words x))) rest
    (grown_low losses k x.role x.from (omega arith) (ltb_yes head) before))

-- ---- losses that are added

pub none_added : {k : ℕ} {losses : List ℕ} → LossesAdded [] k losses k losses
unfolding flat_map
none_added {k} = record { count_is = sym (add-zero k); losses_are = refl }

-- one, by its two words
pub one_added : {role from k : ℕ} {losses : List ℕ} → LossesAdded (loss role from) k losses (k + 1) (replace_at (replace_at losses (k * 2) role) (k * 2 + 1) from)
unfolding flat_map
one_added {role} {from} {k} {losses} = record { count_is = refl; losses_are = ap (λ n. replace_at (replace_at losses (k * 2) role) n from) (add-one (k * 2)) }

-- what was added first, and then
pub both_added : {a b : List Loss} {k : ℕ} {losses : List ℕ} {k' : ℕ} {losses' : List ℕ} {k'' : ℕ} {losses'' : List ℕ} → LossesAdded a k losses k' losses' → LossesAdded b k' losses' k'' losses''
    → LossesAdded (a ++ b) k losses k'' losses''
both_added {a} {b} {k} {losses} p q =
    record {
      count_is = q.count_is ∙ ap (λ n. n + length b) p.count_is ∙ (let e : k + length a + length b ≡ k + length (a ++ b) = omega (arith, length-append a b) in e);
      losses_are = q.losses_are ∙ ap₂ (λ t n. with_losses t n b) p.losses_are p.count_is ∙ sym (table_append losses k a b);
    }

pub added_long : {more : List Loss} {k : ℕ} {losses : List ℕ} {k' : ℕ} {losses' : List ℕ} → LossesAdded more k losses k' losses' → length losses' ≡ length losses
added_long {more} {k} {losses} a = ap length a.losses_are ∙ length-sets losses (k * 2) (flat_map loss_words more)
