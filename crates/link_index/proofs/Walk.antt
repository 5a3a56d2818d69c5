-- The walk along a role's chain from an object's row: what stands at its words is the next far end.
use Prim.Native.Nat.{ℕ, zero, suc, ◌+◌, ◌*◌, ◌/◌, ◌%◌, ◌≤◌, ◌<◌}
use mathlib.Core.Path.{◌≡◌, refl, sym, ap, subst, ◌∙◌}
use mathlib.Core.Logic.{⊎_elim}
use mathlib.Core.Bool.{Bool, true, false, not, cond}
use mathlib.Core.List.Memᴰ
use mathlib.Core.List.{List, [], ◌∷◌}
use mathlib.Core.Option.{some}
use native.Mathlib.Nat.{eq-or-lt_of_le}
use native.Mathlib.Omega.{arith}
use lib.Dec.{T, ltb, leb, eqb}
use lib.ListN.{get_or}
use mir.Facts.{ltb_yes, ltb_no, yes_and, yes_eqb}
use Rattle.meaning.specs.Lists.{before, first, ◌∈◌, Before}
use Rattle.meaning.specs.Schema.{forward}
use Rattle.meaning.specs.Register.{Link, Register, link_key, near_end, far_end, starts_at, far_ends}
use Rattle.meaning.proofs.Lists.{decide, keep_in}
use Rattle.meaning.proofs.Order.{before_one, before_last, before_first}
use Rattle.tables.specs.Columns.{object_row, link_row, register_of}
use Rattle.schema.proofs.Scan.{passed_none}
use Rattle.chains.specs.Chains.{lead, slot_word}
use Rattle.register.specs.Tables.{row_at}
use Rattle.link_index.specs.Slots.{place_key, slot_at, Place, next_word, head_word, Indexed, far_id}
use Rattle.register.proofs.Hits.{missed_to, hit_at, hit_none}
use Rattle.register.proofs.Places.{ordered, row_there}
use Rattle.link_index.proofs.Far.{reaches, reach, missed, far_found, far_none}
use Rattle.chains.proofs.Chains.{lead_some, lead_none}
use Rattle.register.proofs.Rows.{row_is}
use Rattle.link_index.proofs.Ends.{near_same, far_same, near_present, far_present}
pub use Rattle.register.proofs.Rows.{own_place, own_row}

-- links of one relationship and near end stand by their far ends
by_far : (role : ℕ) (k l : Link) → Before link_key k l → k.relationship ≡ l.relationship → near_end role k ≡ near_end role l → far_end role k < far_end role l
by_far role k l t e = step (forward role)
  where
    rest : T (before (k.source ∷ k.target ∷ []) (l.source ∷ l.target ∷ []))
    rest = before_last k.relationship l.relationship (k.source ∷ k.target ∷ []) (l.source ∷ l.target ∷ []) e t

    step : (v : Bool) → cond v k.source k.target ≡ cond v l.source l.target → cond v k.target k.source < cond v l.target l.source
    step true q = before_one k.target l.target (before_last k.source l.source (k.target ∷ []) (l.target ∷ []) q rest)
    step false q = before_first k.source l.source k.target l.target q rest

module _ {m : ℕ} {objects : List ℕ} {n : ℕ} {links index : List ℕ} (x : Indexed m objects n links index) (role row : ℕ) (h : row < m) where
  abbrev L : ℕ → Link
  L = link_row links

  abbrev key : ℕ → ℕ
  key = place_key m objects links

  abbrev own : ℕ
  own = role * 1024 + row

  abbrev u : ℕ
  u = (object_row objects row).id

  abbrev g : Register
  g = register_of m objects n links

  abbrev At : ℕ → Type 0
  At = Place m objects n links role row

  -- ---- what a key says

  -- link i is one of the role from the row
  record Of (i : ℕ) : Type 0 where
    link : i < n
    relationship_is : (L i).relationship ≡ role / 2
    near_is : near_end role (L i) ≡ u

  -- the place of link i in the role's direction
  abbrev place_of : ℕ → ℕ
  place_of i = 2 * i + role % 2

  -- a place of the role from the row is that of such a link
  record Turn (p : ℕ) : Type 0 where
    parity : p % 2 ≡ role % 2
    of : Of (p / 2)
    place_is : place_of (p / 2) ≡ p

  key_of : (p : ℕ) → p < 2 * n → key p ≡ own → Turn p
  key_of p l e =
      let i : p / 2 < n = omega arith in
      let r = row_is m objects (near_end p (L (p / 2))) (near_present x.indexable p (p / 2) i) in
      let few : m ≤ 1024 = x.indexable.few in
      let parity : p % 2 ≡ role % 2 = omega (arith, e, r.0) in
      let same : row_at m objects (near_end p (L (p / 2))) ≡ row = omega (arith, e, r.0) in
      let near : near_end role (L (p / 2)) ≡ u = sym (near_same p role parity (L (p / 2))) ∙ sym r.1 ∙ ap (λ y. (object_row objects y).id) same in
      record { parity = parity; of = record { link = i; relationship_is = omega (arith, e, r.0); near_is = near }; place_is = omega (arith, parity) }

  -- and the place of such a link has the key
  of_key : (i : ℕ) → (L i).relationship ≡ role / 2 → near_end role (L i) ≡ u → key (place_of i) ≡ own
  of_key i e f =
      let s : place_of i / 2 ≡ i = omega arith in
      let p : place_of i % 2 ≡ role % 2 = omega arith in
      let near : near_end (place_of i) (L (place_of i / 2)) ≡ u = near_same (place_of i) role p (L (place_of i / 2)) ∙ ap (λ y. near_end role (L y)) s ∙ f in
      let at : row_at m objects (near_end (place_of i) (L (place_of i / 2))) ≡ row = ap (row_at m objects) near ∙ own_row m objects x.objects_ascend row h in
      let related : (L (place_of i / 2)).relationship ≡ role / 2 = ap (λ y. (L y).relationship) s ∙ e in
      omega arith

  -- the row at a place's slot, and its id
  far_row : (p : ℕ) → p < 2 * n → (get_or index (slot_at p) 0 < m) × ((object_row objects (get_or index (slot_at p) 0)).id ≡ far_end p (L (p / 2)))
  far_row p l =
      subst (λ y. (y < m) × ((object_row objects y).id ≡ far_end p (L (p / 2)))) (sym (x.slotted.far_is p (omega arith) l))
      (row_is m objects (far_end p (L (p / 2))) (far_present x.indexable p (p / 2) (omega arith)))

  -- ---- where a word leads

  word_placed : (from : ℕ) {w : ℕ} → w ≡ slot_word slot_at (lead key (2 * n) own from) → (s : ℕ) → w ≡ suc s → At s
  word_placed from e s q = step (lead key (2 * n) own from) refl (sym q ∙ e)
    where
      step : (y : ℕ) → y ≡ lead key (2 * n) own from → suc s ≡ slot_word slot_at y → At s
      step zero f g = absurd (omega arith)
      step (suc p) f g = let l = lead_some key own (2 * n) from f in record { place = p; slot_is = omega arith; within = l.within; key_is = l.leads }

  -- of the role's links from the row, those of places before `from` have far ends below `least`, and the others have not
  module _
      (from least : ℕ)
      (passed : (i : ℕ) → Of i → place_of i < from → far_end role (L i) < least)
      (ahead : (i : ℕ) → Of i → from ≤ place_of i → least ≤ far_end role (L i))
    where
      abbrev hit : Link → Bool
      hit = reaches role u least

      unreached : (i : ℕ) → i < n → (from ≤ place_of i → key (place_of i) ≡ own → ⊥) → T (not (hit (L i)))
      unreached i l d =
          missed role u least (L i)
          (λ q.
          let o : Of i = record { link = l; relationship_is = q.relationship_is; near_is = q.near_is } in
          ⊎_elim
          (λ (b : T (ltb (place_of i) from)). absurd (omega (arith, q.far_from, passed i o (ltb_yes b))))
          (λ b. d (ltb_no b) (of_key i q.relationship_is q.near_is))
          (decide (ltb (place_of i) from)))

      word_far : (w : ℕ) → w ≡ lead key (2 * n) own from → far_id objects index (slot_word slot_at w) ≡ first (leb least) (far_ends g role u)
      word_far zero e =
          sym
          (far_none role u least m objects n links
          (hit_none hit L n (passed_none _ _ n) (λ i k l. unreached i l (λ b q. lead_none key own (2 * n) from e (place_of i) b (omega arith) q))))
      word_far (suc p) e =
          let l = lead_some key own (2 * n) from e in
          let t = key_of p l.within l.leads in
          let o = t.of in
          let first_one = missed_to hit L n (p / 2) (omega (arith, o.link))
          (λ i under. unreached i (omega (arith, o.link)) (λ b q. l.others (place_of i) b (omega (arith, t.place_is)) q)) in
          let reached = reach role u least (L (p / 2))
          (record { relationship_is = o.relationship_is; near_is = o.near_is; far_from = ahead (p / 2) o (omega (arith, t.place_is, l.from)) }) in
          ap some ((far_row p l.within).1 ∙ far_same p role t.parity (L (p / 2)))
          ∙ sym (far_found role u least m objects n links (hit_at hit L n first_one o.link reached))

  -- ---- the first slot

  head : head_word index own ≡ slot_word slot_at (lead key (2 * n) own 0)
  head = x.slotted.chained.head_is own

  pub first_placed : (s : ℕ) → get_or index (16384 + (role * 1024 + row)) 0 ≡ suc s → At s
  first_placed = word_placed 0 head

  pub first_far_lem : far_id objects index (get_or index (16384 + (role * 1024 + row)) 0) ≡ first (λ y. leb 0 y) (far_ends g role u)
  first_far_lem = ap (far_id objects index) head ∙ word_far 0 0 (λ i o b. absurd (omega arith)) (λ i o b. omega arith) _ refl

  -- ---- a slot, and the next one

  module _ (s : ℕ) (p : At s) where
    turn : Turn p.place
    turn = key_of p.place p.within p.key_is

    of : Of (p.place / 2)
    of = turn.of

    next : next_word index s ≡ slot_word slot_at (lead key (2 * n) own (suc p.place))
    next =
        ap (next_word index) (sym p.slot_is) ∙ x.slotted.chained.next_is p.place (omega arith) p.within
        ∙ ap (λ k. slot_word slot_at (lead key (2 * n) k (suc p.place))) p.key_is

    far_end_lem : (object_row objects (get_or index s 0)).id ≡ far_end role (L (p.place / 2))
    far_end_lem =
        ap (λ t. (object_row objects (get_or index t 0)).id) (sym p.slot_is)
        ∙ (far_row p.place p.within).1 ∙ far_same p.place role turn.parity (L (p.place / 2))

    pub place_slot : s < 8192
    place_slot = omega (arith, p.slot_is, p.within, x.indexable.links_few)

    pub far_there : get_or index s 0 < m
    far_there = subst (λ t. get_or index t 0 < m) p.slot_is (far_row p.place p.within).0

    pub far_member : (object_row objects (get_or index s 0)).id ∈ far_ends g role u
    unfolding far_ends
    far_member =
        subst (λ y. y ∈ far_ends g role u) (sym far_end_lem)
        (Memᴰ.map (far_end role)
        (keep_in (starts_at role u) (row_there L n (p.place / 2) of.link)
        (yes_and (eqb (L (p.place / 2)).relationship (role / 2)) (eqb (near_end role (L (p.place / 2))) u) (yes_eqb of.relationship_is) (yes_eqb of.near_is))))

    pub next_placed : (t : ℕ) → get_or index (8192 + s) 0 ≡ suc t → At t
    next_placed = word_placed (suc p.place) next

    pub next_far : far_id objects index (get_or index (8192 + s) 0) ≡ first (λ y. ltb (object_row objects (get_or index s 0)).id y) (far_ends g role u)
    next_far =
        subst (λ y. far_id objects index (next_word index s) ≡ first (leb (suc y)) (far_ends g role u)) (sym far_end_lem)
        (ap (far_id objects index) next ∙ word_far (suc p.place) (suc (far_end role (L (p.place / 2)))) lower upper _ refl)
      where
        lower : (i : ℕ) → Of i → place_of i < suc p.place → far_end role (L i) < suc (far_end role (L (p.place / 2)))
        lower i o c =
            let below : i ≤ p.place / 2 = omega (arith, turn.place_is) in
            ⊎_elim
            (λ (z : i ≡ p.place / 2). let same : far_end role (L i) ≡ far_end role (L (p.place / 2)) = ap (λ y. far_end role (L y)) z in omega arith)
            (λ (z : i < p.place / 2).
            let under = by_far role (L i) (L (p.place / 2)) (ordered link_key L n x.links_ascend z of.link) (o.relationship_is ∙ sym of.relationship_is) (o.near_is ∙ sym of.near_is) in
            omega arith)
            (eq-or-lt_of_le below)

        upper : (i : ℕ) → Of i → suc p.place ≤ place_of i → suc (far_end role (L (p.place / 2))) ≤ far_end role (L i)
        upper i o c =
            let above : p.place / 2 < i = omega (arith, turn.place_is) in
            by_far role (L (p.place / 2)) (L i) (ordered link_key L n x.links_ascend above o.link) (of.relationship_is ∙ sym o.relationship_is) (of.near_is ∙ sym o.near_is)
