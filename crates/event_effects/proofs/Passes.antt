-- The pass that takes an object's links out: the rows that stay move to the front, and those that go leave their losses.
use Prim.Native.Nat.{ℕ, zero, suc, ◌+◌, ◌*◌, ◌-◌, ◌≤◌, ◌<◌}
use mathlib.Core.Path.{◌≡◌, refl, sym, ap, ap₂, subst, ◌∙◌}
use mathlib.Core.Logic.{⊎_elim}
use mathlib.Core.Bool.{Bool, true, false, not, cond}
use mathlib.Core.List.{List, [], ◌∷◌, ◌++◌, flat_map, append-nil}
use native.Mathlib.Nat.{add-zero, zero-add, add-suc, suc-add, sub-zero, le_refl}
use native.Mathlib.Numerals.{add-one}
use native.Mathlib.Omega.{arith}
use lib.Dec.{T, ltb}
use lib.ListN.{length, get_or, take, drop, replicate, length-replicate, get_or-replicate, take-append-drop}
use lib.Seq.{take-add}
use mir.Facts.{ltb_yes, ltb_no}
use Rattle.meaning.specs.Lists.{keep}
use Rattle.meaning.specs.Schema.{Schema}
use Rattle.meaning.specs.Register.{Link, link_key}
use Rattle.meaning.specs.Events.{delete, ends_at, apply}
use Rattle.meaning.proofs.Lists.{decide}
use Rattle.rows.specs.Rows.{rows_from, read_rows, with_row, zero_past, cleared_past}
use Rattle.rows.proofs.Fronts.{row_put_lem, words_from_lem}
use Rattle.rows.proofs.Listed.{rows_same}
use Rattle.rows.proofs.Moves.{framed, framed_length, framed_front, framed_first, framed_past}
use Rattle.rows.proofs.Offsets.{row_before}
use Rattle.rows.proofs.Zeros.{zero_past_lem, past_zero}
use Rattle.tables.specs.Columns.{link_row}
use Rattle.event_effects.specs.Losses.{Loss, loss_of, losses_of}
use Rattle.event_effects.specs.Effects.{LinksApplied, LossesAdded, CanLose, CanTake}
use Rattle.event_effects.proofs.Applied.{link_by_words}
use Rattle.event_effects.proofs.Losses.{loss_few, flat_append, none_added, both_added, added_long}

-- ---- a list with one element more

module _ {A : Type 0} where
  rows_last : (read : ℕ → A) (j n : ℕ) → rows_from read j (suc n) ≡ rows_from read j n ++ read (j + n) ∷ []
  rows_last read j zero = ap (λ k. read k ∷ []) (sym (add-zero j))
  rows_last read j (suc n) =
      ap (λ l. read j ∷ l) (rows_last read (suc j) n ∙ ap (λ k. rows_from read (suc j) n ++ read k ∷ []) (suc-add j n ∙ sym (add-suc j n)))

  row_more : (read : ℕ → A) (n : ℕ) → read_rows read (n + 1) ≡ read_rows read n ++ read n ∷ []
  row_more read n = ap (read_rows read) (add-one n) ∙ rows_last read 0 n ∙ ap (λ k. read_rows read n ++ read k ∷ []) (zero-add n)

  keep_last : (p : A → Bool) (l : List A) (x : A) → keep p (l ++ x ∷ []) ≡ keep p l ++ cond (p x) (x ∷ []) []
  keep_last p [] x = refl
  keep_last p (y ∷ l) x = step (p y) _ _ (keep_last p l x)
    where
      step : (b : Bool) (c d : List A) → c ≡ d ++ cond (p x) (x ∷ []) [] → cond b (y ∷ c) c ≡ cond b (y ∷ d) d ++ cond (p x) (x ∷ []) []
      step true c d e = ap (λ k. y ∷ k) e
      step false c d e = e

-- ---- a row put in the place of another

module _ (t : List ℕ) (i : ℕ) (l : Link) (h : i * 3 + 3 ≤ length t) where
  abbrev put : List ℕ
  put = with_row t 3 i (link_key l)

  put_is : put ≡ framed t (link_key l) [] (i * 3) (i * 3 + 3)
  put_is = row_put_lem t (link_key l) 3 i refl h ∙ ap (λ k. k ++ drop (i * 3 + 3) t) (sym (append-nil (take (i * 3) t ++ link_key l)))

  put_word : (k : ℕ) {w : ℕ} → get_or (framed t (link_key l) [] (i * 3) (i * 3 + 3)) k 0 ≡ w → get_or put k 0 ≡ w
  put_word k e = ap (λ u. get_or u k 0) put_is ∙ e

  whole : i * 3 + length (link_key l) + length {A = ℕ} [] ≡ i * 3 + 3
  whole = add-zero (i * 3 + 3)

  put_long : length put ≡ length t
  put_long = ap length put_is ∙ framed_length t (link_key l) [] (i * 3) (i * 3 + 3) whole h

  put_past : (k : ℕ) → i * 3 + 3 ≤ k → get_or put k 0 ≡ get_or t k 0
  put_past k b = put_word k (framed_past t (link_key l) [] (i * 3) (i * 3 + 3) whole h k b)

  put_lower : (j : ℕ) → j < i → link_row put j ≡ link_row t j
  put_lower j b =
      link_by_words put t j j
      (λ c q. put_word (j * 3 + c) (framed_front t (link_key l) [] (i * 3) (i * 3 + 3) whole h (j * 3 + c) (omega (arith, row_before j i 3 b))))

  put_own : link_row put i ≡ l
  unfolding link_row
  put_own = λ z. record { relationship = own 0 (omega arith) z; source = own 1 (omega arith) z; target = own 2 (omega arith) z }
    where
      own : (c : ℕ) → c < 3 → get_or put (i * 3 + c) 0 ≡ get_or (link_key l) c 0
      own c q = put_word (i * 3 + c) (framed_first t (link_key l) [] (i * 3) (i * 3 + 3) whole h c q)

-- a row put where it stands
pub put_same : (t : List ℕ) (i : ℕ) → i * 3 + 3 ≤ length t → with_row t 3 i (link_key (link_row t i)) ≡ t
unfolding link_row
put_same t i h =
    row_put_lem t (link_key (link_row t i)) 3 i refl h
    ∙ ap (λ w. take (i * 3) t ++ w ++ drop (i * 3 + 3) t) (words_from_lem t (i * 3) 0 3 (omega arith) ∙ ap (λ k. take 3 (drop k t)) (add-zero (i * 3)))
    ∙ ap (λ w. w ++ drop (i * 3 + 3) t) (sym (take-add (i * 3) 3 t))
    ∙ take-append-drop (i * 3 + 3) t

-- a part of which no row is used
pub cleared_all : (t : List ℕ) → cleared_past t 3 0 ≡ replicate (length t) 0
unfolding cleared_past
cleared_all t = ap (λ n. replicate n 0) (sub-zero (length t))

-- ---- the pass

module _ (id count : ℕ) (links : List ℕ) (k : ℕ) (losses : List ℕ) where
  abbrev read : ℕ → Link
  read = link_row links

  abbrev stays : Link → Bool
  stays l = not (ends_at id l)

  -- Before a row: those before it that stay are in front, in their order, and those that go have left their losses.
  pub record Passing (links' losses' : List ℕ) (lost kept row : ℕ) : Type 0 where
    pub within : row ≤ count
    pub behind : kept ≤ row
    pub front : read_rows (link_row links') kept ≡ keep stays (read_rows read row)
    pub rest : (i : ℕ) → row * 3 ≤ i → get_or links' i 0 ≡ get_or links i 0
    pub long : length links' ≡ length links
    pub added : LossesAdded (losses_of id (read_rows read row)) k losses lost losses'
    pub few : lost + kept ≤ k + row

  pub passing_none : Passing links losses k 0 0
  unfolding losses_of flat_map
  passing_none =
      record {
        within = omega arith;
        behind = le_refl 0;
        front = refl;
        rest = λ i h. refl;
        long = refl;
        added = none_added;
        few = omega arith;
      }

  as_added : {a c : List Loss} {lost : ℕ} {losses' : List ℕ} → a ≡ c → LossesAdded a k losses lost losses' → LossesAdded c k losses lost losses'
  as_added {lost = lost} {losses' = losses'} e w = subst (λ a. LossesAdded a k losses lost losses') e w

  -- the same in other words
  pub as_passing : {t u t' u' : List ℕ} {lost kept lost' kept' row : ℕ} → t' ≡ t → u' ≡ u → lost' ≡ lost → kept' ≡ kept → Passing t u lost kept row → Passing t' u' lost' kept' row
  as_passing {row = row} p q e f w = subst (λ i. i) (sym (λ i. Passing (p i) (q i) (e i) (f i) row)) w

  module _ {links' losses' : List ℕ} {lost kept row : ℕ} (can : CanTake count links k losses) (p : Passing links' losses' lost kept row) (b : row < count) where
    same_row : link_row links' row ≡ read row
    same_row = link_by_words links' links row row (λ c h. p.rest (row * 3 + c) (omega arith))

    pub row_lent : row * 3 + 3 ≤ length links'
    row_lent = omega (arith, p.long, can.lent)

    more_kept : keep stays (read_rows read (row + 1)) ≡ keep stays (read_rows read row) ++ cond (stays (read row)) (read row ∷ []) []
    more_kept = ap (keep stays) (row_more read row) ∙ keep_last stays (read_rows read row) (read row)

    -- one that goes leaves its loss behind the others
    more_lost : (q : Bool) → ends_at id (read row) ≡ q → losses_of id (read_rows read (row + 1)) ≡ losses_of id (read_rows read row) ++ cond q (loss_of id (read row)) []
    unfolding losses_of flat_map
    more_lost q e =
        ap (λ ls. flat_map (loss_of id) (keep (ends_at id) ls)) (row_more read row) ∙ ap (flat_map (loss_of id)) (keep_last (ends_at id) (read_rows read row) (read row))
        ∙ ap (λ b. flat_map (loss_of id) (keep (ends_at id) (read_rows read row) ++ cond b (read row ∷ []) [])) e
        ∙ flat_append (loss_of id) (keep (ends_at id) (read_rows read row)) (cond q (read row ∷ []) []) ∙ ap (λ l. flat_map (loss_of id) (keep (ends_at id) (read_rows read row)) ++ l) (last q)
      where
        last : (b : Bool) → flat_map (loss_of id) (cond b (read row ∷ []) []) ≡ cond b (loss_of id (read row)) []
        last true = append-nil (loss_of id (read row))
        last false = refl

    module _ (goes : ends_at id (link_row links' row) ≡ true) where
      pub can_lose : CanLose (link_row links' row) lost losses'
      can_lose =
          record {
            low = subst (λ l. l.relationship < 32) (sym same_row) (can.low row b);
            room = omega (arith, p.few, p.behind, can.left.room);
            long = added_long p.added ∙ can.left.long;
          }

      pub row_gone : {lost' : ℕ} {losses'' : List ℕ} → LossesAdded (loss_of id (link_row links' row)) lost losses' lost' losses'' → Passing links' losses'' lost' kept (row + 1)
      row_gone a =
          record {
            within = omega arith;
            behind = omega (arith, p.behind);
            front = p.front ∙ sym (more_kept ∙ ap (λ q. keep stays (read_rows read row) ++ cond (not q) (read row ∷ []) []) (ap (ends_at id) (sym same_row) ∙ goes) ∙ append-nil (keep stays (read_rows read row)));
            rest = λ i h. p.rest i (omega arith);
            long = p.long;
            added = as_added (ap (λ l. losses_of id (read_rows read row) ++ loss_of id l) same_row ∙ sym (more_lost true (ap (ends_at id) (sym same_row) ∙ goes))) (both_added p.added a);
            few = omega (arith, p.few, a.count_is, loss_few id (link_row links' row));
          }

    pub row_kept : ends_at id (link_row links' row) ≡ false → Passing (with_row links' 3 kept (link_key (link_row links' row))) losses' lost (kept + 1) (row + 1)
    row_kept stay =
        record {
          within = omega arith;
          behind = omega (arith, p.behind);
          front =
              row_more (link_row moved) kept
              ∙ ap₂ (λ ls x. ls ++ x ∷ [])
              (rows_same (link_row links') (link_row moved) 0 kept (λ i l h. put_lower links' kept (link_row links' row) room i (omega arith)) ∙ p.front)
              (put_own links' kept (link_row links' row) room ∙ same_row)
              ∙ sym (more_kept ∙ ap (λ q. keep stays (read_rows read row) ++ cond (not q) (read row ∷ []) []) (ap (ends_at id) (sym same_row) ∙ stay));
          rest = λ i h. put_past links' kept (link_row links' row) room i (omega (arith, p.behind)) ∙ p.rest i (omega arith);
          long = put_long links' kept (link_row links' row) room ∙ p.long;
          added = as_added (sym (more_lost false (ap (ends_at id) (sym same_row) ∙ stay) ∙ append-nil (losses_of id (read_rows read row)))) p.added;
          few = omega (arith, p.few);
        }
      where
        room : kept * 3 + 3 ≤ length links'
        room = omega (arith, row_lent, p.behind)

        moved : List ℕ
        moved = with_row links' 3 kept (link_key (link_row links' row))

  -- ---- past the last row

  module _ {links' losses' : List ℕ} {lost kept row : ℕ} (can : CanTake count links k losses) (p : Passing links' losses' lost kept row) (e : count ≤ row) where
    all : row ≡ count
    all = omega (arith, p.within)

    pub used_lent : (kept ≤ count) × (count * 3 ≤ length links')
    used_lent = (omega (arith, p.behind, all), omega (arith, p.long, can.lent))

    abbrev zeroed : List ℕ
    zeroed = replicate (count * 3 - kept * 3) 0

    abbrev cleared : List ℕ
    cleared = take (kept * 3) links' ++ zeroed ++ drop (count * 3) links'

    cleared_is : cleared ≡ framed links' zeroed [] (kept * 3) (count * 3)
    cleared_is = ap (λ l. l ++ drop (count * 3) links') (sym (append-nil (take (kept * 3) links' ++ zeroed)))

    sum : kept * 3 + length zeroed + length {A = ℕ} [] ≡ count * 3
    sum = omega (arith, length-replicate {A = ℕ} (count * 3 - kept * 3) 0, used_lent.0)

    pub links_taken : (S : Schema) → LinksApplied S (delete id) count links kept cleared
    unfolding apply
    links_taken S =
        record {
          effect =
              λ os.
              rows_same (link_row links') (link_row cleared) 0 kept
              (λ i l h.
              link_by_words cleared links' i i
              (λ c q.
              ap (λ u. get_or u (i * 3 + c) 0) cleared_is
              ∙ framed_front links' zeroed [] (kept * 3) (count * 3) sum used_lent.1 (i * 3 + c) (omega (arith, row_before i kept 3 (omega arith)))))
              ∙ p.front ∙ ap (λ n. keep stays (read_rows read n)) all;
          lengths = ap length cleared_is ∙ framed_length links' zeroed [] (kept * 3) (count * 3) sum used_lent.1 ∙ p.long;
          zeros = λ z. past_zero cleared 3 kept (λ i h. ap (λ u. get_or u i 0) cleared_is ∙ zero_word z i h);
        }
      where
        zero_word : T (zero_past links 3 count) → (i : ℕ) → kept * 3 ≤ i → get_or (framed links' zeroed [] (kept * 3) (count * 3)) i 0 ≡ 0
        zero_word z i h =
            ⊎_elim
            (λ (b : T (ltb i (count * 3))).
            let low : i < count * 3 = ltb_yes b in
            ap (λ n. get_or (framed links' zeroed [] (kept * 3) (count * 3)) n 0) (omega arith)
            ∙ framed_first links' zeroed [] (kept * 3) (count * 3) sum used_lent.1 (i - kept * 3) (omega (arith, length-replicate {A = ℕ} (count * 3 - kept * 3) 0))
            ∙ get_or-replicate (count * 3 - kept * 3) (i - kept * 3) 0 0 (omega arith))
            (λ (b : T (not (ltb i (count * 3)))).
            let high : count * 3 ≤ i = ltb_no b in
            framed_past links' zeroed [] (kept * 3) (count * 3) sum used_lent.1 i high ∙ p.rest i (omega (arith, all)) ∙ zero_past_lem links 3 count i z high)
            (decide (ltb i (count * 3)))

    pub losses_taken : LossesAdded (losses_of id (read_rows read count)) k losses lost losses'
    losses_taken = as_added (ap (λ n. losses_of id (read_rows read n)) all) p.added

    pub few_taken : lost + kept ≤ k + count
    few_taken = omega (arith, p.few, all)
