-- The machine's open forms in an array, and the steps of the loop.
use Prim.Native.Nat.{ℕ, zero, suc, ◌+◌, ◌-◌, ◌*◌, ◌≤◌, ◌<◌}
use mathlib.Core.Path.{◌≡◌, refl, sym, ap, ◌∙◌}
use mathlib.Core.Logic.{◌⊎◌, inl, inr}
use Rattle.std.specs.Prelude.{Option, Some, None}
use Rattle.std.proofs.lemmas.Option.{none-some}
use mathlib.Core.Bool.{Bool, true, false}
use mathlib.Core.List.{List, [], ◌∷◌}
use mathlib.Core.Option.{Option as Maybe, none, some, map}
use native.Mathlib.Numerals.{add-one}
use native.Mathlib.Omega.{arith}
use borrow.Author.Tests.{leb-true, leb-false}
use lib.Dec.{leb}
use lib.ListN.{length, get_or, drop, set, replicate, length-set, length-replicate}
use lib.Seq.{drop-cons, get_or-set_same, get_or-set_other}
use Rattle.text.specs.Tokens.{Token, begin, item, end, token_in, tokens_in}
use Rattle.text.specs.Texts.{max_text}
use Rattle.text.proofs.Tokens.{tokens_none}
use Rattle.tokens.specs.declared.Found.{Found}
use Rattle.tokens.specs.declared.Found.TheVariants.{Begin, Item, End}
use Rattle.tokens.specs.Tokens.{found_at}
use Rattle.brackets.specs.Steps.{opened_by, filled_by, closed_by, lacking_after, ended_at, body_at}
use Rattle.tokens.proofs.Tokens.{Stands, found_stands, found_bad, tokens_more}
use Rattle.brackets.proofs.Machine.{run, run_on, body_run, open_not}

abbrev pub room : ℕ
room = 16384

-- the forms around the innermost, the last put first
unfoldable pub under : List ℕ → ℕ → List ℕ
under outer zero = []
under outer (suc d) = get_or outer d 0 ∷ under outer d

under_set : (outer : List ℕ) (d j v : ℕ) → d ≤ j → under (set outer j v) d ≡ under outer d
unfolding under
under_set outer zero j v h = refl
under_set outer (suc d) j v h = rw (get_or-set_other outer j d v 0 (λ q. omega arith), under_set outer d j v (omega arith))

pub under_put : (outer : List ℕ) (d v : ℕ) → d < length outer → under (set outer d v) (d + 1) ≡ v ∷ under outer d
unfolding under
under_put outer d v h = rw (add-one, get_or-set_same outer d v 0 h, under_set outer d d v (omega arith))

pub under_got : (outer : List ℕ) (d : ℕ) → 1 ≤ d → under outer d ≡ get_or outer (d - 1) 0 ∷ under outer (d - 1)
unfolding under
under_got outer zero h = absurd (omega arith)
under_got outer (suc d) h = let q : suc d - 1 ≡ d = omega arith in rw q

-- ---- one token

run_bad : (o : Maybe (List Token)) (w : ℕ) (s : List ℕ) (n : ℕ) → (o ≡ none) ⊎ (o ≡ some []) → run_on o (w ∷ s) n ≡ None
unfolding run
run_bad o w s n (inl e) = rw e
run_bad o w s n (inr e) = rw e

-- a token that may not stand there
module _ (w : ℕ) (s : List ℕ) (n : ℕ) where
  begin_refused : (k : ℕ) (o : Maybe (List Token)) → opened_by w k ≡ None → run_on (map (λ ts. begin k ∷ ts) o) (w ∷ s) n ≡ None
  unfolding run
  begin_refused k none e = refl
  begin_refused k (some ts) e = rw e

  item_refused : (v : ℕ) (o : Maybe (List Token)) → filled_by w v ≡ None → run_on (map (λ ts. item v ∷ ts) o) (w ∷ s) n ≡ None
  unfolding run
  item_refused v none e = refl
  item_refused v (some ts) e = rw e

  end_refused : (o : Maybe (List Token)) → closed_by w ≡ None → run_on (map (λ ts. end ∷ ts) o) (w ∷ s) n ≡ None
  unfolding run
  end_refused none e = refl
  end_refused (some ts) e = rw e

  -- and one that may
  begin_taken : (k a : ℕ) (o : Maybe (List Token)) → opened_by w k ≡ Some a → run_on (map (λ ts. begin k ∷ ts) o) (w ∷ s) n ≡ run_on o (a ∷ (w - 4) ∷ s) (n + 1)
  unfolding run
  begin_taken k a none e = refl
  begin_taken k a (some ts) e = rw e

  item_taken : (v a : ℕ) (o : Maybe (List Token)) → filled_by w v ≡ Some a → run_on (map (λ ts. item v ∷ ts) o) (w ∷ s) n ≡ run_on o (a ∷ s) n
  unfolding run
  item_taken v a none e = refl
  item_taken v a (some ts) e = rw e

  end_taken : (a : ℕ) (o : Maybe (List Token)) → closed_by w ≡ Some a → run_on (map (λ ts. end ∷ ts) o) (w ∷ s) n ≡ run_on o s n
  unfolding run
  end_taken a none e = refl
  end_taken a (some ts) e = rw e

pub opened_lacks : (w k after : ℕ) → Some after ≡ opened_by w k → 4 ≤ w
opened_lacks w k after e = go (leb 4 w) refl
  where
    go : (b : Bool) → leb 4 w ≡ b → 4 ≤ w
    go true h = leb-true 4 w h
    go false h = absurd (none-some after (sym (e ∙ open_not w k (leb-false 4 w h))))

-- with no form open, nothing may follow
nothing_left : (o : Maybe (List Token)) (n : ℕ) → (o ≡ some [] → ⊥) → run_on o [] n ≡ None
unfolding run
nothing_left none n e = refl
nothing_left (some []) n e = absurd (e refl)
nothing_left (some (begin k ∷ ts)) n e = refl
nothing_left (some (item v ∷ ts)) n e = refl
nothing_left (some (end ∷ ts)) n e = refl

run_ended : (l : List ℕ) (n : ℕ) → run_on (tokens_in l) [] n ≡ ended_at l n
unfolding run
run_ended [] n = rw tokens_none
run_ended (b ∷ l) n = nothing_left (tokens_in (b ∷ l)) n (tokens_more (b ∷ l) (omega arith))

-- ---- the loop

-- the answer is that of the open forms and the tokens from i on; each open form and each form so far took four bytes
pub record Running (t : List ℕ) (i : ℕ) (outer : List ℕ) (depth lacks forms : ℕ) (answer : Option ℕ) : Type 0 where
  pub size : length outer ≡ room
  pub deep : 4 * depth ≤ i
  pub many : 4 * forms ≤ i
  pub gives : run_on (tokens_in (drop i t)) (lacks ∷ under outer depth) forms ≡ answer

pub running_first : (t : List ℕ) (at : ℕ) → Running t at (replicate room 0) 0 4 0 (body_at (drop at t))
unfolding under
running_first t at = record { size = length-replicate {A = ℕ} room 0; deep = omega arith; many = omega arith; gives = body_run (drop at t) }

-- an open bracket and its name take four bytes, so there is room
pub begin_room : (t : List ℕ) (i k next depth : ℕ) → Stands t i (begin k) next → length t ≤ max_text → 4 * depth ≤ i → (depth < room) × (4 * (depth + 1) ≤ next)
begin_room t i k next depth s h d = let b = s.takes in let n = s.inside in (omega arith, omega arith)

module _ (t : List ℕ) (i : ℕ) (outer : List ℕ) (depth lacks forms : ℕ) (answer : Option ℕ) (r : Running t i outer depth lacks forms answer) where
  pub running_bad : None ≡ found_at i (token_in (drop i t)) → answer ≡ None
  running_bad e = sym r.gives ∙ run_bad (tokens_in (drop i t)) lacks (under outer depth) forms (found_bad t i e)

  pub running_refused : (f : Found) → Some f ≡ found_at i (token_in (drop i t)) → lacking_after lacks f ≡ None → answer ≡ None
  running_refused (Begin k next) e q =
      let s = found_stands t i (Begin k next) e in
      sym r.gives ∙ rw s.tokens (begin_refused lacks (under outer depth) forms k (tokens_in (drop next t)) q)
  running_refused (Item v next) e q =
      let s = found_stands t i (Item v next) e in
      sym r.gives ∙ rw s.tokens (item_refused lacks (under outer depth) forms v (tokens_in (drop next t)) q)
  running_refused (End next) e q =
      let s = found_stands t i (End next) e in
      sym r.gives ∙ rw s.tokens (end_refused lacks (under outer depth) forms (tokens_in (drop next t)) q)

  pub running_begin : (k next after : ℕ) → Stands t i (begin k) next → length t ≤ max_text → Some after ≡ opened_by lacks k
      → Running t next (set outer depth (lacks - 4)) (depth + 1) after (forms + 1) answer
  running_begin k next after s h e =
      let b = begin_room t i k next depth s h r.deep in
      let m = begin_room t i k next forms s h r.many in
      let size = r.size in
      record {
        size = length-set outer depth (lacks - 4) ∙ size;
        deep = b.1;
        many = m.1;
        gives =
            rw (under_put outer depth (lacks - 4) (omega arith))
            (sym (begin_taken lacks (under outer depth) forms k after (tokens_in (drop next t)) (sym e)) ∙ rw (← s.tokens) r.gives);
      }

  pub running_item : (v next after : ℕ) → Stands t i (item v) next → Some after ≡ filled_by lacks v → Running t next outer depth after forms answer
  running_item v next after s e =
      let n = s.further in
      let d = r.deep in
      let m = r.many in
      record {
        size = r.size;
        deep = omega arith;
        many = omega arith;
        gives = sym (item_taken lacks (under outer depth) forms v after (tokens_in (drop next t)) (sym e)) ∙ rw (← s.tokens) r.gives;
      }

  pub running_end : (next after : ℕ) → Stands t i end next → Some after ≡ closed_by lacks → 1 ≤ depth → Running t next outer (depth - 1) (get_or outer (depth - 1) 0) forms answer
  running_end next after s e h =
      let n = s.further in
      let d = r.deep in
      let m = r.many in
      record {
        size = r.size;
        deep = omega arith;
        many = omega arith;
        gives =
            rw (← under_got outer depth h)
            (sym (end_taken lacks (under outer depth) forms after (tokens_in (drop next t)) (sym e)) ∙ rw (← s.tokens) r.gives);
      }

  pub running_done : (next after : ℕ) → Stands t i end next → Some after ≡ closed_by lacks → depth < 1 → answer ≡ ended_at (drop next t) forms
  unfolding under
  running_done next after s e h =
      let z : depth ≡ 0 = omega arith in
      let alone : under outer depth ≡ [] = rw z in
      sym r.gives
      ∙ rw s.tokens (end_taken lacks (under outer depth) forms after (tokens_in (drop next t)) (sym e))
      ∙ ap (λ (u : List ℕ). run_on (tokens_in (drop next t)) u forms) alone
      ∙ run_ended (drop next t) forms

-- whether anything follows
pub ended_more : (t : List ℕ) (i n : ℕ) → i < length t → ended_at (drop i t) n ≡ None
ended_more t i n h = rw (drop-cons t i 0 h)
