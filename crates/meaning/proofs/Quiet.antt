-- An object that the batch inserted has no links but joined ones; one that it brought into a type by a special has no others at the roles that
-- start there. So where no such role of it gains, a body that is quiet by these roles is true there.
use Prim.Native.Nat.{ℕ}
use mathlib.Core.Path.{◌≡◌, refl, ap, subst}
use mathlib.Core.Logic.{⊎_elim}
use mathlib.Core.Bool.{Bool, true, false, ◌||◌, not}
use mathlib.Core.List.{List, [], ◌∷◌}
use mathlib.Core.Option.{none}
use lib.Dec.{T, eqb, eqb→eq}
use mir.Facts.{and_yes, yes_and, or_yes, or_no, T_not, not_T, eqb_yes}
use Rattle.meaning.specs.Lists.{any, ◌∈◌}
use Rattle.meaning.specs.Schema.{Schema, near_type}
use Rattle.meaning.specs.Register.{Link, Register, present, is_under, has_link, starts_at, far_ends}
use Rattle.meaning.specs.Forms.{truth, collection, Connective, and, or, xor, implies, Quantifier, forall, exists, Form, compare, negate, connect, quantify, kind, role, all, select, bind, variable}
use Rattle.meaning.specs.Meaning.{connected, quantified, meaning}
use Rattle.meaning.specs.Events.{Event, Lent, after, event_refusal}
use Rattle.meaning.specs.Reach.{Step, step_at, Change, change_by, some_step, inserts_into, specialises_into, Direction, up, down, opposite, through, first_truth, second_truth, source_of, role_moves, moves, role_of_self, quiet_quantifier, quiet_connective, quietly, inserted, specialised}
use Rattle.meaning.proofs.Lists.{or_left, or_right, no_or, not_and_left, not_and_right, not_not, any_cases, every_of, keep_from}
use Rattle.meaning.proofs.Schemas.{TypesFit}
use Rattle.meaning.proofs.Registers.{RegisterFits, far_from, near_under, near_present}
use Rattle.meaning.proofs.Effects.{insert_absent, special_outside}
use Rattle.meaning.proofs.Steps.{Throughout, Unrefused, throughout_map, throughout_both, each_side, each_both, each_map, step_none, fits_throughout, each_fit}
use Rattle.meaning.proofs.Batches.{no_gain}

-- the value is w
abbrev Is : Bool → Bool → Type 0
Is true b = T b
Is false b = T (not b)

-- the direction away from w
abbrev against : Bool → Direction
against true = down
against false = up

-- what makes a connective quietly true or quietly false makes its value so
connective_quiet : (o : Connective) (w : Bool) (a b : Bool) (qa qb : Bool → Bool) (ma mb : Direction → Bool)
    → ((v : Bool) → T (qa v) → T (not (ma (against v))) → Is v a)
    → ((v : Bool) → T (qb v) → T (not (mb (against v))) → Is v b)
    → T (quiet_connective o w qa qb)
    → T (not (through ◌||◌ (first_truth o) ma (against w) || through ◌||◌ (second_truth o) mb (against w)))
    → Is w (connected o a b)
unfolding quiet_connective connected first_truth second_truth
connective_quiet and true a b qa qb ma mb f g q n =
    let qs = and_yes (qa true) (qb true) q in let ns = or_no (ma down) (mb down) n in
    yes_and a b (f true qs.0 ns.0) (g true qs.1 ns.1)
connective_quiet and false a b qa qb ma mb f g q n =
    let ns = or_no (ma up) (mb up) n in
    ⊎_elim (λ h. not_and_left a b (f false h ns.0)) (λ h. not_and_right a b (g false h ns.1)) (or_yes (qa false) (qb false) q)
connective_quiet or true a b qa qb ma mb f g q n =
    let ns = or_no (ma down) (mb down) n in
    ⊎_elim (λ h. or_left a b (f true h ns.0)) (λ h. or_right a b (g true h ns.1)) (or_yes (qa true) (qb true) q)
connective_quiet or false a b qa qb ma mb f g q n =
    let qs = and_yes (qa false) (qb false) q in let ns = or_no (ma up) (mb up) n in
    no_or a b (f false qs.0 ns.0) (g false qs.1 ns.1)
connective_quiet xor w a b qa qb ma mb f g q n = absurd q
connective_quiet implies true a b qa qb ma mb f g q n =
    let ns = or_no (ma up) (mb down) n in
    ⊎_elim (λ h. or_left (not a) b (f false h ns.0)) (λ h. or_right (not a) b (g true h ns.1)) (or_yes (qa false) (qb true) q)
connective_quiet implies false a b qa qb ma mb f g q n =
    let qs = and_yes (qa true) (qb false) q in let ns = or_no (ma down) (mb up) n in
    no_or (not a) b (not_not a (f true qs.0 ns.0)) (g false qs.1 ns.1)

-- over nothing forall is true and exists is false
quantifier_quiet : (q : Quantifier) (w : Bool) (p : ℕ → Bool) (l : List ℕ) → T (quiet_quantifier q w) → ((x : ℕ) → ¬ (x ∈ l)) → Is w (quantified q p l)
unfolding quiet_quantifier quantified
quantifier_quiet forall true p l h e = every_of p l (λ x m. absurd (e x m))
quantifier_quiet forall false p l h e = absurd h
quantifier_quiet exists true p l h e = absurd h
quantifier_quiet exists false p l h e = not_T (any p l) (λ t. let r = any_cases p l t in e r.0 r.1)

-- what turns a quiet quantifier is a gain of its collection
quantifier_gain : (q : Quantifier) (w : Bool) (m : Direction → Bool) → T (quiet_quantifier q w) → T (not (through ◌||◌ (source_of q) m (against w))) → T (not (m up))
unfolding quiet_quantifier source_of
quantifier_gain forall true m h n = n
quantifier_gain forall false m h n = absurd h
quantifier_gain exists true m h n = absurd h
quantifier_gain exists false m h n = n

negated : (w a : Bool) → Is (not w) a → Is w (not a)
negated true a h = h
negated false a h = not_not a h

opposite_against : (w : Bool) → opposite (against w) ≡ against (not w)
opposite_against true = refl
opposite_against false = refl

module _ (S : Schema) (types_fit : TypesFit S.types) (lent : Lent) (g : Register) (fits : RegisterFits S g) (es : List Event) (ok : Unrefused S lent g es) (x : ℕ) where
  abbrev c : Change
  c = change_by S g es

  -- no link of the role from x was there all the while
  abbrev pub NoneOlder : ℕ → Type 0
  NoneOlder r = (l : Link) → T (starts_at r x l) → ¬ Throughout (λ g'. T (has_link g' l)) S g es

  -- A step that finds the contrary of what each link of the role gives was a step of the batch: so none of the links was there all the while.
  none_older : (r : ℕ) (P : Register → Type 0) (did : Step → Bool)
      → ((g' : Register) → RegisterFits S g' → (l : Link) → T (has_link g' l) → T (starts_at r x l) → P g')
      → ((g' : Register) → RegisterFits S g' → (e : Event) → event_refusal S lent g' e ≡ none → T (did (step_at g' e)) → ¬ P g')
      → T (some_step c did)
      → NoneOlder r
  none_older r P did gives finds some l s h =
      T_not (some_step c did) some
      (step_none S did g es
      (each_map S _ _ (λ g' e k. not_T (did (step_at g' e)) (λ d. finds g' k.0.0 e k.0.1 d k.1.0)) g es
      (each_both S _ _ g es (each_fit S types_fit lent g es fits ok)
      (each_side S P g es
      (throughout_map S _ _ (λ g' k. gives g' k.0 l k.1 s) g es
      (throughout_both S (RegisterFits S) (λ g'. T (has_link g' l)) g es (fits_throughout S types_fit lent g es fits ok) h))))))

  -- an insert finds the object absent, so it has no older link at any role
  pub insert_new : (t : ℕ) → T (inserted c x t) → (r : ℕ) → NoneOlder r
  unfolding inserted
  insert_new t new r =
      none_older r (λ g'. T (present g' x)) (inserts_into S.types t (eqb x)) (λ g' f l. near_present S g' f r x l)
      (λ g' f e o i p. T_not (present g' x) p (insert_absent S types_fit lent g' f e o x t i)) new

  -- Req 06: a special into t finds the object outside of t, so "no link at such a role", one that starts at t, "can be older than the change"
  pub special_new : (t : ℕ) → T (specialised c x t) → (r : ℕ) → T (eqb (near_type S.relationships r) t) → NoneOlder r
  unfolding specialised
  special_new t new r starts =
      none_older r (λ g'. T (is_under S.types g' x t)) (specialises_into S.types t (eqb x))
      (λ g' f l h s. subst (λ u. T (is_under S.types g' x u)) (eqb_yes starts) (near_under S g' f r x l h s))
      (λ g' f e o i p. T_not (is_under S.types g' x t) p (special_outside S types_fit lent g' f e x t i)) new

  -- ---- by roles that count, none of which has an older link

  module _ (counts : ℕ → Bool) (new : (r : ℕ) → T (counts r) → NoneOlder r) where
    no_members : (r : ℕ) → T (counts r) → T (not (role_moves c r x up)) → (y : ℕ) → ¬ (y ∈ far_ends (after S g es) r x)
    no_members r k n y m =
        let f = far_from (after S g es) r x y m in
        new r k f.0 f.2 (no_gain S types_fit lent g fits es ok r x n f.0 f.2 f.1)

    self_empty : (k : Form collection) → T (role_of_self counts k) → T (not (moves c k (x ∷ []) up)) → (y : ℕ) → ¬ (y ∈ meaning S.types (after S g es) k (x ∷ []))
    unfolding role_of_self moves meaning
    self_empty (role v r) h n y m =
        let own = and_yes (eqb v 0) (counts r) h in
        let self : variable (x ∷ []) v ≡ x = ap (variable (x ∷ [])) (eqb→eq v 0 own.0) in
        no_members r own.1 (subst (λ z. T (not (role_moves c r z up))) self n) y (subst (λ z. y ∈ far_ends (after S g es) r z) self m)
    self_empty (all u) h n y m = absurd h
    -- `role_of_self` has no select; a select of nothing would be as empty
    self_empty (select k b) h n y m =
        let inner : T (role_of_self counts k) = search in
        self_empty k inner (or_no (moves c k (x ∷ []) up) _ n).0 y (keep_from (λ z. meaning S.types (after S g es) b (bind (x ∷ []) z)) _ m).0

    pub quiet_value : (f : Form truth) (w : Bool) → T (quietly counts f w) → T (not (moves c f (x ∷ []) (against w))) → Is w (meaning S.types (after S g es) f (x ∷ []))
    unfolding quietly moves meaning
    quiet_value (compare o a b) w q n = absurd q
    quiet_value (negate a) w q n = negated w _ (quiet_value a (not w) q (subst (λ d. T (not (moves c a (x ∷ []) d))) (opposite_against w) n))
    quiet_value (connect o a b) w q n =
        connective_quiet o w _ _ (quietly counts a) (quietly counts b) (moves c a (x ∷ [])) (moves c b (x ∷ [])) (quiet_value a) (quiet_value b) q n
    quiet_value (quantify o k b) w q n =
        let qs = and_yes (quiet_quantifier o w) (role_of_self counts k) q in
        let ns = or_no (through ◌||◌ (source_of o) (moves c k (x ∷ [])) (against w)) _ n in
        quantifier_quiet o w _ (meaning S.types (after S g es) k (x ∷ [])) qs.0 (self_empty k qs.1 (quantifier_gain o w (moves c k (x ∷ [])) qs.0 ns.0))
    quiet_value (kind v u) w q n = absurd q
