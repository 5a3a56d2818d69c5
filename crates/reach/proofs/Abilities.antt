-- The parts of a form are able where the form is.
use Prim.Native.Nat.{ℕ, suc, ◌+◌, ◌-◌, ◌≤◌, ◌<◌}
use mathlib.Core.Path.{◌≡◌, refl, sym, subst, ◌∙◌}
use mathlib.Core.Logic.{⊎_elim}
use mathlib.Core.Bool.{Bool, true, false, cond}
use mathlib.Core.List.{List, [], ◌∷◌}
use mathlib.Core.Option.{some}
use native.Mathlib.Nat.{eq-or-lt_of_le}
use native.Mathlib.Omega.{arith}
use lib.Dec.{T, leb}
use lib.ListN.{length, get_or, set, length-set, length-append}
use lib.Seq.{get_or-set_same, get_or-set_other}
use mir.Facts.{and_yes, ltb_yes}
use borrow.Author.Tests.{eq-eqb, ne_eqb, eqb-false, leb-false}
use Rattle.meaning.specs.Limits.{max_relationships}
use Rattle.meaning.specs.Schema.{Schema, known_type}
use Rattle.meaning.specs.Forms.{Sort, truth, number, collection, bind}
use Rattle.tables.specs.Codes.{Operator, comparing, negating, connecting, quantifying, kind_of, literal, cell_of, size_of, sum_of, combining, role_of, all_of, selecting, operator_of, code_of, shape_of}
use Rattle.tables.specs.Bodies.{Part, part, sort_of, same_sort, as_truth, as_number, as_collection, reads, ending, first_part}
use Rattle.tables.proofs.Readings.{ending_start, sound_pos, code_of_lem}
use Rattle.body_rows.specs.Marks.{first_sort, second_sort}
use Rattle.typing.specs.Types.{typed_part, member_of, summed, typed_leaf}
use Rattle.typing.proofs.Types.{operator_here, parts_here, coded_here, second_here, first_here, binds_here, leaf_here, one_here, plain_here, bound_here, fails_here}
use Rattle.walks.specs.Site.{Site, rows_at, form_at, code_at}
use Rattle.ocl.specs.Ready.{scoped_as, Ready}
use Rattle.ocl.proofs.Scopes.{in_scope}
use Rattle.reach.specs.Able.{Able, LeafAble, OverAble}

-- a well-typed form names bound variables
scoped_part : (S : Schema) → length S.relationships ≤ max_relationships → (ts : List ℕ) (u : Sort) (p : Part) → T (same_sort u (sort_of p)) → T (typed_part S ts p) → T (scoped_as u (length ts) p)
unfolding sort_of typed_part as_truth as_number as_collection
scoped_part S few ts truth (part truth f) h t = in_scope S few ts f t
scoped_part S few ts truth (part number f) h t = absurd h
scoped_part S few ts truth (part collection f) h t = absurd h
scoped_part S few ts number (part truth f) h t = absurd h
scoped_part S few ts number (part number f) h t = in_scope S few ts f t
scoped_part S few ts number (part collection f) h t = absurd h
scoped_part S few ts collection (part truth f) h t = absurd h
scoped_part S few ts collection (part number f) h t = absurd h
scoped_part S few ts collection (part collection f) h t = in_scope S few ts f t

-- the codes of rows without parts
leaf_codes : (o : Operator) → second_sort (shape_of o).parts ≡ 3 → (code_of o ≡ 14 → ⊥) → (code_of o ≡ 15 → ⊥) → (code_of o ≡ 20 → ⊥) → (code_of o ≡ 21 → ⊥) → code_of o ≡ 13
unfolding shape_of code_of
leaf_codes (comparing o) h a b c d = absurd (eqb-false 1 3 refl h)
leaf_codes negating h a b c d = absurd (eqb-false 0 3 refl h)
leaf_codes (connecting o) h a b c d = absurd (eqb-false 0 3 refl h)
leaf_codes (quantifying q) h a b c d = absurd (eqb-false 0 3 refl h)
leaf_codes kind_of h a b c d = refl
leaf_codes literal h a b c d = absurd (a refl)
leaf_codes cell_of h a b c d = absurd (b refl)
leaf_codes size_of h a b c d = absurd (eqb-false 2 3 refl h)
leaf_codes sum_of h a b c d = absurd (eqb-false 2 3 refl h)
leaf_codes (combining o) h a b c d = absurd (eqb-false 1 3 refl h)
leaf_codes role_of h a b c d = absurd (c refl)
leaf_codes all_of h a b c d = absurd (d refl)
leaf_codes selecting h a b c d = absurd (eqb-false 0 3 refl h)

-- what a well-typed row without parts names
leaf_known : (S : Schema) (ts : List ℕ) (code x y : ℕ) → T (typed_leaf S ts code x y) → code ≡ 21 → x < length S.types
unfolding typed_leaf known_type
leaf_known S ts code x y t e = ltb_yes (simp (eq-eqb code 21 e, ne_eqb code 14 (λ q. eqb-false 21 14 refl (sym e ∙ q))) at t)

leaf_bound : (S : Schema) (ts : List ℕ) (code x y : ℕ) → T (typed_leaf S ts code x y) → (code ≡ 14 → ⊥) → (code ≡ 21 → ⊥) → x < length ts
unfolding typed_leaf
leaf_bound S ts code x y t a b = step (leb (length ts) x) refl
  where
    step : (b : Bool) → leb (length ts) x ≡ b → x < length ts
    step true q = absurd (simp (ne_eqb code 14 a, ne_eqb code 21 b, q) at t)
    step false q = leb-false (length ts) x q

cond_first : (a b : Bool) → T (cond a b false) → T a × T b
cond_first true b t = (tt, t)
cond_first false b t = absurd t

module _ {S : Schema} {w : Site} {starts : List ℕ} {e : ℕ} {vars : List ℕ} {depth : ℕ} (able : Able S w starts e vars depth) where
  pub positive : 0 < e
  positive = sound_pos (rows_at w) e able.sound

  pub whole : suc (e - 1) ≡ e
  whole = let h = positive in omega arith

  pub last_sound : T (ending (rows_at w) (suc (e - 1))).sound
  last_sound = subst (λ n. T (ending (rows_at w) n).sound) (sym whole) able.sound

  abbrev pub op : Operator
  op = operator_here (rows_at w) (e - 1) last_sound

  abbrev pub sorts : List Sort
  sorts = parts_here (rows_at w) (e - 1) last_sound

  pub coded : operator_of (code_at w e) ≡ some op
  coded = coded_here (rows_at w) (e - 1) last_sound

  -- a form that reads as one of a sort is ready to be evaluated
  pub ready : (u : Sort) → T (reads u (ending (rows_at w) e)) → Ready w starts e vars depth u
  ready u t =
      record {
        steady = able.steady;
        indexed = able.indexed;
        words = able.words;
        few = able.few;
        room = able.room;
        held = able.held;
        there = able.there;
        right = able.right;
        read = t;
        in_scope =
            subst (λ d. T (scoped_as u d (form_at w e))) able.scope_long
            (scoped_part S able.relationships_few able.scope u (form_at w e) (and_yes (ending (rows_at w) e).sound (same_sort u (sort_of (form_at w e))) t).1 able.typed);
      }

  -- another form with the same variables
  able_at : (k : ℕ) → k ≤ e → T (ending (rows_at w) k).sound → T (typed_part S able.scope (form_at w k)) → Able S w starts k vars depth
  able_at k h t ty =
      record {
        steady = able.steady;
        indexed = able.indexed;
        words = able.words;
        types_are = able.types_are;
        types_few = able.types_few;
        relationships_few = able.relationships_few;
        few = omega (arith, able.few);
        room = omega (arith, able.room);
        held = able.held;
        there = able.there;
        right = λ j l. able.right j (omega arith);
        sound = t;
        scope = able.scope;
        scope_long = able.scope_long;
        typed = ty;
      }

  typed_last : T (typed_part S able.scope (ending (rows_at w) (suc (e - 1))).form)
  typed_last = subst (λ n. T (typed_part S able.scope (ending (rows_at w) n).form)) (sym whole) able.typed

  middle_is : get_or starts (e - 1) 0 ≡ (ending (rows_at w) (e - 1)).start
  middle_is = able.right (e - 1) (omega arith)

  pub leaf_able : second_sort sorts ≡ 3 → LeafAble w.counts.objects vars depth (code_at w e) (rows_at w (e - 1)).x
  leaf_able h =
      let r = rows_at w (e - 1) in
      let leaf = subst T (sym (leaf_here (rows_at w) (e - 1) last_sound S able.scope h)) typed_last in
      let is = code_of_lem (code_at w e) op coded in
      let past = positive in
      record {
        held = able.held;
        shallow = omega (arith, able.room);
        there = able.there;
        codes = λ a b c d. sym is ∙ leaf_codes op h (λ q. a (sym is ∙ q)) (λ q. b (sym is ∙ q)) (λ q. c (sym is ∙ q)) (λ q. d (sym is ∙ q));
        known = λ q. omega (arith, leaf_known S able.scope (code_at w e) r.x r.y leaf q, able.types_few);
        bound = λ a b. subst (λ d. r.x < d) able.scope_long (leaf_bound S able.scope (code_at w e) r.x r.y leaf a b);
      }

  module _ (n : second_sort sorts ≡ 3 → ⊥) where
    second_sound : T (ending (rows_at w) (e - 1)).sound
    second_sound = second_here (rows_at w) (e - 1) last_sound n

    pub deep : depth < 64
    deep = let p = sound_pos (rows_at w) (e - 1) second_sound in omega (arith, able.room)

    -- the only part
    pub one_able : first_sort sorts ≡ 3 → Able S w starts (e - 1) vars depth
    one_able f =
        able_at (e - 1) (omega arith) second_sound
        (cond_first (summed S (code_at w e) (rows_at w (e - 1)).x (form_at w (e - 1))) (typed_part S able.scope (form_at w (e - 1)))
        (subst T (sym (one_here (rows_at w) (e - 1) last_sound S able.scope n f)) typed_last)).1

    module _ (m : first_sort sorts ≡ 3 → ⊥) where
      pub first_low : get_or starts (e - 1) 0 < e
      first_low = let h = positive in let l = ending_start (rows_at w) (e - 1) in omega (arith, middle_is)

      abbrev first_form : Part
      first_form = (first_part (rows_at w) (e - 1)).form

      first_typed : T (typed_part S able.scope first_form)
      first_typed = step (typed_part S able.scope first_form) refl
        where
          step : (b : Bool) → typed_part S able.scope first_form ≡ b → T (typed_part S able.scope first_form)
          step true q = subst T (sym q) tt
          step false q = absurd (subst T (sym (fails_here (rows_at w) (e - 1) last_sound S able.scope n m q)) typed_last)

      pub first_able : Able S w starts (get_or starts (e - 1) 0) vars depth
      first_able =
          let l = first_low in
          subst (λ k. Able S w starts k vars depth) (sym middle_is)
          (able_at (ending (rows_at w) (e - 1)).start (omega (arith, middle_is)) (first_here (rows_at w) (e - 1) last_sound m) first_typed)

      -- the second part, with the same variables
      pub plain_able : (first_sort sorts ≡ 2 → ⊥) → Able S w starts (e - 1) vars depth
      plain_able k =
          able_at (e - 1) (omega arith) second_sound
          (cond_first (typed_part S able.scope first_form) (typed_part S able.scope (form_at w (e - 1)))
          (subst T (sym (plain_here (rows_at w) (e - 1) last_sound S able.scope n m k)) typed_last)).1

      -- the second part, with one variable more
      module _ (b : first_sort sorts ≡ 2) where
        pub first_reads : T (reads collection (ending (rows_at w) (get_or starts (e - 1) 0)))
        first_reads = subst (λ k. T (reads collection (ending (rows_at w) k))) (sym middle_is) (binds_here (rows_at w) (e - 1) last_sound b)

        inner_there : {row : ℕ} → row < w.counts.objects → (v : ℕ) → v < depth + 1 → get_or (set vars depth row) v 0 < w.counts.objects
        inner_there {row} h v l =
            let held = able.held in
            let room = deep in
            let below : v ≤ depth = omega arith in
            ⊎_elim
            (λ (q : v ≡ depth). subst (λ k. get_or (set vars depth row) k 0 < w.counts.objects) (sym q) (rw (get_or-set_same vars depth row 0 (omega arith)) h))
            (λ (q : v < depth). rw (get_or-set_other vars depth v row 0 (λ z. omega arith)) (able.there v q))
            (eq-or-lt_of_le below)

        pub inner_able : (row : ℕ) (l : List ℕ) → l ≡ set vars depth row → row < w.counts.objects → Able S w starts (e - 1) l (depth + 1)
        inner_able row l q there =
            let h = positive in
            let member = member_of S.relationships first_form in
            subst (λ k. Able S w starts (e - 1) k (depth + 1)) (sym q) (
            record {
              steady = able.steady;
              indexed = able.indexed;
              words = able.words;
              types_are = able.types_are;
              types_few = able.types_few;
              relationships_few = able.relationships_few;
              few = omega (arith, able.few);
              room = omega (arith, able.room);
              held = length-set vars depth row ∙ able.held;
              there = inner_there there;
              right = λ j k. able.right j (omega arith);
              sound = second_sound;
              scope = bind able.scope member;
              scope_long = omega (arith, length-append able.scope (member ∷ []), able.scope_long);
              typed = (cond_first (typed_part S able.scope first_form) (typed_part S (bind able.scope member) (form_at w (e - 1)))
                  (subst T (sym (bound_here (rows_at w) (e - 1) last_sound S able.scope n m b)) typed_last)).1;
            })

-- a form over a collection
pub over_able : {S : Schema} {w : Site} {starts : List ℕ} {e : ℕ} {vars : List ℕ} {depth : ℕ} (able : Able S w starts e vars depth)
    → (second_sort (sorts able) ≡ 3 → ⊥)
    → (first_sort (sorts able) ≡ 3 → ⊥)
    → first_sort (sorts able) ≡ 2
    → OverAble S w starts e vars depth
over_able able n m b =
    record { positive = positive able; few = able.few; deep = deep able n; first = ready (first_able able n m) collection (first_reads able n m b); inner = inner_able able n m b }
