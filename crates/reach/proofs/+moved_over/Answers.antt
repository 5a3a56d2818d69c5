-- The forward rule meets its contract.
use Prim.Native.Nat.{ℕ, ◌+◌, ◌-◌, ◌<◌}
use mathlib.Core.Path.{◌≡◌, refl, sym, ap, subst, ◌∙◌}
use mathlib.Core.Bool.{Bool, false}
use mathlib.Core.List.{List}
use mathlib.Core.Option.{some}
use native.Mathlib.Omega.{arith}
use lib.ListN.{get_or, set}
use lib.Seq.{set-set}
use Rattle.meaning.specs.Lists.{any}
use Rattle.meaning.specs.Schema.{Schema}
use Rattle.meaning.specs.Forms.{collection}
use Rattle.meaning.specs.Reach.{Change, cell_moves}
use Rattle.tables.specs.Codes.{operator_of}
use Rattle.body_rows.specs.Marks.{first_sort, second_sort}
use Rattle.typing.specs.Types.{FlooredRows}
use Rattle.typing.proofs.Types.{code_here, sums_here}
use Rattle.typing.proofs.Floors.{rows_less}
use Rattle.directions.proofs.Passes.{pass_small}
use Rattle.form_marks.proofs.Nodes.{pass_to, to_second}
use Rattle.walks.specs.Site.{Site, site_of, rows_at, form_at, code_at, id_in, ids_of}
use Rattle.walks.proofs.Steps.{fewer_left}
use Rattle.ocl.proofs.Variables.{one_more}
use Rattle.reach.specs.Moves.{moved_by, moves_at, moves_over}
use Rattle.reach.specs.Able.{Able, LeafAble, OverAble}
use Rattle.reach.proofs.Abilities.{positive, last_sound, op, sorts, coded, ready, leaf_able, one_able, first_low, first_able, plain_able, over_able}
use Rattle.reach.proofs.Members.{any_starts, any_ends, any_stops, any_goes_on}
use Rattle.reach.proofs.Answers.{none_asked, leaf_made, one_moves, one_still, one_sums, first_moves, plain_moves, over_moves, members_end}
use Rattle.reach.proofs.+moved_over.Invariants.{at_member}
use Rattle.reach.proofs.+moved_over.Goals as goal

-- what differs from a number, by what it is
not_as : {a b k : ℕ} → (a ≡ k → ⊥) → a ≡ b → b ≡ k → ⊥
not_as n p q = n (p ∙ q)

-- ---- what is read of a row

module _ {S : Schema} {w : Site} {starts : List ℕ} {e : ℕ} {vars : List ℕ} {depth : ℕ} (able : Able S w starts e vars depth) where
  inside : e - 1 < 64
  inside = let h = positive able in omega (arith, able.few)

  low : {code : ℕ} → code ≡ code_at w e → code < 23
  low f = subst (λ k. k < 23) (sym f) (code_here (rows_at w) (e - 1) (last_sound able))

  coded_at : {code : ℕ} → code ≡ code_at w e → operator_of code ≡ some (op able)
  coded_at f = ap operator_of f ∙ coded able

  leaf_at : {code x : ℕ} → code ≡ code_at w e → x ≡ (rows_at w (e - 1)).x → second_sort (sorts able) ≡ 3 → LeafAble w.counts.objects vars depth code x
  leaf_at p q h =
      let leaf = leaf_able able h in
      let at_code = subst (λ k. LeafAble w.counts.objects vars depth k (rows_at w (e - 1)).x) (sym p) leaf in
      subst (LeafAble w.counts.objects vars depth _) (sym q) at_code

  to_second_lem : (k : Change) (set : ℕ) (floored : List Bool) {dirs : ℕ} → dirs ≡ pass_to (get_or floored (e - 1) false) set (op able) 1 → FlooredRows k.schema (rows_at w) e floored
      → dirs ≡ to_second k.schema set (op able) (code_at w e) (rows_at w (e - 1)) (form_at w (e - 1))
  to_second_lem k set floored passed marks =
      let h = positive able in
      passed ∙ ap (λ b. pass_to b set (op able) 1) (marks.each (e - 1) (omega arith))

  second_set : (set : ℕ) (b : Bool) {dirs : ℕ} → dirs ≡ pass_to b set (op able) 1 → dirs < 4
  second_set set b d = subst (λ k. k < 4) (sym d) (pass_small b (op able) 1 set)

  first_set : (set : ℕ) {dirs : ℕ} → dirs ≡ pass_to false set (op able) 0 → dirs < 4
  first_set set d = subst (λ k. k < 4) (sym d) (pass_small false (op able) 0 set)

  -- the marks of the parts' rows
  part_marks : (k : Change) (floored : List Bool) → FlooredRows k.schema (rows_at w) e floored → FlooredRows k.schema (rows_at w) (e - 1) floored
  part_marks k floored marks = rows_less (omega arith) marks

  first_marks : (k : Change) (floored : List Bool) → (second_sort (sorts able) ≡ 3 → ⊥) → (first_sort (sorts able) ≡ 3 → ⊥) → FlooredRows k.schema (rows_at w) e floored → FlooredRows k.schema (rows_at w) (get_or starts (e - 1) 0) floored
  first_marks k floored n m marks = let below = first_low able n m in rows_less (omega arith) marks

  first_falls : {t : ℕ} → (second_sort (sorts able) ≡ 3 → ⊥) → (first_sort (sorts able) ≡ 3 → ⊥) → e + e + 1 ≡ t → get_or starts (e - 1) 0 + get_or starts (e - 1) 0 + 1 < t
  first_falls n m d = let below = first_low able n m in omega arith

  part_falls : {t : ℕ} → e + e + 1 ≡ t → (e - 1) + (e - 1) + 1 < t
  part_falls d = let h = positive able in omega arith

-- ---- the needs of `moved`, in the order of the code

pub moved-returns-then-set-eq0 : goal.moved-returns-then-set-eq0
moved-returns-then-set-eq0 t c =
    let a = c.args in
    let w = site_of a.n a.sheet.now.types.now a.sheet.now.objects.now a.sheet.now.links.now a.index.now a.sheet.now.bodies.now a.at.0 in
    λ k traced marks. none_asked k w a.at.1 a.vs.now a.at.2 ∙ ap (moves_at k w a.at.1 a.vs.now a.at.2) (sym c.if-set-eq0.true)

pub moved-overflow_sub-row : goal.moved-overflow_sub-row
moved-overflow_sub-row t c = positive c.requires.0.1

pub moved-shape-requires : goal.moved-shape-requires
moved-shape-requires t c = (low c.requires.0.1 c.field-code.ensures, omega arith)

pub moved-leaf-requires : goal.moved-leaf-requires
moved-leaf-requires t c =
    let r = c.requires.0.1 in
    let second = c.shape.ensures (op r) (coded_at r c.field-code.ensures) in
    (c.requires.1, leaf_at r c.field-code.ensures c.field-x.ensures (sym second ∙ c.if-shape-eq-NONE.true), omega (arith, c.if-set-eq0.false), c.requires.2)

pub moved-returns-then-shape-eq-NONE : goal.moved-returns-then-shape-eq-NONE
moved-returns-then-shape-eq-NONE t c =
    let r = c.requires.0.1 in
    let second = c.shape.ensures (op r) (coded_at r c.field-code.ensures) in
    λ k traced marks.
    leaf_made r k c.args.set (omega (arith, c.if-set-eq0.false)) c.requires.2 c.field-code.ensures c.field-x.ensures c.field-y.ensures
    (sym second ∙ c.if-shape-eq-NONE.true) (c.leaf.ensures k traced)

pub moved-overflow_cast-from : goal.moved-overflow_cast-from
moved-overflow_cast-from t c = let h = inside c.requires.0.1 in omega arith

pub moved-bounds-floored-from : goal.moved-bounds-floored-from
moved-bounds-floored-from t c = let h = inside c.requires.0.1 in omega arith

pub moved-pass-to-requires : goal.moved-pass-to-requires
moved-pass-to-requires t c = (low c.requires.0.1 c.field-code.ensures, omega arith, c.requires.2)

pub moved-shape-requires-2 : goal.moved-shape-requires-2
moved-shape-requires-2 t c = (low c.requires.0.1 c.field-code.ensures, omega arith)

pub moved-moved-requires : goal.moved-moved-requires
moved-moved-requires t c =
    let a = c.args in
    let r = c.requires.0.1 in
    let is = coded_at r c.field-code.ensures in
    let some = not_as c.if-shape-eq-NONE.false (c.shape.ensures (op r) is) in
    let first = c.shape-2.ensures (op r) is in
    (part_falls r c.decreases, ((c.requires.0.0, one_able r some (sym first ∙ c.if-shape-eq-NONE-2.true)), c.requires.1, second_set r a.set _ (c.pass-to.ensures (op r) is)))

pub moved-returns-then-moved : goal.moved-returns-then-moved
moved-returns-then-moved t c =
    let a = c.args in
    let r = c.requires.0.1 in
    let is = coded_at r c.field-code.ensures in
    let some = not_as c.if-shape-eq-NONE.false (c.shape.ensures (op r) is) in
    let first = c.shape-2.ensures (op r) is in
    λ k traced marks.
    one_moves r k a.set (omega (arith, c.if-set-eq0.false)) c.requires.2 some (to_second_lem r k a.set a.floored.now (c.pass-to.ensures (op r) is) marks) (sym first ∙ c.if-shape-eq-NONE-2.true)
    (c.moved.ensures k traced (part_marks r k a.floored.now marks)) c.if-moved.true

pub moved-returns-then-code-ne-SUM : goal.moved-returns-then-code-ne-SUM
moved-returns-then-code-ne-SUM t c =
    let a = c.args in
    let r = c.requires.0.1 in
    let is = coded_at r c.field-code.ensures in
    let some = not_as c.if-shape-eq-NONE.false (c.shape.ensures (op r) is) in
    let first = c.shape-2.ensures (op r) is in
    λ k traced marks.
    one_still r k a.set (omega (arith, c.if-set-eq0.false)) c.requires.2 some (to_second_lem r k a.set a.floored.now (c.pass-to.ensures (op r) is) marks) (sym first ∙ c.if-shape-eq-NONE-2.true)
    (c.moved.ensures k traced (part_marks r k a.floored.now marks)) c.if-moved.false c.field-code.ensures c.if-code-ne-SUM.true

pub moved-member_set-requires : goal.moved-member_set-requires
moved-member_set-requires t c =
    let a = c.args in
    let w = site_of a.n a.sheet.now.types.now a.sheet.now.objects.now a.sheet.now.links.now a.index.now a.sheet.now.bodies.now a.at.0 in
    let r = c.requires.0.1 in
    let is = coded_at r c.field-code.ensures in
    let some = not_as c.if-shape-eq-NONE.false (c.shape.ensures (op r) is) in
    let first = c.shape-2.ensures (op r) is in
    let only = one_able r some (sym first ∙ c.if-shape-eq-NONE-2.true) in
    (ready only collection (sums_here (rows_at w) (a.at.1 - 1) (last_sound r) (sym c.field-code.ensures ∙ c.if-code-ne-SUM.false)), c.requires.1)

pub moved-returns-then-shape-eq-NONE-2 : goal.moved-returns-then-shape-eq-NONE-2
moved-returns-then-shape-eq-NONE-2 t c =
    let a = c.args in
    let w = site_of a.n a.sheet.now.types.now a.sheet.now.objects.now a.sheet.now.links.now a.index.now a.sheet.now.bodies.now a.at.0 in
    let r = c.requires.0.1 in
    let is = coded_at r c.field-code.ensures in
    let some = not_as c.if-shape-eq-NONE.false (c.shape.ensures (op r) is) in
    let first = c.shape-2.ensures (op r) is in
    λ k traced marks.
    one_sums r k a.set (omega (arith, c.if-set-eq0.false)) c.requires.2 some (to_second_lem r k a.set a.floored.now (c.pass-to.ensures (op r) is) marks) (sym first ∙ c.if-shape-eq-NONE-2.true)
    (c.moved.ensures k traced (part_marks r k a.floored.now marks)) c.if-moved.false c.field-code.ensures c.if-code-ne-SUM.false c.field-x.ensures
    (c.member_set.ensures k traced ∙ ap (any (λ m. cell_moves k m c.field-x.result)) (members_end w traced (a.at.1 - 1) a.vs.now a.at.2 a.set))

pub moved-offset_bounds-spans-from : goal.moved-offset_bounds-spans-from
moved-offset_bounds-spans-from t c = let h = inside c.requires.0.1 in omega arith

pub moved-bounds-spans-from : goal.moved-bounds-spans-from
moved-bounds-spans-from t c = let h = inside c.requires.0.1 in omega arith

pub moved-pass-to_first-requires : goal.moved-pass-to_first-requires
moved-pass-to_first-requires t c = (low c.requires.0.1 c.field-code.ensures, omega arith, c.requires.2)

pub moved-moved-requires-2 : goal.moved-moved-requires-2
moved-moved-requires-2 t c =
    let a = c.args in
    let r = c.requires.0.1 in
    let is = coded_at r c.field-code.ensures in
    let some = not_as c.if-shape-eq-NONE.false (c.shape.ensures (op r) is) in
    let some_first = not_as c.if-shape-eq-NONE-2.false (c.shape-2.ensures (op r) is) in (
      first_falls r some some_first c.decreases,
      ((c.requires.0.0, first_able r some some_first), c.requires.1, first_set r a.set (c.pass-to_first.ensures (op r) is)),
    )

pub moved-returns-then-moved-2 : goal.moved-returns-then-moved-2
moved-returns-then-moved-2 t c =
    let a = c.args in
    let r = c.requires.0.1 in
    let is = coded_at r c.field-code.ensures in
    let some = not_as c.if-shape-eq-NONE.false (c.shape.ensures (op r) is) in
    let some_first = not_as c.if-shape-eq-NONE-2.false (c.shape-2.ensures (op r) is) in
    λ k traced marks.
    first_moves r k a.set (omega (arith, c.if-set-eq0.false)) c.requires.2 some (to_second_lem r k a.set a.floored.now (c.pass-to.ensures (op r) is) marks) some_first refl (c.pass-to_first.ensures (op r) is)
    (c.moved-2.ensures k traced (first_marks r k a.floored.now some some_first marks)) c.if-moved-2.true

pub moved-shape-requires-3 : goal.moved-shape-requires-3
moved-shape-requires-3 t c = (low c.requires.0.1 c.field-code.ensures, omega arith)

pub moved-moved-requires-then-shape-ne-COLLECTION : goal.moved-moved-requires-then-shape-ne-COLLECTION
moved-moved-requires-then-shape-ne-COLLECTION t c =
    let a = c.args in
    let r = c.requires.0.1 in
    let is = coded_at r c.field-code.ensures in
    let some = not_as c.if-shape-eq-NONE.false (c.shape.ensures (op r) is) in
    let some_first = not_as c.if-shape-eq-NONE-2.false (c.shape-2.ensures (op r) is) in
    let plain = not_as c.if-shape-ne-COLLECTION.true (c.shape-3.ensures (op r) is) in (
      part_falls r c.decreases,
      ((c.requires.0.0, plain_able r some some_first plain), c.requires.1, second_set r a.set _ (c.pass-to.ensures (op r) is)),
    )

pub moved-returns-then-shape-ne-COLLECTION : goal.moved-returns-then-shape-ne-COLLECTION
moved-returns-then-shape-ne-COLLECTION t c =
    let a = c.args in
    let r = c.requires.0.1 in
    let is = coded_at r c.field-code.ensures in
    let some = not_as c.if-shape-eq-NONE.false (c.shape.ensures (op r) is) in
    let some_first = not_as c.if-shape-eq-NONE-2.false (c.shape-2.ensures (op r) is) in
    let plain = not_as c.if-shape-ne-COLLECTION.true (c.shape-3.ensures (op r) is) in
    λ k traced marks.
    plain_moves r k a.set (omega (arith, c.if-set-eq0.false)) c.requires.2 some (to_second_lem r k a.set a.floored.now (c.pass-to.ensures (op r) is) marks) some_first refl (c.pass-to_first.ensures (op r) is)
    (c.moved-2.ensures k traced (first_marks r k a.floored.now some some_first marks)) c.if-moved-2.false plain (c.moved-then-shape-ne-COLLECTION.ensures k traced (part_marks r k a.floored.now marks))

pub moved-over-requires : goal.moved-over-requires
moved-over-requires t c =
    let a = c.args in
    let r = c.requires.0.1 in
    let is = coded_at r c.field-code.ensures in
    let some = not_as c.if-shape-eq-NONE.false (c.shape.ensures (op r) is) in
    let some_first = not_as c.if-shape-eq-NONE-2.false (c.shape-2.ensures (op r) is) in
    let binds = c.shape-3.ensures (op r) is in (
      omega (arith, c.decreases),
      ((c.requires.0.0, over_able r some some_first (sym binds ∙ c.if-shape-ne-COLLECTION.false)), c.requires.1, second_set r a.set _ (c.pass-to.ensures (op r) is)),
    )

pub moved-returns : goal.moved-returns
moved-returns t c =
    let a = c.args in
    let w = site_of a.n a.sheet.now.types.now a.sheet.now.objects.now a.sheet.now.links.now a.index.now a.sheet.now.bodies.now a.at.0 in
    let r = c.requires.0.1 in
    let is = coded_at r c.field-code.ensures in
    let some = not_as c.if-shape-eq-NONE.false (c.shape.ensures (op r) is) in
    let some_first = not_as c.if-shape-eq-NONE-2.false (c.shape-2.ensures (op r) is) in
    let binds = c.shape-3.ensures (op r) is in
    let start = get_or a.spans.now (a.at.1 - 1) 0 in
    λ k traced marks.
    over_moves r k a.set (omega (arith, c.if-set-eq0.false)) c.requires.2 some (to_second_lem r k a.set a.floored.now (c.pass-to.ensures (op r) is) marks) some_first refl (c.pass-to_first.ensures (op r) is)
    (c.moved-2.ensures k traced (first_marks r k a.floored.now some some_first marks)) c.if-moved-2.false (sym binds ∙ c.if-shape-ne-COLLECTION.false)
    (c.over.ensures k traced marks ∙ ap (λ l. moves_over k w (a.at.1 - 1) a.vs.now a.at.2 l c.pass-to.result) (members_end w traced start a.vs.now a.at.2 a.set))

-- ---- what `over` reads

module _ {S : Schema} {w : Site} {starts : List ℕ} {e : ℕ} {vars : List ℕ} {depth : ℕ} (able : OverAble S w starts e vars depth) where
  row_inside : e - 1 < 64
  row_inside = let h = able.positive in omega (arith, able.few)

  row_marks : (k : Change) (floored : List Bool) → FlooredRows k.schema (rows_at w) e floored → FlooredRows k.schema (rows_at w) (e - 1) floored
  row_marks k floored marks = rows_less (omega arith) marks

  -- the second part with the member as one more variable
  at_member_lem : (k : Change) (dirs object : ℕ) (inner : List ℕ) → inner ≡ set vars depth object → moves_at k w (e - 1) inner (depth + 1) dirs ≡ at_member k w (e - 1) vars depth dirs (id_in w.objects object)
  unfolding moves_at
  at_member_lem k dirs object inner q =
      ap (λ l. moved_by k (form_at w (e - 1)) (ids_of w (depth + 1) l) dirs) q
      ∙ ap (λ ids. moved_by k (form_at w (e - 1)) ids dirs) (one_more (id_in w.objects) depth vars object (omega (arith, able.deep, able.first.held)))

-- ---- the needs of `over`, in the order of the code

pub over-overflow_sub-row : goal.over-overflow_sub-row
over-overflow_sub-row t c = c.requires.0.1.positive

pub over-overflow_cast-from : goal.over-overflow_cast-from
over-overflow_cast-from t c = let h = row_inside c.requires.0.1 in omega arith

pub over-offset_bounds-spans-from : goal.over-offset_bounds-spans-from
over-offset_bounds-spans-from t c = let h = row_inside c.requires.0.1 in omega arith

pub over-bounds-spans-from : goal.over-bounds-spans-from
over-bounds-spans-from t c = let h = row_inside c.requires.0.1 in omega arith

pub over-overflow_cast-new : goal.over-overflow_cast-new
over-overflow_cast-new t c = let h = c.requires.0.1.deep in omega arith

pub over-begin-word-requires : goal.over-begin-word-requires
over-begin-word-requires t c = c.requires.0.1.first

pub over-loop-member-init : goal.over-loop-member-init
over-loop-member-init t c =
    let a = c.args in
    let w = site_of a.n a.sheet.now.types.now a.sheet.now.objects.now a.sheet.now.links.now a.index.now a.sheet.now.bodies.now a.at.0 in
    let row = a.at.1 - 1 in (
      c.begin-word.ensures.stands,
      (λ k traced marks. any_starts w (get_or a.spans.now row 0) a.vs.now a.at.2 (at_member k w row a.vs.now a.at.2 a.set) c.begin-word.ensures),
      λ object. refl,
    )

pub over-next-requires : goal.over-next-requires
over-next-requires t c = (c.requires.0.1.first, c.loop-member.invariant.0)

pub over-returns : goal.over-returns
over-returns t c =
    let a = c.args in
    let r = c.requires.0.1 in
    let w = site_of a.n a.sheet.now.types.now a.sheet.now.objects.now a.sheet.now.links.now a.index.now a.sheet.now.bodies.now a.at.0 in
    let row = a.at.1 - 1 in
    λ k traced marks.
    any_ends w (get_or a.spans.now row 0) a.vs.now a.at.2 (at_member k w row a.vs.now a.at.2 a.set) c.loop-member.word (c.loop-member.invariant.1 k traced (row_marks r k a.floored.now marks))
    (c.next.ensures.done c.in_default.is)

pub over-offset_bounds-inner-new : goal.over-offset_bounds-inner-new
over-offset_bounds-inner-new t c = let h = c.requires.0.1.deep in omega arith

pub over-bounds-inner-new : goal.over-bounds-inner-new
over-bounds-inner-new t c = let h = c.requires.0.1.deep in omega arith

pub over-overflow_add-deeper : goal.over-overflow_add-deeper
over-overflow_add-deeper t c = let h = c.requires.0.1.deep in omega arith

pub over-moved-requires : goal.over-moved-requires
over-moved-requires t c =
    let r = c.requires.0.1 in
    let went = c.next.ensures.went _ c.in-Some.is in
    let h = r.positive in
    (omega (arith, c.decreases), ((c.requires.0.0, r.inner _ _ (c.loop-member.invariant.2 _) went.there), c.requires.1, c.requires.2))

pub over-returns-then-moved : goal.over-returns-then-moved
over-returns-then-moved t c =
    let a = c.args in
    let r = c.requires.0.1 in
    let w = site_of a.n a.sheet.now.types.now a.sheet.now.objects.now a.sheet.now.links.now a.index.now a.sheet.now.bodies.now a.at.0 in
    let row = a.at.1 - 1 in
    let went = c.next.ensures.went _ c.in-Some.is in
    λ k traced marks.
    any_stops w (get_or a.spans.now row 0) a.vs.now a.at.2 (at_member k w row a.vs.now a.at.2 a.set) c.loop-member.word (c.loop-member.invariant.1 k traced (row_marks r k a.floored.now marks)) went
    (c.moved.ensures k traced (row_marks r k a.floored.now marks) ∙ at_member_lem r k a.set _ _ (c.loop-member.invariant.2 _)) c.if-moved.true

pub over-loop-member-smaller : goal.over-loop-member-smaller
over-loop-member-smaller t c = fewer_left (c.next.ensures.went _ c.in-Some.is)

pub over-loop-member-preserved : goal.over-loop-member-preserved
over-loop-member-preserved t c =
    let a = c.args in
    let r = c.requires.0.1 in
    let w = site_of a.n a.sheet.now.types.now a.sheet.now.objects.now a.sheet.now.links.now a.index.now a.sheet.now.bodies.now a.at.0 in
    let row = a.at.1 - 1 in
    let went = c.next.ensures.went _ c.in-Some.is in (
      went.stands,
      (λ k traced marks.
          any_goes_on w (get_or a.spans.now row 0) a.vs.now a.at.2 (at_member k w row a.vs.now a.at.2 a.set) c.loop-member.word (c.loop-member.invariant.1 k traced marks) went
          (c.moved.ensures k traced marks ∙ at_member_lem r k a.set _ _ (c.loop-member.invariant.2 _)) c.if-moved.false),
      λ object. set-set c.loop-member.inner a.at.2 _ object ∙ c.loop-member.invariant.2 object,
    )
