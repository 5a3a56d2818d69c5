-- Going back meets its contract.
use Prim.Native.Nat.{ℕ, ◌+◌, ◌-◌, ◌≤◌, ◌<◌}
use mathlib.Core.Path.{◌≡◌, refl, sym, ap, subst, ◌∙◌}
use mathlib.Core.Bool.{Bool, false}
use mathlib.Core.Option.{some}
use native.Mathlib.Omega.{arith}
use lib.ListN.{get_or, set}
use Rattle.meaning.specs.Schema.{Schema}
use Rattle.meaning.specs.Forms.{collection}
use Rattle.meaning.specs.Reach.{Change}
use Rattle.tables.specs.Codes.{operator_of}
use Rattle.body_rows.specs.Marks.{first_sort, second_sort}
use Rattle.typing.specs.Types.{FlooredRows}
use Rattle.typing.proofs.Types.{code_here, sums_here}
use Rattle.typing.proofs.Floors.{rows_less}
use Rattle.directions.proofs.Passes.{pass_small}
use Rattle.form_marks.proofs.Nodes.{pass_to, to_second}
use Rattle.walks.specs.Site.{Site, site_of, rows_at, form_at, code_at}
use Rattle.reach.specs.Able.{Able, LeafAble, OverAble}
use Rattle.reach.proofs.Abilities.{positive, last_sound, op, sorts, coded, ready, leaf_able, deep, one_able, first_low, first_able, plain_able, over_able}
use Rattle.going_back.specs.Back.{reached_by}
use Rattle.going_back.specs.Walkable.{Walkable, OverWalkable}
use Rattle.row_sets.proofs.Growth.{room_kept, grown_none, grown_below, cleared_below, below_then, below_less}
use Rattle.going_back.proofs.Covers.{covered_all, covered_then, covered_less}
use Rattle.going_back.proofs.Parts.{none_covers, leaf_covers, one_covers, sum_covers, plain_covers, over_covers}
use mathlib.Core.List.{List}
use Rattle.going_back.proofs.+back_over.Goals as goal

-- what differs from a number, by what it is
not_as : {a b k : ℕ} → (a ≡ k → ⊥) → a ≡ b → b ≡ k → ⊥
not_as n p q = n (p ∙ q)

-- ---- what is read of a row

module _ {S : Schema} {w : Site} {starts : List ℕ} {e : ℕ} {vars : List ℕ} {depth : ℕ} (able : Able S w starts e vars depth) where
  inside : e - 1 < 64
  inside = let h = positive able in omega (arith, able.few)

  low : {code : ℕ} → code ≡ code_at w e → code < 23
  low f = subst (λ k. k < 23) (sym f) (code_here (rows_at w) (e - 1) (last_sound able))

  coded_at : {code : ℕ} → code ≡ code_at w e → operator_of code ≡ some (op able)
  coded_at f = ap operator_of f ∙ coded able

  leaf_at : {code x : ℕ} → code ≡ code_at w e → x ≡ (rows_at w (e - 1)).x → second_sort (sorts able) ≡ 3 → LeafAble w.counts.objects vars depth code x
  leaf_at p q h =
      let leaf = leaf_able able h in
      let at_code = subst (λ k. LeafAble w.counts.objects vars depth k (rows_at w (e - 1)).x) (sym p) leaf in
      subst (LeafAble w.counts.objects vars depth _) (sym q) at_code

  to_second_lem : (k : Change) (set : ℕ) (floored : List Bool) {dirs : ℕ} → dirs ≡ pass_to (get_or floored (e - 1) false) set (op able) 1 → FlooredRows k.schema (rows_at w) e floored
      → dirs ≡ to_second k.schema set (op able) (code_at w e) (rows_at w (e - 1)) (form_at w (e - 1))
  to_second_lem k set floored passed marks =
      let h = positive able in
      passed ∙ ap (λ b. pass_to b set (op able) 1) (marks.each (e - 1) (omega arith))

  second_set : (set : ℕ) (b : Bool) {dirs : ℕ} → dirs ≡ pass_to b set (op able) 1 → dirs < 4
  second_set set b d = subst (λ k. k < 4) (sym d) (pass_small b (op able) 1 set)

  first_set : (set : ℕ) {dirs : ℕ} → dirs ≡ pass_to false set (op able) 0 → dirs < 4
  first_set set d = subst (λ k. k < 4) (sym d) (pass_small false (op able) 0 set)

  -- the marks of the parts' rows
  part_marks : (k : Change) (floored : List Bool) → FlooredRows k.schema (rows_at w) e floored → FlooredRows k.schema (rows_at w) (e - 1) floored
  part_marks k floored marks = rows_less (omega arith) marks

  first_marks : (k : Change) (floored : List Bool) → (second_sort (sorts able) ≡ 3 → ⊥) → (first_sort (sorts able) ≡ 3 → ⊥) → FlooredRows k.schema (rows_at w) e floored → FlooredRows k.schema (rows_at w) (get_or starts (e - 1) 0) floored
  first_marks k floored n m marks = let below = first_low able n m in rows_less (omega arith) marks

  first_falls : {t : ℕ} → (second_sort (sorts able) ≡ 3 → ⊥) → (first_sort (sorts able) ≡ 3 → ⊥) → e + e + 1 ≡ t → get_or starts (e - 1) 0 + get_or starts (e - 1) 0 + 1 < t
  first_falls n m d = let below = first_low able n m in omega arith

  part_falls : {t : ℕ} → e + e + 1 ≡ t → (e - 1) + (e - 1) + 1 < t
  part_falls d = let h = positive able in omega arith

  few : w.counts.objects ≤ 1024
  few = able.indexed.indexable.few

-- a part is walkable where it is able
walk : {w : Site} {starts : List ℕ} {e depth : ℕ} (l : Walkable w starts e depth) (k : ℕ) → Able l.schema w starts k l.vars depth → Walkable w starts k depth
walk l k part = record { schema = l.schema; vars = l.vars; able = part; self = l.self }

-- ---- the needs of `back`, in the order of the code

pub back-returns-then-set-eq0 : goal.back-returns-then-set-eq0
back-returns-then-set-eq0 t c =
    let a = c.args in
    let w = site_of a.n a.sheet.now.types.now a.sheet.now.objects.now a.sheet.now.links.now a.index.now a.sheet.now.bodies.now a.at.0 in
    (grown_below _ (grown_none _), λ k traced marks. none_covers k w a.at.1 a.at.2 c.if-set-eq0.true)

pub back-overflow_sub-row : goal.back-overflow_sub-row
back-overflow_sub-row t c = positive c.requires.0.able

pub back-shape-requires : goal.back-shape-requires
back-shape-requires t c = (low c.requires.0.able c.field-code.ensures, omega arith)

pub back-leaf-requires : goal.back-leaf-requires
back-leaf-requires t c =
    let r = c.requires.0.able in
    let second = c.shape.ensures (op r) (coded_at r c.field-code.ensures) in
    ((c.requires.0.vars, leaf_at r c.field-code.ensures c.field-x.ensures (sym second ∙ c.if-shape-eq-NONE.true)), c.requires.1, omega (arith, c.if-set-eq0.false), c.requires.2, c.requires.3)

pub back-returns-then-shape-eq-NONE : goal.back-returns-then-shape-eq-NONE
back-returns-then-shape-eq-NONE t c =
    let a = c.args in
    let r = c.requires.0.able in
    let second = c.shape.ensures (op r) (coded_at r c.field-code.ensures) in (
      grown_below _ c.leaf.ensures.0,
      λ k traced marks.
          leaf_covers r k a.set (omega (arith, c.if-set-eq0.false)) c.requires.2 a.sheet.now.objects.now a.n.objects c.field-code.ensures c.field-x.ensures c.field-y.ensures
          (sym second ∙ c.if-shape-eq-NONE.true) (c.leaf.ensures.1 k traced),
    )

pub back-overflow_cast-from : goal.back-overflow_cast-from
back-overflow_cast-from t c = let h = inside c.requires.0.able in omega arith

pub back-bounds-floored-from : goal.back-bounds-floored-from
back-bounds-floored-from t c = let h = inside c.requires.0.able in omega arith

pub back-pass-to-requires : goal.back-pass-to-requires
back-pass-to-requires t c = (low c.requires.0.able c.field-code.ensures, omega arith, c.requires.2)

pub back-shape-requires-2 : goal.back-shape-requires-2
back-shape-requires-2 t c = (low c.requires.0.able c.field-code.ensures, omega arith)

pub back-back-requires : goal.back-back-requires
back-back-requires t c =
    let a = c.args in
    let r = c.requires.0.able in
    let is = coded_at r c.field-code.ensures in
    let some = not_as c.if-shape-eq-NONE.false (c.shape.ensures (op r) is) in
    let first = c.shape-2.ensures (op r) is in
    (part_falls r c.decreases, (walk c.requires.0 _ (one_able r some (sym first ∙ c.if-shape-eq-NONE-2.true)), c.requires.1, second_set r a.set _ (c.pass-to.ensures (op r) is), c.requires.3))

pub back-returns-then-back : goal.back-returns-then-back
back-returns-then-back t c = (c.back.ensures.0, λ k traced marks. covered_all)

pub back-returns-then-code-ne-SUM : goal.back-returns-then-code-ne-SUM
back-returns-then-code-ne-SUM t c =
    let a = c.args in
    let r = c.requires.0.able in
    let is = coded_at r c.field-code.ensures in
    let some = not_as c.if-shape-eq-NONE.false (c.shape.ensures (op r) is) in
    let first = c.shape-2.ensures (op r) is in (
      c.back.ensures.0,
      λ k traced marks.
          one_covers r k a.set (omega (arith, c.if-set-eq0.false)) c.requires.2 a.sheet.now.objects.now a.n.objects some (to_second_lem r k a.set a.floored.now (c.pass-to.ensures (op r) is) marks) (sym first ∙ c.if-shape-eq-NONE-2.true)
          c.if-back.false (c.back.ensures.1 k traced (part_marks r k a.floored.now marks)) c.field-code.ensures c.if-code-ne-SUM.true,
    )

pub back-members-requires : goal.back-members-requires
back-members-requires t c =
    let a = c.args in
    let w = site_of a.n a.sheet.now.types.now a.sheet.now.objects.now a.sheet.now.links.now a.index.now a.sheet.now.bodies.now a.at.0 in
    let r = c.requires.0.able in
    let is = coded_at r c.field-code.ensures in
    let some = not_as c.if-shape-eq-NONE.false (c.shape.ensures (op r) is) in
    let first = c.shape-2.ensures (op r) is in
    let only = one_able r some (sym first ∙ c.if-shape-eq-NONE-2.true) in
    let reads = sums_here (rows_at w) (a.at.1 - 1) (last_sound r) (sym c.field-code.ensures ∙ c.if-code-ne-SUM.false) in
    ((c.requires.0.vars, ready only collection reads), c.requires.1, c.requires.0.self, deep r some, room_kept c.back.ensures.0.long c.requires.3)

pub back-returns-then-shape-eq-NONE-2 : goal.back-returns-then-shape-eq-NONE-2
back-returns-then-shape-eq-NONE-2 t c =
    let a = c.args in
    let r = c.requires.0.able in
    let is = coded_at r c.field-code.ensures in
    let some = not_as c.if-shape-eq-NONE.false (c.shape.ensures (op r) is) in
    let first = c.shape-2.ensures (op r) is in (
      below_then c.back.ensures.0 c.members.ensures.0,
      λ k traced marks.
          sum_covers r k a.set (omega (arith, c.if-set-eq0.false)) c.requires.2 a.sheet.now.objects.now a.n.objects some (to_second_lem r k a.set a.floored.now (c.pass-to.ensures (op r) is) marks) (sym first ∙ c.if-shape-eq-NONE-2.true)
          c.if-back.false (c.back.ensures.1 k traced (part_marks r k a.floored.now marks)) (few r) c.field-code.ensures c.if-code-ne-SUM.false c.field-x.ensures c.members.ensures.0 (c.members.ensures.1 k traced),
    )

pub back-offset_bounds-spans-from : goal.back-offset_bounds-spans-from
back-offset_bounds-spans-from t c = let h = inside c.requires.0.able in omega arith

pub back-bounds-spans-from : goal.back-bounds-spans-from
back-bounds-spans-from t c = let h = inside c.requires.0.able in omega arith

pub back-pass-to_first-requires : goal.back-pass-to_first-requires
back-pass-to_first-requires t c = (low c.requires.0.able c.field-code.ensures, omega arith, c.requires.2)

pub back-back-requires-2 : goal.back-back-requires-2
back-back-requires-2 t c =
    let a = c.args in
    let r = c.requires.0.able in
    let is = coded_at r c.field-code.ensures in
    let some = not_as c.if-shape-eq-NONE.false (c.shape.ensures (op r) is) in
    let some_first = not_as c.if-shape-eq-NONE-2.false (c.shape-2.ensures (op r) is) in
    (first_falls r some some_first c.decreases, (walk c.requires.0 _ (first_able r some some_first), c.requires.1, first_set r a.set (c.pass-to_first.ensures (op r) is), c.requires.3))

pub back-returns-then-back-2 : goal.back-returns-then-back-2
back-returns-then-back-2 t c = (c.back-2.ensures.0, λ k traced marks. covered_all)

pub back-shape-requires-3 : goal.back-shape-requires-3
back-shape-requires-3 t c = (low c.requires.0.able c.field-code.ensures, omega arith)

pub back-back-requires-then-shape-ne-COLLECTION : goal.back-back-requires-then-shape-ne-COLLECTION
back-back-requires-then-shape-ne-COLLECTION t c =
    let a = c.args in
    let r = c.requires.0.able in
    let is = coded_at r c.field-code.ensures in
    let some = not_as c.if-shape-eq-NONE.false (c.shape.ensures (op r) is) in
    let some_first = not_as c.if-shape-eq-NONE-2.false (c.shape-2.ensures (op r) is) in
    let plain = not_as c.if-shape-ne-COLLECTION.true (c.shape-3.ensures (op r) is) in
    (part_falls r c.decreases, (walk c.requires.0 _ (plain_able r some some_first plain), c.requires.1, second_set r a.set _ (c.pass-to.ensures (op r) is), room_kept c.back-2.ensures.0.long c.requires.3))

pub back-returns-then-shape-ne-COLLECTION : goal.back-returns-then-shape-ne-COLLECTION
back-returns-then-shape-ne-COLLECTION t c =
    let a = c.args in
    let r = c.requires.0.able in
    let is = coded_at r c.field-code.ensures in
    let some = not_as c.if-shape-eq-NONE.false (c.shape.ensures (op r) is) in
    let some_first = not_as c.if-shape-eq-NONE-2.false (c.shape-2.ensures (op r) is) in
    let plain = not_as c.if-shape-ne-COLLECTION.true (c.shape-3.ensures (op r) is) in (
      below_then c.back-2.ensures.0 c.back-then-shape-ne-COLLECTION.ensures.0,
      λ k traced marks.
          plain_covers r k a.set (omega (arith, c.if-set-eq0.false)) c.requires.2 a.sheet.now.objects.now a.n.objects some (to_second_lem r k a.set a.floored.now (c.pass-to.ensures (op r) is) marks)
          some_first refl (c.pass-to_first.ensures (op r) is) (few r) c.if-back-2.false (c.back-2.ensures.1 k traced (first_marks r k a.floored.now some some_first marks)) c.back-then-shape-ne-COLLECTION.ensures.0 plain (c.back-then-shape-ne-COLLECTION.ensures.1 k traced (part_marks r k a.floored.now marks)),
    )

pub back-over-requires : goal.back-over-requires
back-over-requires t c =
    let a = c.args in
    let w = site_of a.n a.sheet.now.types.now a.sheet.now.objects.now a.sheet.now.links.now a.index.now a.sheet.now.bodies.now a.at.0 in
    let r = c.requires.0.able in
    let is = coded_at r c.field-code.ensures in
    let some = not_as c.if-shape-eq-NONE.false (c.shape.ensures (op r) is) in
    let some_first = not_as c.if-shape-eq-NONE-2.false (c.shape-2.ensures (op r) is) in
    let binds = c.shape-3.ensures (op r) is in
    let parts = over_able r some some_first (sym binds ∙ c.if-shape-ne-COLLECTION.false) in
    let walkable : OverWalkable w a.spans.now a.at.1 a.at.2 = record { schema = c.requires.0.schema; vars = c.requires.0.vars; able = parts; self = c.requires.0.self } in
    (omega (arith, c.decreases), (walkable, c.requires.1, second_set r a.set _ (c.pass-to.ensures (op r) is), room_kept c.back-2.ensures.0.long c.requires.3))

pub back-returns : goal.back-returns
back-returns t c =
    let a = c.args in
    let r = c.requires.0.able in
    let is = coded_at r c.field-code.ensures in
    let some = not_as c.if-shape-eq-NONE.false (c.shape.ensures (op r) is) in
    let some_first = not_as c.if-shape-eq-NONE-2.false (c.shape-2.ensures (op r) is) in
    let binds = c.shape-3.ensures (op r) is in (
      below_then c.back-2.ensures.0 c.over.ensures.0,
      λ k traced marks.
          over_covers r k a.set (omega (arith, c.if-set-eq0.false)) c.requires.2 a.sheet.now.objects.now a.n.objects some (to_second_lem r k a.set a.floored.now (c.pass-to.ensures (op r) is) marks)
          some_first refl (c.pass-to_first.ensures (op r) is) (few r) c.if-back-2.false (c.back-2.ensures.1 k traced (first_marks r k a.floored.now some some_first marks)) c.over.ensures.0 (sym binds ∙ c.if-shape-ne-COLLECTION.false) (c.over.ensures.1 k traced marks),
    )

-- ---- what `over` reads

module _ {S : Schema} {w : Site} {starts : List ℕ} {e : ℕ} {vars : List ℕ} {depth : ℕ} (able : OverAble S w starts e vars depth) where
  over_few : w.counts.objects ≤ 1024
  over_few = able.first.indexed.indexable.few

  over_inside : e - 1 < 64
  over_inside = let h = able.positive in omega (arith, able.few)

-- ---- the needs of `over`, in the order of the code

pub over-overflow_sub-row : goal.over-overflow_sub-row
over-overflow_sub-row t c = c.requires.0.able.positive

pub over-clear-requires : goal.over-clear-requires
over-clear-requires t c = (c.requires.0.self, c.requires.0.able.deep, over_few c.requires.0.able, c.requires.3.inner)

pub over-overflow_add-inner : goal.over-overflow_add-inner
over-overflow_add-inner t c = let h = c.requires.0.able.deep in omega arith

pub over-back-requires : goal.over-back-requires
over-back-requires t c =
    let a = c.args in
    let w = site_of a.n a.sheet.now.types.now a.sheet.now.objects.now a.sheet.now.links.now a.index.now a.sheet.now.bodies.now a.at.0 in
    let o = c.requires.0.able in
    let vars = c.requires.0.vars in
    let row = get_or vars 0 0 in
    let h = o.positive in
    let part = o.inner row (set vars a.at.2 row) refl (o.first.there 0 c.requires.0.self) in
    let walkable : Walkable w a.spans.now (a.at.1 - 1) (a.at.2 + 1) = record { schema = c.requires.0.schema; vars = set vars a.at.2 row; able = part; self = omega arith } in
    (omega (arith, c.decreases), (walkable, c.requires.1, omega (arith, c.requires.2), room_kept (c.clear.ensures a.marks.now).long c.requires.3))

pub over-returns-then-back : goal.over-returns-then-back
over-returns-then-back t c = (below_then (cleared_below (c.clear.ensures c.args.marks.now)) (below_less c.back.ensures.0), λ k traced marks. covered_all)

pub over-overflow_cast-from : goal.over-overflow_cast-from
over-overflow_cast-from t c = let h = over_inside c.requires.0.able in omega arith

pub over-offset_bounds-spans-from : goal.over-offset_bounds-spans-from
over-offset_bounds-spans-from t c = let h = over_inside c.requires.0.able in omega arith

pub over-bounds-spans-from : goal.over-bounds-spans-from
over-bounds-spans-from t c = let h = over_inside c.requires.0.able in omega arith

pub over-image-requires : goal.over-image-requires
over-image-requires t c =
    let a = c.args in
    let o = c.requires.0.able in
    let emptied = cleared_below (c.clear.ensures a.marks.now) in
    ((a.sheet.now.types.now, c.requires.0.vars, o.first), o.deep, room_kept c.back.ensures.0.long (room_kept emptied.long c.requires.3))

pub over-returns : goal.over-returns
over-returns t c =
    let a = c.args in
    let w = site_of a.n a.sheet.now.types.now a.sheet.now.objects.now a.sheet.now.links.now a.index.now a.sheet.now.bodies.now a.at.0 in
    let o = c.requires.0.able in
    let depth = a.at.2 in
    let emptied = cleared_below (c.clear.ensures a.marks.now) in
    let grown = grown_below depth c.image.ensures.0 in (
      below_then emptied (below_then (below_less c.back.ensures.0) grown),
      λ k traced marks.
          let inner = c.back.ensures.1 k traced (rows_less (omega arith) marks) in
          covered_then (over_few o) c.if-back.false (covered_less inner) grown
          (c.image.ensures.1 k traced.seen.end_is (reached_by k (form_at w (a.at.1 - 1)) (depth + 1) a.dirs depth) (λ row h e. inner.each c.if-back.false depth (omega arith) row h e)),
    )
