-- `register_faults::faults::object_fits` meets its contract. Each return has met the tests that decide `object_fits`.
use Prim.Native.Nat.{ℕ, ◌≤◌, ◌<◌}
use mathlib.Core.Path.{◌≡◌, sym, ap, ◌∙◌}
use mathlib.Core.Bool.{Bool, ◌&&◌, not}
use mathlib.Core.List.{List}
use native.Mathlib.Omega.{arith}
use borrow.Author.Tests.{lt-ltb, le-ltb, le-leb, lt-leb}
use Rattle.meaning.specs.Limits.{valid_id}
use Rattle.meaning.specs.Schema.{ObjectType, known_type}
use Rattle.meaning.specs.Register.{Object, cells_fit, below_floor, object_fits}
use Rattle.tables.specs.Columns.{object_row, types_of, floors_of}
use Rattle.schema.proofs.Tests.{and-false}
use Rattle.schema.proofs.Types.{type_known}
use Rattle.register.proofs.Cells.{row_cells}
use Rattle.register_faults.proofs.faults.object_fits.Goals as goal
use Rattle.register_faults.proofs.faults.object_fits.Lts as lts
use Rattle.register_faults.proofs.faults.object_fits.Reads as reads
use Rattle.register_faults.proofs.faults.object_fits.Tie as tie

none : {id : ℕ} → id ≡ 0 → id < 1
none e = omega arith

least : {id : ℕ} → (id ≡ 0 → ⊥) → 1 ≤ id
least d = omega arith

pub returns-then-id-eq0 : goal.returns-then-id-eq0
unfolding object_fits valid_id
returns-then-id-eq0 c = simp (← c.id_of-id.ensures, lt-leb _ _ (none c.if-id-eq0.true))

pub returns-then-id-gt-MAX_ID : goal.returns-then-id-gt-MAX_ID
unfolding object_fits valid_id
returns-then-id-gt-MAX_ID c = simp (← c.id_of-id.ensures, lt-leb _ _ c.if-id-gt-MAX_ID.true, and-false)

pub returns-then-t-type_count : goal.returns-then-t-type_count
unfolding object_fits
returns-then-t-type_count c = simp (← c.type_of-t.ensures, type_known, le-ltb _ _ c.if-t-type_count.true, and-false)

-- ---- places of the code, and the tests of the row that are met there
abbrev known : lts.After-zero_from tie.the-claims reads.Pre reads.Post → lts.Else3 tie.the-claims reads.Pre reads.Post
known c = c.before.before

abbrev start : lts.Else3 tie.the-claims reads.Pre reads.Post → lts.Start tie.the-claims reads.Pre reads.Post
start c = c.before.before.before.before.before.before.before.before

abbrev its-types : lts.Start tie.the-claims reads.Pre reads.Post → List ObjectType
its-types s = types_of s.args.type_count s.args.types.now

abbrev object : lts.Start tie.the-claims reads.Pre reads.Post → Object
object s = object_row s.args.objects.now s.args.row

abbrev below : lts.Start tie.the-claims reads.Pre reads.Post → ℕ → Bool
below s t = below_floor (its-types s) (floors_of s.args.floor_count s.args.floors.now) t (object s).cells

-- the limits but for its floors
limits : (c : lts.After-zero_from tie.the-claims reads.Pre reads.Post) → let s = start (known c) in (valid_id (object s).id && known_type (its-types s) (object s).type && cells_fit (its-types s) (object s)) ≡ c.zero_from.result
unfolding valid_id cells_fit
limits c =
    let type = (known c).before in
    sym
    (simp (
      row_cells,
      ← type.id_of-id.ensures,
      le-leb _ _ (least type.if-id-eq0.false),
      le-leb _ _ type.if-id-gt-MAX_ID.false,
      ← type.type_of-t.ensures,
      type_known,
      lt-ltb _ _ (known c).if-t-type_count.false,
      ← c.cells_of.ensures,
    )
    c.zero_from.ensures)

pub returns-then-zero_from : goal.returns-then-zero_from
unfolding object_fits
returns-then-zero_from c =
    let s = start (known c.before.before.before) in
    ap not (c.below_floor.ensures ∙ ap (below s) (known c.before.before.before).type_of-t.ensures)
    ∙ ap (λ b. b && not (below s (object s).type)) (sym (limits c.before.before.before ∙ c.if-zero_from.true))

pub returns-else-zero_from : goal.returns-else-zero_from
unfolding object_fits
returns-else-zero_from c =
    let s = start (known c.before.before) in
    ap (λ b. b && not (below s (object s).type)) (sym (limits c.before.before ∙ c.if-zero_from.false))
