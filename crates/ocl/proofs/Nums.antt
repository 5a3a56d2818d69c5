-- What a form computes is small.
use Prim.Native.Nat.{ℕ, ◌^◌, ◌≤◌}
use mathlib.Core.Path.{◌≡◌, sym, ap}
use mathlib.Core.List.{List}
use native.Mathlib.Nat.{le_trans}
use native.Mathlib.Omega.{arith}
use lib.Dec.{T}
use lib.ListN.{length}
use lib.IntN.{nat_abs}
use mir.Facts.{and_yes}
use Rattle.meaning.specs.Forms.{Sort, number, form_count}
use Rattle.meaning.specs.Meaning.{meaning}
use Rattle.meaning.proofs.Collections.{members_count}
use Rattle.meaning.proofs.Bounds.{number_small}
use Rattle.tables.specs.Bodies.{Part, sort_of, same_sort, as_number, ending}
use Rattle.tables.specs.Columns.{object_row}
use Rattle.tables.proofs.Readings.{is_number}
use Rattle.tables.proofs.Forms.{part_count, count_read}
use Rattle.schema.proofs.Rows.{length_rows}
use Rattle.walks.specs.Site.{Site, types_at, register_at, rows_at, form_at, ids_of}
use Rattle.walks.specs.Values.{number_of}
use Rattle.walks.specs.Walks.{collection_at}
use Rattle.ocl.specs.Ready.{scoped, Ready}
use Rattle.ocl.proofs.Steady.{collections}

number_count : (p : Part) → T (same_sort number (sort_of p)) → form_count (as_number p) ≡ part_count p
unfolding part_count
number_count p t = sym (ap part_count (is_number p t))

module _ {w : Site} {starts : List ℕ} {e : ℕ} {vars : List ℕ} {depth : ℕ} where
  pub members_few : {s : Sort} → Ready w starts e vars depth s → (k : ℕ) → length (meaning (types_at w) (register_at w) (collection_at w k) (ids_of w depth vars)) ≤ 1024
  members_few ready k =
      let h = ready.indexed.indexable.few in
      let rows = length_rows (object_row w.objects) w.counts.objects in
      le_trans (members_count (types_at w) (register_at w) (collections ready.steady) (collection_at w k) (ids_of w depth vars)) (omega arith)

  pub number_within : Ready w starts e vars depth number → nat_abs (number_of w e vars depth) ≤ 2 ^ 47
  unfolding number_of scoped
  number_within ready =
      let r = and_yes (ending (rows_at w) e).sound (same_sort number (sort_of (form_at w e))) ready.read in
      let count = count_read (rows_at w) ready.words e r.0 in
      let f = as_number (form_at w e) in
      let forms : form_count f ≤ 64 = omega (arith, number_count (form_at w e) r.1, ready.few) in
      let rows = length_rows (object_row w.objects) w.counts.objects in
      let few = ready.indexed.indexable.few in
      number_small (types_at w) (register_at w) ready.steady.cells (λ c vs. le_trans (members_count (types_at w) (register_at w) (collections ready.steady) c vs) (omega arith))
      (scoped depth) (λ n fits. fits) (λ o a b. and_yes (scoped depth a) (scoped depth b)) f ready.in_scope forms (ids_of w depth vars)
