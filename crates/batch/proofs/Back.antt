-- A copy's rows brought back into its table: the rows' words, and zeros past them.
use Prim.Native.Nat.{ℕ, ◌*◌, ◌-◌, ◌≤◌}
use mathlib.Core.Path.{◌≡◌, sym, ap, ap₂, ◌∙◌}
use mathlib.Core.Bool.{true, ◌&&◌, cond}
use mathlib.Core.List.{List, ◌++◌, flat_map}
use native.Mathlib.Omega.{arith}
use borrow.Author.Tests.{le-leb}
use lib.ListN.{length, take, drop, replicate, length-append, length-drop}
use lib.Seq.{take_at, length-take-le}
use Rattle.rows.specs.Rows.{word_at, read_rows, padded, cleared_past, copied}
use Rattle.rows.proofs.Fronts.{rows_words}
use Rattle.batch.specs.Settled.{brought_back}

module _ {A : Type 0} (width : ℕ) (table copy : List ℕ) (used : ℕ) (row : ℕ → A) (columns : A → List ℕ)
    (back : (i : ℕ) → columns (row i) ≡ read_rows (word_at copy width i) width) (lent : used * width ≤ length table) (there : used * width ≤ length copy) where
  front : copied table copy (used * width) ≡ take (used * width) copy ++ drop (used * width) table
  unfolding copied
  front = rw (le-leb _ _ lent, le-leb _ _ there)

  pub back_is : brought_back table copy width used ≡ padded (length table) (flat_map columns (read_rows row used))
  unfolding cleared_past
  back_is =
      let k = used * width in
      let held : length (take k copy) ≡ k = length-take-le k copy there in
      let words : flat_map columns (read_rows row used) ≡ take k copy = rows_words width copy row columns used back there in
      let long : length (copied table copy k) ≡ length table = ap length front ∙ length-append (take k copy) (drop k table) ∙ omega (arith, held, length-drop k table) in
      ap₂ (λ l m. l ++ replicate (m - k) 0) (ap (take k) front ∙ take_at (take k copy) (drop k table) k held) long
      ∙ ap (λ m. take k copy ++ replicate (length table - m) 0) (sym held)
      ∙ ap (padded (length table)) (sym words)
