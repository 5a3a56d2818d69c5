-- Which rows of a body are sums over a floored cell.
use Prim.Native.Nat.{ℕ, zero, suc, ◌+◌, ◌≤◌, ◌<◌}
use mathlib.Core.Path.{◌≡◌, refl, sym, subst, ◌∙◌}
use mathlib.Core.Bool.{Bool, true, false}
use mathlib.Core.Logic.{⊎_elim}
use mathlib.Core.List.{List, [], ◌∷◌}
use native.Mathlib.Nat.{eq-or-lt_of_le}
use native.Mathlib.Omega.{arith}
use lib.Dec.{T, leb}
use lib.ListN.{length, get_or, set}
use lib.Seq.{get_or-set_same, get_or-set_other}
use mir.Facts.{and_yes}
use borrow.Author.Tests.{leb-true, leb-false}
use Rattle.meaning.specs.Forms.{Sort, collection}
use Rattle.meaning.specs.Schema.{Schema}
use Rattle.tables.specs.Codes.{shape_of}
use Rattle.tables.specs.Bodies.{BodyRow, RowsRead, reads, parts_fit, start_of, ending, first_part, second_part, whole_body}
use Rattle.tables.proofs.Readings.{ending_start, node, only_fits, both_fit}
use Rattle.tables.proofs.Forms.{whole_body_lem}
use Rattle.typing.specs.Types.{floored_at, FlooredRows}
use Rattle.typing.proofs.Types.{sums_here}

-- ---- each row of a form is the last of one

abbrev Last : (ℕ → BodyRow) → ℕ → ℕ → Type 0
Last rows k e = T (ending rows e).sound → (ending rows e).start ≤ k → k < e → T (ending rows (suc k)).sound

-- .. if it is so of the parts
by_node : (rows : ℕ → BodyRow) (k i : ℕ) → ((e : ℕ) → e ≤ i → Last rows k e) → Last rows k (suc i)
unfolding start_of
by_node rows k i parts_last sound from below =
    ⊎_elim
    (λ (q : k ≡ i). subst (λ j. T (ending rows (suc j)).sound) (sym q) sound)
    (λ (q : k < i). let d = node rows i sound in by_parts q (shape_of d.operator).parts d.parts d.start)
    (eq-or-lt_of_le (omega arith))
  where
    second : RowsRead
    second = second_part rows i

    in_second : k < i → T second.sound → second.start ≤ k → T (ending rows (suc k)).sound
    in_second q t l = parts_last i (omega arith) t l q

    in_first : T (first_part rows i).sound → (first_part rows i).start ≤ k → k < second.start → T (ending rows (suc k)).sound
    in_first t l q = parts_last second.start (ending_start rows i) t l q

    in_either : k < i → T second.sound → T (first_part rows i).sound → (first_part rows i).start ≤ k → (b : Bool) → leb second.start k ≡ b → T (ending rows (suc k)).sound
    in_either q t f l true h = in_second q t (leb-true second.start k h)
    in_either q t f l false h = in_first f l (leb-false second.start k h)

    by_parts : k < i → (parts : List Sort) → T (parts_fit parts i (first_part rows i) second) → (ending rows (suc i)).start ≡ start_of parts i (first_part rows i).start second.start → T (ending rows (suc k)).sound
    by_parts q [] t s = absurd (omega arith)
    by_parts q (p ∷ []) t s = in_second q (and_yes second.sound _ (only_fits p i (first_part rows i) second t).1).0 (omega arith)
    by_parts q (p ∷ r ∷ more) t s =
        let fits = both_fit p r more i (first_part rows i) second t in
        in_either q (and_yes second.sound _ fits.1).0 (and_yes (first_part rows i).sound _ fits.3).0 (omega arith) (leb second.start k) refl

rows_last : (rows : ℕ → BodyRow) (k n e : ℕ) → e ≤ n → Last rows k e
rows_last rows k zero e h sound from below = absurd (omega arith)
rows_last rows k (suc n) zero h sound from below = absurd (omega arith)
rows_last rows k (suc n) (suc i) h sound from below = by_node rows k i (λ e l. rows_last rows k n e (omega arith)) sound from below

-- a sum of a whole body is over a collection
pub sums_collect : (rows : ℕ → BodyRow) (size row : ℕ) → T (whole_body rows size) → row < size → (rows row).code ≡ 17 → T (reads collection (ending rows row))
sums_collect rows size row whole h =
    let w = whole_body_lem rows size whole in
    let from : (ending rows size).start ≤ row = omega (arith, w.start) in
    sums_here rows row (rows_last rows row size size (omega arith) w.sound from h)

-- ---- the marks

module _ {S : Schema} {rows : ℕ → BodyRow} where
  -- one row more
  pub rows_more : {n : ℕ} {floored : List Bool} (b : Bool) → n < length floored → FlooredRows S rows n floored → b ≡ floored_at S (rows n).code (rows n).x (ending rows n).form → FlooredRows S rows (n + 1) (set floored n b)
  rows_more {n} {floored} b room before e =
      record {
        each = λ k h.
            ⊎_elim
            (λ (q : k ≡ n). subst (λ j. get_or (set floored n b) j false ≡ floored_at S (rows j).code (rows j).x (ending rows j).form) (sym q) (get_or-set_same floored n b false room ∙ e))
            (λ (q : k < n). get_or-set_other floored n k b false (λ z. omega arith) ∙ before.each k q)
            (eq-or-lt_of_le (omega arith));
      }

  -- fewer rows
  pub rows_less : {n m : ℕ} {floored : List Bool} → m ≤ n → FlooredRows S rows n floored → FlooredRows S rows m floored
  rows_less h f = record { each = λ k l. f.each k (omega arith) }
