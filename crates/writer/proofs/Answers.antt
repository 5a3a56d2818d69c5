-- The writer's answer by what was put into its buffer.
use Prim.Native.Nat.{ℕ, ◌+◌, ◌≤◌, ◌<◌}
use Rattle.tables.specs.Refusals.{refused_by}
use mathlib.Core.Path.{◌≡◌, sym, ap, ◌∙◌}
use mathlib.Core.List.{List, ◌++◌}
use native.Mathlib.Nat.{zero-add}
use native.Mathlib.Omega.{arith}
use native.Mathlib.Decide.{dec_le}
use borrow.Author.Tests.{lt-ltb, le-ltb}
use lib.ListN.{length, take, drop}
use lib.Seq.{take_at}
use Rattle.lexical.specs.Writing.{written}
use Rattle.lexical.proofs.Writing.{fits_place, over_place, text_is}
use Rattle.line_writer.specs.Put.{Put}
use Rattle.writer.specs.Answers.{Answered, text_refusal, bytes_after}
use Rattle.std.specs.Prelude.{Ok}

-- text put from the start of a buffer of 65,536 bytes
module _ {d s e : List ℕ} {p : ℕ} (put : Put d 0 s e p) (size : length d ≡ 65536) where
  large : 65536 < p → 65536 < length s
  large h = go (dec_le (0 + length s) (length d))
    where
      go : Dec (0 + length s ≤ length d) → 65536 < length s
      go (yes k) = omega (arith, put.place, fits_place d 0 s k)
      go (no k) = omega arith

  small : p ≤ 65536 → length s ≤ 65536
  small h = go (dec_le (0 + length s) (length d))
    where
      go : Dec (0 + length s ≤ length d) → length s ≤ 65536
      go (yes k) = omega arith
      go (no k) = omega (arith, put.place, over_place d 0 s (omega arith))

  long : p ≤ 65536 → p ≡ length s
  long h = let k = small h in put.place ∙ fits_place d 0 s (omega arith) ∙ zero-add (length s)

  pub put_large : (out : List ℕ) → 65536 < p → Answered (refused_by 2 0) out (text_refusal s (length out)) s out
  unfolding text_refusal bytes_after
  put_large out h = let k = lt-ltb 65536 (length s) (large h) in record { answer_is = rw k; bytes = rw k }

  pub put_unlent : (out : List ℕ) → p ≤ 65536 → length out < p → Answered (refused_by 14 0) out (text_refusal s (length out)) s out
  unfolding text_refusal bytes_after
  put_unlent out h k =
      let l = long h in
      let a = le-ltb 65536 (length s) (small h) in
      let b = lt-ltb (length out) (length s) (omega arith) in
      record { answer_is = rw (a, b); bytes = rw (a, b) }

  -- the buffer's first p bytes are the text
  front : p ≤ 65536 → take p e ≡ s
  front h =
      let l = long h in
      let k = small h in
      ap (take p) (put.text (omega arith) ∙ text_is d 0 s (omega arith)) ∙ take_at s (drop (0 + length s) d) p (sym l)

  pub put_done : (out : List ℕ) → p ≤ 65536 → p ≤ length out → {f : List ℕ} → f ≡ written out 0 (take p e) → Answered (Ok p) f (text_refusal s (length out)) s out
  unfolding text_refusal bytes_after
  put_done out h k {f} w =
      let l = long h in
      let a = le-ltb 65536 (length s) (small h) in
      let b = le-ltb (length out) (length s) (omega arith) in
      record {
        answer_is = rw (a, b) (ap Ok l);
        bytes = w ∙ rw (a, b) (ap (written out 0) (front h) ∙ text_is out 0 s (omega arith) ∙ ap (λ j. s ++ drop j out) (zero-add (length s)));
      }
