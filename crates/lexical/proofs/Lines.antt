-- A text is its first line and what follows it.
use Prim.Native.Nat.{ℕ, ◌+◌, ◌-◌}
use mathlib.Core.Path.{◌≡◌, refl, sym, ap, ◌∙◌}
use mathlib.Core.Bool.{true}
use mathlib.Core.List.{List, ◌∷◌, ◌++◌}
use native.Mathlib.Omega.{arith}
use lib.Dec.{eqb}
use lib.ListN.{length, get_or, take, drop, take-append-drop}
use lib.Seq.{get_or-drop, get_or-append_seam}
use Rattle.meaning.specs.Lists.{every}
use Rattle.lexical.specs.Lines.{is_inner, line_in, line_ended}
use Rattle.lexical.proofs.Runs.{take_run, run_passes, run_append}

-- a line has no byte 10, and the text goes on after it
pub line_inner : (l : List ℕ) → every is_inner (line_in l) ≡ true
line_inner = run_passes is_inner

pub line_split : (l : List ℕ) → l ≡ line_in l ++ drop (length (line_in l)) l
line_split l = sym (ap (λ (s : List ℕ). s ++ drop (length (line_in l)) l) (sym (take_run is_inner l)) ∙ take-append-drop (length (line_in l)) l)

-- what has no byte 10, and a byte 10 after it, is a line that is ended
pub line_append : (s rest : List ℕ) → every is_inner s ≡ true → line_in (s ++ 10 ∷ rest) ≡ s
line_append s rest e = run_append is_inner s (10 ∷ rest) 0 e refl

pub ended_append : (s rest : List ℕ) → every is_inner s ≡ true → line_ended (s ++ 10 ∷ rest) ≡ true
ended_append s rest e = rw (line_append s rest e, get_or-append_seam s 10 rest 0)

-- the line at a place, by where it ends
module _ (t : List ℕ) (i e : ℕ) (h : e ≡ i + length (line_in (drop i t))) where
  pub line_part : take (e - i) (drop i t) ≡ line_in (drop i t)
  line_part =
      let k : e - i ≡ length (line_in (drop i t)) = omega arith in
      rw k (take_run is_inner (drop i t))

  pub ended_at_lem : eqb (get_or t e 0) 10 ≡ line_ended (drop i t)
  ended_at_lem = rw h (ap (λ (b : ℕ). eqb b 10) (sym (get_or-drop i t (length (line_in (drop i t))) 0)))
