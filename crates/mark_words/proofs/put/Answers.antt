-- `mark_words::put` meets its contract.
use Prim.Native.Nat.{ℕ, suc, ◌+◌, ◌/◌, ◌%◌}
use mathlib.Core.Path.{◌≡◌, ap₂, ◌∙◌}
use mathlib.Core.List.{List}
use native.Mathlib.Omega.{arith}
use lib.ListN.{set}
use lib.Seq.{sets-eq}
use Rattle.type_marks.specs.Marks.{words_at}
use Rattle.mark_words.proofs.put.Goals as goal

pub returns : goal.returns
returns c =
    let a = c.args in
    let put : ℕ → ℕ → List ℕ = λ i j. set (set (set a.list.now a.at (a.place / 256)) i (a.place / 8 % 32)) j (a.place % 8) in
    let next : a.at + 1 ≡ suc a.at = omega arith in
    let last : a.at + 2 ≡ suc (suc a.at) = omega arith in
    ap₂ put next last ∙ sets-eq (words_at a.place) a.list.now a.at c.requires.1
