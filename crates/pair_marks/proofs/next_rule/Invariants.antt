-- `pair_marks::next_rule` meets its contract: every word of the rules from the first up to the word is 0.
use Prim.Native.Nat.{ℕ, ◌-◌, ◌*◌, ◌≤◌, ◌<◌}
use Rattle.pair_marks.proofs.Words.{Unmarked}
use Rattle.pair_marks.proofs.next_rule.Given as goal

abbrev pub invariant-loop-word : goal.invariant-loop-word
invariant-loop-word l = (l.from * 32 ≤ l.word) × (l.word ≤ 1024) × ((k : ℕ) → l.from * 32 ≤ k → k < l.word → Unmarked l.marks k)
