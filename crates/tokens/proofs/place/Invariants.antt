-- `tokens::place` meets its contract. The loop's invariant: letters that are the value are found from k on as among all names.
use Prim.Native.Nat.{ℕ, ◌≤◌}
use mathlib.Core.Path.{◌≡◌}
use mathlib.Core.Bool.{true}
use mathlib.Core.List.{List}
use lib.ListN.{drop}
use Rattle.meaning.specs.Lists.{every}
use Rattle.text.specs.Names.{names, name_count, is_letter, place_from, place_of}
use Rattle.tokens.specs.Tokens.{packed}
use Rattle.tokens.proofs.place.Given as goal

abbrev pub invariant-loop-k : goal.invariant-loop-k
invariant-loop-k s0 =
    (s0.k ≤ name_count) × ((l : List ℕ) → every is_letter l ≡ true → packed l ≡ s0.value → place_from l s0.k (drop s0.k names) ≡ place_of l)
