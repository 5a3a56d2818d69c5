-- `row_sets::put_back` meets its contract. The loop's invariant: the marks only grow, and what the rows that were passed lead to is marked. The
-- measure is what is left of the rows.
use Prim.Native.Nat.{ℕ, ◌≤◌, ◌<◌}
use mathlib.Core.Path.{◌≡◌}
use mathlib.Core.Bool.{true}
use mathlib.Core.List.{List}
use Rattle.meaning.specs.Lists.{◌∈◌}
use Rattle.meaning.specs.Register.{far_ends}
use Rattle.tables.specs.Columns.{register_of}
use Rattle.tables.specs.declared.Counts.{Counts}
use Rattle.walks.specs.Site.{id_in}
use Rattle.row_sets.specs.Sets.{Sets, sets_of, in_set, Grown}
use Rattle.row_sets.proofs.put_back.Given as goal

-- what row x leads to is marked, if it was in the set
abbrev pub Led : Counts → List ℕ → List ℕ → ℕ → ℕ → ℕ → Sets → Sets → ℕ → Type 0
Led n objects links role from v before after x =
    in_set before from x ≡ true
    → (y : ℕ)
    → y < n.objects
    → id_in objects y ∈ far_ends (register_of n.objects objects n.links links) role (id_in objects x)
    → in_set after v y ≡ true

abbrev pub invariant-loop-row : goal.invariant-loop-row
invariant-loop-row l =
    (Grown (sets_of l.initial.marks l.initial.sets) (sets_of l.marks l.sets)) × (l.row ≤ l.n.objects) × ((x : ℕ) → x < l.row → Led l.n l.objects l.links l.role l.from l.v (sets_of l.initial.marks l.initial.sets) (sets_of l.marks l.sets) x)
