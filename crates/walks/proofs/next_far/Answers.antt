-- `walks::next_far` meets its contract.
use Prim.Native.Nat.{ℕ, zero, suc, ◌+◌, ◌-◌}
use mathlib.Core.Path.{◌≡◌, refl, sym, ap, ap₂, ◌∙◌}
use mathlib.Core.List.{List}
use native.Mathlib.Omega.{arith}
use lib.ListN.{get_or}
use Rattle.walks.specs.Walks.{far_step}
use Rattle.std.specs.Prelude as Std
use Rattle.std.specs.Prelude.{Some}
use Rattle.walks.specs.declared.Member.{Member}
use Rattle.walks.proofs.next_far.Goals as goal

abbrev member : ℕ → ℕ → Std.Option Member
member row next = Some (record { row = row; next = next })

at_slot : (index : List ℕ) (word : ℕ) → (word ≡ 0 → ⊥) → member (get_or index (word - 1) 0) (get_or index (8192 + (word - 1)) 0) ≡ far_step index word
at_slot index zero h = absurd (h refl)
at_slot index (suc s) h = let e : suc s - 1 ≡ s = omega arith in ap (λ k. member (get_or index k 0) (get_or index (8192 + k) 0)) e

pub returns-then-word-eq0 : goal.returns-then-word-eq0
returns-then-word-eq0 c = ap (far_step c.args.index.now) (sym c.if-word-eq0.true)

pub returns : goal.returns
returns c =
    ap₂ member c.far_row.ensures c.next_slot.ensures
    ∙ at_slot c.args.index.now c.args.word c.if-word-eq0.false
