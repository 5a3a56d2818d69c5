-- The words of a table with a slot more at the head of its chain.
use Prim.Native.Nat.{ℕ, suc, ◌+◌, ◌<◌}
use mathlib.Core.Path.{◌≡◌, ◌∙◌}
use mathlib.Core.List.{List}
use native.Mathlib.Omega.{arith}
use lib.ListN.{length, get_or, set, length-set}
use lib.Seq.{get_or-set_same, get_or-set_other}
use Rattle.chains.specs.Chains.{pushed}

module _ (table : List ℕ) (slot row nexts head : ℕ) where
  abbrev held : List ℕ
  held = set table slot row

  abbrev linked : List ℕ
  linked = set held (nexts + slot) (get_or table head 0)

  pub pushed_room : {size : ℕ} → length table ≡ size → length (pushed table slot row nexts head) ≡ size
  pushed_room room = simp length-set room

  pub pushed_other : (k : ℕ) → (k ≡ slot → ⊥) → (k ≡ nexts + slot → ⊥) → (k ≡ head → ⊥) → get_or (pushed table slot row nexts head) k 0 ≡ get_or table k 0
  pushed_other k a b c =
      get_or-set_other linked head k (suc slot) 0 c ∙ get_or-set_other held (nexts + slot) k (get_or table head 0) 0 b ∙ get_or-set_other table slot k row 0 a

  -- slots come before their next slots, and these before the heads
  module _ (apart : 0 < nexts) (ahead : nexts + slot < head) (within : head < length table) where
    pub pushed_row : get_or (pushed table slot row nexts head) slot 0 ≡ row
    pushed_row =
        get_or-set_other linked head slot (suc slot) 0 (λ e. omega arith)
        ∙ get_or-set_other held (nexts + slot) slot (get_or table head 0) 0 (λ e. omega arith)
        ∙ get_or-set_same table slot row 0 (omega arith)

    pub pushed_next : get_or (pushed table slot row nexts head) (nexts + slot) 0 ≡ get_or table head 0
    pushed_next =
        get_or-set_other linked head (nexts + slot) (suc slot) 0 (λ e. omega arith)
        ∙ get_or-set_same held (nexts + slot) (get_or table head 0) 0 (simp length-set (omega arith))

    pub pushed_head : get_or (pushed table slot row nexts head) head 0 ≡ suc slot
    pushed_head = get_or-set_same linked head (suc slot) 0 (simp length-set (omega arith))
