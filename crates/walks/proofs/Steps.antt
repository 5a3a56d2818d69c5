-- Steps of a walk: none is left, or the first that was left and the others after it.
use Prim.Native.Nat.{ℕ, suc, ◌<◌}
use mathlib.Core.Path.{◌≡◌, ap, subst}
use mathlib.Core.List.{List, []}
use native.Mathlib.Omega.{arith}
use lib.ListN.{length}
use Rattle.walks.specs.Walks.{Went, Stepped}
use Rattle.walks.specs.declared.Member.{Member}
use Rattle.std.specs.Prelude.{Some, None}

module _ {objects : List ℕ} {count : ℕ} {left : ℕ → List ℕ} {May : ℕ → Type 0} {word : ℕ} where
  pub stepped_done : left word ≡ [] → Stepped objects count left May word None
  stepped_done e = record { done = λ q. e; went = λ m q. let z : ◌≡◌ {A = ℕ} 0 1 = cc in absurd (omega arith) }

  pub stepped_at : {m : Member} → Went objects count left May word m.row m.next → Stepped objects count left May word (Some m)
  stepped_at {m} w =
      record {
        done = λ q. let z : ◌≡◌ {A = ℕ} 0 1 = cc in absurd (omega arith);
        went = λ o q. let e : m ≡ o = cc in subst (λ x. Went objects count left May word x.row x.next) e w;
      }

  pub fewer_left : {row on : ℕ} → Went objects count left May word row on → length (left on) < length (left word)
  fewer_left w = rw w.member (omega arith)

  pub one_fewer : {row on : ℕ} → Went objects count left May word row on → length (left word) ≡ suc (length (left on))
  one_fewer w = ap length w.member
