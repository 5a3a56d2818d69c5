-- Document 01, "Body forms": the meaning of every form, as in OCL 2.4; when a rule is broken and when it holds.
use Rattle.std.specs.Prelude.{ℕ, Bool, ◌&&◌, ◌||◌, not, List, [], ◌∷◌, map, length, ℤ, pos, ◌+ℤ◌, ◌-ℤ◌}
use Rattle.std.specs.Int.Signed.{le_z, lt_z}
use Rattle.meaning.specs.Lists.{any, every, keep}
use Rattle.meaning.specs.Schema.{ObjectType}
use Rattle.meaning.specs.Register.{Register, is_under, cell_at, instances, far_ends}
use Rattle.meaning.specs.Forms.{Sort, truth, number, collection, Comparison, le, lt, eq, ne, ge, gt, Connective, and, or, xor, implies, Quantifier, forall, exists, Arithmetic, add, sub, Form}
use Rattle.meaning.specs.Forms.{compare, negate, connect, quantify, kind, num, cell, size, sum, combine, role, all, select, bind, variable, Rule, Book}

-- A truth is true or false, a number is exact, and "all collections are sets": the members' ids, ascending, none twice.
abbrev pub Value : Sort → Type 0
Value truth = Bool
Value number = ℤ
Value collection = List ℕ

unfoldable pub compared : Comparison → ℤ → ℤ → Bool
compared le a b = le_z a b
compared lt a b = lt_z a b
compared eq a b = le_z a b && le_z b a
compared ne a b = not (le_z a b && le_z b a)
compared ge a b = le_z b a
compared gt a b = lt_z b a

unfoldable pub connected : Connective → Bool → Bool → Bool
connected and a b = a && b
connected or a b = a || b
connected xor a b = (a && not b) || (not a && b)
connected implies a b = not a || b

-- "Over nothing, forall is true, exists false"
unfoldable pub quantified : Quantifier → (ℕ → Bool) → List ℕ → Bool
quantified forall p members = every p members
quantified exists p members = any p members

unfoldable pub combined : Arithmetic → ℤ → ℤ → ℤ
combined add a b = a +ℤ b
combined sub a b = a -ℤ b

-- the sum of a list, 0 over nothing
unfoldable pub total : List ℤ → ℤ
total [] = pos 0
total (n ∷ ns) = n +ℤ total ns

-- The value of a form in a register, by the ids that the variables stand for.
unfoldable pub meaning : {s : Sort} → List ObjectType → Register → Form s → List ℕ → Value s
meaning types g (compare o a b) vs = compared o (meaning types g a vs) (meaning types g b vs)
meaning types g (negate a) vs = not (meaning types g a vs)
meaning types g (connect o a b) vs = connected o (meaning types g a vs) (meaning types g b vs)
meaning types g (quantify q c b) vs = quantified q (λ x. meaning types g b (bind vs x)) (meaning types g c vs)
meaning types g (kind v t) vs = is_under types g (variable vs v) t
meaning types g (num n) vs = n
meaning types g (cell v k) vs = cell_at g (variable vs v) k
meaning types g (size c) vs = pos (length (meaning types g c vs))
meaning types g (sum c k) vs = total (map (λ x. cell_at g x k) (meaning types g c vs))
meaning types g (combine o a b) vs = combined o (meaning types g a vs) (meaning types g b vs)
meaning types g (role v r) vs = far_ends g r (variable vs v)
meaning types g (all t) vs = instances types g t
meaning types g (select c b) vs = keep (λ x. meaning types g b (bind vs x)) (meaning types g c vs)

-- "A rule is *broken* at an object under its context type where its body, self that object, is not true"
unfoldable pub broken : List ObjectType → Register → Rule → ℕ → Bool
broken types g r s = is_under types g s r.context && not (meaning types g r.body (s ∷ []))

-- "it *holds* when broken at none"
unfoldable pub rule_holds : List ObjectType → Register → Rule → Bool
rule_holds types g r = every (λ s. not (broken types g r s)) (instances types g r.context)

unfoldable pub book_holds : Book → Register → Bool
book_holds k g = every (rule_holds k.schema.types g) k.rules
