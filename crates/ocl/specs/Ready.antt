-- What the evaluators of a rule's body are given.
use Rattle.std.specs.Prelude.{ℕ, suc, ◌+◌, ◌*◌, ◌^◌, ◌≤◌, ◌<◌, ◌≡◌, Bool, true, ◌&&◌, List, T, ltb, length, get_or, nat_abs}
use Rattle.meaning.specs.Limits.{max_forms, max_relationships, fits_word}
use Rattle.meaning.specs.Register.{Register, object_key, present, cell_at, far_ends}
use Rattle.meaning.specs.Forms.{Sort, truth, number, collection, Form, compare, negate, connect, quantify, kind, num, cell, size, sum, combine, role, all, select}
use Rattle.meaning.specs.Lists.{◌∈◌, Ascending, Before}
use Rattle.tables.specs.Bodies.{Part, as_truth, as_number, as_collection, reads, ending}
use Rattle.link_index.specs.Slots.{Indexed}
use Rattle.walks.specs.Site.{Site, register_at, rows_at, form_at}

-- Of a register that fits its schema: objects and the ends of links ascend, the ends are there, and cells are words.
pub record Steady (g : Register) : Type 0 where
  pub objects_ascend : Ascending (Before object_key) g.objects
  pub far_ascend : (r u : ℕ) → Ascending ◌<◌ (far_ends g r u)
  pub ends : (r u x : ℕ) → x ∈ far_ends g r u → T (present g x)
  pub cells : (x k : ℕ) → nat_abs (cell_at g x k) ≤ 2 ^ 31

-- With `depth` variables bound, the form names bound variables only, roles that an index has, and numbers that are words.
unfoldable pub scoped : {s : Sort} → ℕ → Form s → Bool
scoped depth (compare o a b) = scoped depth a && scoped depth b
scoped depth (negate a) = scoped depth a
scoped depth (connect o a b) = scoped depth a && scoped depth b
scoped depth (quantify q c b) = scoped depth c && scoped (suc depth) b
scoped depth (kind v t) = ltb v depth
scoped depth (num n) = fits_word n
scoped depth (cell v k) = ltb v depth
scoped depth (size c) = scoped depth c
scoped depth (sum c k) = scoped depth c
scoped depth (combine o a b) = scoped depth a && scoped depth b
scoped depth (role v r) = ltb v depth && ltb r (2 * max_relationships)
scoped depth (all t) = true
scoped depth (select c b) = scoped depth c && scoped (suc depth) b

abbrev pub scoped_as : Sort → ℕ → Part → Bool
scoped_as truth depth p = scoped depth (as_truth p)
scoped_as number depth p = scoped depth (as_number p)
scoped_as collection depth p = scoped depth (as_collection p)

-- The register is indexed; the form that ends before row e is there, of sort s and in scope; `starts` has where each form up to there
-- starts; the bound variables hold rows of objects; and each form that is left may bind one more.
pub record Ready (w : Site) (starts : List ℕ) (e : ℕ) (vars : List ℕ) (depth : ℕ) (s : Sort) : Type 0 where
  pub steady : Steady (register_at w)
  pub indexed : Indexed w.counts.objects w.objects w.counts.links w.links w.index
  pub words : (k : ℕ) → (rows_at w k).x < 2 ^ 32
  pub few : e ≤ max_forms
  pub room : depth + e ≤ 65
  pub held : length vars ≡ 64
  pub there : (v : ℕ) → v < depth → get_or vars v 0 < w.counts.objects
  pub right : (k : ℕ) → k ≤ e → get_or starts k 0 ≡ (ending (rows_at w) k).start
  pub read : T (reads s (ending (rows_at w) e))
  pub in_scope : T (scoped_as s depth (form_at w e))

-- a whole body is ready, self being the object of a row
abbrev pub BodyReady : Site → List ℕ → ℕ → ℕ → Type 0
BodyReady w starts e row = (vars : List ℕ) → length vars ≡ 64 → get_or vars 0 0 ≡ row → Ready w starts e vars 1 truth
