-- What the reach rules are given of a rule's body: a well-typed form over an indexed register, and rows of objects for its variables.
use Rattle.std.specs.Prelude.{ℕ, ◌+◌, ◌-◌, ◌^◌, ◌≤◌, ◌<◌, ◌≡◌, List, T, length, get_or, set}
use Rattle.meaning.specs.Limits.{max_forms, max_types, max_relationships}
use Rattle.meaning.specs.Schema.{Schema}
use Rattle.meaning.specs.Forms.{collection}
use Rattle.tables.specs.Bodies.{ending}
use Rattle.link_index.specs.Slots.{Indexed}
use Rattle.typing.specs.Types.{typed_part}
use Rattle.walks.specs.Site.{Site, types_at, register_at, rows_at, form_at}
use Rattle.ocl.specs.Ready.{Steady, Ready}

-- The form that ends before row e is there, of whichever sort, and well typed by the types of the first `depth` variables, which hold rows of objects.
pub record Able (S : Schema) (w : Site) (starts : List ℕ) (e : ℕ) (vars : List ℕ) (depth : ℕ) : Type 0 where
  pub steady : Steady (register_at w)
  pub indexed : Indexed w.counts.objects w.objects w.counts.links w.links w.index
  pub words : (k : ℕ) → (rows_at w k).x < 2 ^ 32
  pub types_are : S.types ≡ types_at w
  pub types_few : length S.types ≤ max_types
  pub relationships_few : length S.relationships ≤ max_relationships
  pub few : e ≤ max_forms
  pub room : depth + e ≤ 65
  pub held : length vars ≡ 64
  pub there : (v : ℕ) → v < depth → get_or vars v 0 < w.counts.objects
  pub right : (k : ℕ) → k ≤ e → get_or starts k 0 ≡ (ending (rows_at w) k).start
  pub sound : T (ending (rows_at w) e).sound
  pub scope : List ℕ
  pub scope_long : length scope ≡ depth
  pub typed : T (typed_part S scope (form_at w e))

-- A row without parts: its variable is bound to an object's row, and a type that it names is known.
pub record LeafAble (n : ℕ) (vars : List ℕ) (depth code x : ℕ) : Type 0 where
  pub held : length vars ≡ 64
  pub shallow : depth ≤ 64
  pub there : (v : ℕ) → v < depth → get_or vars v 0 < n
  pub codes : (code ≡ 14 → ⊥) → (code ≡ 15 → ⊥) → (code ≡ 20 → ⊥) → (code ≡ 21 → ⊥) → code ≡ 13
  pub known : code ≡ 21 → x < max_types
  pub bound : (code ≡ 14 → ⊥) → (code ≡ 21 → ⊥) → x < depth

-- A form over a collection: the collection can be walked, and the second part is able at each of its members.
pub record OverAble (S : Schema) (w : Site) (starts : List ℕ) (e : ℕ) (vars : List ℕ) (depth : ℕ) : Type 0 where
  pub positive : 0 < e
  pub few : e ≤ max_forms
  pub deep : depth < 64
  pub first : Ready w starts (get_or starts (e - 1) 0) vars depth collection
  pub inner : (row : ℕ) (l : List ℕ) → l ≡ set vars depth row → row < w.counts.objects → Able S w starts (e - 1) l (depth + 1)
