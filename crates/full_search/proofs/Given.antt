-- What no refusal gives the search.
use Prim.Native.Nat.{ℕ, zero, suc, ◌^◌, ◌≤◌, ◌<◌}
use mathlib.Core.Path.{◌≡◌, refl, sym, subst}
use mathlib.Core.Bool.{false}
use mathlib.Core.List.{List, [], ◌∷◌}
use mathlib.Core.Option.{none, some}
use native.Mathlib.Omega.{arith}
use lib.Dec.{T}
use lib.ListN.{length, get_or, get_elem?, replicate}
use Rattle.meaning.specs.Limits.{max_forms, max_relationships}
use Rattle.meaning.specs.Forms.{well_typed}
use Rattle.meaning.proofs.Registers.{RegisterFits}
use Rattle.meaning.proofs.Agreement.{checked}
use Rattle.rows.specs.Rows.{word_at}
use Rattle.tables.specs.Layouts.{Sheet}
use Rattle.tables.specs.Bodies.{read_body}
use Rattle.tables.specs.Columns.{rule_row, relationship_row, book_of, register_in}
use Rattle.tables.specs.declared.Counts.{Counts}
use Rattle.schema.proofs.Rows.{length_rows, row_there}
use Rattle.link_index.specs.Slots.{Indexable}
use Rattle.link_index.proofs.Fits.{indexable}
use Rattle.body_rows.specs.Marks.{Starts}
use Rattle.checks.specs.Given.{Given}
use Rattle.walks.specs.Site.{Site, site_of, rows_at}
use Rattle.ocl.specs.Ready.{BodyReady}
use Rattle.ocl.proofs.Bodies.{body_few, body_ready}
use Rattle.full_search.specs.Search.{Clear}

module _ (n : Counts) (s : Sheet) (known : Given n s) where
  few_relationships : length (book_of n s).schema.relationships ≤ max_relationships
  few_relationships = omega (arith, known.few_relationships, length_rows (relationship_row s.relationships) n.relationships)

  pub register_fits : RegisterFits (book_of n s).schema (register_in n s)
  register_fits = (checked (book_of n s) (register_in n s) known.clear).register

  pub can_index : Indexable n.objects s.objects n.links s.links
  can_index = indexable (book_of n s).schema n.objects s.objects n.links s.links register_fits known.few_objects known.few_links few_relationships

  pub rule_there : (i : ℕ) → i < n.rules → get_elem? (book_of n s).rules i ≡ some (rule_row s.rules s.bodies i)
  rule_there i h = row_there (rule_row s.rules s.bodies) n.rules i h

  rule_typed : (i : ℕ) → i < n.rules → T (well_typed (book_of n s).schema ((rule_row s.rules s.bodies i).context ∷ []) (rule_row s.rules s.bodies i).body)
  rule_typed i h = (checked (book_of n s) (register_in n s) known.clear).typed i (rule_row s.rules s.bodies i) (rule_there i h)

-- ---- a rule of the book

module _ {n : Counts} {s : Sheet} {index : List ℕ} (c : Clear n s index) {rule size : ℕ} (h : rule < n.rules) (sized : size ≡ word_at s.rules 2 rule 1) where
  abbrev site : Site
  site = site_of n s.types s.objects s.links index s.bodies rule

  pub typed : T (well_typed (book_of n s).schema (word_at s.rules 2 rule 0 ∷ []) (read_body (rows_at site) size))
  unfolding rule_row
  typed = subst (λ e. T (well_typed (book_of n s).schema (word_at s.rules 2 rule 0 ∷ []) (read_body (rows_at site) e))) (sym sized) (rule_typed n s c.given rule h)

  pub size_few : size ≤ max_forms
  size_few = body_few (book_of n s).schema site size (word_at s.rules 2 rule 0) typed

  pub rule_ready : ((j : ℕ) → get_or s.bodies j 0 < 2 ^ 32) → {starts : List ℕ} → Starts (rows_at site) starts size → {row : ℕ} → row < n.objects → BodyReady site starts size row
  rule_ready words starts there =
      body_ready (book_of n s).schema site size (word_at s.rules 2 rule 0) typed (few_relationships n s c.given) (register_fits n s c.given) c.indexed words starts there

-- a table of zeros
pub zeros : (m k : ℕ) → ◌≡◌ {A = ℕ} (get_or (replicate m 0) k 0) 0
zeros zero k = refl
zeros (suc m) zero = refl
zeros (suc m) (suc k) = zeros m k
