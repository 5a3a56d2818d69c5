-- The search of the full check, and one rule at one object, once no refusal is met.
use Rattle.std.specs.Prelude.{ℕ, Bool, false, ◌&&◌, not, List, [], ◌∷◌}
use Rattle.meaning.specs.Schema.{under}
use Rattle.meaning.specs.Meaning.{broken}
use Rattle.meaning.specs.Reach.{context_pairs, of_rule}
use Rattle.meaning.specs.Answers.{Answer, first_broken}
use Rattle.tables.specs.Layouts.{Sheet}
use Rattle.tables.specs.Columns.{object_row, book_of, register_in}
use Rattle.tables.specs.declared.Counts.{Counts}
use Rattle.link_index.specs.Slots.{Indexed}
use Rattle.checks.specs.Given.{Given}
use Rattle.walks.specs.Site.{Site, types_at}
use Rattle.walks.specs.Values.{truth_of}

-- "the first broken pair, lowest rule and then lowest id, or accepted"
unfoldable pub found : Counts → Sheet → Answer
found n s = first_broken (book_of n s) (register_in n s) (context_pairs (book_of n s) (register_in n s))

-- "A rule is *broken* at an object": the rule of that number, at the object of that id
unfoldable pub broken_in : Counts → Sheet → ℕ → ℕ → Bool
broken_in n s rule id = of_rule (book_of n s) (λ r. broken (book_of n s).schema.types (register_in n s) r id) rule

-- the same of the object in a row, by the context type and the body of e rows
unfoldable pub broken_row : Site → ℕ → ℕ → ℕ → Bool
broken_row w context e row = under (types_at w) (object_row w.objects row).type context && not (truth_of w e (row ∷ []) 1)

-- the tables are as no refusal leaves them, and the last one is the index of their links
pub record Clear (n : Counts) (s : Sheet) (index : List ℕ) : Type 0 where
  pub given : Given n s
  pub indexed : Indexed n.objects s.objects n.links s.links index
