-- Req 07: "the list becomes 32-bit words, still rule then id"; ascending, as document 01 has it. The pairs that are marked, and the words of their list.
use Rattle.std.specs.Prelude.{ℕ, Bool}
use mathlib.Core.List.{List, map, flat_map}
use Rattle.meaning.specs.Lists.{keep}
use Rattle.meaning.specs.Reach.{Pair, pair_of, pair_key}
use Rattle.rows.specs.Rows.{read_rows}
use Rattle.walks.specs.Site.{id_in}
use Rattle.tables.specs.declared.Counts.{Counts}
use Rattle.pair_marks.specs.Marks.{marked}

-- the pairs of rules, in their order, and of the objects of the first m rows at which a test holds
unfoldable pub pairs_where : List ℕ → (ℕ → ℕ → Bool) → ℕ → List ℕ → List Pair
unfolding flat_map
pairs_where objects test m = flat_map (λ rule. map (λ row. pair_of rule (id_in objects row)) (keep (test rule) (read_rows (λ row. row) m)))

-- "The list is 16-bit words, rule then id, ascending, no repeat": the pairs that are marked, of the rules and the rows that are there
abbrev pub marked_pairs : Counts → List ℕ → List ℕ → List Pair
marked_pairs n objects marks = pairs_where objects (marked marks) n.objects (read_rows (λ rule. rule) n.rules)

-- "32-bit words, still rule then id"
unfoldable pub pair_words : List Pair → List ℕ
unfolding flat_map
pair_words = flat_map pair_key
