-- A rule of lent tables: its body is able at the row of any object, and what is covered of the body and of what was brought in are its candidates.
use Prim.Native.Nat.{ℕ, ◌^◌, ◌≤◌, ◌<◌}
use mathlib.Core.Path.{◌≡◌, refl, sym, ap, subst, ◌∙◌}
use mathlib.Core.Logic.{⊎_elim}
use mathlib.Core.Bool.{Bool, true, false}
use mathlib.Core.List.{List, [], ◌∷◌}
use native.Mathlib.Omega.{arith}
use lib.Dec.{T}
use lib.ListN.{length, get_or}
use mir.Facts.{and_yes}
use Rattle.meaning.specs.Limits.{max_types, max_relationships}
use Rattle.meaning.specs.Schema.{Floor, Schema}
use Rattle.meaning.specs.Forms.{truth, well_typed, Rule}
use Rattle.meaning.specs.Reach.{Change, down, brought_in}
use Rattle.meaning.proofs.Registers.{RegisterFits}
use Rattle.rows.specs.Rows.{word_at}
use Rattle.tables.specs.Bodies.{sort_of, same_sort, whole_body, read_body, ending, part}
use Rattle.tables.specs.Columns.{type_row, relationship_row, rule_row, schema_of, register_of}
use Rattle.tables.specs.declared.Counts.{Counts}
use Rattle.tables.proofs.Readings.{is_truth_lem}
use Rattle.tables.proofs.Forms.{whole_body_lem, body_ending}
use Rattle.schema.proofs.Rows.{length_rows}
use Rattle.link_index.specs.Slots.{Indexed}
use Rattle.body_rows.specs.Marks.{body_of, Starts}
use Rattle.typing.specs.Types.{typed_part}
use Rattle.walks.specs.Site.{Site, site_of, rows_at, form_at, id_in}
use Rattle.ocl.proofs.Bodies.{body_ready}
use Rattle.going_back.specs.Back.{reached, part_reached, reached_by, candidate, Covered}
use Rattle.going_back.specs.Walkable.{BodyAble}
use Rattle.row_sets.specs.Sets.{Sets, in_set}
use Rattle.row_sets.proofs.Tests.{one_true}

module _ (n : Counts) (types rules bodies objects links index : List ℕ) (rule : ℕ) (whole : T (whole_body (body_of bodies rule) (word_at rules 2 rule 1))) where
  abbrev w : Site
  w = site_of n types objects links index bodies rule

  abbrev size : ℕ
  size = word_at rules 2 rule 1

  abbrev r : Rule
  r = rule_row rules bodies rule

  pub body_form : part truth (read_body (rows_at w) size) ≡ form_at w size
  body_form = ap (part truth) (body_ending (rows_at w) size whole) ∙ sym (is_truth_lem (form_at w size) (whole_body_lem (rows_at w) size whole).is_truth)

  -- what no refusal of a book and a register gives is enough
  pub rule_able : (fs : List Floor) (relationships : List ℕ) {starts : List ℕ} → let S = schema_of n.types types fs n.relationships relationships in
      n.types ≤ max_types
      → n.relationships ≤ max_relationships
      → T (well_typed S (r.context ∷ []) r.body)
      → RegisterFits S (register_of n.objects objects n.links links)
      → Indexed n.objects objects n.links links index
      → ((j : ℕ) → get_or bodies j 0 < 2 ^ 32)
      → Starts (body_of bodies rule) starts size
      → BodyAble S w starts size
  unfolding rule_row typed_part
  rule_able fs relationships few_types few typed fits indexed words starts row there vars held self =
      let S : Schema = schema_of n.types types fs n.relationships relationships in
      let few_roles : length S.relationships ≤ max_relationships = omega (arith, length_rows (relationship_row relationships) n.relationships) in
      let ready = body_ready S w size (word_at rules 2 rule 0) typed few_roles fits indexed words starts there vars held self in
      record {
        steady = ready.steady;
        indexed = indexed;
        words = ready.words;
        types_are = refl;
        types_few = omega (arith, length_rows (type_row types) n.types);
        relationships_few = few_roles;
        few = ready.few;
        room = ready.room;
        held = held;
        there = ready.there;
        right = ready.right;
        sound = (and_yes (ending (rows_at w) size).sound (same_sort truth (sort_of (form_at w size))) ready.read).0;
        scope = word_at rules 2 rule 0 ∷ [];
        scope_long = refl;
        typed = subst (λ p. T (typed_part S (word_at rules 2 rule 0 ∷ []) p)) body_form typed;
      }

  -- the rows that are put into the first set
  abbrev Put : (ℕ → Bool) → Sets → Type 0
  Put put sets = (row : ℕ) → row < n.objects → put (id_in objects row) ≡ true → in_set sets 0 row ≡ true

  pub candidates_covered : (c : Change) {everything : Bool} {sets : Sets} → Put (brought_in c r) sets → Covered (reached_by c (form_at w size) 1 2) objects n.objects 1 everything sets → everything ≡ false → Put (candidate c r) sets
  unfolding candidate rule_row part_reached
  candidates_covered c brought body still row h t =
      let u = id_in objects row in
      ⊎_elim (λ e. body.each still 0 (omega arith) row h (ap (λ p. part_reached c p 1 0 u down) (sym body_form) ∙ e)) (λ e. brought row h e)
      (one_true (reached c (read_body (rows_at w) size) 1 0 u down) (brought_in c r u) t)
