-- The spelling of a body's form by its row and its parts.
use Prim.Native.Nat.{ℕ, suc, ◌+◌, ◌^◌, ◌≤◌, ◌<◌}
use mathlib.Core.Path.{◌≡◌, refl, sym, ap, ap₂, ◌∙◌}
use mathlib.Core.List.{List, [], ◌∷◌, ◌++◌, append_assoc}
use native.Mathlib.Omega.{arith}
use lib.Dec.{T}
use lib.ListN.{take}
use Rattle.meaning.specs.Forms.{Sort, truth, number, collection}
use Rattle.rows.specs.Rows.{word_at}
use Rattle.rows.proofs.Words.{word_signed}
use Rattle.tables.specs.Codes.{Operator, comparing, negating, connecting, quantifying, kind_of, literal, cell_of, size_of, sum_of, combining, role_of, all_of, selecting, code_of, shape_of}
use Rattle.tables.specs.Bodies.{BodyRow, Part, form_of, whole_body, ending, first_part, second_part}
use Rattle.tables.proofs.Readings.{node, code_of_lem, sorted, sorted_parts, is_truth_lem, is_number, is_collection}
use Rattle.tables.specs.Columns.{rule_row}
use Rattle.tables.proofs.Forms.{whole_body_lem, body_ending}
use Rattle.body_rows.specs.Marks.{body_of, sort_code, first_sort, second_sort}
use Rattle.typing.proofs.Types.{operator_here, parts_here}
use Rattle.text.specs.Names.{rule_name, name_of, first_operator}
use Rattle.text.specs.Tokens.{begin, item, end, spell_token, spell_tokens, spell_bracket}
use Rattle.text.specs.Bodies.{Written, leaf, over, both, closing, tokens_of, written_of}
use Rattle.line_writer.specs.Lines.{spell_closing, written_part, spell_form, rule_line}
use Rattle.line_writer.proofs.Spellings.{tokens_both, tokens_one}

-- a form by the sorts of its parts
abbrev node_of : List Sort → ℕ → Written → Written → List ℕ → Written
node_of [] k a b fs = leaf k fs
node_of (p ∷ []) k a b fs = over k b fs
node_of (p ∷ q ∷ more) k a b fs = both k a b fs

-- the fields that an operator uses
abbrev pub fields_of : Operator → BodyRow → List ℕ
fields_of o r = take (shape_of o).fields (r.x ∷ r.y ∷ [])

written_node : (o : Operator) (r : BodyRow) (a b : Part) → sorted (shape_of o).parts a b → r.x < 2 ^ 32 → node_of (shape_of o).parts (code_of o) (written_part a) (written_part b) (fields_of o r) ≡ written_part (form_of o r a b)
unfolding shape_of form_of written_part written_of
written_node (comparing o) r a b t w = ap₂ (λ x y. both (code_of (comparing o)) (written_part x) (written_part y) []) (is_number a t.0) (is_number b t.1)
written_node negating r a b t w = ap (λ x. over (code_of negating) (written_part x) []) (is_truth_lem b t)
written_node (connecting o) r a b t w = ap₂ (λ x y. both (code_of (connecting o)) (written_part x) (written_part y) []) (is_truth_lem a t.0) (is_truth_lem b t.1)
written_node (quantifying q) r a b t w = ap₂ (λ x y. both (code_of (quantifying q)) (written_part x) (written_part y) []) (is_collection a t.0) (is_truth_lem b t.1)
written_node kind_of r a b t w = refl
written_node literal r a b t w = ap (λ x. leaf (code_of literal) (x ∷ [])) (sym (word_signed r.x w))
written_node cell_of r a b t w = refl
written_node size_of r a b t w = ap (λ x. over (code_of size_of) (written_part x) []) (is_collection b t)
written_node sum_of r a b t w = ap (λ x. over (code_of sum_of) (written_part x) (r.x ∷ [])) (is_collection b t)
written_node (combining o) r a b t w = ap₂ (λ x y. both (code_of (combining o)) (written_part x) (written_part y) []) (is_number a t.0) (is_number b t.1)
written_node role_of r a b t w = refl
written_node all_of r a b t w = refl
written_node selecting r a b t w = ap₂ (λ x y. both (code_of selecting) (written_part x) (written_part y) []) (is_collection a t.0) (is_truth_lem b t.1)

pub few_fields : (o : Operator) → (shape_of o).fields ≤ 2
unfolding shape_of
few_fields (comparing o) = omega arith
few_fields negating = omega arith
few_fields (connecting o) = omega arith
few_fields (quantifying q) = omega arith
few_fields kind_of = omega arith
few_fields literal = omega arith
few_fields cell_of = omega arith
few_fields size_of = omega arith
few_fields sum_of = omega arith
few_fields (combining o) = omega arith
few_fields role_of = omega arith
few_fields all_of = omega arith
few_fields selecting = omega arith

sort_some : (s : Sort) → sort_code s ≡ 3 → ⊥
sort_some truth e = omega arith
sort_some number e = omega arith
sort_some collection e = omega arith

module _ (k : ℕ) (a b : Written) (fs : List ℕ) where
  is_leaf : (parts : List Sort) → second_sort parts ≡ 3 → leaf k fs ≡ node_of parts k a b fs
  is_leaf [] e = refl
  is_leaf (p ∷ []) e = absurd (sort_some p e)
  is_leaf (p ∷ q ∷ more) e = absurd (sort_some q e)

  is_over : (parts : List Sort) → (second_sort parts ≡ 3 → ⊥) → first_sort parts ≡ 3 → over k b fs ≡ node_of parts k a b fs
  is_over [] n e = absurd (n refl)
  is_over (p ∷ []) n e = refl
  is_over (p ∷ q ∷ more) n e = absurd (sort_some p e)

  is_both : (parts : List Sort) → (second_sort parts ≡ 3 → ⊥) → (first_sort parts ≡ 3 → ⊥) → both k a b fs ≡ node_of parts k a b fs
  is_both [] n m = absurd (n refl)
  is_both (p ∷ []) n m = absurd (m refl)
  is_both (p ∷ q ∷ more) n m = refl

-- row i ends a form
module _ (rows : ℕ → BodyRow) (i : ℕ) (sound : T (ending rows (suc i)).sound) (word : (rows i).x < 2 ^ 32) where
  abbrev o : Operator
  o = operator_here rows i sound

  abbrev fields : List ℕ
  fields = fields_of o (rows i)

  abbrev start : List ℕ
  start = spell_token (begin (first_operator + (rows i).code))

  abbrev first : Written
  first = written_part (first_part rows i).form

  abbrev second : Written
  second = written_part (second_part rows i).form

  node_spelled : spell_tokens (tokens_of (node_of (shape_of o).parts (rows i).code first second fields)) ≡ spell_form rows (suc i)
  unfolding spell_form
  node_spelled =
      let d = node rows i sound in
      ap (λ w. spell_tokens (tokens_of w))
      (ap (λ k. node_of (shape_of o).parts k first second fields) (sym (code_of_lem (rows i).code o d.coded))
      ∙ written_node o (rows i) (first_part rows i).form (second_part rows i).form (sorted_parts (shape_of o).parts i (first_part rows i) (second_part rows i) d.parts) word
      ∙ ap written_part (sym d.form))

  pub leaf_spelled : second_sort (parts_here rows i sound) ≡ 3 → start ++ spell_closing fields ≡ spell_form rows (suc i)
  unfolding spell_closing tokens_of spell_tokens
  leaf_spelled e = ap (λ w. spell_tokens (tokens_of w)) (is_leaf (rows i).code first second fields (shape_of o).parts e) ∙ node_spelled

  pub over_spelled : (second_sort (parts_here rows i sound) ≡ 3 → ⊥) → first_sort (parts_here rows i sound) ≡ 3 → (start ++ spell_form rows i) ++ spell_closing fields ≡ spell_form rows (suc i)
  unfolding spell_form spell_closing tokens_of spell_tokens
  over_spelled n e =
      append_assoc start (spell_tokens (tokens_of second)) (spell_tokens (closing fields))
      ∙ ap (λ s. start ++ s) (sym (tokens_both (tokens_of second) (closing fields)))
      ∙ ap (λ w. spell_tokens (tokens_of w)) (is_over (rows i).code first second fields (shape_of o).parts n e)
      ∙ node_spelled

  pub both_spelled : (second_sort (parts_here rows i sound) ≡ 3 → ⊥) → (first_sort (parts_here rows i sound) ≡ 3 → ⊥) → ((start ++ spell_form rows (ending rows i).start) ++ spell_form rows i) ++ spell_closing fields ≡ spell_form rows (suc i)
  unfolding spell_form spell_closing tokens_of spell_tokens
  both_spelled n m =
      let x = spell_tokens (tokens_of first) in
      let y = spell_tokens (tokens_of second) in
      let z = spell_tokens (closing fields) in
      append_assoc (start ++ x) y z ∙ append_assoc start x (y ++ z)
      ∙ ap (λ s. start ++ s) (sym (append_assoc x y z) ∙ ap (λ s. s ++ z) (sym (tokens_both (tokens_of first) (tokens_of second))) ∙ sym (tokens_both (tokens_of first ++ tokens_of second) (closing fields)))
      ∙ ap (λ w. spell_tokens (tokens_of w)) (is_both (rows i).code first second fields (shape_of o).parts n m)
      ∙ node_spelled

-- ---- the line of a rule whose body is a whole form

module _ (rules bodies : List ℕ) (i : ℕ) (whole : T (whole_body (body_of bodies i) (word_at rules 2 i 1))) where
  abbrev size : ℕ
  size = word_at rules 2 i 1

  body_spelled : spell_form (body_of bodies i) size ≡ spell_tokens (tokens_of (written_of (rule_row rules bodies i).body))
  unfolding spell_form rule_row written_part
  body_spelled =
      let r = ending (body_of bodies i) size in
      ap (λ p. spell_tokens (tokens_of (written_part p))) (is_truth_lem r.form (whole_body_lem (body_of bodies i) size whole).is_truth)
      ∙ ap (λ f. spell_tokens (tokens_of (written_of f))) (sym (body_ending (body_of bodies i) size whole))

  pub rule_spelled : ((((40 ∷ name_of rule_name) ++ spell_token (item i)) ++ spell_token (item (word_at rules 2 i 0))) ++ spell_form (body_of bodies i) size) ++ 41 ∷ 10 ∷ [] ≡ rule_line rules bodies i
  unfolding rule_line spell_bracket spell_tokens spell_token
  rule_spelled =
      let n : List ℕ = 40 ∷ name_of rule_name in
      let x = spell_token (item i) in
      let y = spell_token (item (word_at rules 2 i 0)) in
      let b = tokens_of (written_of (rule_row rules bodies i).body) in
      let z : List ℕ = 41 ∷ 10 ∷ [] in
      let last : spell_tokens (b ++ end ∷ []) ++ 10 ∷ [] ≡ spell_tokens b ++ z =
      ap (λ s. s ++ 10 ∷ []) (tokens_both b (end ∷ []) ∙ ap (λ s. spell_tokens b ++ s) (tokens_one end)) ∙ append_assoc (spell_tokens b) (41 ∷ []) (10 ∷ []) in
      let w = spell_tokens (b ++ end ∷ []) in
      ap (λ s. (((n ++ x) ++ y) ++ s) ++ z) body_spelled
      ∙ append_assoc ((n ++ x) ++ y) (spell_tokens b) z
      ∙ ap (λ s. ((n ++ x) ++ y) ++ s) (sym last)
      ∙ append_assoc (n ++ x) y (w ++ 10 ∷ [])
      ∙ append_assoc n x (y ++ (w ++ 10 ∷ []))
      ∙ ap (λ s. n ++ s) (ap (λ s. x ++ s) (sym (append_assoc y w (10 ∷ []))) ∙ sym (append_assoc x (y ++ w) (10 ∷ [])))
      ∙ sym (append_assoc n (x ++ (y ++ w)) (10 ∷ []))
