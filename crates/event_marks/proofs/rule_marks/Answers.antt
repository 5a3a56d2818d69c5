-- `event_marks::rule_marks` meets its contract, by the laws of Rules.
use Prim.Native.Nat.{ℕ}
use mathlib.Core.Path.{◌≡◌, refl, sym, subst}
use mathlib.Core.List.{[], ◌∷◌}
use native.Mathlib.Omega.{arith}
use lib.Dec.{T}
use Rattle.meaning.specs.Schema.{Schema}
use Rattle.tables.specs.Bodies.{BodyRow, whole_body, read_body, ending}
use Rattle.tables.specs.Columns.{rule_row, floors_of, schema_of}
use Rattle.tables.proofs.Forms.{WholeBody, whole_body_lem}
use Rattle.body_rows.specs.Marks.{body_of}
use Rattle.type_marks.specs.Marks.{marked, Added}
use Rattle.type_marks.specs.Lists.{part_marks, entry_lists}
use Rattle.type_marks.proofs.Marks.{added_as, added_then}
use Rattle.event_marks.proofs.Rules.{rule_marked}
use Rattle.event_marks.proofs.rule_marks.Goals as goal
use Rattle.event_marks.proofs.rule_marks.Lts as lts
use Rattle.event_marks.proofs.rule_marks.Reads as reads
use Rattle.event_marks.proofs.rule_marks.Tie as tie

-- ---- places of the code
abbrev size-start : lts.After-word2 tie.the-claims reads.Pre reads.Post → lts.Start tie.the-claims reads.Pre reads.Post
size-start c = c.before.before.before.before.before.before.before.before

-- ---- the rule
abbrev rows : lts.Start tie.the-claims reads.Pre reads.Post → ℕ → BodyRow
rows s = body_of s.args.bodies.now s.args.rule

abbrev schema : lts.Start tie.the-claims reads.Pre reads.Post → Schema
schema s =
    schema_of s.args.type_count s.args.types.now (floors_of s.args.floor_count s.args.floors.now) s.args.relationship_count s.args.relationships.now

whole : (c : lts.After-word2 tie.the-claims reads.Pre reads.Post) → T (whole_body (rows (size-start c)) c.word-end.result)
whole c = let s = size-start c in subst (λ n. T (whole_body (rows s) n)) (sym c.word-end.ensures) s.requires.0

body_is : (c : lts.After-word2 tie.the-claims reads.Pre reads.Post) → WholeBody (rows (size-start c)) c.word-end.result
body_is c = whole_body_lem (rows (size-start c)) c.word-end.result (whole c)

rule_is : (c : lts.After-word2 tie.the-claims reads.Pre reads.Post) → let s = size-start c in
    rule_row s.args.rules.now s.args.bodies.now s.args.rule ≡ record { context = c.word-context.result; body = read_body (rows s) c.word-end.result }
unfolding rule_row
rule_is c = λ j. record { context = sym c.word-context.ensures j; body = read_body (rows (size-start c)) (sym c.word-end.ensures j) }

pub scan-spans-requires : goal.scan-spans-requires
scan-spans-requires c = (body_is c.before).few

pub mark_form-requires : goal.mark_form-requires
mark_form-requires c =
    let w = body_is c.before.before.before.before.before.before.before.before.before in
    let few = w.few in
    (c.scan-spans.ensures.0, w.sound, refl, omega arith, c.requires.1, omega arith)

pub stillness-still-requires : goal.stillness-still-requires
stillness-still-requires c = (c.scan-spans.ensures.0, (body_is c.before.before.before.before.before.before.before.before.before.before.before.before.before).sound)

pub returns : goal.returns
returns c =
    let context = c.word-context.result in
    let body : Added _ _ (part_marks (schema c.before.before.before.before.before.before.before.before.before.before.before.before.before.before.before.before.before.before.before.before.before.before.before.before.before.before) (ending (rows c.before.before.before.before.before.before.before.before.before.before.before.before.before.before.before.before.before.before.before.before.before.before.before.before.before.before) c.word-end.result).form (context ∷ []) 2) = c.mark_form.ensures.1 (schema c.before.before.before.before.before.before.before.before.before.before.before.before.before.before.before.before.before.before.before.before.before.before.before.before.before.before).floors c.floored_rows-floored.ensures in
    let entries : Added _ _ (marked (entry_lists (schema c.before.before.before.before.before.before.before.before.before.before.before.before.before.before.before.before.before.before.before.before.before.before.before.before.before.before) c.stillness-still.result context)) = c.put_context.ensures (schema c.before.before.before.before.before.before.before.before.before.before.before.before.before.before.before.before.before.before.before.before.before.before.before.before.before.before).floors (schema c.before.before.before.before.before.before.before.before.before.before.before.before.before.before.before.before.before.before.before.before.before.before.before.before.before.before).relationships in
    added_as (added_then body entries)
    (λ place h.
    rule_marked (schema c.before.before.before.before.before.before.before.before.before.before.before.before.before.before.before.before.before.before.before.before.before.before.before.before.before.before) c.args.rules.now c.args.bodies.now c.args.rule context c.word-end.result c.stillness-still.result (whole c.before.before.before.before.before.before.before.before.before.before.before.before.before.before.before.before.before.before) (rule_is c.before.before.before.before.before.before.before.before.before.before.before.before.before.before.before.before.before.before) c.stillness-still.ensures place)
