-- The pairs of a batch are at most one for each rule and object.
use Prim.Native.Nat.{ℕ, suc, ◌*◌, ◌≤◌}
use mathlib.Core.Path.{◌≡◌}
use mathlib.Core.Bool.{false}
use mathlib.Core.List.{List, [], ◌∷◌, ◌++◌, map}
use mathlib.Core.Option.{none}
use native.Mathlib.Omega.{arith}
use borrow.Author.Tests.{le-ltb}
use lib.ListN.{length, length-append, length-map}
use Rattle.meaning.specs.Lists.{keep}
use Rattle.meaning.specs.Schema.{ObjectType, under}
use Rattle.meaning.specs.Register.{Object, Register, instances}
use Rattle.meaning.specs.Forms.{Rule, Book}
use Rattle.meaning.specs.Events.{after}
use Rattle.meaning.specs.Reach.{Change, change_by, pair_of, pairs_from, context_pairs, pair_selected, selected_pairs}
use Rattle.meaning.specs.Answers.{list_refusal}
use Rattle.meaning.proofs.Lists.{length_keep}
use Rattle.meaning.proofs.Steps.{unrefused, limit_kept}
use Rattle.meaning.proofs.Agreement.{checked}
use Rattle.tables.specs.Columns.{rule_row, object_row, book_of, register_in, batch_in}
use Rattle.schema.proofs.Rows.{length_rows}
use Rattle.checks.proofs.Given.{given_all}
use Rattle.events.specs.Runs.{lent_by}
use Rattle.park_tables.specs.Claims.{WordsSuffice}

module _ (types : List ObjectType) (g : Register) where
  few_instances : (t : ℕ) → length (instances types g t) ≤ length g.objects
  unfolding instances
  few_instances t =
      let there = keep (λ (o : Object). under types o.type t) g.objects in
      omega (arith, length-map there (λ (o : Object). o.id), length_keep (λ (o : Object). under types o.type t) g.objects)

  few_from : length g.objects ≤ 1024 → (n : ℕ) (rs : List Rule) → length (pairs_from types g n rs) ≤ 1024 * length rs
  unfolding pairs_from
  few_from h n [] = omega arith
  few_from h n (r ∷ rs) =
      let found = instances types g r.context in
      omega (arith, length-append (map (pair_of n) found) (pairs_from types g (suc n) rs), length-map found (pair_of n), few_instances r.context, few_from h (suc n) rs)

few_pairs : (k : Book) (c : Change) → length c.end.objects ≤ 1024 → length k.rules ≤ 32 → 2 * length (selected_pairs k c) ≤ 65536
unfolding selected_pairs context_pairs
few_pairs k c h r = omega (arith, length_keep (pair_selected k c) (context_pairs k c.end), few_from k.schema.types c.end h 0 k.rules)

pub words_suffice : WordsSuffice
unfolding list_refusal
words_suffice n s clear ok =
    let known = (given_all n s false clear).0 in
    let k = book_of n s in
    let g = register_in n s in
    let lent = lent_by s.objects s.links 65536 in
    let fit = checked k g known.clear in
    let rules = length_rows (rule_row s.rules s.bodies) n.rules in
    let objects = length_rows (object_row s.objects) n.objects in
    let end = limit_kept k.schema fit.types lent g (batch_in n s) fit.register (unrefused k.schema lent g (batch_in n s) ok) (omega (arith, known.few_objects, objects)) in
    let few = few_pairs k (change_by k.schema g (batch_in n s)) end (omega (arith, known.few_rules, rules)) in
    rw (le-ltb 65536 (2 * length (selected_pairs k (change_by k.schema g (batch_in n s)))) few)
