-- What a verdict says about the answer for one rule at one object.
use Prim.Native.Nat.{ℕ, ◌<◌}
use Rattle.tables.specs.Refusals.{refused_by}
use Rattle.tables.specs.declared.Refusal as Code
use mathlib.Core.Path.{◌≡◌, refl, sym, ap, ◌∙◌}
use mathlib.Core.Bool.{Bool, true, false, ◌||◌, cond, false≢true}
use mathlib.Core.List.{List, [], ◌∷◌}
use mathlib.Core.Option.{Option, none, some}
use lib.Dec.{ltb, eqb}
use borrow.Author.Tests.{ltb-true}
use Rattle.meaning.specs.Lists.{first_of, any}
use Rattle.meaning.specs.Schema.{type_fault, floor_fault, relationship_fault}
use Rattle.meaning.specs.Register.{Register, object_fault, link_fault}
use Rattle.meaning.specs.Forms.{Book, rule_fault}
use Rattle.meaning.specs.Events.{Refusal}
use Rattle.meaning.specs.Reach.{pair_of}
use Rattle.meaning.specs.Answers.{refusal_at, book_refusal, register_refusal, refusal, lacked_rule, refusal_for, found_answer, first_broken}
use Rattle.rows.specs.Rows.{read_rows}
use Rattle.tables.specs.Layouts.{Sheet, book_tables}
use Rattle.tables.specs.Columns.{rule_row, book_of, register_in}
use Rattle.tables.specs.Refusals.{verdict_of, any_overfull, any_long, not_whole, table_refusal, refusal_of, lent_refusal}
use Rattle.tables.specs.declared.Counts.{Counts}
use Rattle.tables.specs.Refusals.{OrRefused}
use Rattle.std.specs.Prelude.{Ok, Err}
use Rattle.schema.proofs.Rows.{length_rows}
use Rattle.full.specs.Answers.{lent_refusal_for, lent_answer_at, lacking, verdict_for}
use Rattle.tables.specs.Answers.{answer_of}
use Rattle.full_search.specs.Search.{broken_in}
use Rattle.tables.specs.declared.Answer.TheVariants as Answers
use Rattle.full.proofs.Answers.{refused_answer, clear_answer}

-- 5 alone comes after a lacked rule
lacked : (p q : Bool) (x y z : Option ℕ) (rule : ℕ) →
    lacking (verdict_of (first_of (cond p (some (record { number = 2; place = 0 })) (cond q (some (record { number = 6; place = 0 })) none)) (first_of (first_of (refusal_at 3 x) (refusal_at 4 y)) (refusal_at 5 z)))) rule
    ≡ verdict_of (first_of (cond p (some (record { number = 2; place = 0 })) (cond q (some (record { number = 6; place = 0 })) none)) (first_of (first_of (refusal_at 3 x) (refusal_at 4 y)) (first_of (some (record { number = 4; place = rule })) (refusal_at 5 z))))
unfolding refusal_at
lacked true q x y z rule = refl
lacked false true x y z rule = refl
lacked false false (some i) y z rule = refl
lacked false false none (some i) z rule = refl
lacked false false none none (some i) rule = refl
lacked false false none none none rule = refl

pub verdict_for_lem : (n : Counts) (s : Sheet) (rule : ℕ) → verdict_for (verdict_of (lent_refusal n s false)) n.rules rule ≡ verdict_of (lent_refusal_for n s rule)
unfolding refusal_of lent_refusal_for table_refusal refusal refusal_for book_refusal register_refusal lacked_rule
verdict_for_lem n s rule =
    by_known (ltb rule n.rules)
    ∙ ap (λ m. verdict_of (staged (ltb rule m))) (sym (length_rows (rule_row s.rules s.bodies) n.rules))
  where
    k : Book
    k = book_of n s

    g : Register
    g = register_in n s

    staged : Bool → Option Refusal
    staged known = first_of (table_refusal book_tables n s false) (first_of (book_refusal k) (first_of (cond known none (some (record { number = 4; place = rule }))) (register_refusal k.schema g)))

    by_known : (known : Bool) → cond known (verdict_of (lent_refusal n s false)) (lacking (verdict_of (lent_refusal n s false)) rule) ≡ verdict_of (staged known)
    by_known true = refl
    by_known false =
        lacked (any_overfull book_tables n s || any_long s.rules n.rules) (not_whole book_tables s || false)
        (first_of (type_fault k.schema.types) (first_of (floor_fault k.schema) (relationship_fault k.schema)))
        (rule_fault k)
        (first_of (object_fault k.schema.types k.schema.floors g) (link_fault k.schema g))
        rule

-- ---- what the code finds

never_clear : (b : Bool) (r : Code.Refusal) (rule : ℕ) → ◌≡◌ {A = OrRefused (Unit {0})} (Ok tt) (cond b (refused_by 4 rule) (Err r)) → false ≡ true
never_clear true r rule e = cc
never_clear false r rule e = cc

pub known_rule : (v : OrRefused (Unit {0})) (rules rule : ℕ) → Ok tt ≡ verdict_for v rules rule → rule < rules
known_rule v rules rule e = ltb-true rule rules (step (ltb rule rules) v e)
  where
    step : (b : Bool) (v : OrRefused (Unit {0})) → Ok tt ≡ cond b v (lacking v rule) → b ≡ true
    step true v e = refl
    step false (Err r) e = never_clear (eqb r.number 5) r rule e
    step false (Ok x) e = cc

pub clear_before : (v : OrRefused (Unit {0})) (rules rule : ℕ) → Ok tt ≡ verdict_for v rules rule → Ok tt ≡ v
clear_before v rules rule e = step (ltb rule rules) v e
  where
    step : (b : Bool) (v : OrRefused (Unit {0})) → Ok tt ≡ cond b v (lacking v rule) → Ok tt ≡ v
    step true v e = e
    step false (Err r) e = absurd (false≢true (never_clear (eqb r.number 5) r rule e))
    step false (Ok x) e = cc

pub rule_refused : (n : Counts) (s : Sheet) (rule id : ℕ) {r : Code.Refusal} → Err r ≡ verdict_for (verdict_of (lent_refusal n s false)) n.rules rule → Answers.Refused r.number r.place ≡ answer_of (lent_answer_at n s rule id)
unfolding lent_answer_at
rule_refused n s rule id e = refused_answer (lent_refusal_for n s rule) (first_broken (book_of n s) (register_in n s) (pair_of rule id ∷ [])) (e ∙ verdict_for_lem n s rule)

module _ (n : Counts) (s : Sheet) (rule id : ℕ) (clear : Ok tt ≡ verdict_for (verdict_of (lent_refusal n s false)) n.rules rule) {broke : Bool} (judged : broke ≡ broken_in n s rule id) where
  pair_answer : answer_of (found_answer (cond broke (some (pair_of rule id)) none)) ≡ answer_of (lent_answer_at n s rule id)
  unfolding lent_answer_at first_broken broken_in
  pair_answer =
      ap (λ b. answer_of (found_answer (cond b (some (pair_of rule id)) none))) judged
      ∙ clear_answer (lent_refusal_for n s rule) (first_broken (book_of n s) (register_in n s) (pair_of rule id ∷ [])) (clear ∙ verdict_for_lem n s rule)

  pub rule_broken : broke ≡ true → Answers.Broken rule id ≡ answer_of (lent_answer_at n s rule id)
  unfolding found_answer
  rule_broken f = ap (λ b. answer_of (found_answer (cond b (some (pair_of rule id)) none))) (sym f) ∙ pair_answer

  pub rule_accepted : broke ≡ false → Answers.Accepted ≡ answer_of (lent_answer_at n s rule id)
  unfolding found_answer
  rule_accepted f = ap (λ b. answer_of (found_answer (cond b (some (pair_of rule id)) none))) (sym f) ∙ pair_answer
