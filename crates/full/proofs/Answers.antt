-- What a verdict and the search say about the full check's answer.
use Prim.Native.Nat.{ℕ}
use Rattle.tables.specs.declared.Refusal as Code
use mathlib.Core.Path.{◌≡◌, refl, sym, ap, ◌∙◌}
use mathlib.Core.Bool.{false}
use mathlib.Core.Option.{Option, none, some}
use Rattle.meaning.specs.Lists.{first_of}
use Rattle.meaning.specs.Events.{Refusal}
use Rattle.meaning.specs.Answers as Meaning
use Rattle.meaning.specs.Answers.{refusal, unless_refused, full_check}
use Rattle.tables.specs.Layouts.{Sheet, book_tables}
use Rattle.tables.specs.Columns.{book_of, register_in}
use Rattle.tables.specs.Refusals.{verdict_of, table_refusal, refusal_of, lent_refusal}
use Rattle.tables.specs.declared.Counts.{Counts}
use Rattle.std.specs.Prelude.{Ok, Err}
use Rattle.checks.proofs.Given.{clear_none}
use Rattle.full.specs.Answers.{lent_answer}
use Rattle.tables.specs.Answers.{answer_of}
use Rattle.full_search.specs.Search.{found}
use Rattle.tables.specs.declared.Answer.{Answer}
use Rattle.tables.specs.declared.Answer.TheVariants as Answers

-- ---- an answer unless a refusal is met

pub refused_answer : (o : Option Refusal) (a : Meaning.Answer) {r : Code.Refusal} → Err r ≡ verdict_of o → Answers.Refused r.number r.place ≡ answer_of (unless_refused o a)
unfolding unless_refused
refused_answer none a e = cc
refused_answer (some r) a e = cc

pub clear_answer : (o : Option Refusal) (a : Meaning.Answer) → Ok tt ≡ verdict_of o → answer_of a ≡ answer_of (unless_refused o a)
unfolding unless_refused
clear_answer o a e = ap (λ o. answer_of (unless_refused o a)) (sym (clear_none o e))

-- one refusal after another
in_turn : (a b : Option Refusal) (x : Meaning.Answer) → unless_refused (first_of a b) x ≡ unless_refused a (unless_refused b x)
unfolding unless_refused
in_turn none b x = refl
in_turn (some r) b x = refl

module _ (n : Counts) (s : Sheet) where
  all_refusals : unless_refused (lent_refusal n s false) (found n s) ≡ lent_answer n s
  unfolding lent_answer refusal_of full_check found
  all_refusals = in_turn (table_refusal book_tables n s false) (refusal (book_of n s) (register_in n s)) (found n s)

  pub answer_refused : {r : Code.Refusal} → Err r ≡ verdict_of (lent_refusal n s false) → Answers.Refused r.number r.place ≡ answer_of (lent_answer n s)
  answer_refused e = refused_answer (lent_refusal n s false) (found n s) e ∙ ap answer_of all_refusals

  pub answer_found : {r : Answer} → Ok tt ≡ verdict_of (lent_refusal n s false) → r ≡ answer_of (found n s) → r ≡ answer_of (lent_answer n s)
  answer_found e z = z ∙ clear_answer (lent_refusal n s false) (found n s) e ∙ ap answer_of all_refusals
