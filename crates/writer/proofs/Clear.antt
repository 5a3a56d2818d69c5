-- The writer's answer by its refusals.
use Prim.Native.Nat.{ℕ}
use Rattle.tables.specs.declared.Refusal as Code
use mathlib.Core.Path.{◌≡◌, refl, sym, ap, ◌∙◌}
use mathlib.Core.List.{List}
use mathlib.Core.Option.{Option, none, some}
use native.Mathlib.Omega.{arith}
use lib.ListN.{length}
use Rattle.meaning.specs.Lists.{first_of}
use Rattle.meaning.specs.Events.{Refusal}
use Rattle.tables.specs.Layouts.{Sheet}
use Rattle.tables.specs.Refusals.{sheet_refusal, verdict_of}
use Rattle.tables.specs.declared.Counts.{Counts}
use Rattle.std.specs.Prelude.{Ok, Err}
use Rattle.text.specs.Sheets.{text_of}
use Rattle.checks.specs.Given.{Given, EventsLent, EventsKnown}
use Rattle.checks.proofs.Given.{clear_none, given_sheet}
use Rattle.line_writer.specs.Lines.{sheet_text}
use Rattle.writer.specs.Answers.{write_answer, Answered, text_refusal, writer_refusal, bytes_after, answer_for, bytes_left}
use Rattle.tables.specs.Refusals.{OrRefused}
use Rattle.writer.proofs.Texts.{text_spelled}

module _ (n : Counts) (s : Sheet) where
  pub refused_answer : {r : Code.Refusal} → Err r ≡ verdict_of (sheet_refusal n s) → (out : List ℕ)
      → (Err r ≡ answer_for n s out) × (out ≡ bytes_left n s out)
  unfolding writer_refusal bytes_after
  refused_answer e out = go (sheet_refusal n s) e
    where
      go : (o : Option Refusal) {r : Code.Refusal} → Err r ≡ verdict_of o
          → (Err r ≡ write_answer (first_of o (text_refusal (text_of n s) (length out))) (length (text_of n s)))
          × (out ≡ bytes_after (first_of o (text_refusal (text_of n s) (length out))) (text_of n s) out)
      go none f = let z : ◌≡◌ {A = ℕ} 0 1 = cc in absurd (omega arith)
      go (some r) f = (cc, refl)

  pub none_met : Ok tt ≡ verdict_of (sheet_refusal n s) → sheet_refusal n s ≡ none
  none_met = clear_none (sheet_refusal n s)

  module _ (clear : sheet_refusal n s ≡ none) where
    pub clear_given : Given n s × EventsLent n s × EventsKnown n s
    clear_given = given_sheet n s clear

    pub clear_answer : {r : OrRefused ℕ} {after out : List ℕ} → Answered r after (text_refusal (sheet_text n s) (length out)) (sheet_text n s) out
        → (r ≡ answer_for n s out) × (after ≡ bytes_left n s out)
    unfolding writer_refusal
    clear_answer {r} {after} {out} a =
        let text = text_of n s in
        let same = text_spelled n s clear_given in (
          a.answer_is
              ∙ ap (λ t. write_answer (text_refusal t (length out)) (length t)) same
              ∙ ap (λ o. write_answer (first_of o (text_refusal text (length out))) (length text)) (sym clear),
          a.bytes
              ∙ ap (λ t. bytes_after (text_refusal t (length out)) t out) same
              ∙ ap (λ o. bytes_after (first_of o (text_refusal text (length out))) text out) (sym clear),
        )
