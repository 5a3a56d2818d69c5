-- A refusal by itself, or the bytes: by what the checks and the writer answer.
use Prim.Native.Nat.{ℕ, ◌≤◌}
use Rattle.tables.specs.declared.Refusal as Code
use mathlib.Core.Path.{◌≡◌, refl, sym, ap, ap₂, ◌∙◌}
use mathlib.Core.List.{List, []}
use mathlib.Core.Option.{Option, none, some}
use lib.ListN.{length}
use Rattle.meaning.specs.Events.{Refusal}
use Rattle.meaning.specs.Answers.{refused}
use Rattle.rows.specs.Rows.{in_front}
use Rattle.tables.specs.Refusals.{verdict_of}
use Rattle.std.specs.Prelude.{Ok, Err}
use Rattle.writer.specs.Answers.{write_answer, bytes_after}
use Rattle.printing.specs.Printed.{printed}
use Rattle.park_tables.specs.Tables.{unless_refused}

-- ---- the checks' verdict

module _ (bytes : List ℕ) where
  pub verdict_refused : (o : Option Refusal) {r : Code.Refusal} → Err r ≡ verdict_of o → printed (refused r.number r.place) [] ≡ unless_refused o bytes
  unfolding unless_refused
  verdict_refused none e = cc
  verdict_refused (some r) e = cc

  pub verdict_clear : (o : Option Refusal) → o ≡ none → bytes ≡ unless_refused o bytes
  unfolding unless_refused
  verdict_clear o e = sym (ap (λ o. unless_refused o bytes) e)

-- ---- the writer's answer

module _ (text out : List ℕ) where
  pub write_refused : (o : Option Refusal) {r : Code.Refusal} → Err r ≡ write_answer o (length text)
      → (bytes_after o text out ≡ out) × (printed (refused r.number r.place) [] ≡ unless_refused o text)
  unfolding bytes_after unless_refused
  write_refused none e = (cc, cc)
  write_refused (some r) e = (refl, cc)

  pub write_done : (o : Option Refusal) {size : ℕ} → Ok size ≡ write_answer o (length text)
      → (bytes_after o text out ≡ in_front (unless_refused o text) out) × (size ≡ length (unless_refused o text))
  unfolding bytes_after unless_refused
  write_done none e = (refl, cc)
  write_done (some r) e = (cc, cc)
