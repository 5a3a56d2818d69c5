-- The writer's refusals one after the other are the definitions' first refusal.
use Prim.Native.Nat.{ℕ}
use Rattle.tables.specs.Refusals.{refused_by}
use Rattle.tables.specs.declared.Refusal as Code
use mathlib.Core.Path.{◌≡◌, sym, ap, ◌∙◌}
use mathlib.Core.Bool.{false}
use mathlib.Core.Option.{Option, none, some}
use native.Mathlib.Omega.{arith}
use Rattle.meaning.specs.Lists.{first_of}
use Rattle.meaning.specs.Events.{Refusal}
use Rattle.meaning.specs.Answers.{refusal_at}
use Rattle.tables.specs.Layouts.{Sheet, layouts}
use Rattle.tables.specs.Refusals.{refusal_of, event_fault, sheet_refusal, verdict_of, found_of}
use Rattle.tables.specs.declared.Counts.{Counts}
use Rattle.std.specs.Prelude.{Ok, Err}
use Rattle.std.specs.Prelude.{Some, None}
use Rattle.schema.proofs.Founds.{found_none, found_some}
use Rattle.checks.proofs.Given.{clear_none}

module _ (n : Counts) (s : Sheet) where
  abbrev tables : Option Refusal
  tables = refusal_of layouts n s false

  pub tables_refused : {r : Code.Refusal} → Err r ≡ verdict_of tables → Err r ≡ verdict_of (sheet_refusal n s)
  unfolding sheet_refusal
  tables_refused e = go tables e
    where
      go : (o : Option Refusal) {r : Code.Refusal} → Err r ≡ verdict_of o → Err r ≡ verdict_of (first_of o (refusal_at 7 (event_fault n s)))
      go none e = let z : ◌≡◌ {A = ℕ} 0 1 = cc in absurd (omega arith)
      go (some r) e = e

  module _ (clear : Ok tt ≡ verdict_of tables) where
    later : sheet_refusal n s ≡ refusal_at 7 (event_fault n s)
    unfolding sheet_refusal
    later = ap (λ o. first_of o (refusal_at 7 (event_fault n s))) (clear_none tables clear)

    pub event_refused : {place : ℕ} → Some place ≡ found_of (event_fault n s) → refused_by 7 place ≡ verdict_of (sheet_refusal n s)
    unfolding refusal_at
    event_refused e = sym (ap verdict_of (later ∙ ap (refusal_at 7) (found_some (event_fault n s) e)))

    pub none_refused : None ≡ found_of (event_fault n s) → Ok tt ≡ verdict_of (sheet_refusal n s)
    unfolding refusal_at
    none_refused e = sym (ap verdict_of (later ∙ ap (refusal_at 7) (found_none (event_fault n s) e)))
