-- The outcome of lent tables: the refusal that the run met, or the outcome of the batch's end.
use Prim.Native.Nat.{ℕ, suc}
use mathlib.Core.Path.{◌≡◌, refl, sym, ap, ap₂, ◌∙◌}
use mathlib.Core.Bool.{Bool}
use mathlib.Core.List.{List, [], ◌∷◌}
use mathlib.Core.Option.{Option, none, some, map, some-injective}
use lib.ListN.{length}
use Rattle.meaning.specs.Lists.{first_of}
use Rattle.meaning.specs.Schema.{Schema}
use Rattle.meaning.specs.Register.{Register}
use Rattle.meaning.specs.Events.{Event, insert, delete, set, join, part, special, general, Lent, Refusal, checks, event_refusal, refusal_from, batch_refusal, apply}
use Rattle.meaning.specs.Reach.{change_by, selected_pairs}
use Rattle.meaning.specs.Answers.{refused, refusal, list_refusal, check_refusal, Outcome, outcome_of, outcome_unless, batch_check}
use Rattle.meaning.proofs.Lists.{first_of_none}
use Rattle.tables.specs.Layouts.{Sheet, layouts}
use Rattle.tables.specs.Columns.{book_of, register_in, batch_in}
use Rattle.tables.specs.Refusals.{table_refusal, refusal_of}
use Rattle.tables.specs.declared.Counts.{Counts}
use Rattle.events.specs.Runs.{lent_by}
use Rattle.lent_run.specs.Lent.{scratch_short, events_meet, run_refusal}
use Rattle.batch.specs.Checked.{lent_outcome}
use Rattle.batch_judge.specs.Judged.{end_outcome}

-- ---- the words that are lent for a list are no matter of an event

module _ (S : Schema) (objects links : List ℕ) (words : ℕ) where
  event_same : (g : Register) (e : Event) → event_refusal S (lent_by objects links 0) g e ≡ event_refusal S (lent_by objects links words) g e
  unfolding event_refusal checks
  event_same g (insert id t) = refl
  event_same g (delete id) = refl
  event_same g (set id k v) = refl
  event_same g (join r a b) = refl
  event_same g (part r a b) = refl
  event_same g (special id t) = refl
  event_same g (general id t) = refl

  from_same : (n : ℕ) (g : Register) (es : List Event) → refusal_from S (lent_by objects links 0) n g es ≡ refusal_from S (lent_by objects links words) n g es
  unfolding refusal_from
  from_same n g [] = refl
  from_same n g (e ∷ es) =
      ap₂ (λ a b. first_of (map (λ number. record { number = number; place = n }) a) b) (event_same g e) (from_same (suc n) (apply S e g) es)

  pub batch_same : (g : Register) (es : List Event) → batch_refusal S (lent_by objects links 0) g es ≡ batch_refusal S (lent_by objects links words) g es
  unfolding batch_refusal
  batch_same g es = from_same 0 g es

-- ---- the outcome

module _ (n : Counts) (s : Sheet) (scratch_objects scratch_links : List ℕ) (words : ℕ) where
  abbrev short : Bool
  short = scratch_short s.objects s.links scratch_objects scratch_links

  abbrev lent : Lent
  lent = lent_by s.objects s.links words

  abbrev g : Register
  g = register_in n s

  abbrev S : Schema
  S = (book_of n s).schema

  events_same : events_meet n s ≡ batch_refusal S lent g (batch_in n s)
  events_same = batch_same S s.objects s.links words g (batch_in n s)

  -- what the run does not refuse
  pub record Unrefused : Type 0 where
    pub tables : table_refusal layouts n s short ≡ none
    pub contents : refusal (book_of n s) g ≡ none
    pub events : batch_refusal S lent g (batch_in n s) ≡ none

  pub unrefused : run_refusal n s scratch_objects scratch_links ≡ none → Unrefused
  unfolding run_refusal refusal_of
  unrefused e =
      let (lower, met) = first_of_none (refusal_of layouts n s short) (events_meet n s) e in
      let (tables, contents) = first_of_none (table_refusal layouts n s short) (refusal (book_of n s) g) lower in
      record { tables = tables; contents = contents; events = sym events_same ∙ met }

  pub outcome_end : Unrefused → lent_outcome n s short words ≡ end_outcome (book_of n s) lent g (change_by S g (batch_in n s))
  unfolding lent_outcome batch_check check_refusal outcome_unless
  outcome_end u = rw (u.tables, u.contents, u.events)

  -- a refusal that the run met is the outcome's
  abbrev refused_by : Refusal → Outcome
  refused_by r = record { answer = refused r.number r.place; pairs = []; register = g }

  three : (a b c d : Option Refusal) (o : Outcome) {r : Refusal} → first_of (first_of a b) c ≡ some r
      → outcome_unless a g (outcome_unless (first_of b (first_of c d)) g o) ≡ refused_by r
  unfolding outcome_unless
  three (some x) b c d o e = ap refused_by (some-injective _ _ e)
  three none (some x) c d o e = ap refused_by (some-injective _ _ e)
  three none none (some x) d o e = ap refused_by (some-injective _ _ e)
  three none none none d o e = cc

  pub outcome_refused : {r : Refusal} → run_refusal n s scratch_objects scratch_links ≡ some r → lent_outcome n s short words ≡ refused_by r
  unfolding run_refusal refusal_of lent_outcome batch_check check_refusal
  outcome_refused e =
      three (table_refusal layouts n s short) (refusal (book_of n s) g) (batch_refusal S lent g (batch_in n s)) (list_refusal lent (selected_pairs (book_of n s) (change_by S g (batch_in n s)))) (outcome_of (book_of n s) g (change_by S g (batch_in n s)))
      (ap (first_of (first_of (table_refusal layouts n s short) (refusal (book_of n s) g))) (sym events_same) ∙ e)
