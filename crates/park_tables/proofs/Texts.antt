-- The text after a batch, by what the batch check and the writer leave.
use Prim.Native.Nat.{ℕ, ◌≤◌}
use mathlib.Core.Path.{◌≡◌, refl, sym, ap, ap₂, ◌∙◌, subst}
use mathlib.Core.Bool.{Bool, true, false, cond}
use mathlib.Core.Logic.{⊎_elim}
use mathlib.Core.List.{List, [], ◌∷◌}
use mathlib.Core.Option.{Option, none, some}
use native.Mathlib.Omega.{arith}
use borrow.Author.Tests.{lt-ltb, le-ltb, ltb-false}
use lib.Dec.{ltb}
use lib.ListN.{length, replicate, length-replicate}
use Rattle.meaning.specs.Lists.{first_of}
use Rattle.meaning.specs.Answers as Meaning
use Rattle.meaning.specs.Answers.{Outcome}
use Rattle.tables.specs.Layouts.{Sheet, sheet_of}
use Rattle.tables.specs.Answers.{answer_of}
use Rattle.tables.specs.Refusals.{sheet_refusal}
use Rattle.tables.specs.declared.Counts.{Counts}
use Rattle.tables.specs.declared.Answer.{Answer}
use Rattle.tables.specs.declared.Answer.TheVariants.{Accepted, Broken, Refused}
use Rattle.tables.specs.contracts.Answer.{the_type}
use denote.Enum.Declared.{tag_of}
use package.types.Run.{OneOf}
use Rattle.text.specs.Texts.{max_text}
use Rattle.text.specs.Sheets.{text_of}
use Rattle.writer.specs.Answers.{text_refusal, writer_refusal}
use Rattle.lent_run.specs.Lent.{scratch_short}
use Rattle.batch.specs.Checked.{lent_outcome, RegisterLeft, Left}
use Rattle.batch.specs.declared.Checked.{Checked}
use Rattle.answers.specs.Checks.{outcome_printed}
use Rattle.answers.proofs.Checking.{long_enough}
use Rattle.park_tables.specs.Tables.{counts_left, sheet_left, text_printed, if_accepted, left_printed, after_printed}

-- bytes for the longest text are enough for every text
pub room_enough : (n : Counts) (s : Sheet) (lent : ℕ) → max_text ≤ lent → writer_refusal n s lent ≡ writer_refusal n s max_text
unfolding writer_refusal text_refusal
room_enough n s lent h = ap (first_of (sheet_refusal n s)) (go (text_of n s) (ltb max_text (length (text_of n s))) refl)
  where
    go : (text : List ℕ) (long : Bool) → ltb max_text (length text) ≡ long → text_refusal text lent ≡ text_refusal text max_text
    go text true e = rw e
    go text false e = rw (e, le-ltb lent (length text) (omega (arith, ltb-false)))

-- ---- by the answer

if_accepted_lem : (a : Meaning.Answer) (bytes other : List ℕ) → answer_of a ≡ Accepted → bytes ≡ if_accepted a bytes other
unfolding if_accepted
if_accepted_lem Meaning.accepted bytes other e = refl
if_accepted_lem (Meaning.broken_at rule id) bytes other e = cc
if_accepted_lem (Meaning.refused number place) bytes other e = cc

if_other : (a : Meaning.Answer) (bytes other : List ℕ) → (answer_of a ≡ Accepted → ⊥) → other ≡ if_accepted a bytes other
unfolding if_accepted
if_other Meaning.accepted bytes other n = absurd (n refl)
if_other (Meaning.broken_at rule id) bytes other n = refl
if_other (Meaning.refused number place) bytes other n = refl

-- an answer of another variant is not accepted
pub not_accepted : (a : Answer) → OneOf (1 ∷ 2 ∷ []) (tag_of the_type a) → a ≡ Accepted → ⊥
not_accepted Accepted w e = ⊎_elim (λ w. omega arith) (λ w. omega arith) w
not_accepted (Broken rule id) w e = let z : ◌≡◌ {A = ℕ} 0 1 = cc in omega arith
not_accepted (Refused number place) w e = let z : ◌≡◌ {A = ℕ} 0 1 = cc in omega arith

-- ---- what a batch check leaves

module _ {o : Outcome} {list list' objects links objects' links' : List ℕ} {r : Checked} (left : Left o list objects links r list' objects' links')
    (n : Counts) (types floors relationships rules bodies events : List ℕ) where
  abbrev s : Sheet
  s = sheet_of types floors relationships rules bodies objects links events

  -- an accepted batch
  pub text_left : r.answer ≡ Accepted
      → text_printed (record { types = n.types; floors = n.floors; relationships = n.relationships; rules = n.rules; objects = r.objects; links = r.links; events = 0 }) (sheet_of types floors relationships rules bodies objects' links' [])
      ≡ left_printed o n s
  unfolding left_printed counts_left sheet_left
  text_left e =
      (λ i. text_printed (record { types = n.types; floors = n.floors; relationships = n.relationships; rules = n.rules; objects = left.objects_used i; links = left.links_used i; events = 0 }) (sheet_of types floors relationships rules bodies (left.register.objects_are i) (left.register.links_are i) []))
      ∙ if_accepted_lem o.answer _ (outcome_printed o) (sym left.answer_is ∙ e)

  -- any other
  pub answer_left : (r.answer ≡ Accepted → ⊥) → outcome_printed o ≡ left_printed o n s
  unfolding left_printed
  answer_left other = if_other o.answer (text_printed (counts_left o n) (sheet_left o s)) (outcome_printed o) (λ e. other (left.answer_is ∙ e))

-- with the scratch and the list that are lent
module _ (n : Counts) (s : Sheet) (h : length s.objects ≤ 10240) (k : length s.links ≤ 12288) where
  abbrev lent_here : Outcome
  lent_here = lent_outcome n s (scratch_short s.objects s.links (replicate 10240 0) (replicate 12288 0)) (length {A = ℕ} (replicate 65536 0))

  -- what is lent is long enough
  pub lent_enough : lent_here ≡ lent_outcome n s false 65536
  lent_enough =
      ap₂ (λ short words. lent_outcome n s short words)
      (long_enough s.objects s.links (replicate 10240 0) (replicate 12288 0) (omega (arith, length-replicate {A = ℕ} 10240 0)) (omega (arith, length-replicate {A = ℕ} 12288 0)))
      (length-replicate {A = ℕ} 65536 0)

  pub lent_left : left_printed lent_here n s ≡ after_printed 65536 n s
  unfolding after_printed
  lent_left = ap (λ o. left_printed o n s) lent_enough

  pub register_left_lem :
      {objects links objects' links' : List ℕ}
      → RegisterLeft lent_here objects links objects' links'
      → RegisterLeft (lent_outcome n s false 65536) objects links objects' links'
  register_left_lem {objects} {links} {objects'} {links'} = subst (λ o. RegisterLeft o objects links objects' links') lent_enough
