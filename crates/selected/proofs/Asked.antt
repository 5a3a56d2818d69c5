-- Whether a rule is selected at the object in a row, by what the code asks.
use Prim.Native.Nat.{ℕ, ◌<◌}
use mathlib.Core.Path.{◌≡◌, refl, sym, ap, ap₂, ◌∙◌}
use mathlib.Core.Logic.{⊎_elim}
use mathlib.Core.Bool.{Bool, true, false, ◌&&◌, ◌||◌, not, false≢true}
use mathlib.Core.List.{List, [], ◌∷◌, map}
use lib.Dec.{T}
use lib.ListN.{get_or, take}
use Rattle.meaning.specs.Schema.{under}
use Rattle.meaning.specs.Register.{is_under}
use Rattle.meaning.specs.Forms.{Rule}
use Rattle.meaning.specs.Reach.{Change, down, moves, brought_in, events_select}
use Rattle.rows.specs.Rows.{word_at}
use Rattle.tables.specs.Bodies.{whole_body}
use Rattle.tables.specs.Columns.{types_of, object_row, rule_row}
use Rattle.tables.specs.declared.Counts.{Counts}
use Rattle.body_rows.specs.Marks.{body_of}
use Rattle.walks.specs.Site.{Site, site_of, id_in}
use Rattle.trace_places.specs.Traces.{Traced}
use Rattle.reach.specs.Moves.{part_moves, moves_at}
use Rattle.reach.proofs.Leaves.{under_end}
use Rattle.meaning.proofs.Lists.{so_false, decide}
use Rattle.going_back.specs.Back.{candidate}
use Rattle.row_sets.proofs.Tests.{so_true}
use Rattle.going_back.proofs.Coverage.{selected_candidate}
use Rattle.going_back.proofs.Rules.{body_form}
use Rattle.quietness.specs.declared.quiet.Still.{Still}
use Rattle.selected.specs.Ready.{KnownBy, Marked}

-- ---- two parts, of which the first decides or not

pub first_holds : {a : Bool} (b : Bool) → a ≡ true → true ≡ (a || b)
first_holds b e = sym (rw e)

pub second_decides : {a b r : Bool} → a ≡ false → r ≡ b → r ≡ (a || b)
second_decides e q = q ∙ sym (rw e)

or_second : (a : Bool) {b : Bool} → b ≡ true → (a || b) ≡ true
or_second true e = refl
or_second false e = e

or_none : (a : Bool) {b : Bool} → b ≡ false → (a || b) ≡ a
or_none true e = refl
or_none false e = e

-- what is asked only where it is not still
pub unless_still : (still : Bool) {a b : Bool} → a ≡ b → (not still && (true && a)) ≡ (b && not still)
unless_still still {a} e = swapped still a ∙ ap (λ i. i && not still) e
  where
    swapped : (s i : Bool) → (not s && (true && i)) ≡ (i && not s)
    swapped true true = refl
    swapped true false = refl
    swapped false true = refl
    swapped false false = refl

-- ---- a rule at a row

module _ {c : Change} {n : Counts} {types objects links events trace : List ℕ} (traced : Traced c n types objects links events trace) (index rules bodies : List ℕ) (rule : ℕ) {row : ℕ} (h : row < n.objects) {inside : Bool}
    (under_is : inside ≡ under (types_of n.types types) (object_row objects row).type (word_at rules 2 rule 0)) where
  abbrev r : Rule
  r = rule_row rules bodies rule

  abbrev u : ℕ
  u = id_in objects row

  abbrev w : Site
  w = site_of n types objects links index bodies rule

  at_end : is_under c.schema.types c.end u r.context ≡ inside
  unfolding rule_row
  at_end = sym (under_is ∙ under_end traced h (word_at rules 2 rule 0))

  pub not_under : inside ≡ false → false ≡ events_select c r u
  unfolding events_select
  not_under e = sym (rw (at_end, e))

  module _ (yes : inside ≡ true) {brought : Bool} (brought_is : brought ≡ brought_in c r u) where
    is_selected : events_select c r u ≡ (moves c r.body (u ∷ []) down || brought)
    unfolding events_select
    is_selected = rw (at_end, yes, brought_is)

    pub was_brought : brought ≡ true → true ≡ events_select c r u
    was_brought e = sym (is_selected ∙ or_second (moves c r.body (u ∷ []) down) e)

    -- the walk of the body answers
    pub body_moved : brought ≡ false → T (whole_body (body_of bodies rule) (word_at rules 2 rule 1)) → (vars : List ℕ) → take 1 vars ≡ row ∷ [] → {moved : Bool} → moved ≡ moves_at c w (word_at rules 2 rule 1) vars 1 2 → moved ≡ events_select c r u
    unfolding moves_at part_moves rule_row
    body_moved e whole vars self q =
        q
        ∙ ap₂ (λ p l. part_moves c p (map (id_in objects) l) down) (sym (body_form n types rules bodies objects links index rule whole)) self
        ∙ sym (is_selected ∙ or_none (moves c r.body (u ∷ []) down) e)

-- ---- a row that is not marked

pub unmarked : {c : Change} {n : Counts} {types objects links events trace : List ℕ} (traced : Traced c n types objects links events trace) (rules bodies : List ℕ) (rule : ℕ) (floored marks : List Bool) {still : Still}
    → Marked n types objects links events trace rules bodies rule floored still marks → KnownBy c rules bodies rule floored still
    → (row : ℕ) → row < n.objects → get_or marks row false ≡ false → false ≡ events_select c (rule_row rules bodies rule) (id_in objects row)
unmarked {c} {objects = objects} traced rules bodies rule floored marks marked known row h off =
    let r = rule_row rules bodies rule in
    let u = id_in objects row in
    ⊎_elim
    (λ (yes : T (events_select c r u)). absurd (false≢true (sym off ∙ marked c traced known.floors known.stills row h (so_true (candidate c r u) (selected_candidate c r u known.typed yes)))))
    (λ no. sym (so_false (events_select c r u) no))
    (decide (events_select c r u))
