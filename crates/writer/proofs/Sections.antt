-- The lines of a section, one after the other, and what they need.
use Prim.Native.Nat.{ℕ, ◌+◌, ◌<◌}
use mathlib.Core.Path.{◌≡◌, refl, sym, ap, subst}
use mathlib.Core.List.{List, [], ◌++◌}
use native.Mathlib.Numerals.{add-one}
use native.Mathlib.Omega.{arith}
use Rattle.tables.specs.Layouts.{Sheet, section_count}
use Rattle.tables.specs.declared.Counts.{Counts}
use Rattle.text.specs.Names.{floor_name, rule_name, object_name, link_name, first_event}
use Rattle.checks.specs.Given.{Given, EventsLent, EventsKnown}
use Rattle.line_writer.specs.Lines.{Fit, rows_in, lines_of}

pub lines_none : (line : ℕ → List ℕ) → lines_of line 0 ≡ []
unfolding lines_of
lines_none line = refl

pub lines_more : (line : ℕ → List ℕ) (k : ℕ) → lines_of line k ++ line k ≡ lines_of line (k + 1)
unfolding lines_of
lines_more line k = ap (lines_of line) (sym (add-one k))

-- the used rows of tables that are not refused have what their lines need
module _ {n : Counts} {s : Sheet} (sound : Given n s × EventsLent n s × EventsKnown n s) where
  pub sound_fit : (section i : ℕ) → section < section_count → i < rows_in n section → Fit s section i
  unfolding rows_in
  sound_fit section i there h =
      let used : (k : ℕ) → section ≡ k → i < rows_in n k = λ k e. subst (λ m. i < rows_in n m) e h in
      record {
        there = there;
        whole = λ e. sound.0.whole i (used rule_name e);
        cells = λ e. sound.0.cells i (used object_name e);
        object_lent = λ e. omega (arith, used object_name e, sound.0.objects_lent_lem);
        floor_lent = λ e. omega (arith, used floor_name e, sound.0.floors_lent);
        link_lent = λ e. omega (arith, used link_name e, sound.0.links_lent_lem);
        kind = λ e. sound.2.kinds i (used first_event e);
        event_lent = λ e. omega (arith, used first_event e, sound.1.events_lent);
      }
