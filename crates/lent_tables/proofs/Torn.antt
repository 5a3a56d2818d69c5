-- Tables that are not whole rows, the events' table last.
use mathlib.Core.Path.{◌≡◌, sym, ap, ◌∙◌}
use mathlib.Core.Bool.{Bool, ◌||◌, not, or-false, or_assoc}
use mathlib.Core.List.{List, [], ◌∷◌, ◌++◌}
use Rattle.meaning.specs.Lists.{any}
use Rattle.rows.specs.Rows.{whole_rows}
use Rattle.tables.specs.Layouts.{Sheet, Layout, event_table, book_tables, layouts}
use Rattle.tables.specs.Refusals.{not_whole}

pub any_last : {A : Type 0} (p : A → Bool) (l : List A) (x : A) → any p (l ++ x ∷ []) ≡ (any p l || p x)
any_last p [] x = or-false (p x)
any_last p (y ∷ l) x = ap (λ b. p y || b) (any_last p l x) ∙ sym (or_assoc (p y) (any p l) (p x))

abbrev pub torn : Sheet → Layout → Bool
torn s l = not (whole_rows (l.words s) l.width)

pub all_whole : (s : Sheet) → not_whole layouts s ≡ (not_whole book_tables s || torn s event_table)
unfolding layouts
all_whole s = any_last (torn s) book_tables event_table
