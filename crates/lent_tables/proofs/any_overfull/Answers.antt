-- `lent_tables::any_overfull` meets its contract.
use mathlib.Core.Path.{◌≡◌, refl, ap₂, ◌∙◌}
use mathlib.Core.Bool.{Bool, ◌||◌}
use Rattle.tables.specs.Layouts.{book_tables}
use Rattle.lent_tables.proofs.any_overfull.Goals as goal

either : {a b x y : Bool} → a ≡ x → b ≡ y → (a || b) ≡ (x || y)
either p q = ap₂ (λ a b. a || b) p q

pub returns : goal.returns
unfolding book_tables
returns c =
    c.or-7.ensures ∙ either c.too_many-a.ensures
    (c.or-6.ensures ∙ either c.too_many-b.ensures
    (c.or-5.ensures ∙ either c.too_many-c.ensures
    (c.or-4.ensures ∙ either c.too_many-d.ensures
    (c.or-3.ensures ∙ either c.too_many-e.ensures
    (c.or-2.ensures ∙ either c.too_many-f.ensures
    (c.or.ensures ∙ either c.too_many-g.ensures refl))))))
