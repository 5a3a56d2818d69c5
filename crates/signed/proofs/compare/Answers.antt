-- `signed::compare` meets its contract.
use mathlib.Core.Path.{ap, sym}
use mathlib.Core.Bool.{not}
use mathlib.Core.List.{List, [], ◌∷◌}
use native.Mathlib.Omega.{arith}
use lib.ListN.{get_or-eq_default}
use Rattle.meaning.specs.Forms.{Comparison, le, lt, eq, ne, ge, gt}
use Rattle.meaning.specs.Meaning.{compared}
use Rattle.signed.specs.Comparing.{comparison_of}
use Rattle.signed.proofs.Signed.{back, equal}
use Rattle.signed.proofs.compare.Goals as goal

abbrev five : List Comparison
five = le ∷ lt ∷ eq ∷ ne ∷ ge ∷ []

pub returns-in-0 : goal.returns-in-0
unfolding compared comparison_of
returns-in-0 c = rw (c.in-0.is, back c.args.a c.ranges.a, back c.args.b c.ranges.b)

pub returns-in-1 : goal.returns-in-1
unfolding compared comparison_of
returns-in-1 c = rw (c.in-1.is, back c.args.a c.ranges.a, back c.args.b c.ranges.b)

pub returns-in-2 : goal.returns-in-2
unfolding compared comparison_of
returns-in-2 c = rw c.in-2.is (equal c.args.a c.args.b c.ranges.a c.ranges.b)

pub returns-in-3 : goal.returns-in-3
unfolding compared comparison_of
returns-in-3 c = rw c.in-3.is (ap not (equal c.args.a c.args.b c.ranges.a c.ranges.b))

pub returns-in-4 : goal.returns-in-4
unfolding compared comparison_of
returns-in-4 c = rw (c.in-4.is, back c.args.a c.ranges.a, back c.args.b c.ranges.b)

pub returns-in_default : goal.returns-in_default
unfolding compared comparison_of
returns-in_default c = rw (back c.args.a c.ranges.a, back c.args.b c.ranges.b) (ap (λ o. compared o c.args.a c.args.b) (sym (get_or-eq_default five gt {n = c.args.code} (omega arith))))
