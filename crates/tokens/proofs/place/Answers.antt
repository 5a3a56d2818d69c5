-- `tokens::place` meets its contract. The loop's invariant: letters that are the value are found from k on as among all names.
use mathlib.Core.Path.{◌≡◌, refl, sym, ap, ◌∙◌}
use native.Mathlib.Omega.{arith}
use borrow.Author.Rules.{rules}
use borrow.Author.Tests.{eq-eqb, ne_eqb}
use Rattle.text.specs.Names.{names, name_count, place_of}
use Rattle.tokens.specs.Tokens.{place_found}
use Rattle.tokens.specs.Tokens.{packed}
use Rattle.tokens.proofs.Names.{name_words, place_one, place_past}
use Rattle.tokens.proofs.place.Goals as goal

pub loop-k-init : goal.loop-k-init
unfolding place_of
loop-k-init c = (search rules, λ l e q. refl)

pub returns-then-row-value : goal.returns-then-row-value
unfolding name_words names packed
returns-then-row-value c =
    λ l e q. ap place_found (sym (rw (eq-eqb _ _ (c.if-row-value.true ∙ sym q)) at (place_one l c.loop-k.k e c.loop-k-test.true)) ∙ c.loop-k.invariant.1 l e q)

pub loop-k-preserved : goal.loop-k-preserved
unfolding name_words names packed
loop-k-preserved c =
    (search rules, λ l e q. sym (rw (ne_eqb _ _ (λ h. c.if-row-value.false (h ∙ q))) at (place_one l c.loop-k.k e c.loop-k-test.true)) ∙ c.loop-k.invariant.1 l e q)

pub returns : goal.returns
returns c =
    let past : c.loop-k.k ≡ name_count = omega arith in
    λ l e q. ap place_found (sym (place_past l) ∙ (rw past at (c.loop-k.invariant.1 l e q)))
