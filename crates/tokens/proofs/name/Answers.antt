-- `tokens::name` meets its contract: letters that are too many are no name, and others are found by their number.
use Prim.Native.Nat.{◌-◌}
use mathlib.Core.Path.{◌≡◌, sym, ap, ◌∙◌}
use native.Mathlib.Omega.{arith}
use lib.ListN.{length, take, drop}
use Rattle.lexical.proofs.Runs.{run_within, run_passes, take_run}
use Rattle.text.specs.Names.{is_letter, letters_in}
use Rattle.tokens.specs.Tokens.{packed}
use Rattle.tokens.proofs.Names.{name_long}
use Rattle.tokens.proofs.name.Goals as goal

pub returns-then-end-at-gt7 : goal.returns-then-end-at-gt7
returns-then-end-at-gt7 c =
    let l = letters_in (drop c.args.at c.args.line.now) in
    let ended = c.letters_end-end.ensures in
    (rw (name_long l (omega (arith, ended))), ended)

pub pack-requires : goal.pack-requires
pack-requires c =
    omega (arith, c.letters_end-end.ensures, run_within is_letter c.args.line.now c.args.at)

pub returns : goal.returns
returns c =
    let text = drop c.args.at c.args.line.now in
    let ended = c.letters_end-end.ensures in
    let count : c.letters_end-end.result - c.args.at ≡ length (letters_in text) = omega (arith, ended) in
    (c.place-place.ensures (letters_in text) (run_passes is_letter text) (ap packed (sym (take_run is_letter text) ∙ ap (λ n. take n text) (sym count)) ∙ sym c.pack.ensures), ended)
