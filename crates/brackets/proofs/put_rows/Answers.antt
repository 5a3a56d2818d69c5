-- `brackets::put_rows` meets its contract. The loop's invariant: the tokens from i on put the rows that are not done yet.
use mathlib.Core.Path.{sym, ap, ◌∙◌}
use Rattle.std.specs.Prelude.{Some}
use native.Mathlib.Omega.{arith}
use Rattle.tokens.proofs.Tokens.{found_stands}
use Rattle.brackets.proofs.Whole.{putting_first, begin_fits, putting_begin, item_fits, putting_item, end_fits, putting_end, putting_last, putting_bad}
use Rattle.brackets.proofs.put_rows.Goals as goal

pub loop-found-init : goal.loop-found-init
loop-found-init c = λ t w whole. putting_first _ _ _ t w whole

pub overflow_sub-codes : goal.overflow_sub-codes
overflow_sub-codes c =
    let now = c.loop-found in
    let s = found_stands c.args.line.now now.i _ (sym (ap Some c.in-Begin.is) ∙ c.in-Some.ensures) in
    let (t, w, whole) = c.requires.0 in
    let r = now.invariant t w whole in
    (begin_fits r _ _ s).0

pub bounds-codes-depth : goal.bounds-codes-depth
bounds-codes-depth c =
    let now = c.loop-found in
    let s = found_stands c.args.line.now now.i _ (sym (ap Some c.in-Begin.is) ∙ c.in-Some.ensures) in
    let (t, w, whole) = c.requires.0 in
    let r = now.invariant t w whole in
    (begin_fits r _ _ s).1

pub loop-found-smaller-in-Begin : goal.loop-found-smaller-in-Begin
loop-found-smaller-in-Begin c =
    let now = c.loop-found in
    let s = found_stands c.args.line.now now.i _ (sym (ap Some c.in-Begin.is) ∙ c.in-Some.ensures) in
    omega (arith, s.inside, s.further)

pub loop-found-preserved-in-Begin : goal.loop-found-preserved-in-Begin
loop-found-preserved-in-Begin c =
    let now = c.loop-found in
    let s = found_stands c.args.line.now now.i _ (sym (ap Some c.in-Begin.is) ∙ c.in-Some.ensures) in
    λ t w whole. putting_begin (now.invariant t w whole) _ _ s

pub overflow_cast-words : goal.overflow_cast-words
overflow_cast-words c =
    let now = c.loop-found in
    let s = found_stands c.args.line.now now.i _ (sym (ap Some c.in-Item.is) ∙ c.in-Some.ensures) in
    let (t, w, whole) = c.requires.0 in
    let r = now.invariant t w whole in
    record { fits = omega (arith, (item_fits r _ _ s).0) }

pub offset_bounds-words-column : goal.offset_bounds-words-column
offset_bounds-words-column c =
    let now = c.loop-found in
    let s = found_stands c.args.line.now now.i _ (sym (ap Some c.in-Item.is) ∙ c.in-Some.ensures) in
    let (t, w, whole) = c.requires.0 in
    let r = now.invariant t w whole in
    record { fits = omega (arith, (item_fits r _ _ s).1) }

pub bounds-words-column : goal.bounds-words-column
bounds-words-column c =
    let now = c.loop-found in
    let s = found_stands c.args.line.now now.i _ (sym (ap Some c.in-Item.is) ∙ c.in-Some.ensures) in
    let (t, w, whole) = c.requires.0 in
    let r = now.invariant t w whole in
    (item_fits r _ _ s).1

pub overflow_add-column : goal.overflow_add-column
overflow_add-column c =
    let now = c.loop-found in
    let s = found_stands c.args.line.now now.i _ (sym (ap Some c.in-Item.is) ∙ c.in-Some.ensures) in
    let (t, w, whole) = c.requires.0 in
    let r = now.invariant t w whole in
    record { fits = omega (arith, (item_fits r _ _ s).1) }

pub loop-found-smaller-in-Item : goal.loop-found-smaller-in-Item
loop-found-smaller-in-Item c =
    let now = c.loop-found in
    let s = found_stands c.args.line.now now.i _ (sym (ap Some c.in-Item.is) ∙ c.in-Some.ensures) in
    omega (arith, s.inside, s.further)

pub loop-found-preserved-in-Item : goal.loop-found-preserved-in-Item
loop-found-preserved-in-Item c =
    let now = c.loop-found in
    let s = found_stands c.args.line.now now.i _ (sym (ap Some c.in-Item.is) ∙ c.in-Some.ensures) in
    λ t w whole. putting_item (now.invariant t w whole) _ _ s

pub returns-then-depth-lt1 : goal.returns-then-depth-lt1
returns-then-depth-lt1 c =
    let now = c.loop-found in
    let s = found_stands c.args.line.now now.i _ (sym (ap Some c.in-End.is) ∙ c.in-Some.ensures) in
    λ t w whole. putting_last (now.invariant t w whole) _ s c.if-depth-lt1.true

pub overflow_add-row : goal.overflow_add-row
overflow_add-row c =
    let now = c.loop-found in
    let s = found_stands c.args.line.now now.i _ (sym (ap Some c.in-End.is) ∙ c.in-Some.ensures) in
    let (t, w, whole) = c.requires.0 in
    let r = now.invariant t w whole in
    record { fits = omega (arith, end_fits r _ s c.if-depth-lt1.false) }

pub loop-found-smaller : goal.loop-found-smaller
loop-found-smaller c =
    let now = c.loop-found in
    let s = found_stands c.args.line.now now.i _ (sym (ap Some c.in-End.is) ∙ c.in-Some.ensures) in
    omega (arith, s.inside, s.further)

pub loop-found-preserved : goal.loop-found-preserved
loop-found-preserved c =
    let now = c.loop-found in
    let s = found_stands c.args.line.now now.i _ (sym (ap Some c.in-End.is) ∙ c.in-Some.ensures) in
    λ t w whole. rw c.write_row.ensures (putting_end (now.invariant t w whole) _ s c.if-depth-lt1.false c.requires.1)

pub returns : goal.returns
returns c = λ t w whole. absurd (putting_bad (c.loop-found.invariant t w whole) c.in_default.ensures)
