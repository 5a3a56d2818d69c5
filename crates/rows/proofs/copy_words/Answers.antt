-- `rows::copy_words` meets its contract. The loop's invariant: the first i words are those of src, and the others as they were.
use Prim.Native.Nat.{suc, ◌+◌}
use mathlib.Core.Path.{◌≡◌, ap, ◌∙◌}
use mathlib.Core.List.{◌++◌}
use native.Mathlib.Omega.{arith}
use lib.ListN.{get_or, set, take, drop}
use lib.Seq.{paste, paste-suc}
use borrow.Author.Tests.{lt-leb, le-leb}
use Rattle.rows.specs.Rows.{copied}
use Rattle.rows.proofs.copy_words.Goals as goal

pub returns-then-dst-n : goal.returns-then-dst-n
unfolding copied
returns-then-dst-n c = simp (lt-leb _ _ c.if-dst-n.true)

pub returns-then-src-n : goal.returns-then-src-n
unfolding copied
returns-then-src-n c = simp (le-leb _ _ c.if-dst-n.false, lt-leb _ _ c.if-src-n.true)

pub loop-i-preserved : goal.loop-i-preserved
loop-i-preserved c =
    let i = c.loop-i.i in
    let d = c.args.dst.now in
    let s = c.args.src.now in
    let word = get_or s i 0 in
    let here : i ≡ 0 + i = omega arith in
    let next : suc i ≡ i + 1 = omega arith in
    ap (λ l. set l i word) c.loop-i.invariant
    ∙ ap (λ k. set (paste d 0 s i) k word) here
    ∙ paste-suc d 0 s i 0 (omega arith) (omega arith)
    ∙ ap (paste d 0 s) next

pub returns : goal.returns
unfolding copied
returns c =
    let past : c.loop-i.i ≡ c.args.n = omega arith in
    let none : 0 + c.loop-i.i ≡ c.loop-i.i = omega arith in
    simp (le-leb _ _ c.if-dst-n.false, le-leb _ _ c.if-src-n.false, ← past)
    (c.loop-i.invariant ∙ ap (λ k. take c.loop-i.i c.args.src.now ++ drop k c.args.dst.now) none)
