-- `typing::leaf` meets its contract: the tests that the code makes in turn are those of `typed_leaf`.
use Prim.Native.Nat.{◌/◌}
use mathlib.Core.Path.{◌≡◌, ap, ◌∙◌}
use native.Mathlib.Omega.{arith}
use lib.Dec.{ltb}
use lib.ListN.{get_or, take}
use borrow.Author.Tests.{eq-eqb, ne_eqb, le-leb, lt-leb, lt-ltb, le-ltb}
use Rattle.meaning.specs.Schema.{Schema, under as is_under}
use Rattle.typing.specs.Types.{typed_leaf}
use Rattle.typing.proofs.Types.{lent, leaf_words, leaf_words_lem}
use Rattle.typing.proofs.leaf.Goals as goal
use Rattle.typing.proofs.leaf.Lts as lts
use Rattle.typing.proofs.leaf.Reads as reads
use Rattle.typing.proofs.leaf.Tie as tie

abbrev schema : lts.Start tie.the-claims reads.Pre reads.Post → Schema
schema s = lent s.args.at.types s.args.types.now s.args.at.relationships s.args.relationships.now

words : (s : lts.Start tie.the-claims reads.Pre reads.Post)
    → let a = s.args in
    leaf_words a.at.types a.types.now a.at.relationships a.relationships.now a.at.depth a.env.now (omega arith) a.code a.x a.y
    ≡ typed_leaf (schema s) (take a.at.depth a.env.now) a.code a.x a.y
words s =
    leaf_words_lem s.args.at.types s.args.types.now s.args.at.relationships s.args.relationships.now s.args.at.depth
    s.args.env.now (omega arith) s.args.code s.args.x s.args.y

pub returns-then-code-eq-NUM : goal.returns-then-code-eq-NUM
returns-then-code-eq-NUM c =
    let a = c.args in
    (simp (eq-eqb a.code 14 (omega arith)))
    ∙ words c.before.before.before.before

pub returns-then-code-eq-ALL : goal.returns-then-code-eq-ALL
returns-then-code-eq-ALL c =
    let a = c.args in
    (simp (ne_eqb a.code 14 (omega arith), eq-eqb a.code 21 (omega arith)))
    ∙ words c.before.before.before.before.before.before

pub returns-then-at-x : goal.returns-then-at-x
returns-then-at-x c =
    let a = c.args in
    (simp (ne_eqb a.code 14 (omega arith), ne_eqb a.code 21 (omega arith), le-leb a.at.depth a.x (omega arith)))
    ∙ words c.before.before.before.before.before.before.before

pub returns-then-code-eq-KIND : goal.returns-then-code-eq-KIND
returns-then-code-eq-KIND c =
    let a = c.args in
    (simp (ne_eqb a.code 14 (omega arith), ne_eqb a.code 21 (omega arith), lt-leb a.at.depth a.x (omega arith), eq-eqb a.code 13 (omega arith)))
    ∙ words c.before.before.before.before.before.before.before.before.before

pub returns-then-code-eq-CELL : goal.returns-then-code-eq-CELL
returns-then-code-eq-CELL c =
    let a = c.args in
    (simp (ne_eqb a.code 14 (omega arith), ne_eqb a.code 21 (omega arith), lt-leb a.at.depth a.x (omega arith), ne_eqb a.code 13 (omega arith), eq-eqb a.code 15 (omega arith)) (ap (ltb a.y) c.cells_of.ensures))
    ∙ words c.before.before.before.before.before.before.before.before.before.before.before.before

pub returns-then-at-y : goal.returns-then-at-y
returns-then-at-y c =
    let a = c.args in
    (simp (ne_eqb a.code 14 (omega arith), ne_eqb a.code 21 (omega arith), lt-leb a.at.depth a.x (omega arith), ne_eqb a.code 13 (omega arith), ne_eqb a.code 15 (omega arith), le-ltb (a.y / 2) a.at.relationships (omega arith)))
    ∙ words c.before.before.before.before.before.before.before.before.before.before.before.before.before

pub returns : goal.returns
returns c =
    let a = c.args in
    (simp (ne_eqb a.code 14 (omega arith), ne_eqb a.code 21 (omega arith), lt-leb a.at.depth a.x (omega arith), ne_eqb a.code 13 (omega arith), ne_eqb a.code 15 (omega arith), lt-ltb (a.y / 2) a.at.relationships (omega arith))
    (c.under.ensures ∙ ap (is_under (schema c.before.before.before.before.before.before.before.before.before.before.before.before.before.before.before).types (get_or a.env.now a.x 0)) c.near_type-near.ensures))
    ∙ words c.before.before.before.before.before.before.before.before.before.before.before.before.before.before.before
