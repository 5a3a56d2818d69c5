-- `pair_list::write` meets its contract: what is written so far are the words of the pairs before those of the rule, and in a rule's turn, of whatever list
-- was lent, those before that of the row, which is marked.
use Prim.Native.Nat.{◌+◌, ◌-◌, ◌<◌}
use mathlib.Core.Path.{◌≡◌, ap, ◌∙◌}
use mathlib.Core.Bool.{true}
use mathlib.Core.List.{[], ◌∷◌}
use native.Mathlib.Omega.{arith}
use Rattle.meaning.specs.Reach.{pair_of}
use Rattle.rows.specs.Rows.{with_row}
use Rattle.walks.specs.Site.{id_in}
use Rattle.pair_list.specs.Pairs.{marked_pairs}
use Rattle.pair_list.proofs.Left.{from_row, all_left, none_left, rule_starts, rule_ends, row_taken, rows_passed, rules_passed}
use Rattle.pair_list.proofs.Words.{Written, written_none, written_on, written_one, written_all, before_end}
use Rattle.pair_list.proofs.write.Goals as goal
use Rattle.pair_list.proofs.write.Lts as lts
use Rattle.pair_list.proofs.write.Reads as reads
use Rattle.pair_list.proofs.write.Tie as tie

abbrev turn : lts.At-loop2 tie.the-claims reads.Pre reads.Post goal.the-invariant-loop-row goal.the-decreases-loop-row goal.the-invariant-loop-rule goal.the-decreases-loop-rule → lts.Then1 tie.the-claims reads.Pre reads.Post goal.the-invariant-loop-row goal.the-decreases-loop-row goal.the-invariant-loop-rule goal.the-decreases-loop-rule
turn c = c.before.before

abbrev start : lts.Then1 tie.the-claims reads.Pre reads.Post goal.the-invariant-loop-row goal.the-decreases-loop-row goal.the-invariant-loop-rule goal.the-decreases-loop-rule → lts.Start tie.the-claims reads.Pre reads.Post goal.the-invariant-loop-row goal.the-decreases-loop-row goal.the-invariant-loop-rule goal.the-decreases-loop-rule
start c = c.before.before.before.before.before.before

abbrev wrote : lts.After-slice_known2 tie.the-claims reads.Pre reads.Post goal.the-invariant-loop-row goal.the-decreases-loop-row goal.the-invariant-loop-rule goal.the-decreases-loop-rule → lts.After-write_row tie.the-claims reads.Pre reads.Post goal.the-invariant-loop-row goal.the-decreases-loop-row goal.the-invariant-loop-rule goal.the-decreases-loop-rule
wrote c = c.before.before

abbrev asked : lts.After-write_row tie.the-claims reads.Pre reads.Post goal.the-invariant-loop-row goal.the-decreases-loop-row goal.the-invariant-loop-rule goal.the-decreases-loop-rule → lts.Then2 tie.the-claims reads.Pre reads.Post goal.the-invariant-loop-row goal.the-decreases-loop-row goal.the-invariant-loop-rule goal.the-decreases-loop-rule
asked c = c.before.before.before.before

pub loop-rule-init : goal.loop-rule-init
loop-rule-init c =
    let a = c.args in
    written_on _ _ (all_left a.n a.objects.now a.marks.now ∙ rules_passed a.n a.objects.now a.marks.now c.requires.1 c.next_rule-rule.ensures) (written_none _ _)

pub next_row-row-requires : goal.next_row-row-requires
next_row-row-requires c = (omega (arith, c.loop-rule-test.true, c.requires.0), omega arith)

pub loop-row-init : goal.loop-row-init
loop-row-init c = (c.next_row-row.ensures.found, λ lent w room. w)

-- what is written when a rule's turn begins, and in it
turn_starts : (c : lts.After-next_row tie.the-claims reads.Pre reads.Post goal.the-invariant-loop-row goal.the-decreases-loop-row goal.the-invariant-loop-rule goal.the-decreases-loop-rule)
    → let a = (start c.before).args in
    Written a.list.now (marked_pairs a.n a.objects.now a.marks.now) (from_row a.n a.objects.now a.marks.now c.loop-rule.rule c.next_row-row.result) c.loop-rule.at c.loop-rule.list
turn_starts c =
    let a = (start c.before).args in
    written_on _ _ (rule_starts a.n a.objects.now a.marks.now c.loop-rule-test.true ∙ rows_passed a.n a.objects.now a.marks.now c.loop-rule.rule c.next_row-row.ensures) c.loop-rule.invariant

in_turn : (c : lts.At-loop2 tie.the-claims reads.Pre reads.Post goal.the-invariant-loop-row goal.the-decreases-loop-row goal.the-invariant-loop-rule goal.the-decreases-loop-rule)
    → let a = (start (turn c)).args in
    Written a.list.now (marked_pairs a.n a.objects.now a.marks.now) (from_row a.n a.objects.now a.marks.now (turn c).loop-rule.rule c.loop-row.row) c.loop-row.at c.loop-row.list
in_turn c = c.loop-row.invariant.1 _ (turn_starts c.before) (start (turn c)).requires.3

-- the row's pair is the next of those that are left
taken : (c : lts.At-loop2 tie.the-claims reads.Pre reads.Post goal.the-invariant-loop-row goal.the-decreases-loop-row goal.the-invariant-loop-rule goal.the-decreases-loop-rule)
    → let a = (start (turn c)).args in
    let rule = (turn c).loop-rule.rule in
    c.loop-row.row < a.n.objects
    → from_row a.n a.objects.now a.marks.now rule c.loop-row.row ≡ pair_of rule (id_in a.objects.now c.loop-row.row) ∷ from_row a.n a.objects.now a.marks.now rule (c.loop-row.row + 1)
taken c h =
    let s = start (turn c) in
    let a = s.args in
    row_taken a.n a.objects.now a.marks.now h (c.loop-row.invariant.0 (omega (arith, s.requires.1)))

pub overflow_add-at : goal.overflow_add-at
overflow_add-at c =
    let row = asked (wrote c.before) in
    let inner = row.before.before in
    omega (arith, before_end _ _ (written_on _ _ (taken inner c.loop-row-test.true) (in_turn inner)), (start (turn inner)).requires.2)

pub overflow_add-row : goal.overflow_add-row
overflow_add-row c =
    let row = asked (wrote c.before) in
    omega (arith, c.loop-row-test.true, (start (turn row.before.before)).requires.1)

pub next_row-row-requires-in-loop-row : goal.next_row-row-requires-in-loop-row
next_row-row-requires-in-loop-row c =
    let row = asked (wrote c.before) in
    let then = turn row.before.before in
    (omega (arith, then.loop-rule-test.true, (start then).requires.0), omega (arith, c.loop-row-test.true, (start then).requires.1))

pub loop-row-smaller : goal.loop-row-smaller
loop-row-smaller c = let row = asked (wrote c.before.before) in omega (arith, c.loop-row-test.true, c.next_row-row-in-loop-row.ensures.on)

pub loop-row-preserved : goal.loop-row-preserved
loop-row-preserved c =
    let a = c.args in
    let rule = c.loop-rule.rule in
    let id = c.id_of-id.ensures in (
      c.next_row-row-in-loop-row.ensures.found,
      λ lent w room.
          written_on _ _ (rows_passed a.n a.objects.now a.marks.now rule c.next_row-row-in-loop-row.ensures)
          (written_one _ _ (written_on _ _ (taken c.before.before.before.before.before.before.before.before.before.before c.loop-row-test.true) (c.loop-row.invariant.1 lent w room)) room c.write_row.auto.t (c.write_row.ensures ∙ ap (λ x. with_row c.loop-row.list 2 c.loop-row.at (rule ∷ x ∷ [])) id)),
    )

pub overflow_add-rule : goal.overflow_add-rule
overflow_add-rule c = omega (arith, c.loop-rule-test.true, c.requires.0)

pub next_rule-rule-requires-in-loop-rule : goal.next_rule-rule-requires-in-loop-rule
next_rule-rule-requires-in-loop-rule c = omega (arith, c.loop-rule-test.true, c.requires.0)

pub loop-rule-smaller : goal.loop-rule-smaller
loop-rule-smaller c = omega (arith, c.loop-rule-test.true, c.next_rule-rule-in-loop-rule.ensures.on)

pub loop-rule-preserved : goal.loop-rule-preserved
loop-rule-preserved c =
    let a = c.args in
    written_on _ _ (rule_ends a.n a.objects.now a.marks.now c.loop-rule.rule c.loop-row-test.false
    ∙ rules_passed a.n a.objects.now a.marks.now c.requires.1 c.next_rule-rule-in-loop-rule.ensures) (in_turn c.before.before.before.before)

pub shape_of-list : goal.shape_of-list
shape_of-list c = c.loop-rule.invariant.long

pub returns : goal.returns
returns c =
    let a = c.args in
    written_all _ _ (written_on _ _ (none_left a.n a.objects.now a.marks.now c.loop-rule-test.false) c.loop-rule.invariant)
