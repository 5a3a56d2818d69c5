-- `park_tables::event_lists::rule_lines` meets its contract. The invariant: the lines of the rules before `rule` are put, and are not too long.
use borrow.Author.Rules.{rules}
use Prim.Native.Nat.{◌-◌}
use mathlib.Core.Path.{◌≡◌, sym, ap}
use mathlib.Core.List.{[]}
use native.Mathlib.Omega.{arith}
use lib.ListN.{length}
use Rattle.meaning.specs.Forms.{Book}
use Rattle.tables.specs.Layouts.{book_sheet}
use Rattle.tables.specs.Columns.{book_of}
use Rattle.line_writer.proofs.Puts.{put_nothing, put_then, put_as}
use Rattle.park_tables.specs.Tables.{rule_lines}
use Rattle.park_tables.proofs.Lists.{no_lines, more_lines, more_short}
use Rattle.park_tables.proofs.event_lists.rule_lines.Goals as goal

pub loop-rule-init : goal.loop-rule-init
loop-rule-init c =
    let none = no_lines ((let a = c.args in book_of a.n (book_sheet a.sheet.now))) in
    (search rules, put_as (put_nothing _ _ (omega arith)) (sym none), omega (arith, ap length none))

pub rule_line-next-requires : goal.rule_line-next-requires
rule_line-next-requires c = (c.requires, c.loop-rule-test.true)

pub loop-rule-preserved : goal.loop-rule-preserved
loop-rule-preserved c =
    let book = (let a = c.args in book_of a.n (book_sheet a.sheet.now)) in
    let line = c.rule_line-next.ensures in
    (search rules, put_as (put_then c.loop-rule.invariant.1 line.0) (more_lines book c.loop-rule.rule), more_short book c.loop-rule.rule c.loop-rule.invariant.2 line.1)

pub shape_of-out : goal.shape_of-out
shape_of-out c = c.loop-rule.invariant.1.size

pub returns : goal.returns
returns c =
    let all : c.loop-rule.rule ≡ c.args.n.rules = omega arith in
    let same = ap (rule_lines ((let a = c.args in book_of a.n (book_sheet a.sheet.now)))) all in
    (put_as c.loop-rule.invariant.1 same, omega (arith, c.loop-rule.invariant.2, ap length same))
