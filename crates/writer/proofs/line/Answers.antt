-- `writer::line` meets its contract: each section has its line.
use Prim.Native.Nat.{ℕ}
use mathlib.Core.Path.{◌≡◌, sym, ap}
use native.Mathlib.Omega.{arith}
use Rattle.tables.specs.Layouts.{Sheet, sheet_in}
use Rattle.text.specs.Names.{first_event}
use Rattle.line_writer.specs.Lines.{line_of}
use Rattle.line_writer.proofs.Puts.{put_as}
use Rattle.writer.proofs.line.Goals as goal

line_at : (s : Sheet) (row : ℕ) {section k : ℕ} → section ≡ k → line_of s k row ≡ line_of s section row
line_at s row e = ap (λ section. line_of s section row) (sym e)

pub returns-then-section-eq-TYPE_SECTION : goal.returns-then-section-eq-TYPE_SECTION
unfolding line_of
returns-then-section-eq-TYPE_SECTION c =
    put_as c.type_line.ensures (line_at (sheet_in c.args.sheet.now) c.args.row c.if-section-eq-TYPE_SECTION.true)

pub plain_line-requires : goal.plain_line-requires
plain_line-requires c = (omega arith, c.requires.floor_lent c.if-section-eq-FLOOR_SECTION.true)

pub returns-then-section-eq-FLOOR_SECTION : goal.returns-then-section-eq-FLOOR_SECTION
unfolding line_of
returns-then-section-eq-FLOOR_SECTION c =
    put_as c.plain_line.ensures (line_at (sheet_in c.args.sheet.now) c.args.row c.if-section-eq-FLOOR_SECTION.true)

pub returns-then-section-eq-RELATIONSHIP_SECTION : goal.returns-then-section-eq-RELATIONSHIP_SECTION
unfolding line_of
returns-then-section-eq-RELATIONSHIP_SECTION c =
    put_as c.relationship_line.ensures (line_at (sheet_in c.args.sheet.now) c.args.row c.if-section-eq-RELATIONSHIP_SECTION.true)

pub rule_line-requires : goal.rule_line-requires
rule_line-requires c = c.requires.whole c.if-section-eq-RULE_SECTION.true

pub returns-then-section-eq-RULE_SECTION : goal.returns-then-section-eq-RULE_SECTION
unfolding line_of
returns-then-section-eq-RULE_SECTION c =
    put_as c.rule_line.ensures (line_at (sheet_in c.args.sheet.now) c.args.row c.if-section-eq-RULE_SECTION.true)

pub object_line-requires : goal.object_line-requires
object_line-requires c =
    (c.requires.cells c.if-section-eq-OBJECT_SECTION.true, c.requires.object_lent c.if-section-eq-OBJECT_SECTION.true)

pub returns-then-section-eq-OBJECT_SECTION : goal.returns-then-section-eq-OBJECT_SECTION
unfolding line_of
returns-then-section-eq-OBJECT_SECTION c =
    put_as c.object_line.ensures (line_at (sheet_in c.args.sheet.now) c.args.row c.if-section-eq-OBJECT_SECTION.true)

pub plain_line-requires-then-section-eq-LINK_SECTION : goal.plain_line-requires-then-section-eq-LINK_SECTION
plain_line-requires-then-section-eq-LINK_SECTION c = (omega arith, c.requires.link_lent c.if-section-eq-LINK_SECTION.true)

pub returns-then-section-eq-LINK_SECTION : goal.returns-then-section-eq-LINK_SECTION
unfolding line_of
returns-then-section-eq-LINK_SECTION c =
    put_as c.plain_line-then-section-eq-LINK_SECTION.ensures (line_at (sheet_in c.args.sheet.now) c.args.row c.if-section-eq-LINK_SECTION.true)

pub event_line-requires : goal.event_line-requires
event_line-requires c =
    let last : c.args.section ≡ first_event = omega (arith, c.requires.there) in
    (c.requires.kind last, c.requires.event_lent last)

pub returns : goal.returns
unfolding line_of
returns c =
    let last : c.args.section ≡ first_event = omega (arith, c.requires.there) in
    put_as c.event_line.ensures (line_at (sheet_in c.args.sheet.now) c.args.row last)
