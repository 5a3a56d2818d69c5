-- `writer::text` meets its contract. The invariant: the sections before `section` are put.
use Prim.Native.Nat.{◌<◌}
use mathlib.Core.Path.{◌≡◌, sym, ap, subst, ◌∙◌}
use mathlib.Core.List.{◌++◌}
use native.Mathlib.Omega.{arith}
use Rattle.tables.specs.Layouts.{section_count, sheet_in}
use Rattle.line_writer.specs.Lines.{line_of, lines_of, section_text, sheet_text}
use Rattle.line_writer.proofs.Puts.{put_nothing, put_then, put_as, put_within}
use Rattle.writer.proofs.Sections.{lines_none, lines_more, sound_fit}
use borrow.Author.Rules.{rules}
use Rattle.writer.proofs.text.Goals as goal

pub loop-section-init : goal.loop-section-init
loop-section-init c = (search rules, put_as (put_nothing _ _ (omega arith)) (sym (lines_none _)))

pub section_lines-next-requires : goal.section_lines-next-requires
section_lines-next-requires c =
    let section = c.loop-section.section in (
      λ i h. sound_fit c.requires section i c.loop-section-test.true (subst (λ k. i < k) c.rows_in-count.ensures h),
      put_within c.loop-section.invariant.1,
    )

pub loop-section-preserved : goal.loop-section-preserved
unfolding section_text
loop-section-preserved c =
    let section = c.loop-section.section in
    let text = section_text c.args.n (sheet_in c.args.sheet.now) in (
      search rules,
      put_as (put_then c.loop-section.invariant.1 c.section_lines-next.ensures)
          (ap (λ k. lines_of text section ++ lines_of (line_of (sheet_in c.args.sheet.now) section) k) c.rows_in-count.ensures
          ∙ lines_more text section),
    )

pub shape_of-out : goal.shape_of-out
shape_of-out c = c.loop-section.invariant.1.size

pub returns : goal.returns
unfolding sheet_text
returns c =
    let past : c.loop-section.section ≡ section_count = omega arith in
    put_as c.loop-section.invariant.1 (ap (lines_of (section_text c.args.n (sheet_in c.args.sheet.now))) past)
