-- `park_tables::event_lists::rule_line` meets its contract.
use Prim.Native.Nat.{ℕ}
use mathlib.Core.Path.{sym, ◌∙◌}
use lib.ListN.{replicate, length-replicate}
use Rattle.line_writer.proofs.Puts.{put_as}
use Rattle.park_tables.proofs.Lists.{never_refused, words_there, kinds_there, line_same, line_short}
use borrow.Author.Rules.{rules}
use Rattle.park_tables.proofs.event_lists.rule_line.Goals as goal

pub line-requires : goal.line-requires
line-requires c =
    let a = c.args in
    let told = sym c.in-Ok.is ∙ c.list.ensures.0 in
    let left = c.list.ensures.1 in (
      words_there a.n a.sheet.now.types.now a.sheet.now.floors.now a.sheet.now.relationships.now a.sheet.now.rules.now a.sheet.now.bodies.now a.«rule» (replicate 5376 0) c.requires.0 c.requires.1 (length-replicate {A = ℕ} 5376 0) told left (c.list.auto.list ∙ length-replicate {A = ℕ} 5376 0),
      kinds_there a.n a.sheet.now.types.now a.sheet.now.floors.now a.sheet.now.relationships.now a.sheet.now.rules.now a.sheet.now.bodies.now a.«rule» (replicate 5376 0) c.requires.0 c.requires.1 (length-replicate {A = ℕ} 5376 0) told left,
    )

pub returns-in-Err : goal.returns-in-Err
returns-in-Err c =
    let a = c.args in
    absurd
    (never_refused a.n a.sheet.now.types.now a.sheet.now.floors.now a.sheet.now.relationships.now a.sheet.now.rules.now a.sheet.now.bodies.now a.«rule» (replicate 5376 0) c.requires.0 c.requires.1 (length-replicate {A = ℕ} 5376 0)
    (sym c.in-Err.is ∙ c.list.ensures.0))

pub returns-in-Ok : goal.returns-in-Ok
returns-in-Ok c =
    let a = c.args in
    let told = sym c.in-Ok.is ∙ c.list.ensures.0 in
    let left = c.list.ensures.1 in
    let line = c.line.ensures in (
      put_as line.0 (line_same a.n a.sheet.now.types.now a.sheet.now.floors.now a.sheet.now.relationships.now a.sheet.now.rules.now a.sheet.now.bodies.now a.«rule» (replicate 5376 0) c.requires.0 c.requires.1 (length-replicate {A = ℕ} 5376 0) told left),
      line_short a.n a.sheet.now.types.now a.sheet.now.floors.now a.sheet.now.relationships.now a.sheet.now.rules.now a.sheet.now.bodies.now a.«rule» (replicate 5376 0) c.requires.0 c.requires.1 (length-replicate {A = ℕ} 5376 0) told left line.1,
    )
