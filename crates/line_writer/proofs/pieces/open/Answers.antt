-- `line_writer::pieces::open` meets its contract: antt computes that the table of names is the text's.
use native.Mathlib.Omega.{arith}
use mathlib.Core.Path.{ap}
use mathlib.Core.List.{◌∷◌}
use Rattle.line_writer.proofs.Puts.{put_of, put_then, put_as}
use Rattle.line_writer.proofs.Names.{starts, letters, named}
use Rattle.line_writer.proofs.pieces.open.Goals as goal

pub slice_bounds-write_bytes-count : goal.slice_bounds-write_bytes-count
unfolding starts
slice_bounds-write_bytes-count c =
    (named _ c.requires).ascends

pub slice_bounds-write_bytes-start : goal.slice_bounds-write_bytes-start
unfolding starts
slice_bounds-write_bytes-start c =
    let h = named _ c.requires in omega arith

pub slice_bounds-write_bytes-end-2 : goal.slice_bounds-write_bytes-end-2
unfolding starts
slice_bounds-write_bytes-end-2 c =
    let h = named _ c.requires in omega arith

pub returns : goal.returns
unfolding starts letters
returns c =
    put_as (put_then (put_of c.write_bytes-next.ensures) (put_of c.write_bytes.ensures)) (ap (λ l. 40 ∷ l) (named _ c.requires).is)
