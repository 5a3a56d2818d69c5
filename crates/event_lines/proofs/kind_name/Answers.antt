-- `event_lines::kind_name` meets its contract.
use native.Mathlib.Omega.{arith}
use Rattle.line_writer.proofs.Puts.{put_of, put_as}
use Rattle.event_lines.proofs.KindNames.{starts, letters, named}
use Rattle.event_lines.proofs.kind_name.Goals as goal

pub slice_bounds-write_bytes-count : goal.slice_bounds-write_bytes-count
unfolding starts
slice_bounds-write_bytes-count c = (named _ c.requires).ascends

pub slice_bounds-write_bytes-start : goal.slice_bounds-write_bytes-start
unfolding starts
slice_bounds-write_bytes-start c = let h = named _ c.requires in omega arith

pub slice_bounds-write_bytes-end : goal.slice_bounds-write_bytes-end
unfolding starts
slice_bounds-write_bytes-end c = let h = named _ c.requires in omega arith

pub returns : goal.returns
unfolding starts letters
returns c =
    put_as (put_of c.write_bytes.ensures) (named _ c.requires).is
