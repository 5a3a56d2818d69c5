-- `writer::write_sound` meets its contract: the tables are sound, and their lines are their text.
use Prim.Native.Nat.{ℕ}
use lib.ListN.{length-replicate}
use Rattle.tables.specs.Layouts.{sheet_in}
use Rattle.writer.proofs.Clear.{clear_given, clear_answer}
use Rattle.writer.proofs.write_sound.Goals as goal

pub text-end-requires : goal.text-end-requires
text-end-requires c = clear_given c.args.n (sheet_in c.args.sheet.now) c.requires

pub returns : goal.returns
returns c =
    clear_answer c.args.n (sheet_in c.args.sheet.now) c.requires
    (c.deliver.ensures _ _ (length-replicate {A = ℕ} 65536 0) c.text-end.ensures)
