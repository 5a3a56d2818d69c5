-- What a register that fits its schema gives the evaluators.
use Rattle.meaning.specs.Schema.{Schema}
use Rattle.meaning.specs.Register.{Register}
use Rattle.meaning.proofs.Registers.{RegisterFits}
use Rattle.meaning.proofs.Collections.{Gathered, gathered}
use Rattle.meaning.proofs.Bounds.{cell_size}
use Rattle.ocl.specs.Ready.{Steady}

pub steady : (S : Schema) (g : Register) → RegisterFits S g → Steady g
steady S g fits =
    let c = gathered S g fits in
    record { objects_ascend = c.objects_ascend; far_ascend = c.far_ascend; ends = c.ends; cells = cell_size S g fits }

pub collections : {g : Register} → Steady g → Gathered g
collections h = record { objects_ascend = h.objects_ascend; far_ascend = h.far_ascend; ends = h.ends }
