-- `batch::settle` meets its contract.
use mathlib.Core.Path.{refl, sym, ◌∙◌}
use Rattle.batch.proofs.Leaving.{kept_known}
use Rattle.batch.proofs.settle.Goals as goal

pub shape_of-objects : goal.shape_of-objects
shape_of-objects c = c.bring_back.auto.table

pub shape_of-links : goal.shape_of-links
shape_of-links c = c.bring_back-in-Accepted.auto.table

pub returns-in-Accepted : goal.returns-in-Accepted
returns-in-Accepted c =
    let told = c.in-Accepted.is in
    record {
      answer_same = sym told;
      pairs_same = refl;
      objects_used = kept_known _ _ told;
      links_used = kept_known _ _ told;
      objects_kept = c.bring_back.ensures ∙ kept_known _ _ told;
      links_kept = c.bring_back-in-Accepted.ensures ∙ kept_known _ _ told;
    }

pub returns-in-Broken : goal.returns-in-Broken
returns-in-Broken c =
    let told = c.in-Broken.is in
    record {
      answer_same = sym told;
      pairs_same = refl;
      objects_used = kept_known _ _ told;
      links_used = kept_known _ _ told;
      objects_kept = kept_known _ _ told;
      links_kept = kept_known _ _ told;
    }

pub returns-in-Refused : goal.returns-in-Refused
returns-in-Refused c =
    let told = c.in-Refused.is in
    record {
      answer_same = sym told;
      pairs_same = refl;
      objects_used = kept_known _ _ told;
      links_used = kept_known _ _ told;
      objects_kept = kept_known _ _ told;
      links_kept = kept_known _ _ told;
    }
