use Rattle.cb_outcome.proofs.EndingWell.{passed_end_well}
use Rattle.cb_outcome.proofs.laws.passed_end_well.Goals as goal

pub returns : goal.returns
returns c = passed_end_well
