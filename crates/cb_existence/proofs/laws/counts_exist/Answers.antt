use Rattle.cb_existence.proofs.Listed.{counts_exist}
use Rattle.cb_existence.proofs.laws.counts_exist.Goals as goal

pub returns : goal.returns
returns c = counts_exist
