use Rattle.cb_existence.proofs.Answering.{burst_exists}
use Rattle.cb_existence.proofs.laws.burst_exists.Goals as goal

pub returns : goal.returns
returns c = burst_exists
