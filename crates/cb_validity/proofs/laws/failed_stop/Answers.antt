use Rattle.cb_validity.proofs.Stages.{failed_stop as proved}
use Rattle.cb_validity.proofs.laws.failed_stop.Goals as goal

pub returns : goal.returns
returns c = proved
