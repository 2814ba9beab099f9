use Rattle.cb_validity.proofs.Stages.{passed_go_on as proved}
use Rattle.cb_validity.proofs.laws.passed_go_on.Goals as goal

pub returns : goal.returns
returns c = proved
