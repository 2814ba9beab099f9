use Rattle.cb_validity.proofs.Stages.{judged_is_first_fail as proved}
use Rattle.cb_validity.proofs.laws.judged_is_first_fail.Goals as goal

pub returns : goal.returns
returns c = proved
