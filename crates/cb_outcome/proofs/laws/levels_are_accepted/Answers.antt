use Rattle.cb_outcome.proofs.LevelsAccepted.{levels_are_accepted as proved}
use Rattle.cb_outcome.proofs.laws.levels_are_accepted.Goals as goal

pub returns : goal.returns
returns c = proved
