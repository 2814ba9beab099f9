use Rattle.cb_outcome.proofs.ThinsClose.{prefix_thins_are_close as proved}
use Rattle.cb_outcome.proofs.laws.prefix_thins_are_close.Goals as goal

pub returns : goal.returns
returns c = proved
