use Rattle.cb_outcome.proofs.ThinsClose.{summed_thins_are_close as proved}
use Rattle.cb_outcome.proofs.laws.summed_thins_are_close.Goals as goal

pub returns : goal.returns
returns c = proved
