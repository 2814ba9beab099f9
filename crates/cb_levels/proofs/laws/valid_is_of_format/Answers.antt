use Rattle.cb_levels.proofs.Fitting.{valid_is_of_format as proved}
use Rattle.cb_levels.proofs.laws.valid_is_of_format.Goals as goal

pub returns : goal.returns
returns c = proved
