use Rattle.cb_pairs.proofs.Fitting.{within_radius_is_listed as proved}
use Rattle.cb_pairs.proofs.laws.within_radius_is_listed.Goals as goal

pub returns : goal.returns
returns c = proved
