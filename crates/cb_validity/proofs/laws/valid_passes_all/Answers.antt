use Rattle.cb_validity.proofs.Passing.{valid_passes_all as proved}
use Rattle.cb_validity.proofs.laws.valid_passes_all.Goals as goal

pub returns : goal.returns
returns c = proved
