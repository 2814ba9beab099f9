use Rattle.cb_validity.proofs.Codebooks.{shortfall_is_valid as proved}
use Rattle.cb_validity.proofs.laws.shortfall_is_valid.Goals as goal

pub returns : goal.returns
returns c = proved
