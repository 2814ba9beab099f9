use Rattle.cb_validity.proofs.Passing.{valid_is_not_rejected as proved}
use Rattle.cb_validity.proofs.laws.valid_is_not_rejected.Goals as goal

pub returns : goal.returns
returns c = proved
