use Rattle.cb_levels.proofs.Followable.{valid_can_be_followed as proved}
use Rattle.cb_levels.proofs.laws.valid_can_be_followed.Goals as goal

pub returns : goal.returns
returns c = proved
