use Rattle.cb_validity.proofs.Wholes.{valid_capped_decodes as proved}
use Rattle.cb_validity.proofs.laws.valid_capped_decodes.Goals as goal

pub returns : goal.returns
returns c = proved
