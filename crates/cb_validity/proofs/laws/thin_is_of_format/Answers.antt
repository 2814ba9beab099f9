use Rattle.cb_validity.proofs.Formats.{thin_is_of_format as proved}
use Rattle.cb_validity.proofs.laws.thin_is_of_format.Goals as goal

pub returns : goal.returns
returns c = proved
