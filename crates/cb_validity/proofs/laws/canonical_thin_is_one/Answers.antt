use Rattle.cb_validity.proofs.Wholes.{canonical_thin_is_one as proved}
use Rattle.cb_validity.proofs.laws.canonical_thin_is_one.Goals as goal

pub returns : goal.returns
returns c = proved
