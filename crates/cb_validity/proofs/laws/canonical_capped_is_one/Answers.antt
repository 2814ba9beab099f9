use Rattle.cb_validity.proofs.Wholes.{canonical_capped_is_one as proved}
use Rattle.cb_validity.proofs.laws.canonical_capped_is_one.Goals as goal

pub returns : goal.returns
returns c = proved
