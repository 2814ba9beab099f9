use Rattle.cb_validity.proofs.Canonicals.{canonical_capped_is_valid as proved}
use Rattle.cb_validity.proofs.laws.canonical_capped_is_valid.Goals as goal

pub returns : goal.returns
returns c = proved
