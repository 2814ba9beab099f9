use Rattle.cb_validity.proofs.Codebooks.{codebook_is_valid as proved}
use Rattle.cb_validity.proofs.laws.codebook_is_valid.Goals as goal

pub returns : goal.returns
returns c = proved
