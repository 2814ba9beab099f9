use Rattle.cb_cert.proofs.Sizes.{text_is_short as proved}
use Rattle.cb_cert.proofs.laws.text_is_short.Goals as goal

pub returns : goal.returns
returns c = proved
