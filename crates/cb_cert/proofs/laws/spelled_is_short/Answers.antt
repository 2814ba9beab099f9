use Rattle.cb_cert.proofs.Sizes.{spelled_is_short as proved}
use Rattle.cb_cert.proofs.laws.spelled_is_short.Goals as goal

pub returns : goal.returns
returns c = proved
