use Rattle.cb_network.proofs.Typed.{typed_is_regular as proved}
use Rattle.cb_network.proofs.laws.typed_is_regular.Goals as goal

pub returns : goal.returns
returns c = proved
