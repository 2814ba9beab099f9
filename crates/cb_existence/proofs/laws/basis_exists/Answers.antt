use Rattle.cb_existence.proofs.EventsExist.{basis_exists}
use Rattle.cb_existence.proofs.laws.basis_exists.Goals as goal

pub returns : goal.returns
returns c = basis_exists
