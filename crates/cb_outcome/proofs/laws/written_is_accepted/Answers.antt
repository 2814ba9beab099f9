use Rattle.cb_outcome.proofs.Accepted.{written_is_accepted as proved}
use Rattle.cb_outcome.proofs.laws.written_is_accepted.Goals as goal

pub returns : goal.returns
returns c = proved
