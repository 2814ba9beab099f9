use Rattle.cb_existence.proofs.Closings.{closing_exists}
use Rattle.cb_existence.proofs.laws.closing_exists.Goals as goal

pub returns : goal.returns
returns c = closing_exists
