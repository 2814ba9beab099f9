use Rattle.cb_change.proofs.Existing.{has_open_cost}
use Rattle.cb_change.proofs.laws.open_cost_exists.Goals as goal

pub returns : goal.returns
returns c = has_open_cost
