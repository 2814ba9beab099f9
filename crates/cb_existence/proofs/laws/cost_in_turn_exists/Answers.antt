use Rattle.cb_existence.proofs.Costs.{cost_in_turn_exists}
use Rattle.cb_existence.proofs.laws.cost_in_turn_exists.Goals as goal

pub returns : goal.returns
returns c = cost_in_turn_exists
