use Rattle.cb_existence.proofs.Moves.{last_cost}
use Rattle.cb_existence.proofs.laws.last_cost_exists.Goals as goal

pub returns : goal.returns
returns c = last_cost
