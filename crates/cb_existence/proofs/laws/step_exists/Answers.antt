use Rattle.cb_existence.proofs.Costs.{step_exists}
use Rattle.cb_existence.proofs.laws.step_exists.Goals as goal

pub returns : goal.returns
returns c = step_exists
