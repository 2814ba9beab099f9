use Rattle.cb_existence.proofs.LineCosts.{lines_cost}
use Rattle.cb_existence.proofs.laws.lines_have_cost.Goals as goal

pub returns : goal.returns
returns c = lines_cost
