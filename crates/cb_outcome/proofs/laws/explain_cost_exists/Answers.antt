use Rattle.cb_outcome.proofs.ExplainCosts.{explain_cost_exists}
use Rattle.cb_outcome.proofs.laws.explain_cost_exists.Goals as goal

pub returns : goal.returns
returns c = explain_cost_exists
