use Rattle.cb_outcome.proofs.Outcomes.{outcome_is_one}
use Rattle.cb_outcome.proofs.laws.outcome_is_one.Goals as goal

pub returns : goal.returns
returns c = outcome_is_one
