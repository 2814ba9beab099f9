use Rattle.cb_outcome.proofs.Bytes.{outcome_goes_by_bytes}
use Rattle.cb_outcome.proofs.laws.outcome_goes_by_bytes.Goals as goal

pub returns : goal.returns
returns c = outcome_goes_by_bytes
