use Rattle.cb_outcome.proofs.Outcomes.{due_is_prefix}
use Rattle.cb_outcome.proofs.laws.due_is_prefix.Goals as goal

pub returns : goal.returns
returns c = due_is_prefix
