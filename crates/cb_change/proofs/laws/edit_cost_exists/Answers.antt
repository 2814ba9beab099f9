use Rattle.cb_change.proofs.Existing.{has_edit_cost}
use Rattle.cb_change.proofs.laws.edit_cost_exists.Goals as goal

pub returns : goal.returns
returns c = has_edit_cost
