use Rattle.cb_validity.proofs.Opened.{total_reach_is_open_cost as proved}
use Rattle.cb_validity.proofs.laws.total_reach_is_open_cost.Goals as goal

pub returns : goal.returns
returns c = proved
