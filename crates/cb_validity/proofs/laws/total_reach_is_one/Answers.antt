use Rattle.cb_validity.proofs.Totals.{total_reach_is_one as proved}
use Rattle.cb_validity.proofs.laws.total_reach_is_one.Goals as goal

pub returns : goal.returns
returns c = proved
