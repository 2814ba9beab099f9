use Rattle.cb_change.proofs.InTurn.{cost_in_turn_joins}
use Rattle.cb_change.proofs.in_turn.cost_in_turn_joins.Goals as goal

pub returns : goal.returns
returns c = cost_in_turn_joins
