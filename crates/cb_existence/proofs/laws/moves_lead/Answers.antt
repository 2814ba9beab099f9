use Rattle.cb_existence.proofs.Moves.{moves_lead}
use Rattle.cb_existence.proofs.laws.moves_lead.Goals as goal

pub returns : goal.returns
returns c = moves_lead
