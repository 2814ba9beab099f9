use Rattle.cb_existence.proofs.Choices.{closest_pair_exists}
use Rattle.cb_existence.proofs.laws.closest_pair_exists.Goals as goal

pub returns : goal.returns
returns c = closest_pair_exists
