use Rattle.cb_existence.proofs.Matrices.{reached_exists}
use Rattle.cb_existence.proofs.laws.reached_exists.Goals as goal

pub returns : goal.returns
returns c = λ t p regular. reached_exists t regular p
