use Rattle.cb_existence.proofs.Matrices.{matrix_exists}
use Rattle.cb_existence.proofs.laws.matrix_exists.Goals as goal

pub returns : goal.returns
returns c = matrix_exists
