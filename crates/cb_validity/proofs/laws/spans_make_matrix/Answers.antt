use Rattle.cb_validity.proofs.Matrices.{spans_make_matrix as proved}
use Rattle.cb_validity.proofs.laws.spans_make_matrix.Goals as goal

pub returns : goal.returns
returns c = proved
