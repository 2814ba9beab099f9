use Rattle.cb_existence.proofs.Matrices.{caused_are_counted}
use Rattle.cb_existence.proofs.laws.caused_are_counted.Goals as goal

pub returns : goal.returns
returns c = λ t p regular. caused_are_counted t regular p
