use Rattle.cb_existence.proofs.Results.{result_exists}
use Rattle.cb_existence.proofs.laws.result_exists.Goals as goal

pub returns : goal.returns
returns c = result_exists
