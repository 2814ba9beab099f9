use Rattle.cb_existence.proofs.Listed.{problems_exist}
use Rattle.cb_existence.proofs.laws.problems_exist.Goals as goal

pub returns : goal.returns
returns c = problems_exist
