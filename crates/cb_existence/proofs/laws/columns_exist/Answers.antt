use Rattle.cb_existence.proofs.Listed.{columns_exist}
use Rattle.cb_existence.proofs.laws.columns_exist.Goals as goal

pub returns : goal.returns
returns c = columns_exist
