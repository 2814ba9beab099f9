use Rattle.cb_existence.proofs.Grouped.{groups_exist}
use Rattle.cb_existence.proofs.laws.groups_exist.Goals as goal

pub returns : goal.returns
returns c = groups_exist
