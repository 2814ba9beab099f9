use Rattle.cb_existence.proofs.Answering.{radii_exist}
use Rattle.cb_existence.proofs.laws.radii_exist.Goals as goal

pub returns : goal.returns
returns c = radii_exist
