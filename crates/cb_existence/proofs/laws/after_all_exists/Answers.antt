use Rattle.cb_existence.proofs.Results.{after_all_exists}
use Rattle.cb_existence.proofs.laws.after_all_exists.Goals as goal

pub returns : goal.returns
returns c = after_all_exists
