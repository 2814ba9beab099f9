use Rattle.cb_existence.proofs.EventsExist.{now_exists}
use Rattle.cb_existence.proofs.laws.now_exists.Goals as goal

pub returns : goal.returns
returns c = λ t records regular. now_exists t regular records
