use Rattle.cb_log.proofs.Announcing.{good_or_close}
use Rattle.cb_existence.proofs.laws.good_or_first_close.Goals as goal

pub returns : goal.returns
returns c = good_or_close
