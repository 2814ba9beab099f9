use Rattle.cb_existence.proofs.Answering.{answer_exists}
use Rattle.cb_existence.proofs.laws.answer_exists.Goals as goal

pub returns : goal.returns
returns c = answer_exists
