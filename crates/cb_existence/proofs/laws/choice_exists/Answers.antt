use Rattle.cb_existence.proofs.Choices.{choice_exists}
use Rattle.cb_existence.proofs.laws.choice_exists.Goals as goal

pub returns : goal.returns
returns c = choice_exists
