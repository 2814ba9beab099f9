use Rattle.cb_existence.proofs.Choices.{choice_in_use_exists}
use Rattle.cb_existence.proofs.laws.choice_in_use_exists.Goals as goal

pub returns : goal.returns
returns c = choice_in_use_exists
