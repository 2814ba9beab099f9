use Rattle.cb_existence.proofs.EventsExist.{end_gives}
use Rattle.cb_existence.proofs.laws.end_has_events.Goals as goal

pub returns : goal.returns
returns c = λ t mode w records regular. end_gives t regular mode w records
