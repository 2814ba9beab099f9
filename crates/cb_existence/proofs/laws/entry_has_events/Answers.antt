use Rattle.cb_existence.proofs.EventsExist.{entry_gives}
use Rattle.cb_existence.proofs.laws.entry_has_events.Goals as goal

pub returns : goal.returns
returns c = λ t mode w records entry regular. entry_gives t regular mode w records entry
