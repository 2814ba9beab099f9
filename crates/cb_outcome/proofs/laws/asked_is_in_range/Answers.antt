use Rattle.cb_outcome.proofs.Ranges.{asked_is_in_range as proved}
use Rattle.cb_outcome.proofs.laws.asked_is_in_range.Goals as goal

pub returns : goal.returns
returns c = proved
