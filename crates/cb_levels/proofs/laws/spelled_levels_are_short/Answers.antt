use Rattle.cb_levels.proofs.Spelling.{spelled_levels_are_short as proved}
use Rattle.cb_levels.proofs.laws.spelled_levels_are_short.Goals as goal

pub returns : goal.returns
returns c = proved
