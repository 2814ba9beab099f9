use Rattle.cb_levels.proofs.OneReading.{written_levels_are_read as proved}
use Rattle.cb_levels.proofs.laws.written_levels_are_read.Goals as goal

pub returns : goal.returns
returns c = proved
