use Rattle.cb_levels.proofs.OneReading.{level_reading_is_one as proved}
use Rattle.cb_levels.proofs.laws.level_reading_is_one.Goals as goal

pub returns : goal.returns
returns c = proved
