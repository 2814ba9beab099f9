use Rattle.cb_levels.proofs.Known.{lines_are_of_one as proved}
use Rattle.cb_levels.proofs.laws.level_lines_are_of_one.Goals as goal

pub returns : goal.returns
returns c = proved
