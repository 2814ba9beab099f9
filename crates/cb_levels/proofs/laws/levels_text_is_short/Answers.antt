use Rattle.cb_levels.proofs.Spelling.{levels_text_is_short as proved}
use Rattle.cb_levels.proofs.laws.levels_text_is_short.Goals as goal

pub returns : goal.returns
returns c = proved
