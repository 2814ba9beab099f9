use Rattle.cb_levels.proofs.Spelling.{level_text_spells as proved}
use Rattle.cb_levels.proofs.laws.level_text_spells.Goals as goal

pub returns : goal.returns
returns c = proved
