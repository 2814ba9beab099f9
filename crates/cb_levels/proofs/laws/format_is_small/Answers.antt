use Rattle.cb_levels.proofs.Spelling.{format_is_small as proved}
use Rattle.cb_levels.proofs.laws.format_is_small.Goals as goal

pub returns : goal.returns
returns c = proved
