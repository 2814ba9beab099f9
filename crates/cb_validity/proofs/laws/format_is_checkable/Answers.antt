use Rattle.cb_validity.proofs.Formats.{format_is_checkable as proved}
use Rattle.cb_validity.proofs.laws.format_is_checkable.Goals as goal

pub returns : goal.returns
returns c = proved
