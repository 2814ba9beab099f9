use Rattle.cb_history.proofs.Sides.{first_sides_cover_all as proved}
use Rattle.cb_history.proofs.laws.first_sides_cover_all.Goals as goal

pub returns : goal.returns
returns c = λ t name links regular sound are. proved t regular sound name links are
