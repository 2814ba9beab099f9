use Rattle.cb_validity.proofs.Firsts.{first_fail_is_one as proved}
use Rattle.cb_validity.proofs.laws.first_fail_is_one.Goals as goal

pub returns : goal.returns
returns c = proved
