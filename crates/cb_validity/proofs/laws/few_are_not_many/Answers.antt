use Rattle.cb_validity.proofs.Totals.{few_are_not_many as proved}
use Rattle.cb_validity.proofs.laws.few_are_not_many.Goals as goal

pub returns : goal.returns
returns c = proved
