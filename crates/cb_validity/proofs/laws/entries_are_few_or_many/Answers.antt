use Rattle.cb_validity.proofs.Totals.{entries_are_few_or_many as proved}
use Rattle.cb_validity.proofs.laws.entries_are_few_or_many.Goals as goal

pub returns : goal.returns
returns c = proved
