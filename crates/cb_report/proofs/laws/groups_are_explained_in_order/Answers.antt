use Rattle.cb_report.proofs.Explaining.{explained_in_order}
use Rattle.cb_report.proofs.laws.groups_are_explained_in_order.Goals as goal

pub returns : goal.returns
returns c = explained_in_order
