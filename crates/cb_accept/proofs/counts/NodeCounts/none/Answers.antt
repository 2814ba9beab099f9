use Rattle.std.proofs.Common.{refl}
use Rattle.cb_accept.proofs.Changed.{counts_of_none}
use Rattle.cb_accept.proofs.counts.NodeCounts.none.Goals as goal

pub returns : goal.returns
returns c = λ tables. counts_of_none tables _ refl refl refl
