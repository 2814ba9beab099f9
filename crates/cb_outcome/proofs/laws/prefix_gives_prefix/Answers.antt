use Rattle.cb_outcome.proofs.LogPrefixes.{prefix_gives_prefix}
use Rattle.cb_outcome.proofs.laws.prefix_gives_prefix.Goals as goal

pub returns : goal.returns
returns c = prefix_gives_prefix
