use Rattle.cb_pairs.proofs.Seen.{second_or_first_below}
use Rattle.cb_pairs.proofs.landmarks.second_or_first.Goals as goal

pub returns : goal.returns
returns c = λ count is. rw c.unwrap_or.ensures (second_or_first_below count c.args.guess.first c.args.guess.second is.first is.second)
