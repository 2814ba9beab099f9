use Rattle.cb_levels.proofs.Following.{IsFollowed}
use Rattle.cb_levels.proofs.followed.follow.Given as goal

abbrev pub invariant-loop-at : goal.invariant-loop-at
invariant-loop-at l = IsFollowed l.levels l.position l.at l.names.items

abbrev pub decreases-loop-at : goal.decreases-loop-at
decreases-loop-at l = l.at
