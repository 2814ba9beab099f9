use Rattle.cb_pairs.proofs.Seen.{far_by, at_most_of}
use Rattle.cb_pairs.proofs.landmarks.is_far.Goals as goal

pub returns : goal.returns
returns c = λ so. λ one other seen.
    far_by one other c.args.distances.now c.args.mark c.at-distance.result.now c.args.limit seen c.at-distance.ensures
    (rw c.saturating_sub.ensures at (at_most_of c.args.limit c.saturating_sub.result so))
