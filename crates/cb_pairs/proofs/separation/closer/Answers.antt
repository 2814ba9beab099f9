use Rattle.std.proofs.Common.{refl, inr}
use Rattle.cb_pairs.proofs.Seen.{place_seen}
use Rattle.cb_pairs.proofs.separation.closer.Goals as goal

pub are_far-requires-clause-first : goal.are_far-requires-clause-first
are_far-requires-clause-first c = place_seen c.args.one.now c.args.other.now c.args.distances.now c.args.marks.first c.requires.seen.first

pub are_far-requires-clause-second : goal.are_far-requires-clause-second
are_far-requires-clause-second c = place_seen c.args.one.now c.args.other.now c.args.distances.now c.args.marks.second c.requires.seen.second

pub returns-then-are_far : goal.returns-then-are_far
returns-then-are_far c = inr (inr (c.are_far.ensures c.if-are_far.true c.args.one.now c.args.other.now c.requires.seen), refl)
