use Rattle.std.proofs.Common.{◌≤◌, length, arith}
use Rattle.cb_distance.proofs.Far.{first_is, far_row_more, far_good}
use Rattle.cb_distance.specs.Asked.{need_by}
use Rattle.cb_distance.proofs.close.first_pair.Goals as goal

pub returns-in-Some-clause-found : goal.returns-in-Some-clause-found
returns-in-Some-clause-found c =
    first_is c.args.codes.now (need_by c.args.needs.now) c.loop-first.first c.in-Some.pair c.loop-first.invariant c.in-Some.ensures.found

pub loop-first-preserved : goal.loop-first-preserved
loop-first-preserved c = far_row_more c.args.codes.now (need_by c.args.needs.now) c.loop-first.first c.loop-first.invariant c.in_default.ensures.none

pub returns-clause-none : goal.returns-clause-none
returns-clause-none c =
    let end : length c.args.codes.now.rows ≤ c.loop-first.first = omega arith in
    far_good c.args.codes.now (need_by c.args.needs.now) c.loop-first.first c.loop-first.invariant end
