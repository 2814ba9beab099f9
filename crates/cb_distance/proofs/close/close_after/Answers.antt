use Rattle.std.proofs.Common.{inr, arith}
use Rattle.cb_distance.proofs.After.{is_far, far_more}
use Rattle.cb_distance.specs.Asked.{need_by}
use Rattle.cb_distance.proofs.close.close_after.Goals as goal

pub loop-second-preserved : goal.loop-second-preserved
loop-second-preserved c =
    let codes = c.args.codes.now in
    let second = c.loop-second.second in
    let here = is_far codes c.args.first (need_by c.args.needs.now) c.are_close.result second c.are_close.ensures c.if-are_close.false in
    far_more codes c.args.first (need_by c.args.needs.now) second c.loop-second.invariant here

pub returns : goal.returns
returns c = record {
  is = inr c.len-end.ensures;
  before = λ j after before. c.loop-second.invariant j after (let end = c.loop-second-test.false in omega arith);
}
