use Rattle.std.proofs.Common.{arith}
use Rattle.cb_distance.proofs.Others.{closer_reached, one_farther, is_nearest}
use Rattle.cb_distance.proofs.tolerance.nearest_of_all.Goals as goal

pub loop-other-init : goal.loop-other-init
loop-other-init c = record { reached = c.requires.best; far = λ j low other. absurd (omega arith) }

pub loop-other-preserved : goal.loop-other-preserved
loop-other-preserved c =
    let codes = c.args.codes.now in
    let other = c.loop-other.other in
    let was = c.loop-other.invariant in
    record {
      reached = closer_reached codes c.args.cap c.args.place other c.loop-other.best c.closer-best.result (omega arith) c.closer-best.ensures was.reached;
      far = one_farther codes c.args.place other c.loop-other.best c.closer-best.result was.far c.closer-best.ensures;
    }

pub returns : goal.returns
returns c =
    let done = c.loop-other-test.false in
    let was = c.loop-other.invariant in
    is_nearest c.args.codes.now c.args.cap c.args.place c.loop-other.best c.requires.within
    (λ j other. let within = other.0 in was.far j (omega arith) other.1) was.reached
