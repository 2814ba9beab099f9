use Rattle.cb_coding.specs.Needs.{need_of}
use Rattle.cb_reduce.specs.Forced.{Forces}
use Rattle.cb_reduce.proofs.force.force_near.Given as goal

abbrev pub invariant-loop-place : goal.invariant-loop-place
invariant-loop-place l = Forces l.codes.width l.codes.rows (need_of l.codes.width l.codes.rows l.wish) l.fn.forced l.forced
