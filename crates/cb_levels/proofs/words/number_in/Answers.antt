use Rattle.std.proofs.Common.{arith}
use Rattle.cb_levels.proofs.Parting.{out_of_range}
use Rattle.cb_levels.proofs.words.number_in.Goals as goal
use Rattle.cb_levels.proofs.words.number_in.Goals.{then-number-from-via-then-number-from, then-number-from-via-else-number-from+then-from-number}

pub returns-then-number-from-clause-none : goal.returns-then-number-from-clause-none
returns-then-number-from-clause-none c =
    let is = c.in_ok-number.ensures.number in
    out_of_range c.args.bytes.now c.in_ok-number.number c.args.least c.args.most is.small (let most = c.ranges.most.fits in omega arith) is.written (λ within.
    let low = within.0 in
    let high = within.1 in
    elim c.then-number-from.branch [
      | then-number-from-via-then-number-from w ↦ omega (arith, w.if-number-from.true, c.from.ensures)
      | then-number-from-via-else-number-from+then-from-number w ↦ omega (arith, w.if-from-number.true, w.from-else-number-from.ensures)
    ])
