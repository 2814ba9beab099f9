use Rattle.std.proofs.Common.{arith}
use Rattle.cb_compact.proofs.Weights.{near}
use Rattle.cb_compact.proofs.compact.CompactRow.distance_below.Goals as goal

pub returns-then-limit-abs_diff : goal.returns-then-limit-abs_diff
returns-then-limit-abs_diff c close =
    let both = near c.args.self.now c.args.other.now c.requires in
    let first = both.0 in
    let second = both.1 in
    let one = c.ones.ensures in
    let other = c.ones-2.ensures in
    let apart = c.abs_diff.ensures in
    let far = c.if-limit-abs_diff.true in
    omega arith
