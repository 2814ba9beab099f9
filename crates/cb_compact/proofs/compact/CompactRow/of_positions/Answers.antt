use Rattle.std.proofs.Common.{arith}
use Rattle.cb_compact.proofs.Rising.{long, rising_are_ones, as_many}
use Rattle.cb_compact.proofs.compact.CompactRow.of_positions.Goals as goal

pub invariant_of-result : goal.invariant_of-result
invariant_of-result c =
    let places = c.args.positions.items in
    let many = as_many places c.args.len c.requires.rising c.requires.within in
    let weight = c.len-weight.ensures in
    let stored = c.args.positions.ok.0 in
    record {
      long = long places c.args.len c.requires.rising c.requires.within;
      keeps = rising_are_ones places c.args.len c.requires.rising c.requires.within;
      counted = omega arith;
    }
