use Rattle.std.proofs.Common.{◌≡◌, length, arith}
use Rattle.cb_span.proofs.Zips.{all_zipped}
use Rattle.cb_explain.specs.Levelled.{IsNumberedEntry}
use Rattle.cb_explain.proofs.written.entries_of.Goals as goal

pub returns : goal.returns
returns c =
    let end : c.loop-position.position ≡ length c.args.visits.now = omega arith in
    rw c.of.ensures (all_zipped (IsNumberedEntry c.args.numbers.now) c.loop-position.position c.args.visits.now c.loop-position.entries.items c.loop-position.invariant end)
