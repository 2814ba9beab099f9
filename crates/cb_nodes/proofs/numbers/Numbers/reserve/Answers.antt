use Rattle.std.proofs.Common.{refl, arith}
use Rattle.cb_nodes.proofs.Taking.{same_slots}
use Rattle.cb_nodes.proofs.numbers.Numbers.reserve.Goals as goal

pub returns-in_err-reserve-clause-same : goal.returns-in_err-reserve-clause-same
returns-in_err-reserve-clause-same c = same_slots c.args.self.now _ c.requires.kept c.reserve.ensures.items refl (omega arith)

pub returns-clause-same : goal.returns-clause-same
returns-clause-same c = same_slots c.args.self.now _ c.requires.kept c.reserve.ensures.items c.reserve-2.ensures.items c.reserve-2.ensures.capacity
