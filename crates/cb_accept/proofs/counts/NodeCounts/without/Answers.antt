use Rattle.cb_accept.proofs.Changed.{counts_without}
use Rattle.cb_accept.proofs.counts.NodeCounts.without.Goals as goal

pub returns : goal.returns
returns c = counts_without c.args.model.now c.args.class c.args.self c.of_class-own.result c.of_class-own.ensures.own _ c.saturating_sub.ensures c.saturating_sub-2.ensures c.saturating_sub-3.ensures
