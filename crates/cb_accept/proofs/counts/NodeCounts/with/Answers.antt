use Rattle.std.proofs.Common.{refl}
use Rattle.cb_accept.proofs.Changed.{counts_with}
use Rattle.cb_accept.proofs.counts.NodeCounts.with.Goals as goal

pub returns : goal.returns
returns c = counts_with c.args.model.now c.args.class c.args.self c.of_class-own.result c.of_class-own.ensures.own _ refl refl refl
