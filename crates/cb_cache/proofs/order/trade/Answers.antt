use Rattle.std.proofs.Common.{◌<◌, arith, length}
use Rattle.std.proofs.lemmas.List.Sorted.{IsPermutation-swap}
use Rattle.cb_cache.proofs.order.trade.Goals as goal

pub returns-then-other-len-clause-items : goal.returns-then-other-len-clause-items
returns-then-other-len-clause-items g c =
    let low : c.args.other < length c.args.items.now.items = omega arith in
    IsPermutation-swap c.args.items.now.items c.swap.new.self.items c.args.place c.args.other (let a = c.if-place-other.true in omega arith) low c.swap.ensures.items
