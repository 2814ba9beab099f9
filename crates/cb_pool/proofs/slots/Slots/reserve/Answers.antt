use Rattle.std.proofs.Common.{refl, arith}
use Rattle.cb_pool.proofs.Taking.{more_capacity}
use Rattle.cb_pool.proofs.slots.Slots.reserve.Goals as goal

pub returns-in_err-reserve-clause-kept : goal.returns-in_err-reserve-clause-kept
returns-in_err-reserve-clause-kept c =
    more_capacity c.args.self.now _ c.requires.kept c.reserve.ensures.items refl (omega arith)
    (let e = c.reserve.ensures.capacity in let f = c.requires.kept.noted in omega arith) c.requires.kept.listed c.requires.kept.few

pub returns-in_err-reserve-2-clause-kept : goal.returns-in_err-reserve-2-clause-kept
returns-in_err-reserve-2-clause-kept c =
    more_capacity c.args.self.now _ c.requires.kept c.reserve.ensures.items c.reserve-2.ensures.items (omega arith)
    (let e = c.reserve.ensures.capacity in let f = c.requires.kept.noted in omega arith)
    (let e = c.reserve-2.ensures.capacity in let f = c.requires.kept.listed in omega arith) c.requires.kept.few

pub returns-clause-kept : goal.returns-clause-kept
returns-clause-kept c =
    more_capacity c.args.self.now _ c.requires.kept c.reserve.ensures.items c.reserve-2.ensures.items c.requires.more
    (let e = c.in_ok-reserve.ensures.ok in let f = c.in_ok-reserve.ensures.len in let n = c.len.ensures in omega arith)
    (let e = c.in_ok-reserve-2.ensures.ok in let f = c.in_ok-reserve-2.ensures.len in let n = c.len-2.ensures in omega arith) c.requires.few
