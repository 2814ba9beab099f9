use Rattle.std.proofs.Common.{length, ap, arith}
use Rattle.cb_pool.proofs.Views.{slot_fits}
use Rattle.cb_pool.proofs.pool.RowPool.row.Goals as goal

pub row_in-requires : goal.row_in-requires
row_in-requires c =
    let fits = slot_fits c.self.inside.width c.self.inside.words c.self.inside.slots c.args.self.now c.args.slot c.self.invariant c.self.view_is c.requires in
    let e = ap length c.deref.ensures.value in
    omega arith
