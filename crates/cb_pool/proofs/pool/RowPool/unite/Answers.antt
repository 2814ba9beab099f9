use Rattle.cb_pool.proofs.Views.{slot_fits}
use Rattle.cb_pool.proofs.pool.RowPool.unite.Goals as goal

pub unite_rows-requires-clause-into : goal.unite_rows-requires-clause-into
unite_rows-requires-clause-into c =
    rw c.deref_mut.ensures.value
    (slot_fits c.self.inside.width c.self.inside.words c.self.inside.slots c.args.self.now c.args.into c.self.invariant c.self.view_is c.requires.into)

pub unite_rows-requires-clause-from : goal.unite_rows-requires-clause-from
unite_rows-requires-clause-from c =
    rw c.deref_mut.ensures.value
    (slot_fits c.self.inside.width c.self.inside.words c.self.inside.slots c.args.self.now c.args.from c.self.invariant c.self.view_is c.requires.from)
