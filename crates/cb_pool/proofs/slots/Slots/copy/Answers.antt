use Rattle.std.proofs.Common.{◌∙◌}
use Rattle.cb_pool.proofs.Taking.{more_capacity}
use Rattle.cb_pool.proofs.slots.Slots.copy.Goals as goal

pub returns-clause-kept : goal.returns-clause-kept
returns-clause-kept c =
    more_capacity c.args.self.now _ c.requires.kept (c.in_ok-taken.ensures.items ∙ c.deref.ensures.value) (c.in_ok-free.ensures.items ∙ c.deref-2.ensures.value) c.requires.more
    c.in_ok-taken.ensures.capacity c.in_ok-free.ensures.capacity c.requires.few
