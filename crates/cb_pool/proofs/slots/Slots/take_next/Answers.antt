use Rattle.std.proofs.Common.{refl}
use Rattle.cb_pool.proofs.Taking.{taken_next}
use Rattle.cb_pool.proofs.slots.Slots.take_next.Goals as goal

pub returns-clause-kept : goal.returns-clause-kept
returns-clause-kept c = taken_next c.args.self.now _ c.requires.kept c.push_reserved.ensures.items refl refl c.push_reserved.ensures.capacity c.requires.spare refl
