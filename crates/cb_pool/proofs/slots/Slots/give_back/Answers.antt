use Rattle.std.proofs.Common.{refl}
use Rattle.cb_pool.proofs.Taking.{given_back, out_within}
use Rattle.cb_pool.proofs.slots.Slots.give_back.Goals as goal

pub returns-clause-kept : goal.returns-clause-kept
returns-clause-kept c = given_back c.args.self.now _ c.args.slot c.requires.kept c.requires.taken (out_within c.args.self.now.taken.items c.args.slot.0 c.requires.taken)
    refl c.push_reserved.ensures.items c.push_reserved.ensures.capacity refl refl
