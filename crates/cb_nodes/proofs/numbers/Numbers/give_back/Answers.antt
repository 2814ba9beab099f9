use Rattle.std.proofs.Common.{refl}
use Rattle.cb_nodes.proofs.Taking.{given_back}
use Rattle.cb_nodes.proofs.numbers.Numbers.give_back.Goals as goal

pub returns : goal.returns
returns c = given_back c.args.self.now _ c.args.id c.requires.kept c.requires.had refl c.push_reserved.ensures.items c.push_reserved.ensures.capacity
