use Rattle.cb_accept.proofs.Firsts.{delete_allowed}
use Rattle.cb_accept.proofs.create.may_delete.Goals as goal

pub returns-in-Some-clause-allowed : goal.returns-in-Some-clause-allowed
returns-in-Some-clause-allowed c =
    delete_allowed c.args.net.now.topology c.args.name.now (c.instance_named.ensures.whole.live c.in-Some.id c.args.name.now c.in-Some.ensures.found)
