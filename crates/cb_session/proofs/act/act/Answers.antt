use Rattle.cb_topo.specs.Numbered.{topology_of}
use Rattle.cb_session.proofs.Counting.{edit_counted}
use Rattle.cb_session.proofs.act.act.Goals as goal

pub returns-in_ok-changed-in-Change-clause-cost : goal.returns-in_ok-changed-in-Change-clause-cost
returns-in_ok-changed-in-Change-clause-cost g c =
    edit_counted (topology_of c.args.cache.now.graph) c.args.number c.args.next.now c.in-Change.edit c.args.steps.now c.change.new.steps c.in-Change.is
    c.in_ok-changed-in-Change.ensures.cost
