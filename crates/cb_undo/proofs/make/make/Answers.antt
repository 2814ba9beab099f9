use Rattle.cb_topo.specs.Numbered.{topology_of}
use Rattle.cb_undo.proofs.Making.{makes_one}
use Rattle.cb_undo.proofs.make.make.Goals as goal

pub returns-in-Ok-clause-made : goal.returns-in-Ok-clause-made
returns-in-Ok-clause-made g c =
    makes_one (topology_of (g.N.EditedTopology.numbered c.args.network.now)) (topology_of (g.N.EditedTopology.numbered c.apply.new.network)) c.args.edit.now c.args.steps.now c.apply.new.steps c.in-Ok.ensures.made.after c.in-Ok.ensures.cost
