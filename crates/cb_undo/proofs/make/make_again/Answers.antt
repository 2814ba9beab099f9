use Rattle.cb_undo.proofs.Making.{makes_free}
use Rattle.cb_undo.proofs.make.make_again.Goals as goal

pub returns-clause-made : goal.returns-clause-made
returns-clause-made g c =
    let e = c.apply-made.ensures in
    makes_free (g.N.EditedTopology.numbered c.args.network.now) (g.N.EditedTopology.numbered c.apply-made.new.network) c.args.edit.now c.args.steps.now c.apply-made.new.steps c.apply-made.result c.requires.accepted
    c.requires.no_memory e.made e.fault e.cost
